use Rattle.std.specs.Prelude.{option_map}
use Rattle.std.proofs.Common.{◌∙◌, ap}
use Rattle.lsp_notes.specs.LateEdits.{is_since, late_view}
use Rattle.lsp_trail.proofs.History.{last_held}
use Rattle.lsp_notes.proofs.EditsByKind.{late_on}
use Rattle.lsp_notes.proofs.late_edits.late_since.Goals as goal

pub returns : goal.returns
returns c =
    late_on c.or.result
    ∙ ap (λ o. option_map late_view (option_map (λ r. r.now) o)) c.or.ensures
    ∙ last_held late_view (is_since c.args.uri.now c.args.setter) c.as_slices.result.0.now
    c.as_slices.result.1.now c.args.late.now.items c.last_in-2.result c.last_in.result
    c.last_in-2.ensures c.last_in.ensures c.as_slices.ensures.items
