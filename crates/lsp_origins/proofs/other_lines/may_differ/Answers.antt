use Rattle.std.specs.Prelude.{◌||◌}
use Rattle.std.specs.List.{list_any}
use Rattle.std.specs.Str.{chars}
use Rattle.std.proofs.Common.{◌∙◌, ap, sym}
use Rattle.lsp_origins.specs.Fits.{suspects_view}
use Rattle.lsp_origins.specs.OtherLines.{inserts_other}
use Rattle.lsp_origins.proofs.OtherLineSteps.{any_inserts}
use Rattle.lsp_origins.proofs.other_lines.may_differ.Goals as goal

pub returns : goal.returns
returns c =
    let inserts = list_any (inserts_other c.args.by) (suspects_view c.args.suspects.now) in
    c.any_inserts_other.ensures ∙ any_inserts c.args.by c.args.suspects.now
    ∙ ap (λ b. b || inserts) (sym c.if-has_other.false ∙ c.has_other.ensures)
