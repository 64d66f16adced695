use Rattle.std.proofs.Common.{◌∙◌}
use Rattle.lsp_types.specs.declared.position.Encoding.TheVariants.{Utf32}
use Rattle.lsp_notes.proofs.Lengths.{end_place}
use Rattle.lsp_notes.proofs.at_once.last_place.Goals as goal

pub returns : goal.returns
returns c = λ few.
    c.in_ok-place.ensures
    ∙ end_place Utf32 c.args.text.now.content (record { line = 4294967295; column = 0 }) few
