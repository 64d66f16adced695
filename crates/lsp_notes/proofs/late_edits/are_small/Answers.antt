use Rattle.std.proofs.Common.{◌∙◌}
use Rattle.lsp_trail.specs.Common.{edits_of, edits_size}
use Rattle.lsp_notes.proofs.EditedTexts.{small_edits}
use Rattle.lsp_notes.proofs.late_edits.are_small.Goals as goal

pub returns : goal.returns
returns c =
    c.is_some.ensures
    ∙ small_edits (edits_size (edits_of c.args.edits.now)) c.room_after.result c.room_after.ensures
