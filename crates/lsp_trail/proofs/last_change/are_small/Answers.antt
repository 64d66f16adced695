use Rattle.std.proofs.Common.{◌∙◌}
use Rattle.lsp_text.specs.Changes.{edits_of}
use Rattle.lsp_trail.specs.SentEdits.{edits_size}
use Rattle.lsp_trail.proofs.Changing.{small_so}
use Rattle.lsp_trail.proofs.last_change.are_small.Goals as goal

pub returns : goal.returns
returns c =
    c.is_some.ensures
    ∙ small_so (edits_size (edits_of c.args.changes.now)) c.room_after.result c.room_after.ensures
