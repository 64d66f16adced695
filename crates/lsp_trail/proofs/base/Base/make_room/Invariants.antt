use Rattle.std.proofs.Common.{length}
use Rattle.lsp_text.specs.Changes.{edits_of}
use Rattle.lsp_trail.proofs.RoomSteps.{IsMaking}
use Rattle.lsp_trail.proofs.base.Base.make_room.Given as goal

abbrev pub invariant-messages : goal.invariant-messages
invariant-messages l = IsMaking (edits_of l.changes) l.fn.self l.self

abbrev pub decreases-messages : goal.decreases-messages
decreases-messages l = length l.self.sent.items
