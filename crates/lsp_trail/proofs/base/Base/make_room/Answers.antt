use Rattle.std.proofs.Common.{inr}
use Rattle.lsp_text.specs.Changes.{edits_of}
use Rattle.lsp_trail.proofs.RoomSteps.{drops_next}
use Rattle.lsp_trail.proofs.base.Base.make_room.Goals as goal

pub messages-preserved : goal.messages-preserved
messages-preserved c =
    inr (drops_next (edits_of c.args.changes.now) c.args.self.now c.messages.self
    c.drop_first.new.self c.messages.invariant c.in_default.ensures c.drop_first.ensures)
