use Rattle.std.proofs.Common.{refl, w32}
use Rattle.std.proofs.lemmas.Int.{to_z-of_z}
use Rattle.lsp_text.specs.Changes.{edits_of}
use Rattle.lsp_trail.specs.SentEdits.{sent_edits}
use Rattle.lsp_trail.proofs.RoomSteps.{adds_room, pushed_view}
use Rattle.lsp_trail.proofs.base.Base.add.Goals as goal

pub returns : goal.returns
returns c =
    let edits = edits_of c.args.changes.now in
    adds_room (sent_edits c.args.version edits) edits c.in-Some.room c.args.self.now
    c.make_room.new.self _ refl c.in-Some.ensures (record {
      since = refl;
      text = refl;
      sent = pushed_view c.make_room.new.self.sent.items c.push.new.self.items _ c.args.version
          edits c.in_ok-push.ensures.items (to_z-of_z w32 c.args.version c.ranges.version)
          c.in_ok-write_over.ensures;
    })
