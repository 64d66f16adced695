use Rattle.std.proofs.Common.{◌+◌, ◌-◌, ◌≤◌, length, arith, ◌∙◌}
use Rattle.lsp_frame.specs.Pulling.{window_of}
use Rattle.lsp_frame.proofs.Passing.{passed, emptied}
use Rattle.lsp_frame.proofs.Pulls.{pulled_len, room_is}
use Rattle.lsp_frame.proofs.decoder.Decoder.pass_behind.Goals as goal

pub returns : goal.returns
returns g c =
    let i = c.self.inside in
    let len = c.make_room.new.buffer.len in
    let more = window_of c.args.missing in
    let room : i.end - i.start + more ≤ len = omega (arith, c.in_ok-make_room.ensures.len, c.make_room.new.buffer.ok.0, c.min.ensures) in
    let grown = room_is i.limits i.buffer.items i.start i.end more len i.fault c.self.invariant.0 (omega (arith, c.self.invariant.1, i.buffer.ok.0)) (omega (arith, c.make_room.new.buffer.ok.0, c.in_ok-make_room.ensures.len, c.min.ensures)) in
    let full = pulled_len c.make_room.new.buffer.items c.deref_mut.result.now c.go_past.new.window _ (i.end - i.start) (length c.deref_mut.result.now - (i.end - i.start)) len (len - (i.end - i.start))
    c.deref_mut.ensures.value c.make_room.new.buffer.ok.0 (omega (arith, room)) (omega (arith, c.deref_mut.ensures.len)) (omega (arith, c.go_past.auto.window, c.deref_mut.ensures.len)) ∙ grown in
    passed _ _ _ _ c.args.missing _ c.requires (omega (arith, c.if-branch-missing.false, c.in_ok-go_past.ensures.1)) c.in_ok-go_past.ensures.0
    (emptied i.limits i.buffer.items _ i.start i.end more i.fault c.args.self.now c.self.view_is c.requires.no_fault full)
