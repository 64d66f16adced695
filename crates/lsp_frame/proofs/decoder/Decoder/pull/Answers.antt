use Rattle.std.proofs.Common.{◌≡◌, ◌≤◌, ◌+◌, ◌-◌, ◌∙◌, arith, ap, sym, take, true, length-take}
use Rattle.std.specs.Prelude.{is_some}
use Rattle.lsp_frame.specs.Decoder.{State}
use Rattle.lsp_frame.proofs.Pulls.{pulled, pulled_len, room_is, pulled_rest, pulled_shut, not_some, ahead_along, no_fault_stands}
use Rattle.lsp_frame.proofs.decoder.Decoder.pull.Goals as goal

pub returns-then-is_some-clause-ok : goal.returns-then-is_some-clause-ok
returns-then-is_some-clause-ok g c =
    let shut : is_some c.args.self.now.fault ≡ true = ap (λ (s : State). is_some s.fault) (sym c.self.view_is) ∙ sym c.is_some.ensures ∙ c.if-is_some.true in
    pulled_shut c.args.self.now (g.R.Source.told c.args.source.now) c.args.most shut

pub invariant_of-self-2 : goal.invariant_of-self-2
invariant_of-self-2 g c =
    let i = c.self.inside in
    let fits = c.in_ok-count.ensures.count.0 in
    let within : c.in_ok-count.count ≤ c.args.most = omega (arith, c.pull.auto.buffer, fits) in
    let none = not_some i.fault (sym c.is_some.ensures ∙ c.if-is_some.false) in
    let room : i.end - i.start + c.args.most ≤ c.make_room.new.buffer.len = omega (arith, c.in_ok-make_room.ensures.len, c.make_room.new.buffer.ok.0) in (
      omega arith,
      omega (arith, room, within),
      ahead_along i.limits _ _ _ i.ahead
          (pulled_rest i.buffer.items c.make_room.new.buffer.items c.deref_mut.result.now c.pull.new.buffer _ i.start i.end _ c.make_room.new.buffer.len c.args.most c.in_ok-count.count c.in_ok-make_room.ensures.front c.deref_mut.ensures.value room c.make_room.new.buffer.ok.0 fits within)
          c.self.invariant.2,
      no_fault_stands i.limits _ i.fault none,
    )

pub returns-clause-ok : goal.returns-clause-ok
returns-clause-ok g c =
    let i = c.self.inside in
    let fits = c.in_ok-count.ensures.count.0 in
    let within : c.in_ok-count.count ≤ c.args.most = omega (arith, c.pull.auto.buffer, fits) in
    let none = not_some i.fault (sym c.is_some.ensures ∙ c.if-is_some.false) in
    let room : i.end - i.start + c.args.most ≤ c.make_room.new.buffer.len = omega (arith, c.in_ok-make_room.ensures.len, c.make_room.new.buffer.ok.0) in
    let rest = pulled_rest i.buffer.items c.make_room.new.buffer.items c.deref_mut.result.now c.pull.new.buffer _ i.start i.end _ c.make_room.new.buffer.len c.args.most c.in_ok-count.count
    c.in_ok-make_room.ensures.front c.deref_mut.ensures.value room c.make_room.new.buffer.ok.0 fits within in
    let len = c.make_room.new.buffer.len in
    let grown = room_is i.limits i.buffer.items i.start i.end c.args.most len i.fault c.self.invariant.0 (omega (arith, c.self.invariant.1, i.buffer.ok.0)) (c.make_room.new.buffer.ok.0 ∙ c.in_ok-make_room.ensures.len) in
    let full = pulled_len c.make_room.new.buffer.items c.deref_mut.result.now c.pull.new.buffer _ (i.end - i.start) (i.end - i.start + c.args.most - (i.end - i.start)) len c.args.most
    c.deref_mut.ensures.value c.make_room.new.buffer.ok.0 room (omega arith) (omega (arith, c.pull.auto.buffer)) ∙ grown in
    pulled i.limits i.buffer.items _ i.start i.end c.in_ok-count.count (take c.in_ok-count.count c.pull.new.buffer) i.fault c.args.self.now _ _ c.args.most
    c.self.view_is none rest (omega (arith, length-take c.in_ok-count.count c.pull.new.buffer, fits)) within full c.in_ok-count.ensures.gave c.in_ok-count.ensures.failures
