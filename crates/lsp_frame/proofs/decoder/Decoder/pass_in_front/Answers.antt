use Rattle.std.proofs.Common.{◌≤◌, ℕ, List, ap, arith, length, subst, sym}
use Rattle.std.proofs.lemmas.List.{length-take}
use Rattle.lsp_frame.specs.Buffer.{AheadStands, FaultStands}
use Rattle.lsp_frame.specs.Decoder.{State}
use Rattle.lsp_frame.specs.Pulling.{window_of}
use Rattle.lsp_frame.proofs.Passing.{emptied_in_place, passed, rest_same, settled}
use Rattle.lsp_frame.proofs.decoder.Decoder.pass_in_front.Goals as goal

pub invariant_of-self : goal.invariant_of-self
invariant_of-self g c =
    let i = c.self.inside in
    let left = c.go_past_over.new.buffer in
    let ensures = c.in-Ok.ensures in
    let rest = rest_same i.buffer.items left.items i.start i.end ensures.rest in (
      c.self.invariant.0,
      omega (arith, c.self.invariant.1, i.buffer.ok.0, left.ok.0, ensures.len),
      subst (λ (w : List ℕ). AheadStands i.limits w i.ahead) (sym rest) c.self.invariant.2,
      subst (λ (w : List ℕ). FaultStands i.limits w i.fault) (sym rest) c.self.invariant.3,
    )

pub invariant_of-self-in-Err : goal.invariant_of-self-in-Err
invariant_of-self-in-Err g c =
    let i = c.self.inside in
    let left = c.go_past_over.new.buffer in
    let ensures = c.in-Err.ensures in
    let rest = rest_same i.buffer.items left.items i.start i.end ensures.rest in (
      c.self.invariant.0,
      omega (arith, c.self.invariant.1, i.buffer.ok.0, left.ok.0, ensures.len),
      subst (λ (w : List ℕ). AheadStands i.limits w i.ahead) (sym rest) c.self.invariant.2,
      subst (λ (w : List ℕ). FaultStands i.limits w i.fault) (sym rest) c.self.invariant.3,
    )

pub returns-in-Ok : goal.returns-in-Ok
returns-in-Ok g c =
    let i = c.self.inside in
    let more = window_of c.args.missing in
    let kept = ap (λ (s : State). length s.kept) c.self.view_is in
    let room : more ≤ i.start = omega (arith, c.requires.room, kept, length-take i.start i.buffer.items) in
    let fits : i.end ≤ length i.buffer.items = omega (arith, c.self.invariant.1, i.buffer.ok.0) in
    let ensures = c.in-Ok.ensures in
    let past = ensures.past in
    record {
      n = c.in-Ok.past;
      past = past.0;
      fewer = omega (arith, c.if-past-missing.true);
      end = past.2 (omega (arith, c.if-past-missing.true));
      kept = settled i.limits i.buffer.items c.go_past_over.new.buffer.items i.start i.end more
          i.fault c.args.self.now c.settle.new.self c.self.view_is c.requires.misses.no_fault room
          c.self.invariant.0 fits ensures.rest ensures.len c.settle.ensures;
    }

pub returns-in-Ok-2 : goal.returns-in-Ok-2
returns-in-Ok-2 g c =
    let i = c.self.inside in
    let more = window_of c.args.missing in
    let kept = ap (λ (s : State). length s.kept) c.self.view_is in
    let room : more ≤ i.start = omega (arith, c.requires.room, kept, length-take i.start i.buffer.items) in
    let fits : i.end ≤ length i.buffer.items = omega (arith, c.self.invariant.1, i.buffer.ok.0) in
    let ensures = c.in-Ok.ensures in
    let past = ensures.past in
    passed _ _ _ _ c.args.missing _ c.requires.misses
    (omega (arith, c.if-past-missing.false, past.1)) past.0
    (emptied_in_place i.limits i.buffer.items c.go_past_over.new.buffer.items i.start i.end more
    i.fault c.args.self.now c.self.view_is c.requires.misses.no_fault room c.self.invariant.0 fits
    ensures.len)

pub returns-in-Err : goal.returns-in-Err
returns-in-Err g c =
    let i = c.self.inside in
    let more = window_of c.args.missing in
    let kept = ap (λ (s : State). length s.kept) c.self.view_is in
    let room : more ≤ i.start = omega (arith, c.requires.room, kept, length-take i.start i.buffer.items) in
    let fits : i.end ≤ length i.buffer.items = omega (arith, c.self.invariant.1, i.buffer.ok.0) in
    let ensures = c.in-Err.ensures in (
      ensures.past,
      settled i.limits i.buffer.items c.go_past_over.new.buffer.items i.start i.end more i.fault
          c.args.self.now c.settle-in-Err.new.self c.self.view_is c.requires.misses.no_fault room
          c.self.invariant.0 fits ensures.rest ensures.len c.settle-in-Err.ensures,
    )
