use Rattle.std.proofs.Common.{◌≡◌, ◌∷◌, ◌++◌, ℕ, ◌+◌, List, [], length, drop, ap, ◌∙◌, arith, Some, ◌-◌}
use Rattle.std.proofs.lemmas.Iterator.{YieldsList-from_chars}
use Rattle.std.proofs.lemmas.List.{length_push, drop_all}
use Rattle.std.proofs.lemmas.Iterator.Consumers.{YieldsList-turn, YieldsList-end}
use Rattle.std.specs.Option.{option_map}
use Rattle.std.specs.Str.{chars}
use Rattle.lsp_text.specs.Places.{place_in_line}
use Rattle.lsp_text.proofs.Counting.{is_offset, encodes-take_more, length-take_le, place_zero, place_inside, place_past}
use Rattle.lsp_text.proofs.columns.offset_by_chars.Goals as goal

pub overflow_add-offset : goal.overflow_add-offset
overflow_add-offset c =
    let t = YieldsList-turn (YieldsList-from_chars c.args.text.now c.utf8.text cc) c.loop-c.yielded _ c.loop-c.yielded_by _ _ c.in-Some.c c.in-Some.is c.next.ensures.steps in
    let e = encodes-take_more (chars c.args.text.now) (length c.loop-c.yielded) c.in-Some.c t in
    let most = length-take_le c.args.text.now (length c.loop-c.yielded + 1) c.utf8.text in
    record { fits = omega arith }

pub returns-then-left-eq0 : goal.returns-then-left-eq0
returns-then-left-eq0 c =
    let t = YieldsList-turn (YieldsList-from_chars c.args.text.now c.utf8.text cc) c.loop-c.yielded _ c.loop-c.yielded_by _ _ c.in-Some.c c.in-Some.is c.next.ensures.steps in
    let n = length c.loop-c.yielded in
    is_offset c.args.encoding c.args.text.now c.args.column n c.loop-c.offset c.utf8.text (omega (arith, t.0)) c.loop-c.invariant.offset
    (c.loop-c.invariant.place ∙ ap (option_map (λ (k : ℕ). n + k)) (place_zero c.args.encoding (chars c.args.text.now) n c.in-Some.c c.loop-c.left t c.if-left-eq0.true) ∙ ap Some (omega arith))

pub returns-then-left-width : goal.returns-then-left-width
returns-then-left-width c =
    let t = YieldsList-turn (YieldsList-from_chars c.args.text.now c.utf8.text cc) c.loop-c.yielded _ c.loop-c.yielded_by _ _ c.in-Some.c c.in-Some.is c.next.ensures.steps in
    let n = length c.loop-c.yielded in
    c.loop-c.invariant.place
    ∙ ap (option_map (λ (k : ℕ). n + k))
    (place_inside c.args.encoding (chars c.args.text.now) n c.in-Some.c c.loop-c.left t (omega arith) (omega arith))

pub loop-c-preserved : goal.loop-c-preserved
loop-c-preserved c =
    let t = YieldsList-turn (YieldsList-from_chars c.args.text.now c.utf8.text cc) c.loop-c.yielded _ c.loop-c.yielded_by _ _ c.in-Some.c c.in-Some.is c.next.ensures.steps in
    let n = length c.loop-c.yielded in
    let more = length_push c.loop-c.yielded c.in-Some.c in
    record {
      place =
          c.loop-c.invariant.place
          ∙ place_past c.args.encoding (chars c.args.text.now) n c.in-Some.c c.loop-c.left (length (c.loop-c.yielded ++ c.in-Some.c ∷ [])) (c.loop-c.left - c.units_of-width.result) t more (omega arith) (omega arith) (ap (λ x. c.loop-c.left - x) c.units_of-width.ensures);
      offset = rw more (omega (arith, encodes-take_more (chars c.args.text.now) n c.in-Some.c t));
    }

pub returns : goal.returns
returns c =
    let t = YieldsList-end (YieldsList-from_chars c.args.text.now c.utf8.text cc) c.loop-c.yielded _ c.loop-c.yielded_by _ _ c.in-None.is c.next.ensures.steps in
    let n = length c.loop-c.yielded in
    let rest : drop n (chars c.args.text.now) ≡ [] = drop_all n (chars c.args.text.now) (omega (arith, t.1)) in
    is_offset c.args.encoding c.args.text.now c.args.column n c.loop-c.offset c.utf8.text (omega (arith, t.1)) c.loop-c.invariant.offset
    (c.loop-c.invariant.place ∙ ap (λ (x : List ℕ). option_map (λ (k : ℕ). n + k) (place_in_line c.args.encoding x c.loop-c.left)) rest ∙ ap Some (omega arith))
