use Rattle.std.proofs.Common.{◌≡◌, ◌+◌, ◌++◌, ◌∙◌, ℕ, List, ap, arith, drop, get_or, length, sym}
use Rattle.std.proofs.lemmas.List.{drop_all, drop_more}
use Rattle.lsp_facts.specs.Grammar.{is_whole, move_in}
use Rattle.lsp_facts.specs.Whole.{end_from}
use Rattle.lsp_facts.proofs.TextEnds.{broken_at, ended_at, gone_on}
use Rattle.lsp_facts.proofs.json_text.walk_over.Goals as goal

pub loop-number-init : goal.loop-number-init
loop-number-init c = λ n more.
    let at : n ≡ n + 0 = omega arith in
    ap (λ (m : ℕ). end_from m c.args.from c.args.opened.now.items (c.args.bytes.now ++ more)) at

-- the next byte cannot stand there
pub returns-in_default-clause-ends : goal.returns-in_default-clause-ends
returns-in_default-clause-ends c = λ n more.
    let bytes = c.args.bytes.now in
    let k = c.loop-number.number in
    let place = c.loop-number.place in
    let byte = get_or bytes k 0 in
    c.loop-number.invariant n more
    ∙ broken_at n k place c.loop-number.opened.items byte bytes more
    (drop_more bytes k 0 c.loop-number-test.true)
    (ap (λ w. move_in place w byte) (sym c.as_slice.ensures.value) ∙ sym c.move_in.ensures
    ∙ c.in_default.is)

-- the text may end after it
pub returns-then-is_whole-clause-ends : goal.returns-then-is_whole-clause-ends
returns-then-is_whole-clause-ends c = λ n more.
    let bytes = c.args.bytes.now in
    let k = c.loop-number.number in
    let place = c.loop-number.place in
    let byte = get_or bytes k 0 in
    let opened = c.as_slice-in-loop-number.ensures.value ∙ c.in_ok-place.ensures.opened in
    c.loop-number.invariant n more
    ∙ ended_at n k place c.loop-number.opened.items byte bytes more
    (drop_more bytes k 0 c.loop-number-test.true) c.in-Some.by
    (ap (λ w. move_in place w byte) (sym c.as_slice.ensures.value) ∙ sym c.move_in.ensures
    ∙ c.in-Some.is)
    ((λ i. is_whole (sym c.in_ok-place.ensures.to i) (sym opened i)) ∙ sym c.is_whole.ensures
    ∙ c.if-is_whole.true)

-- it goes on
pub loop-number-preserved : goal.loop-number-preserved
loop-number-preserved c = λ n more.
    let bytes = c.args.bytes.now in
    let k = c.loop-number.number in
    let place = c.loop-number.place in
    let byte = get_or bytes k 0 in
    let opened = c.as_slice-in-loop-number.ensures.value ∙ c.in_ok-place.ensures.opened in
    c.loop-number.invariant n more
    ∙ gone_on n k place c.loop-number.opened.items byte bytes more
    (drop_more bytes k 0 c.loop-number-test.true) c.in-Some.by
    (ap (λ w. move_in place w byte) (sym c.as_slice.ensures.value) ∙ sym c.move_in.ensures
    ∙ c.in-Some.is)
    ((λ i. is_whole (sym c.in_ok-place.ensures.to i) (sym opened i)) ∙ sym c.is_whole.ensures
    ∙ c.if-is_whole.false)
    ∙ (λ i. end_from (n + (k + 1)) (sym c.in_ok-place.ensures.to i)
    (sym c.in_ok-place.ensures.opened i) (drop (k + 1) bytes ++ more))

pub returns-clause-ends : goal.returns-clause-ends
returns-clause-ends c = λ n more.
    let bytes = c.args.bytes.now in
    let k = c.loop-number.number in
    let place = c.loop-number.place in
    let opened = c.loop-number.opened.items in
    let at : k ≡ length bytes = omega arith in
    c.loop-number.invariant n more
    ∙ ap (λ (w : List ℕ). end_from (n + k) place opened (w ++ more))
    (drop_all k bytes (omega arith))
    ∙ ap (λ (m : ℕ). end_from (n + m) place opened more) at
