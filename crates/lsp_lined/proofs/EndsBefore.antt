-- The line end before a place.
use Rattle.std.proofs.Common.{◌≡◌, ◌<◌, ◌≤◌, ◌+◌, ◌-◌, ◌&&◌, ℕ, Bool, true, false, not, List, [], ◌∷◌, length, take, drop, get_or, refl, sym, ap, ◌∙◌, ⊎_elim, arith, length-drop}
use Rattle.std.proofs.lemmas.List.{drop_more, get_or-drop}
use Rattle.std.proofs.lemmas.Bool.{false≢true, cases_lt, eqb-true, or_cases}
use Rattle.std.specs.Str.{IsUtf8}
use Rattle.std.proofs.lemmas.Str.{IsUtf8-drop, IsCharBoundary-before_ascii}
use Rattle.lsp_text.specs.Lines.{is_feed, is_return, starts_with_feed}
use Rattle.lsp_text.proofs.LineBytes.{end_is_feed, end_is_both, end_is_return}
use Rattle.lsp_lined.specs.Ends.{ends_in, joins, is_end_at, IsEndAt}
use Rattle.lsp_lined.proofs.CutPlaces.{feed_at, apart_from_other, apart_before_return}

take_one : (bs : List ℕ) (i : ℕ) → i < length bs → take 1 (drop i bs) ≡ get_or bs i 0 ∷ []
take_one bs i lt = ap (take 1) (drop_more bs i 0 lt)

take_two : (bs : List ℕ) (i : ℕ) → i + 1 < length bs → take 2 (drop i bs) ≡ get_or bs i 0 ∷ get_or bs (i + 1) 0 ∷ []
take_two bs i lt =
    ap (take 2) (drop_more bs i 0 (omega arith)) ∙ ap (λ (xs : List ℕ). take 2 (get_or bs i 0 ∷ xs)) (drop_more bs (i + 1) 0 lt)

at_drop : (bs : List ℕ) (i k n : ℕ) → i + k ≡ n → get_or (drop i bs) k 0 ≡ get_or bs n 0
at_drop bs i k n is = get_or-drop i bs k 0 ∙ ap (λ (x : ℕ). get_or bs x 0) is

pub end_both : (bs : List ℕ) (after : ℕ) → IsUtf8 bs → 2 ≤ after → after ≤ length bs → get_or bs (after - 1) 0 ≡ 10 → get_or bs (after - 2) 0 ≡ 13 → IsEndAt bs (after - 2) 2
end_both bs after u some within feed return =
    let i = after - 2 in
    let lt : i < length bs = omega arith in
    let next : i + 1 ≡ after - 1 = omega arith in
    let ascii : get_or bs i 0 < 128 = omega arith in
    let b = IsCharBoundary-before_ascii bs i lt ascii in
    record {
      boundary = b;
      some = omega arith;
      ended =
          end_is_both (drop i bs) (IsUtf8-drop bs i u b) (omega (arith, length-drop i bs)) (at_drop bs i 0 i (omega arith) ∙ return) (at_drop bs i 1 (after - 1) next ∙ feed);
      one = ap ends_in (take_two bs i (omega arith) ∙ ap (λ (x : ℕ). x ∷ get_or bs (i + 1) 0 ∷ []) return ∙ ap (λ (x : ℕ). 13 ∷ x ∷ []) (ap (λ (x : ℕ). get_or bs x 0) next ∙ feed));
      apart = apart_before_return bs i lt return;
    }

no_return_before : (bs : List ℕ) (after : ℕ) → 0 < after → after ≤ length bs → get_or bs (after - 1) 0 ≡ 10 → (2 ≤ after → get_or bs (after - 1) 0 ≡ 10 → get_or bs (after - 2) 0 ≡ 13 → ⊥) →
    joins (take (after - 1) bs) (drop (after - 1) bs) ≡ false
no_return_before bs after some within feed apart =
    ⊎_elim
    (λ (lt : 1 < after).
    let e : after - 1 - 1 ≡ after - 2 = omega arith in
    apart_from_other bs (after - 1) (omega arith) (omega arith) (λ is. apart (omega arith) feed (ap (λ (x : ℕ). get_or bs x 0) (sym e) ∙ is)))
    (λ (ge : after ≤ 1).
    let e : after - 1 ≡ 0 = omega arith in
    ap (λ (k : ℕ). joins (take k bs) (drop k bs)) e)
    (cases_lt 1 after)

feed_alone : (bs : List ℕ) (after : ℕ) → IsUtf8 bs → 0 < after → after ≤ length bs → get_or bs (after - 1) 0 ≡ 10 → joins (take (after - 1) bs) (drop (after - 1) bs) ≡ false → IsEndAt bs (after - 1) 1
feed_alone bs after u some within feed apart =
    let i = after - 1 in
    let lt : i < length bs = omega arith in
    let ascii : get_or bs i 0 < 128 = omega arith in
    let b = IsCharBoundary-before_ascii bs i lt ascii in
    record {
      boundary = b;
      some = omega arith;
      ended = end_is_feed (drop i bs) (IsUtf8-drop bs i u b) (omega (arith, length-drop i bs)) (at_drop bs i 0 i (omega arith) ∙ feed);
      one = ap ends_in (take_one bs i lt ∙ ap (λ (x : ℕ). x ∷ []) feed);
      apart = apart;
    }

return_alone : (bs : List ℕ) (after : ℕ) → IsUtf8 bs → 0 < after → after ≤ length bs → get_or bs (after - 1) 0 ≡ 13 → starts_with_feed (drop (after - 1 + 1) bs) ≡ false → IsEndAt bs (after - 1) 1
return_alone bs after u some within return apart =
    let i = after - 1 in
    let lt : i < length bs = omega arith in
    let ascii : get_or bs i 0 < 128 = omega arith in
    let b = IsCharBoundary-before_ascii bs i lt ascii in
    record {
      boundary = b;
      some = omega arith;
      ended =
          end_is_return (drop i bs) (IsUtf8-drop bs i u b) (omega (arith, length-drop i bs)) (at_drop bs i 0 i (omega arith) ∙ return)
          (λ two feed.
          let more : i + 1 < length bs = omega (arith, length-drop i bs) in
          let is : get_or bs (i + 1) 0 ≡ 10 = sym (at_drop bs i 1 (i + 1) refl) ∙ feed in
          false≢true (sym apart ∙ feed_at bs (i + 1) more ∙ ap is_feed is));
      one = ap ends_in (take_one bs i lt ∙ ap (λ (x : ℕ). x ∷ []) return);
      apart = apart_before_return bs i lt return;
    }

not_false : (v : Bool) → not v ≡ true → v ≡ false
not_false false h = refl
not_false true h = absurd (false≢true h)

pub both_hold : (v w : Bool) → (v && w) ≡ true → (v ≡ true) × (w ≡ true)
both_hold true w h = (refl, h)
both_hold false w h = absurd (false≢true h)

pub end_alone : (bs : List ℕ) (after : ℕ) → IsUtf8 bs → 0 < after → after ≤ length bs → is_end_at bs (after - 1) ≡ true → (2 ≤ after → get_or bs (after - 1) 0 ≡ 10 → get_or bs (after - 2) 0 ≡ 13 → ⊥) →
    IsEndAt bs (after - 1) 1
end_alone bs after u some within ended apart =
    let b = get_or bs (after - 1) 0 in
    let s = starts_with_feed (drop (after - 1 + 1) bs) in
    ⊎_elim
    (λ (f : is_feed b ≡ true). let feed : b ≡ 10 = eqb-true b 10 f in feed_alone bs after u some within feed (no_return_before bs after some within feed apart))
    (λ (r : (is_return b && not s) ≡ true). let p = both_hold (is_return b) (not s) r in return_alone bs after u some within (eqb-true b 13 p.0) (not_false s p.1))
    (or_cases (is_feed b) (is_return b && not s) ended)
