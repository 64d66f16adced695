-- The places after line ends, by marks on the bytes that may end a line.
use Rattle.std.proofs.Common.{◌≡◌, ◌≢◌, ◌↔◌, ◌<◌, ◌≤◌, ◌+◌, ◌-◌, ◌&&◌, ◌||◌, ℕ, zero, suc, Bool}
use Rattle.std.proofs.Common.{true, false, cond, eqb, List, [], ◌∷◌, ◌++◌, length, take, drop, map}
use Rattle.std.proofs.Common.{get_or, max, bit_or, refl, sym, ap, ◌∙◌, ⊎_elim, arith}
use Rattle.std.proofs.lemmas.List.{drop_more, get_or_past}
use Rattle.std.proofs.lemmas.Bool.{true≢false, false≢true, cond-false, cases_lt, cases_eq}
use Rattle.std.proofs.lemmas.Simd.{get_or-chunk, length-chunk, bit_mask_l}
use Rattle.std.proofs.lemmas.Nat.Bits.{bit_at_or, bit_at-zero}
use Rattle.std.specs.Int.{bit_at}
use Rattle.std.specs.Simd.Lanes.{mask_l}
use Rattle.lsp_text.specs.Lines.{is_feed, is_return}
use Rattle.lsp_lined.specs.Ends.{is_end_at, is_mark, places_behind, IsMarked, ArePlacesTo}

-- ---- one byte

places_at : (bs : List ℕ) (i : ℕ) → i < length bs →
    places_behind i (drop i bs) ≡ cond (is_end_at bs i) ((i + 1) ∷ places_behind (i + 1) (drop (i + 1) bs)) (places_behind (i + 1) (drop (i + 1) bs))
places_at bs i lt = ap (places_behind i) (drop_more bs i 0 lt)

pub not_pushed : (bs places : List ℕ) (i : ℕ) → i < length bs → is_end_at bs i ≡ false → ArePlacesTo bs i places (i + 1) places
not_pushed bs places i lt is = ap (λ (xs : List ℕ). places ++ xs) (sym (places_at bs i lt ∙ cond-false _ _ _ is))

-- ---- bytes without a mark

no_end : (f r s : Bool) → (f || r) ≡ false → (f || (r && s)) ≡ false
no_end false false s h = refl
no_end _ _ s h = absurd (true≢false h)

-- they bring no place
pub passed : (bs places : List ℕ) (i n : ℕ) → i + n ≤ length bs → ((k : ℕ) → i ≤ k → k < i + n → is_mark (get_or bs k 0) ≡ false) →
    ArePlacesTo bs i places (i + n) places
passed bs places i zero within none =
    let e : i + 0 ≡ i = omega arith in
    ap (λ (k : ℕ). places ++ places_behind k (drop k bs)) e
passed bs places i (suc n) within none =
    let lt : i < length bs = omega arith in
    let next : i + suc n ≡ i + 1 + n = omega arith in
    let here : is_end_at bs i ≡ false = no_end (is_feed (get_or bs i 0)) (is_return (get_or bs i 0)) _ (none i (omega arith) (omega arith)) in
    ap (λ (k : ℕ). places ++ places_behind k (drop k bs)) next
    ∙ passed bs places (i + 1) n (omega arith) (λ k low high. none k (omega arith) (omega arith))
    ∙ not_pushed bs places i lt here

-- ---- marks

false_unless : (b : Bool) → (b ≡ true → ⊥) → b ≡ false
false_unless true h = absurd (h refl)
false_unless false h = refl

-- of the 64 bytes from `at` on, the marks of those from `from` on are left
pub record AreLeft (bs : List ℕ) (at from left : ℕ) : Type 0 where
  pub low : at ≤ from
  pub high : from ≤ at + 64
  pub marked : (k : ℕ) → from ≤ at + k → k < 64 → is_mark (get_or bs (at + k) 0) ≡ true → bit_at left k ≡ 1
  pub within : (k : ℕ) → bit_at left k ≡ 1 → (from ≤ at + k) × (k < 64)

-- no byte before the first mark may end a line
none_before : (bs : List ℕ) (at from left k : ℕ) → AreLeft bs at from left → k ≤ 64 → ((j : ℕ) → j < k → bit_at left j ≡ 0) →
    (p : ℕ) → from ≤ p → p < at + k → is_mark (get_or bs p 0) ≡ false
none_before bs at from left k h le zeros p low lt =
    let start = h.low in
    let same : at + (p - at) ≡ p = omega arith in
    false_unless (is_mark (get_or bs p 0))
    (λ t.
    let one = h.marked (p - at) (omega arith) (omega arith) (ap (λ (x : ℕ). is_mark (get_or bs x 0)) same ∙ t) in
    let none = zeros (p - at) (omega arith) in
    absurd (omega arith))

pub up_to_mark : (bs places : List ℕ) (at from left k : ℕ) → AreLeft bs at from left → at + 64 ≤ length bs → k ≤ 64 → from ≤ at + k →
    ((j : ℕ) → j < k → bit_at left j ≡ 0) → ArePlacesTo bs from places (at + k) places
up_to_mark bs places at from left k h room le low zeros =
    let n = at + k - from in
    let same : at + k ≡ from + n = omega arith in
    ap (λ (x : ℕ). places ++ places_behind x (drop x bs)) same
    ∙ passed bs places from n (omega arith) (λ p a b. none_before bs at from left k h le zeros p a (omega arith))

-- the marks after the first
pub next_left : (bs : List ℕ) (at from left k less : ℕ) → AreLeft bs at from left → bit_at left k ≡ 1 → ((j : ℕ) → j < k → bit_at left j ≡ 0) →
    bit_at less k ≡ 0 → ((j : ℕ) → j < 64 → j ≢ k → bit_at less j ≡ bit_at left j) → ((j : ℕ) → bit_at less j ≡ 1 → bit_at left j ≡ 1) →
    AreLeft bs at (at + k + 1) less
next_left bs at from left k less h set zeros cleared kept no_more =
    let w = h.within k set in
    let low = w.0 in
    let high = w.1 in
    record {
      low = omega arith;
      high = omega arith;
      marked = λ j more lt mark. kept j (omega arith) (λ e. absurd (omega arith)) ∙ h.marked j (omega arith) lt mark;
      within = λ j one.
          let was = no_more j one in (
            ⊎_elim (λ (before : j < k). let none = zeros j before in absurd (omega arith))
                (λ (not_before : k ≤ j).
                ⊎_elim (λ (e : j ≡ k). let none : bit_at less j ≡ 0 = ap (bit_at less) e ∙ cleared in absurd (omega arith)) (λ (ne : j ≢ k). omega arith) (cases_eq j k))
                (cases_lt j k),
            (h.within j was).1,
          );
    }

-- all of them
pub all_left : (bs : List ℕ) (at marks : ℕ) → at + 64 ≤ length bs → IsMarked (take 64 (drop at bs)) marks → AreLeft bs at at marks
all_left bs at marks room are =
    record {
      low = omega arith;
      high = omega arith;
      marked = λ k low lt mark. (are k).1 (ap is_mark (get_or-chunk at 64 bs k 0 lt) ∙ mark);
      within = λ k one. (omega arith, inside (take 64 (drop at bs)) k (length-chunk at 64 bs room) ((are k).0 one));
    }
  where
    inside : (block : List ℕ) (k : ℕ) → length block ≡ 64 → is_mark (get_or block k 0) ≡ true → k < 64
    inside block k len mark =
        ⊎_elim (λ (lt : k < 64). lt)
        (λ (ge : 64 ≤ k). absurd (false≢true (sym (ap is_mark (get_or_past block k 0 (omega arith))) ∙ mark)))
        (cases_lt k 64)

-- **The places up to the end of the 64 bytes are there, where no mark is left.**
pub none_left : (bs old places : List ℕ) (at from left : ℕ) → AreLeft bs at from left → at + 64 ≤ length bs → left ≡ 0 →
    ArePlacesTo bs at old from places → ArePlacesTo bs at old (at + 64) places
none_left bs old places at from left h room is so_far =
    up_to_mark bs places at from left 64 h room (omega arith) h.high (λ j lt. ap (λ (m : ℕ). bit_at m j) is ∙ bit_at-zero j) ∙ so_far

-- ---- the marks of a block

one_if : (b : Bool) → (cond {A = ℕ} b 1 0 ≡ 1) ↔ (b ≡ true)
one_if true = (λ h. refl, λ h. refl)
one_if false = (λ h. absurd (omega arith), λ h. absurd (false≢true h))

either : (f r : Bool) → max (cond f 1 0) (cond r 1 0) ≡ cond (f || r) 1 0
either true true = refl
either true false = refl
either false true = refl
either false false = refl

test_at : (p : ℕ → Bool) (bs : List ℕ) (k : ℕ) → p 0 ≡ false → get_or (map p bs) k false ≡ p (get_or bs k 0)
test_at p [] k none = sym none
test_at p (b ∷ bs) zero none = refl
test_at p (b ∷ bs) (suc k) none = test_at p bs k none

marks_at : (bs : List ℕ) (k : ℕ) → bit_at (bit_or (mask_l (map (λ x. eqb x 10) bs)) (mask_l (map (λ x. eqb x 13) bs))) k ≡ cond (is_mark (get_or bs k 0)) 1 0
marks_at bs k =
    let feeds = bit_mask_l (map (λ x. eqb x 10) bs) k ∙ ap (λ (b : Bool). cond b 1 0) (test_at (λ x. eqb x 10) bs k refl) in
    let returns = bit_mask_l (map (λ x. eqb x 13) bs) k ∙ ap (λ (b : Bool). cond b 1 0) (test_at (λ x. eqb x 13) bs k refl) in
    bit_at_or (mask_l (map (λ x. eqb x 10) bs)) (mask_l (map (λ x. eqb x 13) bs)) k
    ∙ ap (λ (n : ℕ). max n (bit_at (mask_l (map (λ x. eqb x 13) bs)) k)) feeds
    ∙ ap (λ (n : ℕ). max (cond (eqb (get_or bs k 0) 10) 1 0) n) returns
    ∙ either (eqb (get_or bs k 0) 10) (eqb (get_or bs k 0) 13)

pub marked_by : (bs : List ℕ) (feeds returns : ℕ) → feeds ≡ mask_l (map (λ x. eqb x 10) bs) → returns ≡ mask_l (map (λ x. eqb x 13) bs) → IsMarked bs (bit_or feeds returns)
marked_by bs feeds returns f r k =
    let e : bit_at (bit_or feeds returns) k ≡ cond (is_mark (get_or bs k 0)) 1 0 =
    ap (λ (m : ℕ). bit_at (bit_or m returns) k) f ∙ ap (λ (m : ℕ). bit_at (bit_or (mask_l (map (λ x. eqb x 10) bs)) m) k) r ∙ marks_at bs k in
    let t = one_if (is_mark (get_or bs k 0)) in
    (λ h. t.0 (sym e ∙ h), λ h. e ∙ t.1 h)
