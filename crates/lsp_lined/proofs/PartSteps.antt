-- One part more, in loops over parts.
use Rattle.std.proofs.Common.{◌≡◌, ◌⊎◌, ◌<◌, ◌≤◌, ◌+◌, ◌-◌, ℕ, false, List, [], ◌∷◌, ◌++◌, length, map, take, drop, get_or, zero, suc, refl, sym, ap, subst, ◌∙◌, inl, inr, ⊎_elim, arith, length-append}
use Rattle.std.specs.List.{sum_by}
use Rattle.std.proofs.lemmas.List.{append-nil, take-append-drop, take_more, length-map, drop_all}
use Rattle.std.proofs.lemmas.List.Sums.{sum_by-cons, sum_by-append}
use Rattle.std.proofs.lemmas.Bool.{cases_lt}
use Rattle.std.specs.Str.{IsUtf8}
use Rattle.std.proofs.lemmas.Str.{chars-nil}
use Rattle.lsp_types.specs.declared.position.Encoding.TheVariants.{Utf8, Utf16}
use Rattle.lsp_text.specs.Places.{units}
use Rattle.lsp_lined.specs.Ends.{joins}
use Rattle.lsp_lined.specs.Sums.{sums_of, amount_in, amount, added, AreAtMost}
use Rattle.lsp_lined.specs.Parts.{joined, AreParts, part_at, IsFound, IsFoundBefore}
use Rattle.lsp_lined.specs.declared.sums.Sums.{Sums}
use Rattle.lsp_lined.specs.declared.sums.Measure.{Measure}
use Rattle.lsp_lined.specs.declared.sums.Measure.TheVariants.{Units}
use Rattle.lsp_lined.specs.declared.part.Found.{Found}
use Rattle.lsp_lined.proofs.EndCounts.{sums_at_most}
use Rattle.lsp_lined.proofs.Parts.{joined-append, joined-more, joined-at, joins-front, IsUtf8-joined, AreApart-from_parts, has_part, sums_of-append}

-- a part, among the texts of all
pub part_text : {X : Type 0} (f : X → List ℕ) (xs : List X) (i : ℕ) (x : X) → i < length xs → x ≡ get_or xs i x → f x ≡ part_at (map f xs) i
part_text f [] i x lt is = absurd (omega arith)
part_text f (y ∷ ys) zero x lt is = ap f is
part_text f (y ∷ ys) (suc i) x lt is = part_text f ys i x (omega arith) is

pub below_map : {X : Type 0} (f : X → List ℕ) (xs : List X) (i : ℕ) → i < length xs → i < length (map f xs)
below_map f xs i lt = omega (arith, length-map xs f)

pub parts_take : (ps : List (List ℕ)) (i : ℕ) → AreParts ps → AreParts (take i ps)
parts_take ps i h = (AreApart-from_parts (take i ps) (drop i ps) (subst AreParts (sym (take-append-drop i ps)) h)).first

pub joined_take_le : (ps : List (List ℕ)) (i : ℕ) → length (joined (take i ps)) ≤ length (joined ps)
joined_take_le ps i =
    omega (
      arith,
      ap (λ (xs : List (List ℕ)). length (joined xs)) (take-append-drop i ps),
      ap length (joined-append (take i ps) (drop i ps)),
      length-append (joined (take i ps)) (joined (drop i ps)),
    )

-- ---- finding

pub bytes-joined : (ps : List (List ℕ)) → sum_by (amount (Units Utf8)) ps ≡ length (joined ps)
bytes-joined [] = refl
bytes-joined (p ∷ ps) = sum_by-cons (amount (Units Utf8)) p ps ∙ ap (λ n. length p + n) (bytes-joined ps) ∙ sym (length-append p (joined ps))

pub record IsNext (ps : List (List ℕ)) (by : Measure) (index bytes left at n more : ℕ) : Type 0 where
  pub bytes_are : bytes + more ≡ length (joined (take (index + 1) ps))
  pub left_is : sum_by (amount by) (take (index + 1) ps) + (left - n) ≡ at
  pub fits : bytes + more ≤ length (joined ps)

-- a part is gone past
next_part : (ps : List (List ℕ)) (by : Measure) (index bytes left at n more : ℕ) → index < length ps → more ≡ length (part_at ps index) → n ≡ amount by (part_at ps index) → n ≤ left →
    bytes ≡ length (joined (take index ps)) → sum_by (amount by) (take index ps) + left ≡ at → IsNext ps by index bytes left at n more
next_part ps by index bytes left at n more lt more_is n_is le bytes_are left_is =
    let p = part_at ps index in
    let len : bytes + more ≡ length (joined (take (index + 1) ps)) =
    omega (arith, ap length (joined-more ps index lt), length-append (joined (take index ps)) p) in
    let sum : sum_by (amount by) (take (index + 1) ps) ≡ sum_by (amount by) (take index ps) + n =
    ap (sum_by (amount by)) (take_more ps index [] lt) ∙ sum_by-append (amount by) (take index ps) (p ∷ []) ∙
    omega (arith, sum_by-cons (amount by) p []) in
    record { bytes_are = len; left_is = omega arith; fits = omega (arith, joined_take_le ps (index + 1)) }

pub found_next : {X : Type 0} (f : X → List ℕ) (xs : List X) (by : Measure) (index bytes left at m n : ℕ) (x : X) (s : Sums) → index + 1 < length xs → x ≡ get_or xs index x → s ≡ sums_of (f x) →
    m ≡ amount_in by s → n ≡ amount_in by s → m ≤ left → bytes ≡ length (joined (take index (map f xs))) → sum_by (amount by) (take index (map f xs)) + left ≡ at →
    IsNext (map f xs) by index bytes left at n s.bytes
found_next f xs by index bytes left at m n x s lt is sums mi ni le bytes_are left_is =
    let below : index < length xs = omega arith in
    let text = part_text f xs index x below is in
    let counted : s ≡ sums_of (part_at (map f xs) index) = sums ∙ ap sums_of text in
    let less : n ≤ left = omega arith in
    next_part (map f xs) by index bytes left at n s.bytes (below_map f xs index below) (ap (λ (t : Sums). t.bytes) counted) (ni ∙ ap (amount_in by) counted) less bytes_are left_is

-- the last part has the rest
last_part : (ps : List (List ℕ)) (i : ℕ) → i < length ps → length ps ≤ i + 1 → joined ps ≡ joined (take i ps) ++ part_at ps i
last_part ps i lt le =
    joined-at ps i lt ∙ ap (λ (x : List ℕ). joined (take i ps) ++ x) (ap (λ (xs : List (List ℕ)). part_at ps i ++ joined xs) (drop_all (i + 1) ps le) ∙ append-nil (part_at ps i))

-- a place in the part that it is found in
pub found_within : (ps : List (List ℕ)) (at : ℕ) (f : Found) → IsFound ps (Units Utf8) at f → at ≤ length (joined ps) → (f.bytes + f.left ≡ at) × (f.left ≤ length (part_at ps f.index))
found_within ps at f h le =
    let sum : f.bytes + f.left ≡ at = omega (arith, bytes-joined (take f.index ps), h.bytes_are, h.left_is) in (
      sum,
      ⊎_elim
          (λ (lt : f.index + 1 < length ps). let inside = h.inside lt in omega arith)
          (λ (ge : length ps ≤ f.index + 1).
          omega (arith, h.bytes_are, ap length (last_part ps f.index h.index ge), length-append (joined (take f.index ps)) (part_at ps f.index)))
          (cases_lt (f.index + 1) (length ps)),
    )

none_long : (xs : List ℕ) → length xs ≡ 0 → xs ≡ []
none_long [] e = refl
none_long (x ∷ xs) e = absurd (omega arith)

pub found_before : (ps : List (List ℕ)) (place before : ℕ) (f g : Found) → before ≡ place - 1 → place ≤ length (joined ps) → IsFound ps (Units Utf8) before f →
    g ≡ record { index = f.index; bytes = f.bytes; left = f.left + (place - before) } → IsFoundBefore ps place g
found_before ps place before f g is le h e =
    let w = found_within ps before f h (omega arith) in
    let sum = w.0 in
    let within = w.1 in
    let front : (0 < f.left + (place - before)) ⊎ (joined (take f.index ps) ≡ []) =
    ⊎_elim (λ (lt : 0 < place). inl (omega arith))
    (λ (ge : place ≤ 0). inr (none_long (joined (take f.index ps)) (omega (arith, h.bytes_are))))
    (cases_lt 0 place) in
    let tight : f.left + (place - before) ≤ length (part_at ps f.index) =
    ⊎_elim
    (λ (lt : f.index + 1 < length ps). let inside = h.inside lt in omega arith)
    (λ (ge : length ps ≤ f.index + 1). omega (arith, h.bytes_are, ap length (last_part ps f.index h.index ge), length-append (joined (take f.index ps)) (part_at ps f.index)))
    (cases_lt (f.index + 1) (length ps)) in
    let made : IsFoundBefore ps place (record { index = f.index; bytes = f.bytes; left = f.left + (place - before) }) =
    record { index = h.index; bytes_are = h.bytes_are; place_is = omega arith; within = tight; front = front } in
    subst (λ (x : Found). IsFoundBefore ps place x) (sym e) made

-- ---- sums

pub sums_of-nil : record { ends = 0; bytes = 0; chars = 0; utf16 = 0 } ≡ sums_of []
sums_of-nil = sym (ap (λ (cs : List ℕ). let s : Sums = record { ends = 0; bytes = 0; chars = length cs; utf16 = units Utf16 cs } in s) chars-nil)

-- sums of some text are none over its bytes
pub counted_at_most : (s : Sums) (bs : List ℕ) → IsUtf8 bs → s ≡ sums_of bs → AreAtMost s s.bytes
counted_at_most s bs u is = subst (λ (x : Sums). AreAtMost x x.bytes) (sym is) (sums_at_most bs u)

pub sums_before_at_most : (ps : List (List ℕ)) (i : ℕ) (s : Sums) → AreParts ps → s ≡ sums_of (joined (take i ps)) → AreAtMost s s.bytes
sums_before_at_most ps i s h is = counted_at_most s (joined (take i ps)) (IsUtf8-joined (take i ps) (parts_take ps i h)) is

pub record AreSummed (ps : List (List ℕ)) (i : ℕ) (s t : Sums) : Type 0 where
  pub sums : added s t ≡ sums_of (joined (take (i + 1) ps))
  pub fits : s.bytes + t.bytes ≤ length (joined ps)

pub sums_next : {X : Type 0} (f : X → List ℕ) (xs : List X) (i : ℕ) (x : X) (s t : Sums) → AreParts (map f xs) → i < length xs → x ≡ get_or xs i x → s ≡ sums_of (joined (take i (map f xs))) → t ≡ sums_of (f x) →
    AreSummed (map f xs) i s t
sums_next f xs i x s t h lt is sums counted =
    let ps = map f xs in
    let p = part_at ps i in
    let below = below_map f xs i lt in
    let here = has_part ps i h below in
    let text : f x ≡ p = part_text f xs i x lt is in
    let more = joined-more ps i below in
    let apart : joins (joined (take i ps)) p ≡ false = joins-front (joined (take i ps)) p (joined (drop (i + 1) ps)) here.front_apart in
    let both : added (sums_of (joined (take i ps))) (sums_of p) ≡ sums_of (joined (take (i + 1) ps)) =
    sym (ap sums_of more ∙ sums_of-append (joined (take i ps)) p (IsUtf8-joined (take i ps) here.before) apart) in
    let t_is : t ≡ sums_of p = counted ∙ ap sums_of text in
    record {
      sums = ap (λ (a : Sums). added a t) sums ∙ ap (added (sums_of (joined (take i ps)))) t_is ∙ both;
      fits =
          omega (
            arith,
            ap (λ (a : Sums). a.bytes) sums,
            ap (λ (a : Sums). a.bytes) t_is,
            ap length more,
            length-append (joined (take i ps)) p,
            joined_take_le ps (i + 1),
          );
    }
