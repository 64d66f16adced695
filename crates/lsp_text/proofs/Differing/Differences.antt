-- The place at which two texts first differ: there is one or they are equal, and it is found in
-- their bytes.
use Rattle.std.proofs.Common.{◌≡◌, ◌⊎◌, ◌<◌, ◌≤◌, ◌+◌, ℕ, zero, suc, List, [], ◌∷◌, ◌++◌, length, take, drop, refl, sym, ap, subst, ◌∙◌, inl, inr, ⊎_elim, arith, length-append}
use Rattle.std.proofs.lemmas.List.{length-take-le, take-append-drop, take-take, take_at}
use Rattle.std.proofs.lemmas.Bool.{cases_eq, cases_lt}
use Rattle.std.specs.List.{slice_get}
use Rattle.std.specs.Str.{chars, IsUtf8, IsCharBoundary}
use Rattle.std.proofs.lemmas.Str.{encodes-chars, chars-append, length-encode, len_utf8_bounds, IsUtf8-take, IsUtf8-drop, IsCharBoundary-from_take, IsCharBoundary-past_char}
use Rattle.std.specs.Char.{len_utf8}
use lib.Utf8.{encodes, encode}
use Rattle.lsp_text.specs.Difference.{IsFirstDifference, OneDifference}
use Rattle.lsp_text.specs.Parting.{IsParting}
use Rattle.lsp_text.proofs.Positions.{take-add_here}

slice_get-take : (xs : List ℕ) (n i : ℕ) → i < n → slice_get (take n xs) i ≡ slice_get xs i
slice_get-take xs zero i lt = absurd (omega arith)
slice_get-take (x ∷ xs) (suc n) (suc i) lt = slice_get-take xs n i (omega arith)
slice_get-take _ (suc n) _ lt = refl

slice_get-append : (xs ys : List ℕ) → slice_get (xs ++ ys) (length xs) ≡ slice_get ys 0
slice_get-append [] ys = refl
slice_get-append (x ∷ xs) ys = slice_get-append xs ys

-- where the first n are the same, each of them is
same_at : (a b : List ℕ) (n i : ℕ) → take n a ≡ take n b → i < n → slice_get a i ≡ slice_get b i
same_at a b n i same lt = sym (slice_get-take a n i lt) ∙ ap (λ x. slice_get x i) same ∙ slice_get-take b n i lt

-- no place comes before a first difference
pub one_place : (a b : List ℕ) (m n : ℕ) → IsFirstDifference a b m → IsFirstDifference a b n → m ≡ n
one_place a b m n h k =
    ⊎_elim (λ lt. absurd (h.here (same_at a b n m k.before lt)))
    (λ le. ⊎_elim (λ lt. absurd (k.here (same_at a b m n h.before lt))) (λ ge. let e : m ≡ n = omega arith in e) (cases_lt n m))
    (cases_lt m n)

-- the same behind a character that both have
later : (x y : ℕ) (xs ys : List ℕ) (n : ℕ) → x ≡ y → IsFirstDifference xs ys n → IsFirstDifference (x ∷ xs) (y ∷ ys) (suc n)
later x y xs ys n e h = record { before = ap (λ z. z ∷ take n xs) e ∙ ap (λ (z : List ℕ). y ∷ z) h.before; here = h.here }

equal_or_different : (a b : List ℕ) → (a ≡ b) ⊎ ((n : ℕ) × IsFirstDifference a b n)
equal_or_different [] [] = inl refl
equal_or_different (x ∷ xs) (y ∷ ys) =
    ⊎_elim
    (λ e. ⊎_elim (λ same. inl (ap (λ z. z ∷ xs) e ∙ ap (λ (z : List ℕ). y ∷ z) same)) (λ d. inr (suc d.0, later x y xs ys d.0 e d.1)) (equal_or_different xs ys))
    (λ apart. inr (0, record { before = refl; here = λ e. apart (cc) }))
    (cases_eq x y)
equal_or_different _ _ = inr (0, record { before = refl; here = λ e. absurd (cc) })

-- **Two texts are equal, or first differ at exactly one place.**
pub one_difference : OneDifference
one_difference a b =
    ⊎_elim (λ e. inl (e, λ n h. h.here (ap (λ (x : List ℕ). slice_get x n) e)))
    (λ d. inr (d.0, record { first = d.1; only = λ m h. one_place a b m d.0 h d.1 }))
    (equal_or_different a b)

-- the characters behind the last place before the difference at which the text may be cut
record AreBehind (a b : List ℕ) (at offset : ℕ) : Type 0 where
  left : IsUtf8 a
  first : IsFirstDifference a b at
  boundary : IsCharBoundary a offset
  same : take offset a ≡ take offset b
  last : (i : ℕ) → offset < i → i ≤ at → IsCharBoundary a i → ⊥

-- they don't begin with the same one
heads_differ : (a b cs ds : List ℕ) (at offset : ℕ) → AreBehind a b at offset → drop offset a ≡ encodes cs → drop offset b ≡ encodes ds → slice_get cs 0 ≡ slice_get ds 0 → ⊥
heads_differ a b [] [] at offset h left right e =
    let whole : a ≡ b = sym (take-append-drop offset a) ∙ ap (λ x. take offset a ++ x) (left ∙ sym right) ∙ ap (λ x. x ++ drop offset b) h.same ∙ take-append-drop offset b in
    h.first.here (ap (λ (x : List ℕ). slice_get x at) whole)
heads_differ a b (c ∷ cs) (d ∷ ds) at offset h left right e =
    let same : d ≡ c = cc in
    let n = len_utf8 c in
    let other : drop offset b ≡ encode c ++ encodes ds = right ∙ ap (λ x. encode x ++ encodes ds) same in
    ⊎_elim
    (λ lt. h.first.here (same_at a b (offset + n) at
    (take-add_here a offset n (encode c) (encodes cs) left (length-encode c) ∙ ap (λ x. x ++ encode c) h.same ∙ sym (take-add_here b offset n (encode c) (encodes ds) other (length-encode c)))
    lt))
    (λ le. h.last (offset + n) (omega (arith, (len_utf8_bounds c).0)) le (IsCharBoundary-past_char a (encodes cs) offset c h.boundary.0 (IsUtf8-drop a offset h.left h.boundary) left))
    (cases_lt at (offset + n))
heads_differ a b _ _ at offset h left right e = absurd (cc)

-- **Texts whose bytes first differ at `at` part at the last place before it at which one of them
-- may be cut.**
pub parts_before : (a b : List ℕ) (at offset : ℕ) → IsUtf8 a → IsUtf8 b → IsFirstDifference a b at → offset ≤ at → IsCharBoundary a offset →
    ((i : ℕ) → offset < i → i ≤ at → IsCharBoundary a i → ⊥) → IsParting a b offset
parts_before a b at offset u v h le cut last =
    let p = take offset a in
    let same : p ≡ take offset b = sym (take-take offset at a le) ∙ ap (take offset) h.before ∙ take-take offset at b le in
    let front : IsUtf8 p = IsUtf8-take a offset u cut in
    let len : length p ≡ offset = length-take-le offset a cut.0 in
    let within : offset ≤ length b = omega (arith, len, ap length same, ap length (take-append-drop offset b), length-append (take offset b) (drop offset b)) in
    let other : IsCharBoundary b offset = IsCharBoundary-from_take b offset v within (subst IsUtf8 same front) in
    let xs = chars (drop offset a) in
    let ys = chars (drop offset b) in
    let left : chars a ≡ chars p ++ xs = ap chars (sym (take-append-drop offset a)) ∙ chars-append p (drop offset a) front in
    let right : chars b ≡ chars p ++ ys =
    ap chars (sym (take-append-drop offset b)) ∙ ap (λ x. chars (x ++ drop offset b)) (sym same) ∙ chars-append p (drop offset b) front in
    let behind : AreBehind a b at offset = record { left = u; first = h; boundary = cut; same = same; last = last } in
    record {
      left = cut;
      right = other;
      same = same;
      first =
          record {
            before =
                ap (take (length (chars p))) left ∙ take_at (chars p) xs (length (chars p)) refl
                ∙ sym (ap (take (length (chars p))) right ∙ take_at (chars p) ys (length (chars p)) refl);
            here = λ e. heads_differ a b xs ys at offset behind (sym (encodes-chars (drop offset a) (IsUtf8-drop a offset u cut))) (sym (encodes-chars (drop offset b) (IsUtf8-drop b offset v other)))
                (sym (slice_get-append (chars p) xs) ∙ ap (λ x. slice_get x (length (chars p))) (sym left) ∙ e ∙ ap (λ x. slice_get x (length (chars p))) right ∙ slice_get-append (chars p) ys);
          };
    }
