-- Stretches of bytes that are the same, by vectors that mark where they differ.
use Rattle.std.proofs.Common.{◌≡◌, ◌↔◌, ◌≤◌, ◌+◌, ◌*◌, ◌%◌, ◌^◌, ◌||◌, ℕ, Bool, true, false}
use Rattle.std.proofs.Common.{not, cond, get_or, IsTrue, nat_eq, eqb, List, [], ◌∷◌, ◌++◌, length, take, drop, map, bit_or}
use Rattle.std.proofs.Common.{refl, sym, ap, ap₂, ◌∙◌, arith, take-add}
use Rattle.std.proofs.lemmas.Bool.Decides.{Decides-eqb}
use Rattle.std.proofs.lemmas.Bool.{false≢true}
use Rattle.std.specs.Bool.{Decides}
use Rattle.std.proofs.lemmas.List.{drop-drop, drop-take, take-take}
use Rattle.std.proofs.lemmas.Simd.{mask_l-mod, length-zip2, length-chunk}
use Rattle.std.specs.Simd.Lanes.{zip2, top, mask_l}

-- the lanes that tell where two vectors differ
abbrev unlike : ℕ → ℕ → ℕ
unlike a b = cond (not (eqb a b)) 255 0

abbrev differs : ℕ → ℕ → Bool
differs a b = not (eqb a b)

abbrev full : Bool → ℕ
full b = cond b 255 0

unlike_lanes : (a b : List ℕ) → zip2 unlike a b ≡ map full (zip2 differs a b)
unlike_lanes (a ∷ xs) (b ∷ ys) = ap (λ l. full (differs a b) ∷ l) (unlike_lanes xs ys)
unlike_lanes _ _ = refl

either : (p q : Bool) → bit_or (full p) (full q) ≡ full (p || q)
either true true = refl
either true false = refl
either false true = refl
either false false = refl

either_lanes : (p q : List Bool) → zip2 bit_or (map full p) (map full q) ≡ map full (zip2 (λ a b. a || b) p q)
either_lanes (p ∷ ps) (q ∷ qs) = ap₂ (λ x l. x ∷ l) (either p q) (either_lanes ps qs)
either_lanes _ _ = refl

top_full : (p : Bool) → top 7 (full p) ≡ p
top_full true = refl
top_full false = refl

tops : (p : List Bool) → map (top 7) (map full p) ≡ p
tops [] = refl
tops (p ∷ ps) = ap₂ (λ x l. x ∷ l) (top_full p) (tops ps)

-- no bit of either
none_either : (p q : List Bool) → length p ≡ length q
    → (mask_l (zip2 (λ a b. a || b) p q) ≡ 0) ↔ ((mask_l p ≡ 0) × (mask_l q ≡ 0))
none_either [] [] e = (λ _. (refl, refl), λ _. refl)
none_either (true ∷ ps) (q ∷ qs) e = (λ z. absurd (omega (arith, z)), λ z. absurd (omega (arith, z.0)))
none_either (false ∷ ps) (true ∷ qs) e = (λ z. absurd (omega (arith, z)), λ z. absurd (omega (arith, z.1)))
none_either (false ∷ ps) (false ∷ qs) e =
    let rest = none_either ps qs (omega (arith, e)) in (
      λ z. let both = rest.0 (omega (arith, z)) in (omega (arith, both.0), omega (arith, both.1)),
      λ z. let none = rest.1 (omega (arith, z.0), omega (arith, z.1)) in omega (arith, none),
    )
none_either _ _ e = absurd (omega (arith, e))

both_pairs : (r : Bool) (a b : ℕ) (xs ys : List ℕ) (m : ℕ) → Decides r (a ≡ b)
    → (m ≡ 0) ↔ (xs ≡ ys) → (cond (not r) 1 0 + 2 * m ≡ 0) ↔ (a ∷ xs ≡ b ∷ ys)
both_pairs true a b xs ys m same rest = (
  λ z. ap₂ (λ x l. x ∷ l) (same.0 refl) (rest.0 (omega (arith, z))),
  λ e. omega (arith, rest.1 (ap (drop 1) e)),
)
both_pairs false a b xs ys m same rest = (
  λ z. absurd (omega (arith, z)),
  λ e. absurd (false≢true (same.1 (ap (λ l. get_or l 0 0) e))),
)

-- no bit where two vectors are the same
none_differs : (a b : List ℕ) → length a ≡ length b → (mask_l (zip2 differs a b) ≡ 0) ↔ (a ≡ b)
none_differs [] [] e = (λ _. refl, λ _. refl)
none_differs (a ∷ xs) (b ∷ ys) e =
    both_pairs (eqb a b) a b xs ys _ (Decides-eqb a b) (none_differs xs ys (omega (arith, e)))
none_differs _ _ e = absurd (omega (arith, e))

-- ---- one vector beside another

long_zip : (a b : List ℕ) → length a ≡ 64 → length b ≡ 64 → length (zip2 differs a b) ≡ 64
long_zip a b la lb = length-zip2 differs a b (la ∙ sym lb) ∙ la

pub same_block : (at there : ℕ) (xs ys : List ℕ) → at + 64 ≤ length xs → there + 64 ≤ length ys
    → (IsTrue (nat_eq (mask_l (map (top 7) (zip2 unlike (take 64 (drop at xs))
    (take 64 (drop there ys)))) % 2 ^ 64) 0))
    ↔ (take 64 (drop at xs) ≡ take 64 (drop there ys))
same_block at there xs ys within also =
    let a = take 64 (drop at xs) in
    let b = take 64 (drop there ys) in
    let la = length-chunk at 64 xs within in
    let lb = length-chunk there 64 ys also in
    let whole = ap (λ l. mask_l (map (top 7) l) % 2 ^ 64) (unlike_lanes a b)
    ∙ ap (λ l. mask_l l % 2 ^ 64) (tops (zip2 differs a b))
    ∙ mask_l-mod (zip2 differs a b) 64 (omega (arith, long_zip a b la lb)) in
    let none = none_differs a b (la ∙ sym lb) in (
      λ t. none.0 (sym whole ∙ (Decides-eqb _ 0).0 t),
      λ e. (Decides-eqb _ 0).1 (whole ∙ none.1 e),
    )

-- ---- four vectors beside four

abbrev marks : List ℕ → List ℕ → List ℕ → List ℕ → List ℕ → List ℕ → List ℕ → List ℕ → List ℕ
marks a b c d e f g h = zip2 bit_or (zip2 bit_or (zip2 unlike a e) (zip2 unlike b f))
    (zip2 bit_or (zip2 unlike c g) (zip2 unlike d h))

abbrev or_l : List Bool → List Bool → List Bool
or_l = zip2 (λ a b. a || b)

marked : (a b c d e f g h : List ℕ) → map (top 7) (marks a b c d e f g h)
    ≡ or_l (or_l (zip2 differs a e) (zip2 differs b f)) (or_l (zip2 differs c g) (zip2 differs d h))
marked a b c d e f g h =
    let first = ap₂ (zip2 bit_or) (unlike_lanes a e) (unlike_lanes b f)
    ∙ either_lanes (zip2 differs a e) (zip2 differs b f) in
    let second = ap₂ (zip2 bit_or) (unlike_lanes c g) (unlike_lanes d h)
    ∙ either_lanes (zip2 differs c g) (zip2 differs d h) in
    ap (map (top 7)) (ap₂ (zip2 bit_or) first second ∙ either_lanes _ _) ∙ tops _

long_or : (p q : List Bool) → length p ≡ 64 → length q ≡ 64 → length (or_l p q) ≡ 64
long_or p q lp lq = length-zip2 (λ a b. a || b) p q (lp ∙ sym lq) ∙ lp

none_marked : (a b c d e f g h : List ℕ) → length a ≡ 64 → length b ≡ 64 → length c ≡ 64
    → length d ≡ 64 → length e ≡ 64 → length f ≡ 64 → length g ≡ 64 → length h ≡ 64
    → (mask_l (map (top 7) (marks a b c d e f g h)) % 2 ^ 64 ≡ 0)
    ↔ (((a ≡ e) × (b ≡ f)) × ((c ≡ g) × (d ≡ h)))
none_marked a b c d e f g h la lb lc ld le lf lg lh =
    let p = zip2 differs a e in
    let q = zip2 differs b f in
    let r = zip2 differs c g in
    let s = zip2 differs d h in
    let lp = long_zip a e la le in
    let lq = long_zip b f lb lf in
    let lr = long_zip c g lc lg in
    let ls = long_zip d h ld lh in
    let first = long_or p q lp lq in
    let second = long_or r s lr ls in
    let whole = ap (λ l. mask_l l % 2 ^ 64) (marked a b c d e f g h)
    ∙ mask_l-mod (or_l (or_l p q) (or_l r s)) 64
    (omega (arith, long_or (or_l p q) (or_l r s) first second)) in
    let halves = none_either (or_l p q) (or_l r s) (first ∙ sym second) in
    let front = none_either p q (lp ∙ sym lq) in
    let back = none_either r s (lr ∙ sym ls) in
    let in_a = none_differs a e (la ∙ sym le) in
    let in_b = none_differs b f (lb ∙ sym lf) in
    let in_c = none_differs c g (lc ∙ sym lg) in
    let in_d = none_differs d h (ld ∙ sym lh) in (
      λ z.
          let both = halves.0 (sym whole ∙ z) in
          let two = front.0 both.0 in
          let more = back.0 both.1 in
          ((in_a.0 two.0, in_b.0 two.1), (in_c.0 more.0, in_d.0 more.1)),
      λ z.
          whole ∙ halves.1 (front.1 (in_a.1 z.0.0, in_b.1 z.0.1), back.1 (in_c.1 z.1.0, in_d.1 z.1.1)),
    )

-- ---- a stretch of 256 bytes, by its four parts

-- the part after k bytes of a stretch is that of the bytes themselves
part_at : (at k m : ℕ) (xs : List ℕ) → k + m ≡ 256 → 64 ≤ m
    → take 64 (drop (at + k) xs) ≡ take 64 (drop k (take 256 (drop at xs)))
part_at at k m xs all most =
    ap (take 64) (sym (drop-drop k at xs)) ∙ sym (take-take 64 m (drop k (drop at xs)) most)
    ∙ ap (take 64) (sym (drop-take k m (drop at xs)))
    ∙ ap (λ n. take 64 (drop k (take n (drop at xs)))) all

two_parts : (at : ℕ) (xs : List ℕ)
    → take 128 (drop at xs) ≡ take 64 (drop at xs) ++ take 64 (drop (at + 64) xs)
two_parts at xs = take-add 64 64 (drop at xs)
    ∙ ap (λ l. take 64 (drop at xs) ++ take 64 l) (drop-drop 64 at xs)

parts : (at : ℕ) (xs : List ℕ) → take 256 (drop at xs)
    ≡ (take 64 (drop at xs) ++ take 64 (drop (at + 64) xs))
    ++ (take 64 (drop (at + 128) xs) ++ take 64 (drop (at + 192) xs))
parts at xs =
    let later : at + 128 + 64 ≡ at + 192 = omega arith in
    take-add 128 128 (drop at xs)
    ∙ ap₂ (λ p q. p ++ q) (two_parts at xs) (ap (take 128) (drop-drop 128 at xs)
    ∙ two_parts (at + 128) xs
    ∙ ap (λ n. take 64 (drop (at + 128) xs) ++ take 64 (drop n xs)) later)

pub same_stretch : (at : ℕ) (xs ys : List ℕ) → at + 256 ≤ length xs → at + 256 ≤ length ys
    → (IsTrue (nat_eq (mask_l (map (top 7) (marks
    (take 64 (drop at xs)) (take 64 (drop (at + 64) xs))
    (take 64 (drop (at + 128) xs)) (take 64 (drop (at + 192) xs))
    (take 64 (drop at ys)) (take 64 (drop (at + 64) ys))
    (take 64 (drop (at + 128) ys)) (take 64 (drop (at + 192) ys)))) % 2 ^ 64) 0))
    ↔ (take 256 (drop at xs) ≡ take 256 (drop at ys))
same_stretch at xs ys within also =
    let none = none_marked (take 64 (drop at xs)) (take 64 (drop (at + 64) xs))
    (take 64 (drop (at + 128) xs)) (take 64 (drop (at + 192) xs))
    (take 64 (drop at ys)) (take 64 (drop (at + 64) ys))
    (take 64 (drop (at + 128) ys)) (take 64 (drop (at + 192) ys))
    (length-chunk at 64 xs (omega (arith, within)))
    (length-chunk (at + 64) 64 xs (omega (arith, within)))
    (length-chunk (at + 128) 64 xs (omega (arith, within)))
    (length-chunk (at + 192) 64 xs (omega (arith, within)))
    (length-chunk at 64 ys (omega (arith, also)))
    (length-chunk (at + 64) 64 ys (omega (arith, also)))
    (length-chunk (at + 128) 64 ys (omega (arith, also)))
    (length-chunk (at + 192) 64 ys (omega (arith, also))) in (
      λ t.
          let same = none.0 ((Decides-eqb _ 0).0 t) in
          parts at xs ∙ ap₂ (λ p q. p ++ q) (ap₂ (λ p q. p ++ q) same.0.0 same.0.1)
          (ap₂ (λ p q. p ++ q) same.1.0 same.1.1) ∙ sym (parts at ys),
      λ e.
          let same : (k m : ℕ) → k + m ≡ 256 → 64 ≤ m
          → take 64 (drop (at + k) xs) ≡ take 64 (drop (at + k) ys) = λ k m all most.
          part_at at k m xs all most ∙ ap (λ l. take 64 (drop k l)) e ∙ sym (part_at at k m ys all most) in
          (Decides-eqb _ 0).1 (none.1 (
            (
              sym (take-take 64 256 (drop at xs) (omega arith)) ∙ ap (take 64) e
                  ∙ take-take 64 256 (drop at ys) (omega arith),
              same 64 192 refl (omega arith),
            ),
            (same 128 128 refl (omega arith), same 192 64 refl (omega arith)),
          )),
    )
