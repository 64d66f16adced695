-- Several bytes of a text at once: which of them end a run of plain ones, and the run.
use Rattle.std.proofs.Common.{◌≡◌, ℕ, suc, ◌+◌, ◌*◌, ◌%◌, ◌^◌, ◌<◌, ◌≤◌, Bool, true, false, not}
use Rattle.std.proofs.Common.{◌||◌, ◌==◌, lt_of_not-le, ltb, cond, eqb, List, [], ◌∷◌, map, length}
use Rattle.std.proofs.Common.{drop, replicate, refl, sym, ap, ap₂, ◌∙◌, arith}
use Rattle.std.proofs.lemmas.Bool.{eq-eqb, ne_eqb}
use Rattle.std.proofs.lemmas.List.{length-map}
use Rattle.std.proofs.lemmas.List.Folds.{prefix_len-append}
use Rattle.std.proofs.lemmas.List.Sums.{prefix_len-le-length}
use Rattle.std.proofs.lemmas.Simd.{zip2_splat, mask_l-mod, chunk-drop, length-chunk}
use Rattle.std.proofs.lemmas.Simd.{first_set_mask_l}
use Rattle.std.specs.Int.Bits.{bit_or}
use Rattle.std.specs.Int.Count.{count_trailing_zeros}
use Rattle.std.specs.List.{prefix_len}
use Rattle.std.specs.Simd.Lanes.{zip2, top, mask_l, chunk}
use Rattle.json.specs.Run.{is_stop}

-- ---- the mask

abbrev hit : ℕ → ℕ → ℕ
hit a b = cond (eqb a b) 255 0

abbrev below : ℕ → ℕ → ℕ
below a b = cond (ltb a b) 255 0

any_of : (a b e : Bool) → top 7 (bit_or (bit_or (cond a 255 0) (cond b 255 0)) (cond e 255 0))
    ≡ (a || b || e)
any_of true true true = refl
any_of true false true = refl
any_of false true true = refl
any_of false false true = refl
any_of _ _ _ = refl

lane_by_lane : (v : List ℕ)
    → map (top 7) (zip2 bit_or (zip2 bit_or (map (λ x. hit x 34) v) (map (λ x. hit x 92) v))
    (map (λ x. below x 32) v))
    ≡ map is_stop v
lane_by_lane [] = refl
lane_by_lane (x ∷ xs) = ap₂ (λ b bs. b ∷ bs) (any_of (x == 34) (x == 92) (ltb x 32))
    (lane_by_lane xs)

pub marked : (v : List ℕ) (n : ℕ) → length v ≡ n → n ≤ 64
    → mask_l (map (top 7) (zip2 bit_or (zip2 bit_or (zip2 hit v (replicate n 34))
    (zip2 hit v (replicate n 92))) (zip2 below v (replicate n 32)))) % 2 ^ 64
    ≡ mask_l (map is_stop v)
marked v n long few =
    let quotes = zip2_splat hit v n 34 long in
    let slashes = zip2_splat hit v n 92 long in
    let controls = zip2_splat below v n 32 long in
    let tests = ap₂ (zip2 bit_or) (ap₂ (zip2 bit_or) quotes slashes) controls in
    ap (λ l. mask_l l % 2 ^ 64) (ap (map (top 7)) tests ∙ lane_by_lane v)
    ∙ mask_l-mod (map is_stop v) 64 (omega (arith, length-map v is_stop))

-- ---- the run up to a byte that is marked

mark_step : (stop : Bool) (p m l : ℕ) → (p ≡ l → m ≡ 0) → cond (not stop) (1 + p) 0 ≡ suc l
    → cond stop 1 0 + 2 * m ≡ 0
mark_step true p m l more all = let no : ⊥ = omega arith in absurd no
mark_step false p m l more all = let none = more (omega arith) in omega (arith, none)

module _ (stop : ℕ → Bool) where
  pub none_marked : (v : List ℕ) (n : ℕ) → length v ≡ n → n ≤ 64 → mask_l (map stop v) ≡ 0
      → n ≡ prefix_len (λ x. not (stop x)) v
  none_marked v n long few none =
      ap (λ b. cond b n (count_trailing_zeros 64 (mask_l (map stop v))))
      (sym (eq-eqb (mask_l (map stop v)) 0 none))
      ∙ first_set_mask_l stop v n long few

  pub some_marked : (v : List ℕ) (n : ℕ) → length v ≡ n → n ≤ 64 → (mask_l (map stop v) ≡ 0 → ⊥)
      → count_trailing_zeros 64 (mask_l (map stop v)) ≡ prefix_len (λ x. not (stop x)) v
  some_marked v n long few some =
      ap (λ b. cond b n (count_trailing_zeros 64 (mask_l (map stop v))))
      (sym (ne_eqb (mask_l (map stop v)) 0 some))
      ∙ first_set_mask_l stop v n long few

  all_inside : (v : List ℕ) → prefix_len (λ x. not (stop x)) v ≡ length v → mask_l (map stop v) ≡ 0
  all_inside [] all = refl
  all_inside (x ∷ xs) all =
      mark_step (stop x) (prefix_len (λ x. not (stop x)) xs) (mask_l (map stop xs)) (length xs)
      (all_inside xs) all

  -- a mark is among the bytes
  pub some_stop : (v : List ℕ) (n : ℕ) → length v ≡ n → (mask_l (map stop v) ≡ 0 → ⊥)
      → prefix_len (λ x. not (stop x)) v < n
  some_stop v n long some =
      lt_of_not-le (λ (most : n ≤ prefix_len (λ x. not (stop x)) v). some
      (all_inside v (omega (arith, most, long, prefix_len-le-length (λ x. not (stop x)) v))))

  parted : (d : List ℕ) (i : ℕ) → prefix_len (λ x. not (stop x)) (drop i d)
      ≡ cond (eqb (prefix_len (λ x. not (stop x)) (chunk i 16 d)) (length (chunk i 16 d)))
      (length (chunk i 16 d) + prefix_len (λ x. not (stop x)) (drop (i + 16) d))
      (prefix_len (λ x. not (stop x)) (chunk i 16 d))
  parted d i = ap (prefix_len (λ x. not (stop x))) (chunk-drop i 16 d)
      ∙ prefix_len-append (λ x. not (stop x)) (chunk i 16 d) (drop (i + 16) d)

  -- none of sixteen is marked
  pub run_through : (d : List ℕ) (i : ℕ) → i + 16 ≤ length d → mask_l (map stop (chunk i 16 d)) ≡ 0
      → prefix_len (λ x. not (stop x)) (drop i d)
      ≡ 16 + prefix_len (λ x. not (stop x)) (drop (i + 16) d)
  run_through d i room none =
      let c = chunk i 16 d in
      let long = length-chunk i 16 d room in
      let all = none_marked c 16 long (omega arith) none in
      parted d i ∙ ap (λ b. cond b (length c + prefix_len (λ x. not (stop x)) (drop (i + 16) d))
      (prefix_len (λ x. not (stop x)) c)) (eq-eqb _ _ (sym all ∙ sym long))
      ∙ ap (λ k. k + prefix_len (λ x. not (stop x)) (drop (i + 16) d)) long

  -- the run ends among them
  pub run_ends : (d : List ℕ) (i : ℕ) → i + 16 ≤ length d
      → (mask_l (map stop (chunk i 16 d)) ≡ 0 → ⊥)
      → (prefix_len (λ x. not (stop x)) (drop i d)
      ≡ count_trailing_zeros 64 (mask_l (map stop (chunk i 16 d))))
      × (count_trailing_zeros 64 (mask_l (map stop (chunk i 16 d))) < 16)
  run_ends d i room some =
      let c = chunk i 16 d in
      let long = length-chunk i 16 d room in
      let is = some_marked c 16 long (omega arith) some in
      let less = some_stop c 16 long some in (
        parted d i ∙ ap (λ b. cond b (length c + prefix_len (λ x. not (stop x)) (drop (i + 16) d))
            (prefix_len (λ x. not (stop x)) c))
            (ne_eqb _ _ (λ (e : prefix_len (λ x. not (stop x)) c ≡ length c).
            omega (arith, less, e, long)))
            ∙ sym is,
        omega (arith, is, less),
      )
