-- Bytes in two parts, cut into full records.
use Rattle.std.specs.Int.{div_ceil}
use Rattle.std.specs.Prelude.{map}
use Rattle.std.specs.List.{flat_map}
use Rattle.std.specs.Simd.{first_chunks}
use Rattle.std.proofs.Common.{◌≡◌, ℕ, suc, ◌+◌, ◌-◌, ◌/◌, ◌%◌, min, ◌<◌, List, [], ◌∷◌, ◌++◌}
use Rattle.std.proofs.Common.{length, take, drop, inl, inr, sym, ap, subst, ◌∙◌, append_assoc}
use Rattle.std.proofs.Common.{append-nil, arith}
use Rattle.std.proofs.Math.Nat.{zero-div, zero-mod, div-eq_of_lt, mod-eq_of_lt, add-div_right}
use Rattle.std.proofs.Math.Nat.{add-mod_right}
use Rattle.std.proofs.Math.Seq.{take-append-add, drop-append-add}
use Rattle.std.proofs.lemmas.Bool.{cases_lt}
use Rattle.std.proofs.lemmas.List.{length-append, length-drop, take-append-le, drop-append-le}
use Rattle.std.proofs.lemmas.List.{take_all, drop_all}
use Rattle.lsp_frame.specs.Sink.{Wrote}
use Rattle.lsp_replay.specs.Common.{chunk, Side, spelling, Stopped, Told}
use Rattle.lsp_frame.proofs.Writing.{HasPut, wrote_then, stopped_then, stopped_before}
use Rattle.lsp_extract.specs.Normal.{cut, chunks}

-- ---- the pieces, one after another

count_less : (n size : ℕ) → 0 < size → 0 < n → div_ceil n size ≡ suc (div_ceil (n - size) size)
count_less n size full some =
    elim (cases_lt n size) [
      | inl less ↦
          let none : n - size ≡ 0 = omega arith in
          let least : 0 + min 1 n ≡ 1 = omega arith in
          ap (λ (q : ℕ). q + min 1 (n % size)) (div-eq_of_lt less)
          ∙ ap (λ (r : ℕ). 0 + min 1 r) (mod-eq_of_lt less)
          ∙ least
          ∙ sym (ap (λ (k : ℕ). suc (k / size + min 1 (k % size))) none
          ∙ ap (λ (q : ℕ). suc (q + min 1 (0 % size))) (zero-div size)
          ∙ ap (λ (r : ℕ). suc (0 + min 1 r)) (zero-mod size))
      | inr more ↦
          let m : ℕ = n - size in
          let whole : n ≡ m + size = omega arith in
          let moved : (m / size + 1) + min 1 (m % size) ≡ suc (m / size + min 1 (m % size)) =
          omega arith in
          ap (λ (k : ℕ). k / size + min 1 (k % size)) whole
          ∙ ap (λ (q : ℕ). q + min 1 ((m + size) % size)) (add-div_right m full)
          ∙ ap (λ (r : ℕ). (m / size + 1) + min 1 r) (add-mod_right m size)
          ∙ moved
    ]

pub cut_none : (size : ℕ) → cut size [] ≡ []
cut_none size = ap (λ (k : ℕ). first_chunks size k [])
    (ap (λ (q : ℕ). q + min 1 (0 % size)) (zero-div size)
    ∙ ap (λ (r : ℕ). 0 + min 1 r) (zero-mod size))

pub cut_some : (size : ℕ) (bytes : List ℕ) → 0 < size → 0 < length bytes
    → cut size bytes ≡ take size bytes ∷ cut size (drop size bytes)
cut_some size bytes full some =
    ap (λ (k : ℕ). first_chunks size k bytes) (count_less (length bytes) size full some)
    ∙ ap (λ (n : ℕ). take size bytes ∷ first_chunks size (div_ceil n size) (drop size bytes))
    (sym (length-drop size bytes))

-- ---- two parts

-- where the first full piece ends in each part
pub record Ends (size first second : ℕ) (front back : List ℕ) : Type 0 where
  pub now : take size (front ++ back) ≡ take first front ++ take second back
  pub later : drop size (front ++ back) ≡ drop first front ++ drop second back

min_take : (n : ℕ) (xs : List ℕ) → take (min (length xs) n) xs ≡ take n xs
min_take n xs =
    elim (cases_lt n (length xs)) [
      | inl less ↦ ap (λ (k : ℕ). take k xs) (let e : min (length xs) n ≡ n = omega arith in e)
      | inr more ↦ take_all (min (length xs) n) xs (omega arith) ∙ sym (take_all n xs (omega arith))
    ]

min_drop : (n : ℕ) (xs : List ℕ) → drop (min (length xs) n) xs ≡ drop n xs
min_drop n xs =
    elim (cases_lt n (length xs)) [
      | inl less ↦ ap (λ (k : ℕ). drop k xs) (let e : min (length xs) n ≡ n = omega arith in e)
      | inr more ↦ drop_all (min (length xs) n) xs (omega arith) ∙ sym (drop_all n xs (omega arith))
    ]

part_ends : (size : ℕ) (front back : List ℕ) → Ends size size (size - length front) front back
part_ends size front back =
    elim (cases_lt size (length front)) [
      | inl less ↦
          let none : size - length front ≡ 0 = omega arith in
          record {
            now =
                take-append-le size front back (omega arith)
                ∙ sym (append-nil (take size front))
                ∙ ap (λ (k : ℕ). take size front ++ take k back) (sym none);
            later = drop-append-le size front back (omega arith)
                ∙ ap (λ (k : ℕ). drop size front ++ drop k back) (sym none);
          }
      | inr more ↦
          let whole : size ≡ length front + (size - length front) = omega arith in
          record {
            now =
                ap (λ (k : ℕ). take k (front ++ back)) whole
                ∙ take-append-add front back (size - length front)
                ∙ ap (λ (w : List ℕ). w ++ take (size - length front) back)
                (sym (take_all size front (omega arith)));
            later =
                ap (λ (k : ℕ). drop k (front ++ back)) whole
                ∙ drop-append-add front back (size - length front)
                ∙ ap (λ (w : List ℕ). w ++ drop (size - length front) back)
                (sym (drop_all size front (omega arith)));
          }
    ]

pub piece_ends : (size first second : ℕ) (front back : List ℕ) → first ≡ min (length front) size
    → second ≡ min (length back) (size - first) → Ends size first second front back
piece_ends size first second front back e f =
    let parts = part_ends size front back in
    let left : size - length front ≡ size - first = omega arith in
    let same : second ≡ min (length back) (size - length front) = omega arith in
    record {
      now = parts.now
          ∙ (λ i. (sym (min_take size front) ∙ ap (λ (k : ℕ). take k front) (sym e)) i
          ++ (sym (min_take (size - length front) back) ∙ ap (λ (k : ℕ). take k back) (sym same)) i);
      later = parts.later
          ∙ (λ i. (sym (min_drop size front) ∙ ap (λ (k : ℕ). drop k front) (sym e)) i
          ++ (sym (min_drop (size - length front) back) ∙ ap (λ (k : ℕ). drop k back) (sym same)) i);
    }

-- ---- the loop

-- what is due for these bytes
abbrev pub due : ℕ → Side → List ℕ → List ℕ
due size side bytes = flat_map spelling (chunks size side bytes)

-- one record is written of what is left
pub due_some : (size first second : ℕ) (side : Side) (front back : List ℕ) → 0 < size
    → 0 < length front + length back → first ≡ min (length front) size
    → second ≡ min (length back) (size - first)
    → due size side (front ++ back)
    ≡ spelling (chunk side (take first front ++ take second back)) ++ due size side
    (drop first front ++ drop second back)
due_some size first second side front back full some e f =
    let ends = piece_ends size first second front back e f in
    let long : 0 < length (front ++ back) = omega (arith, length-append front back) in
    ap (λ (ps : List (List ℕ)). flat_map spelling (map (chunk side) ps))
    (cut_some size (front ++ back) full long)
    ∙ (λ i. spelling (chunk side (ends.now i)) ++ due size side (ends.later i))

pub put_one : (start old new : Told) (bytes one rest : List ℕ)
    → HasPut start old bytes (one ++ rest) → Wrote old new one → HasPut start new bytes rest
put_one start old new bytes one rest so_far wrote = record {
  front = so_far.front ++ one;
  whole = so_far.whole ∙ sym (append_assoc so_far.front one rest);
  wrote = wrote_then start old new so_far.front one so_far.wrote wrote;
}

pub put_part : (start old new : Told) (bytes one rest : List ℕ)
    → HasPut start old bytes (one ++ rest) → Stopped old new one → Stopped start new bytes
put_part start old new bytes one rest so_far stopped =
    subst (λ (w : List ℕ). Stopped start new w) (sym so_far.whole)
    (stopped_then start old new so_far.front (one ++ rest) so_far.wrote
    (stopped_before old new one rest stopped))
