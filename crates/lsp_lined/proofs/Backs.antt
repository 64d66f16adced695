-- The bytes at the end of parts that a text ends with too.
use Rattle.std.proofs.Common.{◌≡◌, ◌<◌, ◌≤◌, ◌+◌, ◌-◌, ℕ, List, ◌++◌, length, map, take, drop}
use Rattle.std.proofs.Common.{get_or, sym, ap, ap₂, subst, ⊎_elim, ◌∙◌, arith, zero, suc}
use Rattle.std.proofs.Common.{length-append, length-drop}
use Rattle.std.proofs.lemmas.Bool.{cases_lt}
use Rattle.std.proofs.lemmas.List.{take-append-drop, drop_all, drop-append-le, drop-drop}
use Rattle.std.proofs.lemmas.List.{length-map}
use Rattle.std.specs.Str.{IsUtf8, IsCharBoundary}
use Rattle.std.proofs.lemmas.Str.{IsCharBoundary-start, IsCharBoundary-from_rest}
use Rattle.lsp_text.specs.Parting.{AreSameFrom}
use Rattle.lsp_lined.specs.Parts.{joined, part_at, AreParts}
use Rattle.lsp_lined.specs.Sums.{sums_of}
use Rattle.lsp_lined.specs.declared.sums.Sums.{Sums}
use Rattle.lsp_lined.proofs.PartEdits.{part_of_found}
use Rattle.lsp_lined.proofs.Parts.{has_part, joined-more, IsUtf8-joined}
use Rattle.lsp_lined.proofs.PartPlaces.{boundary-append, boundary-inside, boundary-of_inside}
use Rattle.lsp_lined.proofs.PartPlaces.{drop-inside}

-- ---- more before what is the same

ends_before : (a p c front : List ℕ) (n : ℕ) → IsUtf8 c → AreSameFrom p front n
    → AreSameFrom (a ++ (p ++ c)) (front ++ c) (length c + n)
ends_before a p c front n u h =
    let left = h.ends.left in
    let right = h.ends.right in
    let bs = a ++ (p ++ c) in
    let size : length bs ≡ length a + (length p + length c) =
    omega (arith, length-append a (p ++ c), length-append p c) in
    let also : length (front ++ c) ≡ length front + length c = length-append front c in
    let at : length a + (length p - n) ≡ length bs - (length c + n) = omega arith in
    let there : length front - n ≡ length (front ++ c) - (length c + n) = omega arith in
    record {
      ends =
          record {
            left = omega arith;
            right = omega arith;
            same =
                ap (λ k. drop k bs) (sym at)
                ∙ drop-inside a p c (length p - n) (omega arith)
                ∙ ap (λ (x : List ℕ). x ++ c) h.ends.same
                ∙ sym (drop-append-le (length front - n) front c (omega arith))
                ∙ ap (λ k. drop k (front ++ c)) there;
          };
      left = subst (IsCharBoundary bs) at (boundary-inside a p c (length p - n) u h.left);
      right =
          subst (IsCharBoundary (front ++ c)) there
          (boundary-append front c (length front - n) u h.right);
    }

-- ---- what comes after a place

pub record IsRestSame (bs other : List ℕ) (from n : ℕ) : Type 0 where
  pub same : AreSameFrom bs other n
  pub within : from + n ≤ length bs

pub rest_same : (bs whole rest other : List ℕ) (from n : ℕ) → IsCharBoundary bs from → whole ≡ bs
    → rest ≡ drop from whole → AreSameFrom rest other n → IsRestSame bs other from n
rest_same bs whole rest other from n b is rest_is h =
    let within : from ≤ length bs = b.0 in
    let back : rest ≡ drop from bs = rest_is ∙ ap (drop from) is in
    let size : length rest ≡ length bs - from =
    omega (arith, ap length back, length-drop from bs) in
    let left : n ≤ length rest = h.ends.left in
    let at : from + (length rest - n) ≡ length bs - n = omega arith in
    record {
      same =
          record {
            ends =
                record {
                  left = omega arith;
                  right = h.ends.right;
                  same =
                      ap (λ k. drop k bs) (sym at) ∙ sym (drop-drop (length rest - n) from bs)
                      ∙ ap (drop (length rest - n)) (sym back) ∙ h.ends.same;
                };
            left =
                subst (IsCharBoundary bs) at
                (IsCharBoundary-from_rest bs from (length rest - n) within
                (subst (λ (x : List ℕ). IsCharBoundary x (length rest - n)) back h.left));
            right = h.right;
          };
      within = omega arith;
    }

-- ---- the parts, from the last one on

-- the parts before this one are left, and this many bytes are the same
pub record IsBackAt (ps : List (List ℕ)) (other : List ℕ) (from index start same : ℕ) : Type 0 where
  pub within : index ≤ length ps
  pub start_is : start ≡ length (joined (take index ps))
  pub inside : start ≤ length (joined ps)
  pub ends : AreSameFrom (joined ps) other same
  pub room : from + same ≤ length (joined ps)

-- there is a part before
pub record IsBefore (len index : ℕ) : Type 0 where
  pub some : 0 < index
  pub index_in : index - 1 < len

none_before : (ps : List (List ℕ)) (index : ℕ) → 0 < length (joined (take index ps)) → 0 < index
none_before ps zero some = absurd (omega arith)
none_before ps (suc index) some = omega arith

pub part_before : {X : Type 0} (f : X → List ℕ) (xs : List X) (other : List ℕ)
    (from index start same : ℕ)
    → IsBackAt (map f xs) other from index start same → from < start → IsBefore (length xs) index
part_before f xs other from index start same k lt =
    let within = k.within in
    let starts = k.start_is in
    let some : 0 < index = none_before (map f xs) index (omega arith) in
    record { some = some; index_in = omega (arith, length-map xs f) }

-- what the part before is asked for
record IsBackStep (ps : List (List ℕ)) (other : List ℕ) (from index start same size : ℕ) : Type 0
  where
    size_in : size ≤ start
    boundary : IsCharBoundary (part_at ps (index - 1)) (from - (start - size))
    next : (more : ℕ) → AreSameFrom (part_at ps (index - 1)) (take (length other - same) other) more
        → from - (start - size) + more ≤ length (part_at ps (index - 1))
        → IsBackAt ps other from (index - 1) (start - size) (same + more)

back_step : (ps : List (List ℕ)) (other : List ℕ) (from index start same size : ℕ) → AreParts ps
    → IsCharBoundary (joined ps) from → IsBackAt ps other from index start same → from < start
    → same ≡ length (joined ps) - start → size ≡ length (part_at ps (index - 1))
    → IsBackStep ps other from index start same size
back_step ps other from index start same size h b k lt same_is size_is =
    let bs = joined ps in
    let within = k.within in
    let starts = k.start_is in
    let some : 0 < index = none_before ps index (omega arith) in
    let i = index - 1 in
    let more_is : i + 1 ≡ index = omega arith in
    let in_ps : i < length ps = omega arith in
    let has = has_part ps i h in_ps in
    let a = joined (take i ps) in
    let p = part_at ps i in
    let c = joined (drop (i + 1) ps) in
    let utf8 : IsUtf8 c = IsUtf8-joined (drop (i + 1) ps) has.after in
    let text : bs ≡ a ++ (p ++ c) = has.text in
    let size_all : length bs ≡ length a + (length p + length c) =
    omega (arith, ap length text, length-append a (p ++ c), length-append p c) in
    let before : start ≡ length a + length p =
    omega (
      arith,
      ap (λ n. length (joined (take n ps))) (sym more_is),
      ap length (joined-more ps i in_ps),
      length-append a p,
    ) in
    let behind : length c ≡ same = omega arith in
    let at : start - size ≡ length a = omega arith in
    let boundary : IsCharBoundary p (from - (start - size)) =
    ⊎_elim
    (λ (early : from < length a).
    let none : 0 ≡ from - (start - size) = omega arith in
    subst (IsCharBoundary p) none (IsCharBoundary-start p has.utf8))
    (λ (late : length a ≤ from).
    let inside : length a + (from - (start - size)) ≡ from = omega arith in
    boundary-of_inside a p c (from - (start - size)) (omega arith)
    (subst (λ (t : List ℕ). IsCharBoundary t (length a + (from - (start - size)))) text
    (subst (IsCharBoundary bs) (sym inside) b)))
    (cases_lt from (length a)) in
    let front = take (length other - same) other in
    let right = k.ends.ends.right in
    let back : drop (length other - same) other ≡ c =
    let cut : length bs - same ≡ length a + length p = omega arith in
    sym k.ends.ends.same ∙ ap₂ drop cut text
    ∙ drop-inside a p c (length p) (omega arith)
    ∙ ap (λ (x : List ℕ). x ++ c) (drop_all (length p) p (omega arith)) in
    let all : other ≡ front ++ c =
    sym (take-append-drop (length other - same) other)
    ∙ ap (λ (x : List ℕ). front ++ x) back in
    record {
      size_in = omega arith;
      boundary = boundary;
      next =
          λ more ends room.
          let sum : length c + more ≡ same + more = omega arith in
          record {
            within = omega arith;
            start_is = at;
            inside = omega arith;
            ends =
                subst (λ (t : List ℕ). AreSameFrom t other (same + more)) (sym text)
                (subst (λ (t : List ℕ). AreSameFrom (a ++ (p ++ c)) t (same + more)) (sym all)
                (subst (AreSameFrom (a ++ (p ++ c)) (front ++ c)) sum
                (ends_before a p c front more utf8 ends)));
            room = omega arith;
          };
    }

-- the same of a part among others
pub record IsBackPart {X : Type 0} (f : X → List ℕ) (xs : List X) (x : X) (other : List ℕ)
    (from index start same size : ℕ) : Type 0 where
  pub size_in : size ≤ start
  pub boundary : IsCharBoundary (f x) (from - (start - size))
  pub next : (front : List ℕ) (more : ℕ) → front ≡ take (length other - same) other
      → AreSameFrom (f x) front more → from - (start - size) + more ≤ length (f x)
      → IsBackAt (map f xs) other from (index - 1) (start - size) (same + more)

pub back_part : {X : Type 0} (f : X → List ℕ) (xs : List X) (x y : X) (other : List ℕ)
    (from index start same : ℕ) (s : Sums) → AreParts (map f xs)
    → IsCharBoundary (joined (map f xs)) from → IsBackAt (map f xs) other from index start same
    → from < start → same ≡ length (joined (map f xs)) - start → x ≡ get_or xs (index - 1) x
    → y ≡ get_or xs (index - 1) y → s ≡ sums_of (f x)
    → IsBackPart f xs y other from index start same s.bytes
back_part f xs x y other from index start same s h b k lt same_is is also sums =
    let before = part_before f xs other from index start same k lt in
    let in_ps : index - 1 < length (map f xs) =
    omega (arith, before.index_in, length-map xs f) in
    let size : s.bytes ≡ length (part_at (map f xs) (index - 1)) =
    ap (λ (t : Sums). t.bytes) sums
    ∙ ap length (part_of_found f xs (index - 1) x in_ps is) in
    let text : f y ≡ part_at (map f xs) (index - 1) =
    part_of_found f xs (index - 1) y in_ps also in
    let made = back_step (map f xs) other from index start same s.bytes h b k lt same_is size in
    record {
      size_in = made.size_in;
      boundary =
          subst (λ (t : List ℕ). IsCharBoundary t (from - (start - s.bytes))) (sym text)
          made.boundary;
      next =
          λ front more front_is ends room.
          made.next more
          (subst (λ (t : List ℕ). AreSameFrom (part_at (map f xs) (index - 1)) t more) front_is
          (subst (λ (t : List ℕ). AreSameFrom t front more) text ends))
          (omega (arith, room, ap length text));
    }
