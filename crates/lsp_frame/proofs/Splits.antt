-- One list cut at two places, and where CR LF CR LF stands in it.
use Rattle.std.proofs.Common.{◌≡◌, ℕ, ◌+◌, ◌≤◌, List, [], ◌∷◌, ◌++◌, length, take, drop, refl, sym, ap, ◌∙◌, append_assoc, arith, inl, inr}
use Rattle.std.proofs.lemmas.List.{drop_at, take_at, length-append, take-append-drop, nil_from_length, length-take}
use Rattle.std.proofs.lemmas.List.Prefix.{at_from_reads, at_reads}
use Rattle.std.proofs.lemmas.Bool.{cases_lt}
use Rattle.memchr.specs.Find.{OccursAt, Nowhere, NoneBefore}
use Rattle.lsp_frame.specs.Header.{blank_line}

-- what the longer front has more
pub split_front : (xs ys us bs : List ℕ) → xs ++ us ≡ ys ++ bs → length xs ≤ length ys → (more : List ℕ) × (ys ≡ xs ++ more) × (us ≡ more ++ bs)
split_front [] ys us bs e short = (ys, refl, e)
split_front (x ∷ xs) [] us bs e short = absurd (omega arith)
split_front (x ∷ xs) (y ∷ ys) us bs e short =
    let tails : xs ++ us ≡ ys ++ bs = cc e in
    let heads : x ≡ y = cc e in
    let m = split_front xs ys us bs tails (omega arith) in
    (m.0, cc (heads, m.1), m.2)

-- a list that holds CR LF CR LF after a front has it at that place
pub occurs_after : (w front back : List ℕ) → w ≡ front ++ (blank_line ++ back) → OccursAt w blank_line (length front)
occurs_after w front back e = record {
  fits = omega (arith, ap length e, length-append front (blank_line ++ back), length-append blank_line back);
  reads = λ j below. at_reads 0 w blank_line (length front) back (ap (drop (length front)) e ∙ drop_at front (blank_line ++ back) (length front) refl) j below;
}

-- and the other way round
pub split_at_blank : (w : List ℕ) (k : ℕ) → OccursAt w blank_line k → w ≡ take k w ++ (blank_line ++ drop (k + 4) w)
split_at_blank w k occurs =
    sym (take-append-drop k w) ∙ ap (λ (r : List ℕ). take k w ++ r) (at_from_reads 0 w blank_line k occurs.fits occurs.reads)

-- nothing is found where nothing stands
pub none_found : (w : List ℕ) → Nowhere (OccursAt w blank_line) 0 (length w + 1) → (front back : List ℕ) → w ≡ front ++ (blank_line ++ back) → ⊥
none_found w nowhere front back e =
    nowhere (length front) (omega arith) (omega (arith, ap length e, length-append front (blank_line ++ back))) (occurs_after w front back e)

-- the bytes up to the first CR LF CR LF end with it, and hold it nowhere earlier
pub record IsFirstPart (header : List ℕ) : Type 0 where
  pub ends : (front : List ℕ) × (header ≡ front ++ blank_line)
  pub first : (front back : List ℕ) → header ≡ front ++ (blank_line ++ back) → back ≡ []

pub first_part : (w : List ℕ) (k : ℕ) → NoneBefore (OccursAt w blank_line) 0 (length w + 1) k → OccursAt w blank_line k → IsFirstPart (take (k + 4) w)
first_part w k none occurs =
    let fits = occurs.fits in
    let front_len : length (take k w) ≡ k = omega (arith, length-take k w) in
    let cut : w ≡ (take k w ++ blank_line) ++ drop (k + 4) w = split_at_blank w k occurs ∙ sym (append_assoc (take k w) blank_line (drop (k + 4) w)) in
    let len : length (take k w ++ blank_line) ≡ k + 4 = omega (arith, length-append (take k w) blank_line) in
    let header : take (k + 4) w ≡ take k w ++ blank_line = ap (take (k + 4)) cut ∙ take_at (take k w ++ blank_line) (drop (k + 4) w) (k + 4) len in
    record {
      ends = (take k w, header);
      first = λ front back e.
          let whole : w ≡ front ++ (blank_line ++ (back ++ drop (k + 4) w)) =
          sym (take-append-drop (k + 4) w) ∙ ap (λ (h : List ℕ). h ++ drop (k + 4) w) e ∙ append_assoc front (blank_line ++ back) (drop (k + 4) w)
          in
          let occurs_there = occurs_after w front (back ++ drop (k + 4) w) whole in
          let lens : k + 4 ≡ length front + (4 + length back) = sym (omega (arith, length-take (k + 4) w)) ∙ ap length e ∙ omega (arith, length-append front (blank_line ++ back)) in
          elim (cases_lt (length front) k) [
            | inl before ↦ absurd (none.before (length front) (omega arith) before occurs_there)
            | inr from ↦ nil_from_length back (omega (arith, lens))
          ];
    }
