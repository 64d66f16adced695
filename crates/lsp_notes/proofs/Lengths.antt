-- How long a text is that edits make.
use Rattle.std.specs.Prelude.{if◌then◌else◌, not, option_map, ◌&&◌}
use Rattle.std.specs.Str.{bytes_eq}
use Rattle.std.proofs.Common.{◌≡◌, ◌≤◌, ◌<◌, ◌+◌, ◌-◌, ◌==◌, ℕ, Bool, true, false, List, [], ◌∷◌, ◌++◌}
use Rattle.std.proofs.Common.{Option, Some, None, refl, sym, ap, ◌∙◌, arith, drop, inl, inr, length}
use Rattle.std.proofs.Common.{take}
use Rattle.std.proofs.lemmas.Bool.{and_parts, cases_Bool, true≢false}
use Rattle.std.proofs.lemmas.Bool.Decides.{nat_tests}
use Rattle.std.proofs.lemmas.List.{length-append, length-drop, length-take}
use Rattle.std.proofs.lemmas.Option.{same_Some}
use Rattle.std.proofs.lemmas.Slice.Eq.{bytes_eq-Decides}
use Rattle.lsp_text.specs.Lines.{lines_of}
use Rattle.lsp_text.specs.Places.{place_at, place_of}
use Rattle.lsp_text.proofs.Positions.{slice_get-past, text_of-lines_of}
use Rattle.lsp_trail.specs.Common.{Encoding, Position}
use Rattle.lsp_notes.specs.AtOnce.{Splice, back_of, front_of, is_next, is_text, is_within, length_from}
use Rattle.lsp_notes.specs.AtOnce.{made_from}
use Rattle.lsp_notes.specs.declared.texts_since.Stretch.{Stretch}

-- past the last line lies the end of the text
pub end_place : (enc : Encoding) (t : List ℕ) (p : Position) → length (lines_of t) ≤ p.line
    → place_of enc t p ≡ Some (length t)
end_place enc t p past =
    ap (place_at enc (lines_of t) p) (slice_get-past (lines_of t) p.line past)
    ∙ ap (λ (l : List ℕ). Some (length l)) (text_of-lines_of t)

-- an edit that comes next, and ends within the text
record IsIn (here len : ℕ) (s : Stretch) : Type 0 where
  after : here ≤ s.first
  order : s.first ≤ s.second
  within : s.second ≤ len

is_in : (here len : ℕ) (s : Stretch) → is_within here len s ≡ true → IsIn here len s
is_in here len s is = record {
  after = grind (arith, nat_tests);
  order = grind (arith, nat_tests);
  within = grind (arith, nat_tests);
}

one_length : (here len first second rest made more : ℕ) (t text u : List ℕ)
    → here ≤ first → first ≤ second → second ≤ len → length t ≡ len - here
    → length u ≡ more → made ≡ (first - here) + length text + more
    → length (take (first - here) t ++ text ++ u) ≡ made
one_length here len first second rest made more t text u a b c is later sum = omega (
  arith,
  a,
  b,
  c,
  is,
  later,
  sum,
  length-append (take (first - here) t ++ text) u,
  length-append (take (first - here) t) text,
  length-take (first - here) t,
)

back_length : (here len : ℕ) (s : Stretch) (t : List ℕ) → IsIn here len s → length t ≡ len - here
    → length (back_of here s t) ≡ len - s.second
back_length here len s t i is = omega (
  arith,
  i.after,
  i.order,
  i.within,
  is,
  length-drop (s.first - here) t,
  length-drop (s.second - s.first) (drop (s.first - here) t),
)

-- **so long is what they make**
pub made_length : (here len : ℕ) (t : List ℕ) (ss : List Splice) (u : List ℕ) (n : ℕ)
    → length t ≡ len - here → made_from here t ss ≡ Some u → length_from here len ss ≡ Some n
    → length u ≡ n
made_length here len t [] u n is made told =
    ap length (sym (same_Some t u made)) ∙ is ∙ same_Some (len - here) n told
made_length here len t (s ∷ ss) u n is made told =
    by_within (is_within here len s.at) refl
    (made_length s.at.second len (back_of here s.at t) ss)
    (made_from s.at.second (back_of here s.at t) ss) refl
    (length_from s.at.second len ss) refl
  where
    later : List ℕ → List ℕ
    later w = front_of here s.at t ++ s.text ++ w

    by_within : (b : Bool) → is_within here len s.at ≡ b
        → ((w : List ℕ) (m : ℕ) → length (back_of here s.at t) ≡ len - s.at.second
        → made_from s.at.second (back_of here s.at t) ss ≡ Some w
        → length_from s.at.second len ss ≡ Some m → length w ≡ m)
        → (x : Option (List ℕ)) → made_from s.at.second (back_of here s.at t) ss ≡ x
        → (y : Option ℕ) → length_from s.at.second len ss ≡ y → length u ≡ n
    by_within false out ih x at y also =
        let none : None ≡ Some n =
        sym (ap (λ (b : Bool). if b
        then option_map (λ m. (s.at.first - here) + length s.text + m)
        (length_from s.at.second len ss) else None) out) ∙ told in absurd (cc none)
    by_within true inside ih x at y also =
        let i = is_in here len s.at inside in
        let next : is_next here s.at ≡ true =
        (and_parts (is_next here s.at) _ inside).0 in
        by_parts x y i
        (sym (ap (λ (b : Bool). if b then option_map later
        (made_from s.at.second (back_of here s.at t) ss) else None) next
        ∙ ap (option_map later) at) ∙ made)
        (sym (ap (λ (b : Bool). if b
        then option_map (λ m. (s.at.first - here) + length s.text + m)
        (length_from s.at.second len ss) else None) inside
        ∙ ap (option_map (λ m. (s.at.first - here) + length s.text + m)) also) ∙ told)
        (λ w m a b. ih w m (back_length here len s.at t i is) (at ∙ a) (also ∙ b))
      where
        by_parts : (x : Option (List ℕ)) (y : Option ℕ) → IsIn here len s.at
            → option_map later x ≡ Some u
            → option_map (λ m. (s.at.first - here) + length s.text + m) y ≡ Some n
            → ((w : List ℕ) (m : ℕ) → x ≡ Some w → y ≡ Some m → length w ≡ m) → length u ≡ n
        by_parts None y i a b same = absurd (cc a)
        by_parts (Some w) None i a b same = absurd (cc b)
        by_parts (Some w) (Some m) i a b same =
            ap length (sym (same_Some (later w) u a))
            ∙ one_length here len s.at.first s.at.second 0 n m t s.text w i.after i.order i.within
            is (same w m refl refl) (sym (same_Some _ n b))

-- texts of other lengths are not the same
apart : (u w : List ℕ) → (length u ≡ length w → ⊥) → bytes_eq u w ≡ false
apart u w other = elim (cases_Bool (bytes_eq u w)) [
  | inl same ↦ absurd (other (ap length ((bytes_eq-Decides u w).0 same)))
  | inr not ↦ not
]

unequal : (a b : ℕ) → not (a == b) ≡ true → a ≡ b → ⊥
unequal a b is same = grind (arith, nat_tests)

-- **a text of another length is another one**
pub other_length : (len now n : ℕ) (t u : List ℕ) (ss : List Splice) → length t ≡ len
    → length u ≡ now → length_from 0 len ss ≡ Some n → not (n == now) ≡ true
    → is_text u (made_from 0 t ss) ≡ false
other_length len now n t u ss is long told other = by_made (made_from 0 t ss) refl
  where
    by_made : (o : Option (List ℕ)) → made_from 0 t ss ≡ o → is_text u o ≡ false
    by_made None made = refl
    by_made (Some w) made =
        let so = made_length 0 len t ss w n (omega (arith, is)) made told in
        apart u w (λ same. unequal n now other (sym so ∙ sym same ∙ long))
