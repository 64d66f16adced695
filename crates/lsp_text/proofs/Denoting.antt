-- The place in a line is the one that its column denotes.
use Rattle.std.proofs.Common.{◌≡◌, ◌⊎◌, ◌<◌, ◌≤◌, ◌+◌, ◌-◌, ℕ, List, [], ◌∷◌, ◌++◌, length, take, drop, Option, Some, None, zero, suc, refl, sym, ap, subst, ◌∙◌, inl, inr, ⊎_elim, arith}
use Rattle.std.proofs.lemmas.Bool.{cond-true, cond-false, lt-ltb, le-ltb, cases_lt}
use Rattle.std.proofs.lemmas.Bool.Decides.{nat_tests}
use Rattle.std.proofs.lemmas.Str.{len_utf8_bounds}
use Rattle.std.specs.Option.{option_map}
use Rattle.lsp_types.specs.declared.position.Encoding.{Encoding}
use Rattle.lsp_types.specs.declared.position.Encoding.TheVariants.{Utf8, Utf16, Utf32}
use Rattle.std.specs.List.{slice_get}
use Rattle.std.proofs.lemmas.List.{take-append-drop, length-take-le, take_at, drop_at}
use Rattle.lsp_types.specs.declared.position.Position.{Position}
use Rattle.lsp_text.specs.Lines.{Line, text_of, lines_of}
use Rattle.lsp_text.specs.Places.{units, units_of_char, place_in_line, place_at, IsPlaceInLine, place_of, PlacesAreDenoted, OnePlaceAtMost, CharactersDenote}
use Rattle.lsp_text.proofs.Positions.{text_of-lines_of, slice_get-past, slice_get-drop}

pub units_some : (enc : Encoding) (c : ℕ) → 0 < units_of_char enc c
units_some Utf8 c = omega (arith, (len_utf8_bounds c).0)
units_some Utf16 c = grind (arith, nat_tests)
units_some Utf32 c = omega arith

-- `k` characters stand before the column
pub record IsBefore (enc : Encoding) (cs : List ℕ) (column k : ℕ) : Type 0 where
  pub within : k ≤ length cs
  pub column_is : ((units enc cs ≤ column) × (k ≡ length cs)) ⊎ (units enc (take k cs) ≡ column)

pub past : (enc : Encoding) (c : ℕ) (cs : List ℕ) (column : ℕ) → units_of_char enc c ≤ column →
    place_in_line enc (c ∷ cs) column ≡ option_map (λ (k : ℕ). k + 1) (place_in_line enc cs (column - units_of_char enc c))
past enc c cs column le =
    let some = units_some enc c in
    cond-false _ _ _ (le-ltb column 1 (omega arith)) ∙ cond-false _ _ _ (le-ltb column (units_of_char enc c) le)

pub place_in_line-complete : (enc : Encoding) (cs : List ℕ) (column k : ℕ) → IsBefore enc cs column k → place_in_line enc cs column ≡ Some k
place_in_line-complete enc [] column k h = let w = h.within in ap Some (omega arith)
place_in_line-complete enc (c ∷ cs) column zero h =
    ⊎_elim (λ p. let e = p.1 in absurd (omega arith)) (λ p. cond-true _ _ _ (lt-ltb column 1 (omega arith))) h.column_is
place_in_line-complete enc (c ∷ cs) column (suc k) h =
    let w = h.within in
    let u = units_of_char enc c in
    let le : u ≤ column = ⊎_elim (λ p. let q = p.0 in omega arith) (λ p. omega arith) h.column_is in
    let rest : IsBefore enc cs (column - u) k =
    record {
      within = omega arith;
      column_is = ⊎_elim (λ p. let q = p.0 in let r = p.1 in inl (omega arith, omega arith)) (λ p. inr (omega arith)) h.column_is;
    }
    in past enc c cs column le ∙ ap (option_map (λ (n : ℕ). n + 1)) (place_in_line-complete enc cs (column - u) k rest) ∙ ap Some (omega arith)

found_more : (enc : Encoding) (c : ℕ) (cs : List ℕ) (column k : ℕ) (o : Option ℕ) → units_of_char enc c ≤ column → ((n : ℕ) → o ≡ Some n → IsBefore enc cs (column - units_of_char enc c) n) →
    option_map (λ (n : ℕ). n + 1) o ≡ Some k → IsBefore enc (c ∷ cs) column k
found_more enc c cs column k None le ih h = absurd (cc)
found_more enc c cs column k (Some n) le ih h =
    let e : n + 1 ≡ k = cc in
    let s : suc n ≡ k = omega arith in
    let r = ih n refl in
    let w = r.within in
    let next : IsBefore enc (c ∷ cs) column (suc n) =
    record {
      within = omega arith;
      column_is = ⊎_elim (λ p. let q = p.0 in let t = p.1 in inl (omega arith, omega arith)) (λ p. inr (omega arith)) r.column_is;
    }
    in subst (λ x. IsBefore enc (c ∷ cs) column x) s next

pub place_in_line-sound : (enc : Encoding) (cs : List ℕ) (column k : ℕ) → place_in_line enc cs column ≡ Some k → IsBefore enc cs column k
place_in_line-sound enc [] column k h =
    let e : 0 ≡ k = cc in
    record { within = omega arith; column_is = inl (omega arith, omega arith) }
place_in_line-sound enc (c ∷ cs) column k h =
    ⊎_elim
    (λ lt.
    let first : Some 0 ≡ Some k = sym (cond-true _ _ _ (lt-ltb column 1 lt)) ∙ h in
    let e : 0 ≡ k = cc in
    let none : IsBefore enc (c ∷ cs) column 0 = record { within = omega arith; column_is = inr (omega arith) } in
    subst (λ x. IsBefore enc (c ∷ cs) column x) e none)
    (λ ge. ⊎_elim
    (λ lt.
    let inside : None ≡ Some k = sym (cond-false _ _ _ (le-ltb column 1 ge) ∙ cond-true _ _ _ (lt-ltb column (units_of_char enc c) lt)) ∙ h in
    absurd (cc))
    (λ le. found_more enc c cs column k (place_in_line enc cs (column - units_of_char enc c)) le
    (λ n is. place_in_line-sound enc cs (column - units_of_char enc c) n is) (sym (past enc c cs column le) ∙ h))
    (cases_lt column (units_of_char enc c)))
    (cases_lt column 1)

slice_get-none : {X : Type 0} (xs : List X) (i : ℕ) → slice_get xs i ≡ None → length xs ≤ i
slice_get-none [] i h = omega arith
slice_get-none (x ∷ xs) zero h = absurd (cc)
slice_get-none (x ∷ xs) (suc i) h = omega (arith, slice_get-none xs i h)

slice_get-some : {X : Type 0} (xs : List X) (i : ℕ) (x : X) → slice_get xs i ≡ Some x → (i < length xs) × (drop i xs ≡ x ∷ drop (suc i) xs)
slice_get-some [] i x h = absurd (cc)
slice_get-some (y ∷ ys) zero x h = let e : y ≡ x = cc in (omega arith, ap (λ z. z ∷ ys) e)
slice_get-some (y ∷ ys) (suc i) x h = let r = slice_get-some ys i x h in (omega (arith, r.0), r.1)

offset_more : (front k : ℕ) (o : Option ℕ) → option_map (λ (n : ℕ). front + n) o ≡ Some k → (n : ℕ) × (o ≡ Some n) × (k ≡ front + n)
offset_more front k None h = absurd (cc)
offset_more front k (Some n) h = let e : front + n ≡ k = cc in (n, refl, sym e)

denoted_at : (enc : Encoding) (ls : List Line) (p : Position) (k : ℕ) (o : Option Line) → slice_get ls p.line ≡ o → place_at enc ls p o ≡ Some k →
    ((length ls ≤ p.line) × (k ≡ length (text_of ls))) ⊎ IsPlaceInLine enc ls p k
denoted_at enc ls p k None is h = let e : length (text_of ls) ≡ k = cc in inl (slice_get-none ls p.line is, sym e)
denoted_at enc ls p k (Some l) is h =
    let at = slice_get-some ls p.line l is in
    let n = offset_more (length (text_of (take p.line ls))) k (place_in_line enc l.text p.column) h in
    let b : IsBefore enc l.text p.column n.0 = place_in_line-sound enc l.text p.column n.0 n.1 in
    inr (record {
      before = take p.line ls;
      line = l;
      after = drop (suc p.line) ls;
      lines = sym (take-append-drop p.line ls) ∙ ap (λ x. take p.line ls ++ x) at.1;
      number = length-take-le p.line ls (omega (arith, at.0));
      offset = n.0;
      place = n.2;
      within = b.within;
      column = b.column_is;
    })

-- **A position denotes exactly the place that is computed.**
pub places_are_denoted : PlacesAreDenoted
places_are_denoted enc t p k =
    let ls = lines_of t in (
      λ h. ⊎_elim (λ q. inl (q.0, q.1 ∙ ap length (text_of-lines_of t))) (λ q. inr q) (denoted_at enc ls p k (slice_get ls p.line) refl h),
      λ d. ⊎_elim
          (λ q. ap (place_at enc ls p) (slice_get-past ls p.line q.0) ∙ ap (λ (x : List ℕ). Some (length x)) (text_of-lines_of t) ∙ ap Some (sym q.1))
          (λ q.
          let here : drop p.line ls ≡ q.line ∷ q.after = ap (drop p.line) q.lines ∙ drop_at q.before (q.line ∷ q.after) p.line q.number in
          let front : take p.line ls ≡ q.before = ap (take p.line) q.lines ∙ take_at q.before (q.line ∷ q.after) p.line q.number in
          ap (place_at enc ls p) (slice_get-drop ls p.line q.line q.after here)
          ∙ ap (option_map (λ (n : ℕ). length (text_of (take p.line ls)) + n)) (place_in_line-complete enc q.line.text p.column q.offset (record { within = q.within; column_is = q.column }))
          ∙ ap Some (ap (λ (x : List Line). length (text_of x) + q.offset) front ∙ sym q.place))
          d,
    )

-- **A position denotes at most one place.**
pub one_place_at_most : OnePlaceAtMost
one_place_at_most enc t p k m h j =
    let first : place_of enc t p ≡ Some k = (places_are_denoted enc t p k).1 h in
    let second : place_of enc t p ≡ Some m = (places_are_denoted enc t p m).1 j in
    cc

counted_in_line : (cs : List ℕ) (column : ℕ) → (k : ℕ) × (place_in_line Utf32 cs column ≡ Some k)
counted_in_line [] column = (0, refl)
counted_in_line (c ∷ cs) column =
    ⊎_elim
    (λ lt. (0, cond-true _ _ _ (lt-ltb column 1 lt)))
    (λ ge. let more = counted_in_line cs (column - 1) in (more.0 + 1, past Utf32 c cs column ge ∙ ap (option_map (λ (n : ℕ). n + 1)) more.1))
    (cases_lt column 1)

counted_at : (ls : List Line) (p : Position) (o : Option Line) → (k : ℕ) × (place_at Utf32 ls p o ≡ Some k)
counted_at ls p None = (length (text_of ls), refl)
counted_at ls p (Some l) =
    let in_line = counted_in_line l.text p.column in
    (length (text_of (take p.line ls)) + in_line.0, ap (option_map (λ (n : ℕ). length (text_of (take p.line ls)) + n)) in_line.1)

-- **Where columns count characters, each position denotes a place.**
pub characters_denote : CharactersDenote
characters_denote t p =
    let at = counted_at (lines_of t) p (slice_get (lines_of t) p.line) in
    (at.0, (places_are_denoted Utf32 t p at.0).0 at.1)
