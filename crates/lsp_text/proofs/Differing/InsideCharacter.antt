-- The character inside which a column of a line lies, and a position of a text.
use Rattle.std.proofs.Common.{◌≡◌, ◌<◌, ◌≤◌, ◌+◌, ◌-◌, ℕ, true, List, [], ◌∷◌, ◌++◌, length, get_or, take, drop, Option, Some, None, refl, sym, ap, subst, ◌∙◌, inl, inr, ⊎_elim, arith}
use Rattle.std.proofs.lemmas.Bool.{cond-true, cond-false, lt-ltb, le-ltb, cases_lt}
use Rattle.std.proofs.lemmas.List.{take-append-drop, take_more, at_drop_more}
use Rattle.std.specs.Option.{option_map, is_some}
use Rattle.std.specs.List.{slice_get}
use Rattle.lsp_types.specs.declared.position.Encoding.{Encoding}
use Rattle.lsp_types.specs.declared.position.Position.{Position}
use Rattle.lsp_text.specs.Lines.{Line, lines_of, text_of}
use Rattle.lsp_text.specs.Places.{units, units_of_char, place_in_line, place_at, place_of}
use Rattle.lsp_text.specs.InsideCharacter.{FallsInside, LiesInside, PositionsLieInside}
use Rattle.lsp_text.proofs.Counting.{units-append}
use Rattle.lsp_text.proofs.Denoting.{past, place_in_line-complete}

no_place : (enc : Encoding) (before : List ℕ) (c : ℕ) (after : List ℕ) (column : ℕ) → units enc before < column → column < units enc before + units_of_char enc c →
    place_in_line enc (before ++ c ∷ after) column ≡ None
no_place enc [] c after column begun unended = cond-false _ _ _ (le-ltb column 1 (omega arith)) ∙ cond-true _ _ _ (lt-ltb column (units_of_char enc c) (omega arith))
no_place enc (b ∷ bs) c after column begun unended =
    past enc b (bs ++ c ∷ after) column (omega arith)
    ∙ ap (option_map (λ (k : ℕ). k + 1)) (no_place enc bs c after (column - units_of_char enc b) (omega arith) (omega arith))

-- a column inside a character denotes no place
pub falls_nowhere : (enc : Encoding) (line : List ℕ) (column c : ℕ) → FallsInside enc line column c → place_in_line enc line column ≡ None
falls_nowhere enc line column c h = ap (λ (x : List ℕ). place_in_line enc x column) h.parts ∙ no_place enc h.before c h.after column h.begun h.unended

none_before : (o : Option ℕ) → option_map (λ (k : ℕ). k + 1) o ≡ None → o ≡ None
none_before None h = refl
none_before (Some k) h = absurd (cc)

put_before : (enc : Encoding) (b : ℕ) (line : List ℕ) (column c : ℕ) → units_of_char enc b ≤ column → FallsInside enc line (column - units_of_char enc b) c → FallsInside enc (b ∷ line) column c
put_before enc b line column c le h =
    let begun = h.begun in
    let unended = h.unended in
    record { before = b ∷ h.before; after = h.after; parts = ap (λ (x : List ℕ). b ∷ x) h.parts; begun = omega arith; unended = omega arith }

-- a column that denotes no place lies inside a character
pub nowhere_falls : (enc : Encoding) (line : List ℕ) (column : ℕ) → place_in_line enc line column ≡ None → (c : ℕ) × FallsInside enc line column c
nowhere_falls enc [] column h = absurd (cc)
nowhere_falls enc (c ∷ cs) column h =
    let u = units_of_char enc c in
    ⊎_elim
    (λ lt. let at : Some 0 ≡ None = sym (cond-true _ _ _ (lt-ltb column 1 lt)) ∙ h in absurd (cc))
    (λ some. ⊎_elim (λ lt. (c, record { before = []; after = cs; parts = refl; begun = omega arith; unended = omega arith }))
    (λ le.
    let none : place_in_line enc cs (column - u) ≡ None = none_before (place_in_line enc cs (column - u)) (sym (past enc c cs column le) ∙ h) in
    let falls = nowhere_falls enc cs (column - u) none in
    (falls.0, put_before enc c cs column falls.0 le falls.1))
    (cases_lt column u))
    (cases_lt column 1)

one_char : (enc : Encoding) (column : ℕ) (b1 : List ℕ) (c : ℕ) (a1 : List ℕ) (b2 : List ℕ) (d : ℕ) (a2 : List ℕ) → b1 ++ c ∷ a1 ≡ b2 ++ d ∷ a2 → units enc b1 < column →
    column < units enc b1 + units_of_char enc c → units enc b2 < column → column < units enc b2 + units_of_char enc d → c ≡ d
one_char enc column [] c a1 [] d a2 e begun unended begun2 unended2 = cc
one_char enc column [] c a1 (y ∷ ys) d a2 e begun unended begun2 unended2 =
    let same : c ≡ y = cc in
    absurd (omega (arith, ap (units_of_char enc) same))
one_char enc column (x ∷ xs) c a1 [] d a2 e begun unended begun2 unended2 =
    let same : x ≡ d = cc in
    absurd (omega (arith, ap (units_of_char enc) same))
one_char enc column (x ∷ xs) c a1 (y ∷ ys) d a2 e begun unended begun2 unended2 =
    let same : x ≡ y = cc in
    let width : units_of_char enc x ≡ units_of_char enc y = ap (units_of_char enc) same in
    one_char enc (column - units_of_char enc x) xs c a1 ys d a2 (cc) (omega arith) (omega arith) (omega arith) (omega arith)

one_falls : (enc : Encoding) (line : List ℕ) (column c d : ℕ) → FallsInside enc line column c → FallsInside enc line column d → c ≡ d
one_falls enc line column c d h k = one_char enc column h.before c h.after k.before d k.after (sym h.parts ∙ k.parts) h.begun h.unended k.begun k.unended

-- ---- in a text

lies_nowhere : (enc : Encoding) (t : List ℕ) (p : Position) (c : ℕ) → LiesInside enc t p c → place_of enc t p ≡ None
lies_nowhere enc t p c h =
    ap (place_at enc (lines_of t) p) h.there
    ∙ ap (option_map (λ (k : ℕ). length (text_of (take p.line (lines_of t))) + k)) (falls_nowhere enc h.line.text p.column c h.falls)

none_added : (n : ℕ) (o : Option ℕ) → option_map (λ (k : ℕ). n + k) o ≡ None → o ≡ None
none_added n None h = refl
none_added n (Some k) h = absurd (cc)

nowhere_lies : (enc : Encoding) (t : List ℕ) (p : Position) (o : Option Line) → slice_get (lines_of t) p.line ≡ o → place_at enc (lines_of t) p o ≡ None → (c : ℕ) × LiesInside enc t p c
nowhere_lies enc t p None there h = absurd (cc)
nowhere_lies enc t p (Some line) there h =
    let falls = nowhere_falls enc line.text p.column (none_added (length (text_of (take p.line (lines_of t)))) (place_in_line enc line.text p.column) h) in
    (falls.0, record { line = line; there = there; falls = falls.1 })

-- **A position denotes no place exactly where it lies inside a character, and it lies inside no
-- two.**
pub positions_lie_inside : PositionsLieInside
positions_lie_inside =
    record {
      inside = λ enc t p. (λ h. nowhere_lies enc t p (slice_get (lines_of t) p.line) refl h, λ h. lies_nowhere enc t p h.0 h.1);
      once = λ enc t p c d h k.
          let line : h.line ≡ k.line = (let e : Some h.line ≡ Some k.line = sym h.there ∙ k.there in cc) in
          one_falls enc k.line.text p.column c d (subst (λ (l : Line). FallsInside enc l.text p.column c) line h.falls) k.falls;
    }

-- ---- as it is looked for

-- a column at an edge of a character
pub at_edge : (enc : Encoding) (cs : List ℕ) (column n : ℕ) → n ≤ length cs → units enc (take n cs) ≡ column → is_some (place_in_line enc cs column) ≡ true
at_edge enc cs column n le e = ap is_some (place_in_line-complete enc cs column n (record { within = le; column_is = inr e }))

-- a column that is at least the line's units
pub past_line : (enc : Encoding) (cs : List ℕ) (column : ℕ) → units enc cs ≤ column → is_some (place_in_line enc cs column) ≡ true
past_line enc cs column le = ap is_some (place_in_line-complete enc cs column (length cs) (record { within = omega arith; column_is = inl (le, refl) }))

-- the units of one more character
pub one_more : (enc : Encoding) (cs : List ℕ) (n c : ℕ) → (n < length cs) × (c ≡ get_or cs n c) → units enc (take (n + 1) cs) ≡ units enc (take n cs) + units_of_char enc c
one_more enc cs n c h =
    ap (units enc) (take_more cs n c h.0) ∙ units-append enc (take n cs) (get_or cs n c ∷ [])
    ∙ ap (λ x. units enc (take n cs) + (units_of_char enc x + 0)) (sym h.1) ∙ omega arith

-- a column behind n characters and before the end of the next
pub falls_at : (enc : Encoding) (cs : List ℕ) (column n c left : ℕ) → (n < length cs) × (c ≡ get_or cs n c) → units enc (take n cs) + left ≡ column → 0 < left → left < units_of_char enc c →
    FallsInside enc cs column c
falls_at enc cs column n c left h e some lt =
    record {
      before = take n cs;
      after = drop (n + 1) cs;
      parts =
          sym (take-append-drop n cs) ∙ at_drop_more (λ (x : List ℕ). take n cs ++ x) cs n c h.0
          ∙ ap (λ x. take n cs ++ x ∷ drop (n + 1) cs) (sym h.1);
      begun = omega arith;
      unended = omega arith;
    }
