-- Notes that are written once for each document, with one note more.
use Rattle.std.specs.Prelude.{take, nat_lt, not, ◌||◌, if◌then◌else◌, string_bytes, option_and_then}
use Rattle.std.specs.List.{cons_option, filter_map, list_any}
use Rattle.std.specs.Str.{bytes_eq}
use Rattle.std.proofs.Common.{◌≡◌, ◌<◌, ◌≤◌, ℕ, Bool, true, false, List, [], ◌∷◌, ◌++◌, Option}
use Rattle.std.proofs.Common.{Some, None, refl, sym, ap, ◌∙◌, arith, append-nil, length}
use Rattle.std.proofs.lemmas.Bool.Decides.{nat_tests}
use Rattle.std.proofs.lemmas.List.{length-append, length-take, take-append-le, take_all}
use Rattle.std.proofs.lemmas.List.Elements.{filter_map-append}
use Rattle.std.proofs.lemmas.List.Folds.{list_any-append}
use Rattle.lsp_docs.proofs.Words.{uri_is}
use Rattle.lsp_verdict.specs.LookBack.{each_from, each_of}
use Rattle.lsp_verdict.proofs.LookBackLemmas.{each_of-snoc}
use Rattle.lsp_notes.specs.DocumentNotes.{DocumentNote, first_notes, has_note, if_first}
use Rattle.lsp_notes.specs.DocumentNotes.{most_noted, notes_view, with_note}
use Rattle.lsp_notes.specs.declared.document_notes.DocumentNote as code

-- ---- documents that have a note

has_note-append : (uri : List ℕ) (xs ys : List DocumentNote)
    → has_note uri (xs ++ ys) ≡ (has_note uri xs || has_note uri ys)
has_note-append uri xs ys = list_any-append (λ (n : DocumentNote). bytes_eq n.on.uri uri) xs ys

-- what the first notes leave out is on documents that have one
left_out : (a b c d e : Bool) → (a ≡ true → b ≡ true → c ≡ true)
    → ((c || (b || false)) || d) ≡ ((c || (b || false)) || e)
    → (if a then c || d else c || (b || d)) ≡ (c || (b || e))
left_out a b true d e on same = by_test a
  where
    by_test : (a : Bool) → (if a then true else true) ≡ true
    by_test true = refl
    by_test false = refl
left_out true true false d e on same = absurd (cc (on refl refl))
left_out true false false d e on same = same
left_out false true false d e on same = refl
left_out false false false d e on same = same

-- the same documents have one
same_from : (uri : List ℕ) (front xs : List DocumentNote)
    → (has_note uri front || has_note uri (each_from if_first front xs))
    ≡ (has_note uri front || has_note uri xs)
same_from uri front [] = refl
same_from uri front (x ∷ xs) =
    at_once (has_note x.on.uri front)
    ∙ left_out (has_note x.on.uri front) (bytes_eq x.on.uri uri) (has_note uri front)
    (has_note uri (each_from if_first (front ++ x ∷ []) xs)) (has_note uri xs) on_it
    (ap (λ b. b || has_note uri (each_from if_first (front ++ x ∷ []) xs))
    (sym (has_note-append uri front (x ∷ [])))
    ∙ same_from uri (front ++ x ∷ []) xs
    ∙ ap (λ b. b || has_note uri xs) (has_note-append uri front (x ∷ [])))
  where
    at_once : (b : Bool)
        → (has_note uri front || has_note uri (cons_option (if b then None else Some x)
        (each_from if_first (front ++ x ∷ []) xs)))
        ≡ (if b then has_note uri front || has_note uri (each_from if_first (front ++ x ∷ []) xs)
        else has_note uri front || (bytes_eq x.on.uri uri
        || has_note uri (each_from if_first (front ++ x ∷ []) xs)))
    at_once true = refl
    at_once false = refl

    on_it : has_note x.on.uri front ≡ true → bytes_eq x.on.uri uri ≡ true
        → has_note uri front ≡ true
    on_it is same = ap (λ u. has_note u front) (sym (uri_is x.on.uri uri same)) ∙ is

same_documents : (uri : List ℕ) (xs : List DocumentNote)
    → has_note uri (each_of if_first xs) ≡ has_note uri xs
same_documents uri xs = same_from uri [] xs

-- ---- one note more

-- one is written behind these, or none
one_more : (xs all : List DocumentNote) (x : DocumentNote) (b : Bool)
    → nat_lt (length (take most_noted all)) most_noted ≡ b
    → has_note x.on.uri all ≡ has_note x.on.uri xs
    → take most_noted (all ++ cons_option (if_first xs x) [])
    ≡ with_note (take most_noted all) (Some x)
one_more xs all x true few same =
    let short : length all < most_noted =
    omega (arith, length-take most_noted all, is_lt (length (take most_noted all)) few) in
    let whole : take most_noted all ≡ all = take_all most_noted all (omega (arith, short)) in
    let room : nat_lt (length all) most_noted ≡ true =
    ap (λ (l : List DocumentNote). nat_lt (length l) most_noted) (sym whole) ∙ few in
    by_has short (has_note x.on.uri xs)
    ∙ ap (λ h. if h then all else all ++ x ∷ []) (sym same)
    ∙ ap (λ b. if not b || has_note x.on.uri all then all else all ++ x ∷ []) (sym room)
    ∙ ap (λ (l : List DocumentNote). with_note l (Some x)) (sym whole)
  where
    is_lt : (n : ℕ) → nat_lt n most_noted ≡ true → n < most_noted
    is_lt n is = grind (arith, nat_tests)

    by_has : length all < most_noted → (h : Bool)
        → take most_noted (all ++ cons_option (if h then None else Some x) [])
        ≡ (if h then all else all ++ x ∷ [])
    by_has short true =
        ap (take most_noted) (append-nil all) ∙ take_all most_noted all (omega (arith, short))
    by_has short false = take_all most_noted (all ++ x ∷ [])
        (omega (arith, short, length-append all (x ∷ [])))
one_more xs all x false many same =
    take-append-le most_noted all (cons_option (if_first xs x) [])
    (omega (arith, length-take most_noted all, not_lt (length (take most_noted all)) many))
    ∙ ap (λ b. if not b || has_note x.on.uri (take most_noted all) then take most_noted all
    else take most_noted all ++ x ∷ []) (sym many)
  where
    not_lt : (n : ℕ) → nat_lt n most_noted ≡ false → most_noted ≤ n
    not_lt n is = grind (arith, nat_tests)

first_notes-push : (xs : List DocumentNote) (x : DocumentNote)
    → first_notes (xs ++ x ∷ []) ≡ with_note (first_notes xs) (Some x)
first_notes-push xs x =
    ap (take most_noted) (each_of-snoc if_first xs x)
    ∙ one_more xs (each_of if_first xs) x (nat_lt (length (first_notes xs)) most_noted) refl
    (same_documents x.on.uri xs)

-- **what is written of these is known with one more**, or with none
pub first_notes_with : (xs : List DocumentNote) (more : Option DocumentNote)
    → first_notes (xs ++ cons_option more []) ≡ with_note (first_notes xs) more
first_notes_with xs None = ap first_notes (append-nil xs)
first_notes_with xs (Some x) = first_notes-push xs x

pub first_notes_more : {A : Type 0} (note : A → Option DocumentNote) (xs : List A) (more : Option A)
    → first_notes (filter_map note (xs ++ cons_option more []))
    ≡ with_note (first_notes (filter_map note xs)) (option_and_then note more)
first_notes_more note xs None = ap (λ l. first_notes (filter_map note l)) (append-nil xs)
first_notes_more note xs (Some x) =
    ap first_notes (filter_map-append note xs (x ∷ [])) ∙ first_notes_with (filter_map note xs) (note x)

-- ---- as they are held

-- one of those that are held is on the document
pub held_on : (uri : List ℕ) (notes : List code.DocumentNote)
    → list_any (λ (n : code.DocumentNote). bytes_eq (string_bytes n.uri) uri) notes
    ≡ has_note uri (notes_view notes)
held_on uri [] = refl
held_on uri (n ∷ notes) =
    ap (λ b. bytes_eq (string_bytes n.uri) uri || b) (held_on uri notes)
