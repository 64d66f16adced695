-- What the server's edits are in the texts of a document, as the code has it.
use Rattle.std.specs.Prelude.{◌||◌, MatchOption, get_or, int_lt, is_none, is_some, nat_lt, not}
use Rattle.std.specs.Prelude.{if◌then◌else◌, option_map, option_to_list, ℤ}
use Rattle.std.specs.Borrow.{Bor}
use Rattle.std.specs.List.{cons_option}
use Rattle.std.proofs.Common.{◌≡◌, ◌<◌, ◌+◌, ℕ, Bool, true, false, List, [], ◌∷◌, ◌++◌, Option, Some}
use Rattle.std.proofs.Common.{None, refl, sym, ap, ◌∙◌, append_assoc, arith}
use Rattle.std.proofs.Common.{drop, length, suc, zero}
use Rattle.std.proofs.Math.Bool.{or-false, or-true}
use Rattle.std.proofs.lemmas.Bool.Decides.{nat_tests}
use Rattle.std.proofs.lemmas.List.{drop_more, map-append}
use Rattle.std.proofs.lemmas.List.Elements.{filter-append, filter_map-append}
use Rattle.serde_json.specs.View.{items_view}
use Rattle.serde_json.specs.declared.value.Value.{Value}
use Rattle.lsp_trail.specs.Common.{Change, Counted, edits_of, edits_size, Encoding, Extent}
use Rattle.lsp_trail.specs.Common.{Position, Text, text_at, text_extent, Version}
use Rattle.lsp_text.specs.Findings.{fit_at, fit_in}
use Rattle.lsp_text.specs.Places.{place_of}
use Rattle.lsp_text.specs.declared.findings.Fit.{Fit}
use Rattle.lsp_text.specs.declared.findings.Fit.TheVariants.{Nowhere, Past, Within}
use Rattle.lsp_notes.specs.LateEdits.{are_held, most_size}
use Rattle.lsp_notes.specs.TextEdits.{count_of}
use Rattle.lsp_notes.specs.TextsSince.{contents, is_outside, is_past, not_below, numbers_of}
use Rattle.lsp_notes.specs.TextsSince.{texts_at, texts_in}

-- ---- edits, as they are listed

pub count_is : (values : List Value) → count_of (items_view values) ≡ length values
count_is [] = refl
count_is (v ∷ values) = ap (λ n. n + 1) (count_is values) ∙ plus_one (length values)
  where
    plus_one : (n : ℕ) → n + 1 ≡ suc n
    plus_one n = omega arith

-- ---- a position outside

-- by how it fits
abbrev pub says_outside : Position → Fit → Bool
says_outside p Within = false
says_outside p (Past e) = is_past p (Some e)
says_outside p Nowhere = true

pub outside_is : (enc : Encoding) (t : List ℕ) (p : Position) (f : Fit) → f ≡ fit_in enc t p
    → says_outside p f ≡ is_outside enc p t
outside_is enc t p f is =
    ap (says_outside p) is ∙ by_place (place_of enc t p) (text_extent enc t p)
  where
    by_place : (o : Option ℕ) (e : Option Extent)
        → says_outside p (fit_at o e) ≡ (is_past p e || is_none o)
    by_place None e = sym (or-true (is_past p e))
    by_place (Some k) None = refl
    by_place (Some k) (Some e) = sym (or-false (is_past p (Some e)))

-- ---- those that are small enough

large_so : (size : ℕ) → most_size < size → false ≡ not (nat_lt most_size size)
large_so size large = grind (arith, nat_tests)

fits_so : (size left : ℕ) → left + size ≡ most_size → true ≡ not (nat_lt most_size size)
fits_so size left is = grind (arith, nat_tests)

-- there is room for them
pub small_edits : (size : ℕ) (left : Option ℕ)
    → MatchOption left (most_size < size) (λ l. l + size ≡ most_size)
    → is_some left ≡ not (nat_lt most_size size)
small_edits size None large = large_so size large
small_edits size (Some l) is = fits_so size l is

-- there are none
pub none_held : (edits : List Change) → length edits ≡ 0 → false ≡ are_held (edits_of edits)
none_held [] none = refl
none_held (e ∷ edits) none = absurd (cc none)

-- there are some
pub some_held : (edits : List Change) → 0 < length edits
    → not (nat_lt most_size (edits_size (edits_of edits))) ≡ are_held (edits_of edits)
some_held [] some = absurd (omega arith)
some_held (e ∷ edits) some = refl

-- ---- texts, as they are gathered

-- one more
pub text_more : (texts : List Counted) (t : Counted) (u : Text) (o : Option Text)
    → t.content ≡ u → Some u ≡ o
    → contents (texts ++ t ∷ []) ≡ contents texts ++ cons_option o []
text_more texts t u o is at =
    map-append (λ (c : Counted). c.content) texts (t ∷ [])
    ∙ ap (λ w. contents texts ++ w ∷ []) is
    ∙ ap (λ w. contents texts ++ cons_option w []) at

-- whether one is known, as it is lent
lent_text : (lent : Option (Bor Counted)) (o : Option Text)
    → option_map (λ (s : Bor Counted). s.now.content) lent ≡ o
    → is_some o ≡ is_some lent
lent_text None o is = sym (ap is_some is)
lent_text (Some s) o is = sym (ap is_some is)

module _ (kept : List Version) (v : Option Version) (number : ℤ) (lent : Option (Bor Counted))
    (at : option_map (λ (s : Bor Counted). s.now.content) lent ≡ text_at number kept v)
    (none : Bool) (some_is : is_some lent ≡ not none) where
  abbrev all_texts : List Text
  all_texts = texts_at kept v (not_below number (numbers_of (kept ++ option_to_list v)))

  pub unknown_texts : none ≡ true → None ≡ texts_in kept v number
  unknown_texts is =
      sym (ap (λ (b : Bool). if b then Some all_texts else None)
      (lent_text lent (text_at number kept v) at ∙ some_is ∙ ap not is))

  pub known_texts : none ≡ false → (texts : List Text) → texts ≡ all_texts
      → Some texts ≡ texts_in kept v number
  known_texts is texts are =
      ap Some are
      ∙ sym (ap (λ (b : Bool). if b then Some all_texts else None)
      (lent_text lent (text_at number kept v) at ∙ some_is ∙ ap not is))

-- an item that is there, whatever stands for one that is not
pub get_or_any : (ns : List ℤ) (i : ℕ) (d : ℤ) → i < length ns
    → get_or ns i d ≡ get_or ns i (get_or ns i d)
get_or_any [] i d lt = absurd (omega arith)
get_or_any (n ∷ ns) zero d lt = refl
get_or_any (n ∷ ns) (suc i) d lt = get_or_any ns i d (omega arith)

-- the text at one more number
pub texts_next : (kept : List Version) (v : Option Version) (version : ℤ) (numbers : List ℤ)
    (i : ℕ) (n : ℤ) (whole done new : List Text) → i < length numbers → n ≡ get_or numbers i n
    → whole ≡ done ++ texts_at kept v (not_below version (drop i numbers))
    → new ≡ done ++ texts_at kept v (not_below version (n ∷ []))
    → whole ≡ new ++ texts_at kept v (not_below version (drop (i + 1) numbers))
texts_next kept v version numbers i n whole done new lt is so more =
    let rest = drop (i + 1) numbers in
    let of : List ℤ → List Text = λ ns. texts_at kept v (not_below version ns) in
    let split : of (n ∷ rest) ≡ of (n ∷ []) ++ of rest =
    ap (texts_at kept v) (filter-append (λ (m : ℤ). not (int_lt m version)) (n ∷ []) rest)
    ∙ filter_map-append (λ (m : ℤ). text_at m kept v) (not_below version (n ∷ []))
    (not_below version rest) in
    so
    ∙ ap (λ ns. done ++ of ns)
    (drop_more numbers i n lt ∙ ap (λ m. m ∷ rest) (sym is))
    ∙ ap (λ l. done ++ l) split
    ∙ sym (append_assoc done (of (n ∷ [])) (of rest))
    ∙ ap (λ l. l ++ of rest) (sym more)
