-- Reading a header part field by field.
use Rattle.std.proofs.Common.{◌≡◌, ℕ, List, [], ◌∷◌, ◌++◌, codes, refl, sym, ap, subst, ◌∙◌}
use Rattle.std.proofs.Common.{append_assoc, append-nil, arith}
use Rattle.std.proofs.lemmas.List.Sums.{AllPass-from_list_all}
use Rattle.std.specs.List.{flat_map, list_all, AllByRecursion}
use Rattle.lsp_frame.specs.declared.header.Lengths.{Lengths}
use Rattle.std.specs.Prelude.{map, filter, Bool, true, false, not, ◌&&◌, nat_eq}
use lib.Pointwise.{pointwise}
use Rattle.std.proofs.lemmas.List.{map-append, flat_map_more}
use Rattle.std.proofs.lemmas.List.Elements.{filter-append}
use Rattle.std.proofs.lemmas.List.Folds.{list_all-append}
use Rattle.lsp_frame.specs.Header.{Field, IsField, Spells, line, line_end, lengths, trimmed, is_content_length, is_content_type, fits_charset, parts, fits_charsets, is_token, is_text}
use Rattle.lsp_frame.specs.Reading.{Holds, NoFieldBegins, usual_type}
use Rattle.lsp_frame.proofs.Fields.{cons_lines, rest_of_fields}

-- the fields that were read, and what was counted of them
pub record HasRead (header rest : List ℕ) (counted : Lengths) (utf8 : Bool) : Type 0 where
  pub front : List Field
  pub each : AllByRecursion IsField front
  pub whole : header ≡ flat_map line front ++ rest
  pub holds : Holds counted (lengths front)
  pub charsets : utf8 ≡ fits_charsets front

each-append : (xs ys : List Field) → AllByRecursion IsField xs → AllByRecursion IsField ys → AllByRecursion IsField (xs ++ ys)
each-append [] ys p q = q
each-append (x ∷ xs) ys p q = (p.0, each-append xs ys p.1 q)

lengths-append : (xs ys : List Field) → lengths (xs ++ ys) ≡ lengths xs ++ lengths ys
lengths-append xs ys =
    ap (map (λ f. trimmed f.value)) (filter-append is_content_length xs ys)
    ∙ map-append (λ f. trimmed f.value) (filter is_content_length xs) (filter is_content_length ys)

fits_charsets-append : (xs ys : List Field) → fits_charsets (xs ++ ys) ≡ fits_charsets xs && fits_charsets ys
fits_charsets-append xs ys =
    ap (list_all (λ (f : Field). list_all fits_charset (parts f.value))) (filter-append is_content_type xs ys)
    ∙ list_all-append (λ f. list_all fits_charset (parts f.value)) (filter is_content_type xs) (filter is_content_type ys)

-- one more field is read
pub read_more : (header rest after : List ℕ) (f : Field) (old new : Lengths) (utf8 utf8_new : Bool) → HasRead header rest old utf8 → IsField f → rest ≡ line f ++ after
    → ((values : List (List ℕ)) → Holds old values → Holds new (values ++ lengths (f ∷ []))) → utf8_new ≡ utf8 && fits_charsets (f ∷ []) → HasRead header after new utf8_new
read_more header rest after f old new utf8 utf8_new so_far is begins count fits =
    record {
      front = so_far.front ++ f ∷ [];
      each = each-append so_far.front (f ∷ []) so_far.each (is, tt);
      whole = so_far.whole ∙ ap (λ (w : List ℕ). flat_map line so_far.front ++ w) begins ∙ sym (append_assoc (flat_map line so_far.front) (line f) after) ∙ ap (λ (w : List ℕ). w ++ after) (flat_map_more line [] so_far.front f);
      holds = rw (lengths-append so_far.front (f ∷ [])) (count (lengths so_far.front) so_far.holds);
      charsets = fits ∙ ap (λ (b : Bool). b && fits_charsets (f ∷ [])) so_far.charsets ∙ sym (fits_charsets-append so_far.front (f ∷ []));
    }

and_true : (b : Bool) → b ≡ b && true
and_true true = refl
and_true false = refl

pub usual_is : IsField usual_type
usual_is = record {
  named = omega arith;
  token = AllPass-from_list_all is_token (codes "Content-Type") refl;
  text = AllPass-from_list_all is_text (codes " application/vscode-jsonrpc; charset=utf-8") refl;
}

usual_fits : fits_charsets (usual_type ∷ []) ≡ true
usual_fits = refl

-- the default content type is read, and what was counted stays
pub usual_more : (header rest after : List ℕ) (counted : Lengths) (utf8 : Bool)
    → HasRead header rest counted utf8 → rest ≡ line usual_type ++ after
    → HasRead header after counted utf8
usual_more header rest after counted utf8 so_far begins =
    read_more header rest after usual_type counted counted utf8 utf8 so_far usual_is begins
    (λ values held. subst (λ (w : List (List ℕ)). Holds counted w) (sym (append-nil values)) held)
    (and_true utf8 ∙ ap (λ (b : Bool). utf8 && b) (sym usual_fits))

nothing_left : (gs : List Field) (rest : List ℕ) → AllByRecursion IsField gs → rest ≡ flat_map line gs ++ line_end → (rest ≡ line_end → ⊥) → NoFieldBegins rest → ⊥
nothing_left [] rest each e goes_on none = goes_on e
nothing_left (g ∷ gs) rest each e goes_on none = none g (flat_map line gs ++ line_end) each.0 (e ∙ cons_lines g gs)

-- where no field begins before the end, no fields spell the header part
pub none_spell : (header rest : List ℕ) (counted : Lengths) (utf8 : Bool) → HasRead header rest counted utf8 → (rest ≡ line_end → ⊥) → NoFieldBegins rest → (fields : List Field) → Spells header fields → ⊥
none_spell header rest counted utf8 so_far goes_on none fields spelled =
    let more = rest_of_fields so_far.front fields rest so_far.each spelled.each (sym so_far.whole ∙ spelled.lines) in
    nothing_left more.0 rest more.1 more.2 goes_on none

-- the loop's test says that the end isn't reached
pub not_end : (rest end : List ℕ) (differs : Bool) → differs ≡ not (pointwise nat_eq rest end) → differs ≡ true → end ≡ line_end → rest ≡ line_end → ⊥
not_end rest end differs is held end_is rest_is =
    let same : true ≡ false = sym held ∙ is ∙ ap (λ (w : List ℕ). not (pointwise nat_eq w end)) rest_is ∙ ap (λ (w : List ℕ). not (pointwise nat_eq line_end w)) end_is in
    absurd cc
