-- The text that is said to be whole is a JSON text, and longer than the content.
use Rattle.std.specs.Prelude.{if◌then◌else◌, nat_lt, option_and_then, suc}
use Rattle.std.specs.Bool.{then_some}
use Rattle.std.specs.Str.{is_utf8}
use Rattle.std.proofs.Common.{◌≡◌, ◌+◌, ◌-◌, ◌<◌, ℕ, Bool, true, false, List, [], ◌∷◌, ◌++◌}
use Rattle.std.proofs.Common.{Option, Some, None, refl, sym, ap, ◌∙◌, arith, length, take}
use Rattle.std.proofs.Math.Seq.{take-append-add}
use Rattle.std.proofs.lemmas.Bool.Decides.{nat_tests}
use Rattle.lsp_facts.specs.Grammar.{break_from, break_on, is_whole, json_break, left_open, move_in}
use Rattle.lsp_facts.specs.Grammar.{to}
use Rattle.lsp_facts.specs.Whole.{WholeTextsAreJson, end_by, end_from, if_utf8, past, text_end}
use Rattle.lsp_facts.specs.declared.grammar.Around.{Around}
use Rattle.lsp_facts.specs.declared.grammar.Gap.TheVariants as gaps
use Rattle.lsp_facts.specs.declared.grammar.Move.{Move}
use Rattle.lsp_facts.specs.declared.grammar.Place.{Place}
use Rattle.lsp_facts.specs.declared.grammar.Place.TheVariants as places

-- some of these bytes are the rest of a text, which ends at this number
abbrev IsEnd : ℕ → Place → List Around → List ℕ → ℕ → Type 0
IsEnd n place opened xs m =
    (k : ℕ) × (m ≡ n + suc k)
    × ((j : ℕ) → break_from j place opened (take (suc k) xs) ≡ None)

module _ (n : ℕ) (place : Place) (opened : List Around) (x : ℕ) (xs : List ℕ) (m : ℕ)
    (later : (place : Place) (opened : List Around) → end_from (suc n) place opened xs ≡ Some m
    → IsEnd (suc n) place opened xs m) where
  by_end : (by : Move) → move_in place opened x ≡ Some by → (whole : Bool)
      → is_whole (to by) (left_open opened by) ≡ whole
      → (if whole then Some (suc n) else end_from (suc n) (to by) (left_open opened by) xs) ≡ Some m
      → IsEnd n place opened (x ∷ xs) m
  by_end by is true whole e =
      let at : suc n ≡ m = cc in (
        0,
        omega (arith, at),
        λ j. ap (break_on j (λ place opened. break_from (suc j) place opened []) opened) is
            ∙ ap (λ b. if b then None else Some (suc j)) whole,
      )
  by_end by is false whole e =
      let rest = later (to by) (left_open opened by) e in (
        suc rest.0,
        omega (arith, rest.1),
        λ j. ap (break_on j
            (λ place opened. break_from (suc j) place opened (take (suc rest.0) xs)) opened) is
            ∙ rest.2 (suc j),
      )

  by_move : (o : Option Move) → move_in place opened x ≡ o
      → end_by (suc n) (λ place opened. end_from (suc n) place opened xs) opened o ≡ Some m
      → IsEnd n place opened (x ∷ xs) m
  by_move None is e = absurd cc
  by_move (Some by) is e = by_end by is (is_whole (to by) (left_open opened by)) refl e

is_end : (n : ℕ) (place : Place) (opened : List Around) (xs : List ℕ) (m : ℕ)
    → end_from n place opened xs ≡ Some m → IsEnd n place opened xs m
is_end n place opened [] m e = absurd cc
is_end n place opened (x ∷ xs) m e =
    by_move n place opened x xs m (λ at left. is_end (suc n) at left xs m)
    (move_in place opened x) refl e

module _ (content behind text : List ℕ) where
  abbrev size : ℕ
  size = length content

  by_size : (m : ℕ) → text_end (content ++ behind) ≡ Some m → (longer : Bool)
      → nat_lt size m ≡ longer
      → option_and_then (λ n. if_utf8 (content ++ take n behind)) (then_some longer (m - size))
      ≡ Some text → json_break text ≡ None
  by_size m is false less e = absurd cc
  by_size m is true less e = by_utf8 (is_utf8 own) e
    where
      own : List ℕ
      own = content ++ take (m - size) behind

      by_utf8 : (utf8 : Bool) → then_some utf8 own ≡ Some text → json_break text ≡ None
      by_utf8 false e = absurd cc
      by_utf8 true e =
          let same : own ≡ text = cc in
          let ends = is_end 0 (places.Gap gaps.Value) [] (content ++ behind) m is in
          let past : size < m = grind (arith, nat_tests) in
          let at : suc ends.0 ≡ size + (m - size) = omega (arith, past, ends.1) in
          let front : take (suc ends.0) (content ++ behind) ≡ own =
          ap (λ (k : ℕ). take k (content ++ behind)) at ∙ take-append-add content behind (m - size) in
          ap json_break (sym same ∙ sym front) ∙ ends.2 0

  by_end_of : (o : Option ℕ) → text_end (content ++ behind) ≡ o
      → option_and_then (λ n. if_utf8 (content ++ take n behind)) (option_and_then (past size) o)
      ≡ Some text → json_break text ≡ None
  by_end_of None is e = absurd cc
  by_end_of (Some m) is e = by_size m is (nat_lt size m) refl e

pub whole_texts_are_json : WholeTextsAreJson
whole_texts_are_json content behind text e =
    by_end_of content behind text (text_end (content ++ behind)) refl e
