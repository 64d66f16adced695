-- What commands ask for, by what was found of their arguments.
use Rattle.std.proofs.Common.{◌≡◌, ◌∙◌, ◌<◌, ◌==◌, ◌^◌, ℕ, false, List, option_map, Option, Some}
use Rattle.std.proofs.Common.{None, Result, refl, sym, ap, subst, codes, arith, slice_index}
use Rattle.std.specs.Prelude.{MatchOption, unwrap_or}
use Rattle.std.specs.Borrow.{Bor}
use Rattle.std.specs.Int.NonZero.{non_zero_u64_get}
use Rattle.std.specs.declared.num.NonZeroU64.{NonZeroU64}
use Rattle.std.specs.Str.Parse.{ExplainsUnsignedError, HasUnsignedDigitsIfOk, IsNumeral, ParsesUnsigned, digits_value, without_leading_plus}
use Rattle.std.specs.declared.num.ParseIntError.{ParseIntError}
use Rattle.std.proofs.lemmas.Bool.{eqb-false}
use Rattle.clap.specs.Words.{ReadsOne, Row, Text, all_of, matched_of, one_of, one_text, raw_values}
use Rattle.clap.specs.Words.{rows_of}
use Rattle.clap.specs.declared.parser.matches.Found.{Found}
use Rattle.clap.proofs.WalkLemmas.{one_text-rows, raw_values-rows}
use Rattle.lsp_request.specs.Words.{AsksText, GivesNumber, HasTask, NumberIn, inputs_of}
use Rattle.lsp_request.specs.declared.command_line.task.Extent.{Extent}
use Rattle.lsp_request.specs.declared.command_line.task.Rewrite.TheVariants as rewrites
use Rattle.lsp_request.specs.declared.command_line.task.Task.{Task}
use Rattle.lsp_request.specs.declared.command_line.task.Task.TheVariants as tasks

-- ---- numbers

-- how `u64` reads a text
abbrev pub Reads64 : Text → Result ℕ ParseIntError → Type 0
Reads64 text r = ParsesUnsigned 64 10 text r × ExplainsUnsignedError 10 text r × HasUnsignedDigitsIfOk text r

-- the words give this number, which may be 0
pub record ReadsNumber (rows : List Row) (number : ℕ) : Type 0 where
  pub digits : Text
  pub given : one_of (codes "number") rows ≡ Some digits
  pub numeral : IsNumeral 10 (without_leading_plus digits)
  pub value : number ≡ digits_value 10 (without_leading_plus digits)
  pub fits : number < 2 ^ 64

pub number_read : (f : Found) (n : ℕ) → (one_text f (codes "number") ≡ None → Some n ≡ None)
    → ((t : Text) → one_text f (codes "number") ≡ Some t → ReadsOne Reads64 t (Some n)) → ReadsNumber (rows_of f) n
number_read f n none value = go (one_text f (codes "number")) refl
  where
    go : (o : Option Text) → one_text f (codes "number") ≡ o → ReadsNumber (rows_of f) n
    go None e =
        let bad : Some n ≡ None = none e in
        absurd cc
    go (Some t) e =
        let read = (value t e).0 in
        record {
          digits = t;
          given = sym (one_text-rows f (codes "number")) ∙ e;
          numeral = read.0.0;
          value = read.1;
          fits = subst (λ (k : ℕ). k < 2 ^ 64) (sym read.1) read.0.1;
        }

pub no_number : (f : Found) → ((t : Text) → one_text f (codes "number") ≡ Some t → ReadsOne Reads64 t None) → (n : ℕ) → GivesNumber (rows_of f) n → ⊥
no_number f value n g =
    let failed = (value g.digits (one_text-rows f (codes "number") ∙ g.given)).1 in
    failed.0 (g.numeral, subst (λ (k : ℕ). k < 2 ^ 64) g.value g.fits)

pub number_made : (rows : List Row) (n : ℕ) (r : Option NonZeroU64) → ReadsNumber rows n → MatchOption r (n ≡ 0) (λ x. non_zero_u64_get x ≡ n) → NumberIn rows r
number_made rows n None read zero = λ m g.
    let same : g.digits ≡ read.digits = ap (λ (o : Option Text). unwrap_or o (codes "")) (sym g.given ∙ read.given) in
    let is : m ≡ 0 = g.value ∙ ap (λ (t : Text). digits_value 10 (without_leading_plus t)) same ∙ sym read.value ∙ zero in
    let bad : 0 < 0 = subst (λ (k : ℕ). 0 < k) is g.some in
    absurd (omega arith)
number_made rows n (Some x) read is = record {
  digits = read.digits;
  given = read.given;
  numeral = read.numeral;
  value = is ∙ read.value;
  some = x.ok;
  fits = subst (λ (k : ℕ). k < 2 ^ 64) (sym is) read.fits;
}

-- ---- tasks

-- texts that differ in their fourth byte
apart : (a b : Text) → (slice_index a 3 == slice_index b 3) ≡ false → a ≡ b → ⊥
apart a b differ same = eqb-false _ _ differ (ap (λ (t : Text). slice_index t 3) same)

pub no_text : (rows : List Row)
    → ((number : NonZeroU64) (uri : Bor Text) (extent : Extent) → AsksText rows number uri extent → ⊥)
    → (task : Task) → HasTask (codes "text") rows task → ⊥
no_text rows none (tasks.Text number uri extent) h = none number uri extent h.arguments
no_text rows none (tasks.Rewrite rewrites.Normal) h = apart _ _ refl h.command
no_text rows none _ h = apart _ _ refl h.command

pub no_event : (rows : List Row) → ((n : ℕ) → GivesNumber rows n → ⊥) → (task : Task) → HasTask (codes "event") rows task → ⊥
no_event rows none (tasks.Event number) h = none (non_zero_u64_get number) h.arguments
no_event rows none (tasks.Rewrite rewrites.Normal) h = apart _ _ refl h.command
no_event rows none _ h = apart _ _ refl h.command

-- ---- what is to be read

pub inputs_are : (f : Found) (named : Option (List Text))
    → named ≡ option_map raw_values (matched_of f (codes "file"))
    → inputs_of named ≡ inputs_of (all_of (codes "file") (rows_of f))
inputs_are f named is = ap inputs_of (is ∙ raw_values-rows f (codes "file"))
