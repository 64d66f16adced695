-- The rules that the frames of a stream can break.
use Rattle.std.specs.Prelude.{nat_le, if◌then◌else◌}
use Rattle.std.specs.List.{AllByRecursion}
use Rattle.std.specs.Str.Parse.{digits_value}
use Rattle.std.proofs.Common.{◌≡◌, ℕ, Bool, true, false, List, [], ◌∷◌, Result, Ok, Err, inl, inr, sym, subst}
use Rattle.lsp_frame.specs.Bounds.{Bounds}
use Rattle.lsp_frame.specs.Frame.{Breaks}
use Rattle.lsp_frame.specs.Header.{is_number, lengths, content_length, fits_charsets, length_and_charset, Says}

abbrev err_of : ℕ → Result ℕ ℕ
err_of rule = Err rule

module _ (P : ℕ → Type 0) (each : AllByRecursion P (101 ∷ 102 ∷ 103 ∷ 104 ∷ 105 ∷ 106 ∷ [])) where
  number_rule : (a b : Bool) (k rule : ℕ) → (if a then (if b then Ok k else Err 105) else Err 104) ≡ err_of rule → P rule
  number_rule false b k rule e = subst P (cc e) each.1.1.1.0
  number_rule true false k rule e = subst P (cc e) each.1.1.1.1.0
  number_rule true true k rule e = absurd (cc e)

  length_rule : (limits : Bounds) (values : List (List ℕ)) (rule : ℕ) → content_length limits values ≡ err_of rule → P rule
  length_rule limits (v ∷ []) rule e = number_rule (is_number v) (nat_le (digits_value 10 v) limits.content) (digits_value 10 v) rule e
  length_rule limits _ rule e = subst P (cc e) each.1.1.0

  charset_rule : (fits : Bool) (said : Result ℕ ℕ) (rule : ℕ) → (said ≡ err_of rule → P rule) → length_and_charset fits said ≡ err_of rule → P rule
  charset_rule false (Ok n) rule is e = subst P (cc e) each.1.1.1.1.1.0
  charset_rule _ _ rule is e = is e

  -- the fault of a header part is 102 to 106
  says_rule : (limits : Bounds) (header : List ℕ) (rule : ℕ) → Says limits header (Err rule) → P rule
  says_rule limits header rule (inl s) = charset_rule (fits_charsets s.0) (content_length limits (lengths s.0)) rule (length_rule limits (lengths s.0) rule) s.2
  says_rule limits header rule (inr none) = subst P (wrong_line (sym none.1)) each.1.0
    where
      wrong_line : {n : ℕ} → err_of 102 ≡ err_of n → 102 ≡ n
      wrong_line e = cc e

  -- what is true of each of these rules is true of the one broken
  pub breaks_rule : (limits : Bounds) (bytes : List ℕ) (rule : ℕ) → Breaks limits bytes rule → P rule
  breaks_rule limits bytes rule (inl long) = subst P (sym long.0) each.0
  breaks_rule limits bytes rule (inr bad) = says_rule limits bad.header rule bad.says
