-- The canonical frame of a content is a frame of it.
use Rattle.std.proofs.Common.{◌≡◌, ℕ, ◌+◌, ◌-◌, ◌%◌, ◌^◌, ◌<◌, ◌≤◌, Bool, true, false, List, [], ◌∷◌, ◌++◌, length, get_or, take, Option, Ok, refl, sym, ap, ◌∙◌, append_assoc, arith, inl, inr}
use Rattle.std.specs.Prelude.{codes, decimal, nat_le}
use Rattle.std.specs.List.{list_all, prefix_len, suffix_len}
use Rattle.std.specs.Char.{is_ascii_digit}
use Rattle.std.specs.Str.Parse.{digits_value}
use Rattle.std.proofs.lemmas.Bool.{cases_lt, and_from, and_parts}
use Rattle.std.proofs.lemmas.Bool.Decides.{nat_tests}
use Rattle.std.proofs.lemmas.Fmt.{decimal_by_steps, decimal_is_IsNumeral, length-decimal-le}
use Rattle.std.proofs.lemmas.List.{length-append, nil_from_length}
use Rattle.std.proofs.Math.Seq.{take-length}
use Rattle.std.proofs.lemmas.List.Folds.{list_all-append}
use Rattle.std.proofs.lemmas.List.Sums.{AllPass-from_list_all, suffix_len_is}
use Rattle.lsp_frame.specs.Bounds.{Bounds, IsInRange}
use Rattle.lsp_frame.specs.Header.{blank_line, line_end, Field, is_token, is_text, is_blank, Spells, trimmed, is_number, length_of, Says}
use Rattle.lsp_frame.specs.Frame.{IsHeader, IsFrame, Begins, IsStream}
use Rattle.lsp_frame.specs.Sink.{canonical}
use Rattle.lsp_frame.proofs.Splits.{split_front}
use Rattle.lsp_frame.proofs.Numbers.{digit_at, digit_range}
use Rattle.lsp_frame.proofs.Fields.{cons_lines}
use Rattle.lsp_frame.proofs.Frames.{frames_first}
use Rattle.lsp_frame.proofs.Readings.{length_at}

-- ---- decimal digits

digit_is : (n : ℕ) → n < 10 → is_ascii_digit (48 + n) ≡ true
digit_is n small = grind (arith, nat_tests)

digits_more : (ds : List ℕ) (n : ℕ) → n < 10 → list_all is_ascii_digit ds ≡ true → list_all is_ascii_digit (ds ++ (48 + n) ∷ []) ≡ true
digits_more ds n small all = list_all-append is_ascii_digit ds ((48 + n) ∷ []) ∙ and_from _ _ all (and_from _ _ (digit_is n small) refl)

decimal_digits : (n : ℕ) → n < 2 ^ 64 → list_all is_ascii_digit (decimal n) ≡ true
decimal_digits n small =
    decimal_by_steps (λ k ds. list_all is_ascii_digit ds ≡ true)
    (λ k below. and_from _ _ (digit_is k below) refl)
    (λ k ds above all. digits_more ds (k % 10) (omega arith) all)
    n
    small

digit_text : (d : ℕ) → is_ascii_digit d ≡ true → is_text d ≡ true
digit_text d is = let range = digit_range d is in grind (arith, nat_tests)

digit_solid : (d : ℕ) → is_ascii_digit d ≡ true → is_blank d ≡ false
digit_solid d is = let range = digit_range d is in grind (arith, nat_tests)

digits_text : (ds : List ℕ) → list_all is_ascii_digit ds ≡ true → list_all is_text ds ≡ true
digits_text [] all = refl
digits_text (d ∷ ds) all =
    let both = and_parts (is_ascii_digit d) (list_all is_ascii_digit ds) all in
    and_from _ _ (digit_text d both.0) (digits_text ds both.1)

blanks_none : (ds : List ℕ) → list_all is_ascii_digit ds ≡ true → prefix_len is_blank ds ≡ 0
blanks_none [] all = refl
blanks_none (d ∷ ds) all = rw (digit_solid d (and_parts (is_ascii_digit d) (list_all is_ascii_digit ds) all).0) refl

blanks_none_behind : (ds : List ℕ) → list_all is_ascii_digit ds ≡ true → suffix_len is_blank ds ≡ 0
blanks_none_behind ds all =
    suffix_len_is is_blank ds (length ds) 0 (omega arith) (λ k from below. absurd (omega arith)) (λ some. digit_solid (get_or ds (length ds - 1) 0) (digit_at ds (length ds - 1) all (omega arith)))
    ∙ omega arith

trimmed_digits : (ds : List ℕ) → list_all is_ascii_digit ds ≡ true → trimmed (32 ∷ ds) ≡ ds
trimmed_digits ds all =
    let whole : length ds - 0 ≡ length ds = omega arith in
    rw (blanks_none ds all) (rw (blanks_none_behind ds all) (ap (λ (k : ℕ). take k ds) whole ∙ take-length ds))

-- ---- the header part

abbrev pub length_field : List ℕ → Field
length_field ds = record { name = codes "Content-Length"; value = 32 ∷ ds }

abbrev pub length_header : List ℕ → List ℕ
length_header ds = (codes "Content-Length: " ++ ds) ++ blank_line

no_return_in : (more back : List ℕ) → 0 < length more → list_all is_text more ≡ true → blank_line ++ back ≡ more ++ blank_line → ⊥
no_return_in [] back some text e = absurd (omega arith)
no_return_in (x ∷ more) back some text e =
    let first : 13 ≡ x = cc e in
    let both = and_parts (is_text x) (list_all is_text more) text in
    let wrong : false ≡ true = ap is_text first ∙ both.0 in
    absurd cc

-- text holds no CR, so that CR LF CR LF stands behind it alone
blank_after : (w front back : List ℕ) → list_all is_text w ≡ true → w ++ blank_line ≡ front ++ (blank_line ++ back) → back ≡ []
blank_after w front back text e = elim (cases_lt (length front) (length w)) [
  | inl before ↦
      let m = split_front front w (blank_line ++ back) blank_line (sym e) (omega arith) in
      let parts = and_parts (list_all is_text front) (list_all is_text m.0) (sym (ap (list_all is_text) m.1 ∙ list_all-append is_text front m.0) ∙ text) in
      absurd (no_return_in m.0 back (omega (arith, ap length m.1, length-append front m.0)) parts.1 m.2)
  | inr behind ↦ nil_from_length back (omega (arith, ap length e, length-append w blank_line, length-append front (blank_line ++ back)))
]

pub header_part : (limits : Bounds) (ds : List ℕ) → 64 ≤ limits.header → length ds ≤ 10 → list_all is_ascii_digit ds ≡ true → IsHeader limits (length_header ds)
header_part limits ds room short digits = record {
  ends = (codes "Content-Length: " ++ ds, refl);
  first = λ front back e. blank_after (codes "Content-Length: " ++ ds) front back (list_all-append is_text (codes "Content-Length: ") ds ∙ and_from _ _ refl (digits_text ds digits)) e;
  short = omega (arith, length-append (codes "Content-Length: " ++ ds) blank_line, length-append (codes "Content-Length: ") ds);
}

header_spelled : (ds : List ℕ) → list_all is_ascii_digit ds ≡ true → Spells (length_header ds) (length_field ds ∷ [])
header_spelled ds digits = record {
  lines = ap (λ (w : List ℕ). codes "Content-Length: " ++ w) (sym (append_assoc ds line_end line_end)) ∙ sym (cons_lines (length_field ds) []);
  each = (
    record {
      named = omega arith;
      token = AllPass-from_list_all is_token (codes "Content-Length") refl;
      text = AllPass-from_list_all is_text (32 ∷ ds) (digits_text ds digits);
    },
    tt,
  );
}

pub header_says : (limits : Bounds) (ds : List ℕ) (n : ℕ) → list_all is_ascii_digit ds ≡ true → 0 < length ds → length ds ≤ 10 → digits_value 10 ds ≡ n → n ≤ limits.content → Says limits (length_header ds) (Ok n)
header_says limits ds n digits some short value within =
    let least : nat_le 1 (length ds) ≡ true = grind (arith, nat_tests) in
    let most : nat_le (length ds) 10 ≡ true = grind (arith, nat_tests) in
    let number : is_number ds ≡ true = and_from _ _ (and_from _ _ least most) digits in
    let fits : nat_le (digits_value 10 ds) limits.content ≡ true = grind (arith, nat_tests) in
    let said : length_of limits ds ≡ Ok n =
    ap (λ (b : Bool). length_at b (nat_le (digits_value 10 ds) limits.content) (digits_value 10 ds)) number
    ∙ ap (λ (b : Bool). length_at true b (digits_value 10 ds)) fits
    ∙ ap (λ (k : ℕ). Ok k) value
    in
    inl (length_field ds ∷ [], header_spelled ds digits, rw (trimmed_digits ds digits) said)

-- ---- the frame

pub canonical_frame : (limits : Bounds) (content : List ℕ) → IsInRange limits → length content ≤ limits.content → IsFrame limits (canonical content) content
canonical_frame limits content range within =
    let n = length content in
    let high = range.content_high in
    let small : n < 2 ^ 64 = omega arith in
    let digits = decimal_digits n small in
    let numeral = decimal_is_IsNumeral n small in
    let short : length (decimal n) ≤ 8 = length-decimal-le 8 n (omega arith) (omega arith) small in
    record {
      header = length_header (decimal n);
      whole = refl;
      part = header_part limits (decimal n) range.header_low (omega arith) digits;
      says = header_says limits (decimal n) n digits numeral.0.0 (omega arith) numeral.1 within;
    }

-- a stream that begins with a canonical frame has its content first
pub canonical_first : (limits : Bounds) (content after : List ℕ) (all : List (List ℕ)) (rest : List ℕ) (breaks : Option ℕ) → IsInRange limits → length content ≤ limits.content
    → IsStream limits (canonical content ++ after) all rest breaks → (more : List (List ℕ)) × (all ≡ content ∷ more) × IsStream limits after more rest breaks
canonical_first limits content after all rest breaks range within stream =
    let begins : Begins limits (canonical content ++ after) content after = (canonical content, refl, canonical_frame limits content range within) in
    frames_first limits (canonical content ++ after) (content ∷ []) after all rest breaks (after, begins, refl) stream
