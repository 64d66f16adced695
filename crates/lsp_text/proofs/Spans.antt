-- A text before, between and after two places, and what the replacement of a span finds.
use Rattle.std.proofs.Common.{◌≡◌, ◌≤◌, ◌+◌, ◌-◌, ℕ, List, ◌++◌, length, take, drop, Option, Some}
use Rattle.std.proofs.Common.{refl, sym, ap, ◌∙◌, arith, length-drop, take-add, length-append}
use Rattle.std.proofs.lemmas.List.{take-append-drop, take_at, drop_at, drop-drop, length-take-le}
use Rattle.std.proofs.lemmas.List.{drop-take}
use Rattle.std.specs.Str.{chars, IsUtf8, IsCharBoundary}
use Rattle.std.proofs.lemmas.Str.{chars-append, IsUtf8-take, IsUtf8-between}
use Rattle.std.specs.List.{slice_range}
use Rattle.std.specs.Option.{option_or}
use Rattle.std.specs.Prelude.{ℤ}
use Rattle.lsp_types.specs.declared.position.Encoding.{Encoding}
use Rattle.lsp_types.specs.declared.position.Span.{Span}
use Rattle.lsp_text.specs.Places.{place_of}
use Rattle.lsp_text.specs.Offsets.{IsTextOffset}
use Rattle.lsp_text.specs.Spans.{bytes_between, CanReplace}
use Rattle.lsp_text.specs.Findings.{text_extent, between, held_by, past_by, past_of, length_of}
use Rattle.lsp_text.specs.Findings.{found_in}
use Rattle.lsp_text.specs.declared.findings.PastEnd.{PastEnd}
use Rattle.lsp_text.specs.declared.findings.OtherLength.{OtherLength}
use Rattle.lsp_text.specs.declared.findings.Findings.{Findings}
use Rattle.lsp_text.specs.declared.findings.Extent.{Extent}
use Rattle.lsp_text.proofs.Splices.{chars-cut}

-- a text before, between and after two places
pub record IsAround (bs : List ℕ) (start end : ℕ) : Type 0 where
  pub utf8 : IsUtf8 (bytes_between bs start end)
  pub len : length (bytes_between bs start end) ≡ end - start
  pub text : drop start bs ≡ bytes_between bs start end ++ drop end bs
  pub chars_are : chars bs
      ≡ chars (take start bs) ++ (chars (bytes_between bs start end) ++ chars (drop end bs))
  pub chars_to : chars (take end bs) ≡ chars (take start bs) ++ chars (bytes_between bs start end)

pub around : (bs : List ℕ) (start end : ℕ) → IsUtf8 bs → start ≤ end → IsCharBoundary bs start
    → IsCharBoundary bs end → IsAround bs start end
around bs start end u le first second =
    let m = bytes_between bs start end in
    let um : IsUtf8 m = IsUtf8-between bs start end u le first second in
    let sum : start + (end - start) ≡ end = omega arith in
    let text : drop start bs ≡ m ++ drop end bs =
    sym (take-append-drop (end - start) (drop start bs))
    ∙ ap (λ (x : List ℕ). m ++ x)
    (drop-drop (end - start) start bs ∙ ap (λ (k : ℕ). drop k bs) sum) in
    record {
      utf8 = um;
      len = length-take-le (end - start) (drop start bs)
          (let a = second.0 in omega (arith, length-drop start bs));
      text = text;
      chars_are = chars-cut bs start u first ∙ ap (λ (x : List ℕ). chars (take start bs) ++ x)
          (ap chars text ∙ chars-append m (drop end bs) um);
      chars_to = ap (λ (k : ℕ). chars (take k bs)) (sym sum)
          ∙ ap chars (take-add start (end - start) bs)
          ∙ chars-append (take start bs) m (IsUtf8-take bs start u first);
    }

-- what stands between two places of a text
pub record IsBetween (bs : List ℕ) (from to : ℕ) : Type 0 where
  pub first : ℕ
  pub second : ℕ
  pub first_is : first ≡ length (chars (take from bs))
  pub second_is : second ≡ length (chars (take to bs))
  pub text : slice_range (chars bs) first second ≡ chars (bytes_between bs from to)

cut_out : (a m c : List ℕ) → take (length (a ++ m) - length a) (drop (length a) (a ++ (m ++ c))) ≡ m
cut_out a m c =
    ap (take (length (a ++ m) - length a)) (drop_at a (m ++ c) (length a) refl)
    ∙ take_at m c (length (a ++ m) - length a) (omega (arith, length-append a m))

pub is_between : (bs : List ℕ) (from to : ℕ) → IsUtf8 bs → CanReplace bs from to
    → IsBetween bs from to
is_between bs from to u can =
    let k = around bs from to u can.order can.first can.second in
    let a = chars (take from bs) in
    let m = chars (bytes_between bs from to) in
    let c = chars (drop to bs) in
    record {
      first = length a;
      second = length (chars (take to bs));
      first_is = refl;
      second_is = refl;
      text =
          ap (λ (n : ℕ). slice_range (chars bs) (length a) n) (ap length k.chars_to)
          ∙ ap (λ (x : List ℕ). take (length (a ++ m) - length a) (drop (length a) x)) k.chars_are
          ∙ cut_out a m c;
    }

-- the bytes between two places, off the front up to the second
pub between_places : (bs : List ℕ) (from to : ℕ) (front : List ℕ) → front ≡ take to bs → from ≤ to
    → drop from front ≡ bytes_between bs from to
between_places bs from to front is le =
    let sum : to ≡ from + (to - from) = omega arith in
    ap (drop from) (is ∙ ap (λ (n : ℕ). take n bs) sum) ∙ drop-take from (to - from) bs

pub can_replace : (enc : Encoding) (bs : List ℕ) (span : Span) (first second : ℕ)
    → IsTextOffset enc bs span.first first → IsTextOffset enc bs span.second second
    → first ≤ second → CanReplace bs first second
can_replace enc bs span first second a b le =
    record { order = le; first = a.boundary; second = b.boundary }

-- the text in a span, as its bytes
pub held_bytes : (enc : Encoding) (bs : List ℕ) (span : Span) (first second : ℕ) → IsUtf8 bs
    → IsTextOffset enc bs span.first first → IsTextOffset enc bs span.second second
    → first ≤ second → chars (bytes_between bs first second) ≡ held_by enc (chars bs) span
held_bytes enc bs span first second u a b le =
    let k = is_between bs first second u (can_replace enc bs span first second a b le) in
    sym k.text
    ∙ ap (λ (n : ℕ). slice_range (chars bs) n k.second) k.first_is
    ∙ ap (λ (n : ℕ). slice_range (chars bs) (length (chars (take first bs))) n) k.second_is
    ∙ sym (ap (λ (x : Option ℕ). between x (place_of enc (chars bs) span.second) (chars bs)) a.place
    ∙ ap (λ (x : Option ℕ). between (Some (length (chars (take first bs)))) x (chars bs)) b.place)

-- ---- findings

-- the position past the end
pub past_found : (enc : Encoding) (t : List ℕ) (span : Span) (x y : Option Extent)
    (past : Option PastEnd) → x ≡ text_extent enc t span.first → y ≡ text_extent enc t span.second
    → past ≡ option_or (past_by span.first x) (past_by span.second y) → past ≡ past_of enc t span
past_found enc t span x y past e f p =
    p ∙ ap (λ v. option_or (past_by span.first v) (past_by span.second y)) e
    ∙ ap (λ v. option_or (past_by span.first (text_extent enc t span.first))
    (past_by span.second v)) f

-- all that the replacement of a span finds
pub all_found : (enc : Encoding) (bs : List ℕ) (span : Span) (first second : ℕ) (sent : Option ℤ)
    (first_extent second_extent : Option Extent) (past : Option PastEnd)
    (other : Option OtherLength) → IsUtf8 bs
    → IsTextOffset enc bs span.first first → IsTextOffset enc bs span.second second
    → first ≤ second → first_extent ≡ text_extent enc (chars bs) span.first
    → second_extent ≡ text_extent enc (chars bs) span.second
    → past ≡ option_or (past_by span.first first_extent) (past_by span.second second_extent)
    → other ≡ length_of enc (chars (bytes_between bs first second)) sent
    → (let f : Findings = record { past_end = past; range_length = other } in f)
    ≡ found_in enc (chars bs) span sent
all_found enc bs span first second sent x y past other u a b le e f p o =
    ap (λ z. let g : Findings = record { past_end = z; range_length = other } in g)
    (past_found enc (chars bs) span x y past e f p)
    ∙ ap (λ z. let g : Findings = record {
      past_end = past_of enc (chars bs) span;
      range_length = z;
    } in g)
    (o ∙ ap (λ t. length_of enc t sent) (held_bytes enc bs span first second u a b le))
