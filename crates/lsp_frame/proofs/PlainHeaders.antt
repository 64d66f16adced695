-- The header part of one field `Content-Length: ` and digits.
use Rattle.std.proofs.Common.{◌≡◌, ℕ, ◌+◌, ◌<◌, ◌≤◌, true, List, ◌++◌, length, take, Ok, sym, ap, subst, ◌∙◌, append_assoc, arith}
use Rattle.std.specs.Prelude.{codes}
use Rattle.std.specs.List.{list_all, prefix_len}
use Rattle.std.specs.Char.{is_ascii_digit}
use Rattle.std.specs.Str.Parse.{digits_value}
use Rattle.std.proofs.lemmas.List.{length-append, length-take, take_at, take-take}
use Rattle.lsp_frame.specs.Bounds.{Bounds}
use Rattle.lsp_frame.specs.Header.{blank_line, Says}
use Rattle.lsp_frame.specs.Frame.{IsHeader}
use Rattle.lsp_frame.specs.Start.{StartsWithHeader}
use Rattle.lsp_frame.specs.declared.start.FrameSize.{FrameSize}
use Rattle.lsp_frame.proofs.Fields.{passes-prefix}
use Rattle.lsp_frame.proofs.Canonical.{length_header, header_part, header_says}

-- the decimal digits in front are decimal digits
pub digits_pass : (bytes digits : List ℕ) (n : ℕ) → n ≡ prefix_len is_ascii_digit bytes → digits ≡ take n bytes → list_all is_ascii_digit digits ≡ true
digits_pass bytes digits n all front = ap (list_all is_ascii_digit) (front ∙ ap (λ (k : ℕ). take k bytes) all) ∙ passes-prefix is_ascii_digit bytes

-- digits that write a length within the limits
pub record IsLength (limits : Bounds) (digits : List ℕ) (n : ℕ) : Type 0 where
  pub all : list_all is_ascii_digit digits ≡ true
  pub some : 0 < length digits
  pub short : length digits ≤ 10
  pub value : digits_value 10 digits ≡ n
  pub within : n ≤ limits.content

-- such a header part, and whatever stands behind it
pub plain_starts : (limits : Bounds) (bytes digits rest after : List ℕ) (n : ℕ) → 64 ≤ limits.header → bytes ≡ codes "Content-Length: " ++ (digits ++ rest) → rest ≡ blank_line ++ after → IsLength limits digits n
    → StartsWithHeader limits bytes (record { header = 20 + length digits; content = n })
plain_starts limits bytes digits rest after n room whole behind said =
    let parts : bytes ≡ length_header digits ++ after =
    whole ∙ ap (λ (w : List ℕ). codes "Content-Length: " ++ (digits ++ w)) behind
    ∙ sym (append_assoc (codes "Content-Length: ") digits (blank_line ++ after))
    ∙ sym (append_assoc (codes "Content-Length: " ++ digits) blank_line after)
    in
    let len : length (length_header digits) ≡ 20 + length digits = omega (arith, length-append (codes "Content-Length: " ++ digits) blank_line, length-append (codes "Content-Length: ") digits) in
    let front : take (20 + length digits) bytes ≡ length_header digits = ap (take (20 + length digits)) parts ∙ take_at (length_header digits) after (20 + length digits) len in
    record {
      fits = omega (arith, ap length parts, length-append (length_header digits) after, len);
      part = subst (λ (w : List ℕ). IsHeader limits w) (sym front) (header_part limits digits room said.short said.all);
      says = subst (λ (w : List ℕ). Says limits w (Ok n)) (sym front) (header_says limits digits n said.all said.some said.short said.value said.within);
    }

-- what stands in front of the first bytes stands in front of all
pub near_starts : (limits : Bounds) (bytes : List ℕ) (k : ℕ) (size : FrameSize) → StartsWithHeader limits (take k bytes) size → StartsWithHeader limits bytes size
near_starts limits bytes k size starts =
    let fits = starts.fits in
    let same : take size.header (take k bytes) ≡ take size.header bytes = take-take size.header k bytes (omega (arith, fits, length-take k bytes)) in
    record {
      fits = omega (arith, fits, length-take k bytes);
      part = subst (λ (w : List ℕ). IsHeader limits w) same starts.part;
      says = subst (λ (w : List ℕ). Says limits w (Ok size.content)) same starts.says;
    }
