-- How far a text goes where a position lies past its end, and the units of lines and of spans.
use Rattle.std.proofs.Common.{◌≡◌, ◌<◌, ◌≤◌, ◌+◌, ◌-◌, ℕ, true, List, [], ◌∷◌, length, take, drop}
use Rattle.std.proofs.Common.{Option, Some, None, sym, ap, ◌∙◌, arith, ⊎_elim}
use Rattle.std.proofs.lemmas.Bool.{cond-false, le-ltb}
use Rattle.std.proofs.lemmas.List.{take-append-drop, take_all, drop_more}
use Rattle.std.specs.List.{slice_get}
use Rattle.std.specs.Str.{chars}
use Rattle.lsp_types.specs.declared.position.Encoding.{Encoding}
use Rattle.lsp_types.specs.declared.position.Encoding.TheVariants.{Utf8}
use Rattle.lsp_types.specs.declared.position.Position.{Position}
use Rattle.lsp_text.specs.Lines.{Line, lines_of, line_at, open_line}
use Rattle.lsp_text.specs.Places.{units}
use Rattle.lsp_lined.specs.Steps.{line_number}
use Rattle.lsp_text.specs.Spans.{bytes_between}
use Rattle.lsp_lined.specs.Windows.{text_with}
use Rattle.lsp_lined.specs.LentLines.{IsHeldLine, IsLentLine, IsOffsetIn, line_of}
use Rattle.lsp_text.specs.Findings.{extent_of, extent_at, text_extent}
use Rattle.lsp_text.specs.declared.findings.Extent.{Extent}
use Rattle.lsp_text.specs.declared.findings.Extent.TheVariants.{Lines}
use Rattle.lsp_lined.specs.declared.lined.lines.LentLine.{LentLine}
use Rattle.lsp_text.proofs.Counting.{units-append, units-utf8_text}
use Rattle.lsp_text.proofs.Denoting.{place_in_line-sound}
use Rattle.lsp_text.proofs.Spans.{IsAround, around}
use Rattle.lsp_lined.proofs.LentPlaces.{held_utf8, near_in}
use Rattle.lsp_lined.proofs.PlainTexts.{plain_units}
use Rattle.lsp_text.proofs.Positions.{slice_get-past, slice_get-drop}
use Rattle.lsp_text.proofs.Widths.{is_front}

-- ---- columns of a lent line

part_units : (enc : Encoding) (cs : List ℕ) (k : ℕ) → units enc (take k cs) ≤ units enc cs
part_units enc cs k =
    omega (
      arith,
      ap (units enc) (take-append-drop k cs),
      units-append enc (take k cs) (drop k cs),
    )

around_held : (l : LentLine) → IsHeldLine l → IsAround (text_with l.held.now) l.start l.end
around_held l h = around (text_with l.held.now) l.start l.end (held_utf8 l h) h.order h.start h.end

-- before the end of a line no column is greater than its units
pub before_end : (enc : Encoding) (l : LentLine) (column offset : ℕ) → IsHeldLine l
    → IsOffsetIn enc l column offset → offset < l.end → column ≤ units enc (chars (line_of l))
before_end enc l column offset h o lt =
    let m = line_of l in
    let a = around_held l h in
    let j = offset - l.start in
    let k = length (chars (take j m)) in
    let b = place_in_line-sound enc (chars m) column k o.in_line.place in
    let f = is_front m j a.utf8 o.in_line.boundary in
    let order : l.start ≤ offset = o.order in
    ⊎_elim
    (λ p.
    let whole : take k (chars m) ≡ chars m = take_all k (chars m) (omega (arith, p.1)) in
    let bytes : units Utf8 (chars m) ≡ j =
    ap (units Utf8) (sym whole ∙ f.front) ∙ f.bytes in
    absurd (omega (arith, bytes, units-utf8_text m a.utf8, a.len)))
    (λ q. omega (arith, q, part_units enc (chars m) k))
    b.column_is

pub not_past : (width column : ℕ) → column ≤ width → None ≡ extent_of width column
not_past width column le = sym (cond-false _ _ _ (le-ltb width column le))

pub plain_width : (enc : Encoding) (l : LentLine) → IsHeldLine l
    → l.end - l.start ≤ length l.near.now → l.is_plain ≡ true
    → l.end - l.start ≡ units enc (chars (line_of l))
plain_width enc l h within p =
    let a = around_held l h in
    sym (plain_units enc (line_of l) a.utf8 ((near_in l h within).plain p) ∙ a.len)

pub far_units : (enc : Encoding) (l : LentLine) (before through : ℕ) → IsHeldLine l
    → before ≡ units enc (chars (take l.start (text_with l.held.now)))
    → through ≡ units enc (chars (take l.end (text_with l.held.now)))
    → through ≡ before + units enc (chars (line_of l))
far_units enc l before through h b t =
    omega (
      arith,
      b,
      t,
      ap (units enc) (around_held l h).chars_to,
      units-append enc (chars (take l.start (text_with l.held.now))) (chars (line_of l)),
    )

-- ---- positions

pub extent_past_last : (enc : Encoding) (bs : List ℕ) (p : Position) (n count : ℕ)
    → n ≡ line_number (chars bs) p → n < p.line → count ≡ length (lines_of (chars bs))
    → Some (Lines count) ≡ text_extent enc (chars bs) p
extent_past_last enc bs p n count is lt c =
    let ls = lines_of (chars bs) in
    let short : length ls ≤ p.line = omega arith in
    let some : ℕ → Option Extent = λ m. Some (Lines m) in
    ap some c ∙ sym (ap (extent_at enc (length ls) p.column) (slice_get-past ls p.line short))

pub extent_in_lent : (enc : Encoding) (bs : List ℕ) (p : Position) (i : ℕ) (l : LentLine)
    (e : Option Extent) → IsLentLine bs i l → i ≡ p.line
    → e ≡ extent_of (units enc (chars (line_of l))) p.column → e ≡ text_extent enc (chars bs) p
extent_in_lent enc bs p i l e h at is =
    let ls = lines_of (chars bs) in
    let here : drop i ls ≡ line_at i (chars bs) ∷ drop (i + 1) ls =
    drop_more ls i (open_line []) h.number in
    let got : slice_get ls p.line ≡ Some (line_at i (chars bs)) =
    ap (slice_get ls) (sym at) ∙ slice_get-drop ls i (line_at i (chars bs)) (drop (i + 1) ls) here in
    let text : (line_at i (chars bs)).text ≡ chars (line_of l) =
    ap (λ (x : Line). x.text) h.line
    ∙ ap (λ (x : List ℕ). chars (bytes_between x l.start l.end)) (sym h.text) in
    is
    ∙ ap (λ (x : List ℕ). extent_of (units enc x) p.column) (sym text)
    ∙ sym (ap (extent_at enc (length ls) p.column) got)
