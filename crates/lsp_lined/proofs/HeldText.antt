-- What the sums of a held text say of it.
use Rattle.std.proofs.Common.{◌≡◌, ◌<◌, ◌≤◌, ◌+◌, ◌-◌, ◌^◌, ℕ, true, List, [], length, drop}
use Rattle.std.proofs.Common.{min, refl, sym, ap, subst, ◌∙◌, arith}
use Rattle.std.specs.Str.{chars, IsUtf8, IsCharBoundary}
use Rattle.std.proofs.lemmas.Str.{chars-nil, IsUtf8-nil}
use Rattle.lsp_types.specs.declared.position.Position.{Position}
use Rattle.lsp_text.specs.Lines.{lines_of}
use Rattle.lsp_text.specs.Offsets.{IsAtLine}
use Rattle.lsp_lined.specs.Ends.{ends_in, IsNear, IsLineEnd}
use Rattle.lsp_lined.specs.Sums.{sums_of}
use Rattle.lsp_lined.specs.Steps.{line_number}
use Rattle.lsp_lined.specs.Windows.{pieces_of, text_with, IsWindowed}
use Rattle.lsp_lined.specs.LentLines.{IsEndOf, IsHeldLine, IsLentLine}
use Rattle.lsp_lined.specs.declared.lined.window.Windowed.{Windowed}
use Rattle.lsp_lined.specs.declared.sums.Sums.{Sums}
use Rattle.lsp_lined.specs.declared.part.LineEnd.{LineEnd}
use Rattle.lsp_lined.specs.declared.lined.lines.LentLine.{LentLine}
use Rattle.lsp_lined.proofs.EndCounts.{lines_counted, sums_at_most}
use Rattle.lsp_lined.proofs.Parts.{IsUtf8-joined}
use Rattle.lsp_lined.proofs.EndsInLines.{at_line, end_of_line, last_end, line_between}

-- a text that is held, and its sums
pub record Holds (s : Sums) (bs : List ℕ) : Type 0 where
  pub utf8 : IsUtf8 bs
  pub ends : s.ends ≡ ends_in bs
  pub bytes : s.bytes ≡ length bs
  pub lines : length (lines_of (chars bs)) ≡ s.ends + 1
  pub most : s.ends ≤ s.bytes
  pub fits : s.bytes < 2 ^ 64 - 1

pub holds : (w : Windowed) (bs : List ℕ) → IsWindowed w → text_with w ≡ bs → Holds w.sums bs
holds w bs k is =
    let s = w.sums in
    let u : IsUtf8 bs = subst IsUtf8 is (IsUtf8-joined (pieces_of w) k.parts) in
    let counted : s ≡ sums_of bs = k.sums ∙ ap sums_of is in
    let ends : s.ends ≡ ends_in bs = ap (λ (x : Sums). x.ends) counted in
    let bytes : s.bytes ≡ length bs = ap (λ (x : Sums). x.bytes) counted in
    record {
      utf8 = u;
      ends = ends;
      bytes = bytes;
      lines = lines_counted bs u ∙ ap (λ (n : ℕ). n + 1) (sym ends);
      most = omega (arith, (sums_at_most bs u).ends);
      fits = omega (arith, k.fits, ap length is);
    }

pub number_held : (s : Sums) (bs : List ℕ) (p : Position) (n : ℕ) → Holds s bs
    → n ≡ min p.line s.ends → n ≡ line_number (chars bs) p
number_held s bs p n h is =
    is ∙ ap (min p.line) (let e : s.ends ≡ length (lines_of (chars bs)) - 1 =
    omega (arith, h.lines) in e)

pub end_of_last : (s : Sums) (bs : List ℕ) (i : ℕ) → Holds s bs → i ≡ s.ends
    → IsEndOf bs i s.bytes s.bytes
end_of_last s bs i h is =
    subst (λ (n : ℕ). IsEndOf bs i n n) (sym h.bytes)
    (subst (λ (n : ℕ). IsEndOf bs n (length bs) (length bs)) (sym (is ∙ h.ends))
    (last_end bs h.utf8))

-- the end of a line, found in the text
pub end_in : (bs whole : List ℕ) (i : ℕ) (e : LineEnd) → IsUtf8 bs → whole ≡ bs
    → IsLineEnd whole i e → IsEndOf bs i e.at e.after
end_in bs whole i e u is h = end_of_line bs i e u (subst (λ (x : List ℕ). IsLineEnd x i e) is h)

-- the line after it
pub line_behind : (bs whole : List ℕ) (i : ℕ) (e : LineEnd) → IsUtf8 bs → whole ≡ bs → 0 < i
    → IsLineEnd whole (i - 1) e → IsAtLine bs i e.after (drop e.after bs)
line_behind bs whole i e u is some h =
    let n : i - 1 + 1 ≡ i = omega arith in
    subst (λ (k : ℕ). IsAtLine bs k e.after (drop e.after bs)) n
    (at_line bs (i - 1) e u (subst (λ (x : List ℕ). IsLineEnd x (i - 1) e) is h))

pub near_behind : (bs whole : List ℕ) (n : ℕ) (e : LineEnd) → whole ≡ bs → IsLineEnd whole n e
    → IsNear (drop e.after bs) e.rest.now e.is_plain
near_behind bs whole n e is h = (subst (λ (x : List ℕ). IsLineEnd x n e) is h).near

pub near_none : (bs : List ℕ) → IsNear bs [] true
near_none bs = record {
  utf8 = IsUtf8-nil;
  more = bs;
  begins = refl;
  plain = λ p. ap length chars-nil;
}

pub lent : (w : Windowed) (bs : List ℕ) (i : ℕ) (l : LentLine) → IsWindowed w → text_with w ≡ bs
    → l.held.now ≡ w → i < length (lines_of (chars bs)) → IsAtLine bs i l.start (drop l.start bs)
    → IsNear (drop l.start bs) l.near.now l.is_plain → IsEndOf bs i l.end l.after → IsLentLine bs i l
lent w bs i l h is same number at near end =
    let u : IsUtf8 bs = (holds w bs h is).utf8 in
    let between = line_between bs i l.start l.end l.after u at end in
    let text : text_with l.held.now ≡ bs = ap text_with same ∙ is in
    let held : IsHeldLine l =
    record {
      held = subst IsWindowed (sym same) h;
      order = between.order;
      start = subst (λ (x : List ℕ). IsCharBoundary x l.start) (sym text) at.boundary;
      end = subst (λ (x : List ℕ). IsCharBoundary x l.end) (sym text) end.end;
      near = subst (λ (x : List ℕ). IsNear (drop l.start x) l.near.now l.is_plain) (sym text) near;
    } in
    record {
      held = held;
      text = text;
      number = number;
      at = at;
      end_order = end.order;
      after = end.after;
      line = between.line;
    }
