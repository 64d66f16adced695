-- What a lent line stands for.
use Rattle.std.specs.Prelude.{◌≡◌, ◌<◌, ◌≤◌, ◌-◌, ℕ, List, ◌++◌, length, take, drop}
use Rattle.std.specs.declared.option.Option.TheVariants.{None}
use Rattle.std.specs.Str.{chars, IsCharBoundary}
use Rattle.lsp_text.specs.Lines.{lines_of, line_at, text_of}
use Rattle.lsp_types.specs.declared.position.Encoding.{Encoding}
use Rattle.lsp_text.specs.Places.{place_in_line}
use Rattle.lsp_text.specs.Offsets.{IsOffset, IsAtLine}
use Rattle.lsp_lined.specs.Ends.{IsNear}
use Rattle.lsp_text.specs.Spans.{bytes_between}
use Rattle.lsp_lined.specs.Windows.{text_with, IsWindowed}
use Rattle.lsp_lined.specs.declared.lined.lines.LentLine.{LentLine}

-- the place that a column denotes in a line that begins at `start`, and that it denotes none
pub record IsOffsetFrom (enc : Encoding) (bs : List ℕ) (start end column offset : ℕ) : Type 0 where
  pub order : start ≤ offset
  pub in_line : IsOffset enc (bytes_between bs start end) column (offset - start)

abbrev pub NoOffsetFrom : Encoding → List ℕ → ℕ → ℕ → ℕ → Type 0
NoOffsetFrom enc bs start end column =
    place_in_line enc (chars (bytes_between bs start end)) column ≡ None

-- a line is in the text that is held, and some of it is near by
pub record IsHeldLine (l : LentLine) : Type 0 where
  pub held : IsWindowed l.held.now
  pub order : l.start ≤ l.end
  pub start : IsCharBoundary (text_with l.held.now) l.start
  pub end : IsCharBoundary (text_with l.held.now) l.end
  pub near : IsNear (drop l.start (text_with l.held.now)) l.near.now l.is_plain

-- its bytes, without its end
abbrev pub line_of : LentLine → List ℕ
line_of l = bytes_between (text_with l.held.now) l.start l.end

abbrev pub IsOffsetIn : Encoding → LentLine → ℕ → ℕ → Type 0
IsOffsetIn enc l column offset = IsOffsetFrom enc (text_with l.held.now) l.start l.end column offset

abbrev pub NoOffsetIn : Encoding → LentLine → ℕ → Type 0
NoOffsetIn enc l column = NoOffsetFrom enc (text_with l.held.now) l.start l.end column

-- line `i` of a text: where it begins, where its end begins, where that ends, and the text that is
-- held
pub record IsLentLine (bs : List ℕ) (i : ℕ) (l : LentLine) : Type 0 where
  pub held : IsHeldLine l
  pub text : text_with l.held.now ≡ bs
  pub number : i < length (lines_of (chars bs))
  pub at : IsAtLine bs i l.start (drop l.start bs)
  pub end_order : l.end ≤ l.after
  pub after : IsCharBoundary bs l.after
  pub line : line_at i (chars bs) ≡ record {
    text = chars (bytes_between bs l.start l.end);
    end = chars (bytes_between bs l.end l.after);
  }

-- where the end of line `i` begins, and where it ends
pub record IsEndOf (bs : List ℕ) (i first last : ℕ) : Type 0 where
  pub order : first ≤ last
  pub end : IsCharBoundary bs first
  pub after : IsCharBoundary bs last
  pub end_is : (line_at i (chars bs)).end ≡ chars (bytes_between bs first last)
  pub front : chars (take first bs)
      ≡ text_of (take i (lines_of (chars bs))) ++ (line_at i (chars bs)).text
