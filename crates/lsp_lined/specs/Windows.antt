-- A text in chunks, of which a window holds some bytes in another form.
use Rattle.std.specs.Prelude.{◌≡◌, ◌<◌, ◌≤◌, ◌+◌, ◌-◌, ◌^◌, ℕ, Bool, true, false, List, [], ◌∷◌}
use Rattle.std.specs.Prelude.{length, take, drop}
use Rattle.std.specs.List.{replace_range}
use Rattle.std.specs.Str.{IsUtf8}
use Rattle.lsp_lined.specs.Sums.{sums_of}
use Rattle.lsp_lined.specs.Parts.{joined, AreParts, IsSeam}
use Rattle.lsp_text.specs.Spans.{CanReplace, bytes_between}
use Rattle.lsp_lined.specs.Patches.{AreSameEndsOf}
use Rattle.lsp_lined.specs.declared.part.LineEnd.{LineEnd}
use Rattle.lsp_lined.specs.declared.lined.window.Windowed.{Windowed}

-- the first bytes of the chunks, the window, and the last bytes of the chunks
abbrev pub pieces_of : Windowed → List (List ℕ)
pieces_of w = take w.before.bytes w.tree ∷ w.window ∷ drop w.skipped.bytes w.tree ∷ []

-- the text that they make
abbrev pub text_with : Windowed → List ℕ
text_with w = joined (pieces_of w)

-- the window is for bytes of the chunks that may be cut out, begins and ends as they do, and all
-- sums are known
pub record IsWindowed (w : Windowed) : Type 0 where
  pub order : w.before.bytes ≤ w.skipped.bytes
  pub first : IsSeam w.tree w.before.bytes
  pub second : IsSeam w.tree w.skipped.bytes
  pub utf8 : IsUtf8 w.tree
  pub before : w.before ≡ sums_of (take w.before.bytes w.tree)
  pub skipped : w.skipped ≡ sums_of (take w.skipped.bytes w.tree)
  pub parts : AreParts (pieces_of w)
  pub sums : w.sums ≡ sums_of (text_with w)
  pub ends : AreSameEndsOf (bytes_between w.tree w.before.bytes w.skipped.bytes) w.window
      w.same_front w.same_back
  pub tree_fits : length w.tree < 2 ^ 64
  pub fits : length (text_with w) < 2 ^ 64 - 1

-- a text may replace some bytes of the text that is held
pub record CanEdit (w : Windowed) (from to : ℕ) (text : List ℕ) : Type 0 where
  pub held : IsWindowed w
  pub can : CanReplace (text_with w) from to
  pub fits : length (text_with w) + length text < 2 ^ 64 - 1

-- it holds a text
pub record HoldsText (w : Windowed) (bs : List ℕ) : Type 0 where
  pub held : IsWindowed w
  pub text : text_with w ≡ bs

-- it holds the text with some bytes replaced, or the text as it was
abbrev pub HoldsTextOr : List ℕ → ℕ → ℕ → List ℕ → Windowed → Bool → Type 0
HoldsTextOr bs from to text w true = HoldsText w (replace_range bs from to text)
HoldsTextOr bs from to text w false = HoldsText w bs

-- it holds another text, or the text as it was
abbrev pub HoldsRenewedOr : List ℕ → List ℕ → Windowed → Bool → Type 0
HoldsRenewedOr bs text w true = HoldsText w text
HoldsRenewedOr bs text w false = HoldsText w bs

-- there is no window
pub record IsClosed (w : Windowed) : Type 0 where
  pub before : w.before.bytes ≡ 0
  pub skipped : w.skipped.bytes ≡ 0
  pub window : w.window ≡ []

-- a line end where this many bytes more, or fewer, come before it
abbrev pub moved_end : ℕ → LineEnd → LineEnd
moved_end n e = record { at = n + e.at; after = n + e.after; rest = e.rest; is_plain = e.is_plain }

abbrev pub nearer_end : ℕ → LineEnd → LineEnd
nearer_end n e = record { at = e.at - n; after = e.after - n; rest = e.rest; is_plain = e.is_plain }
