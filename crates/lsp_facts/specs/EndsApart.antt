-- In which line ends two texts differ, where they differ in these alone.
use Rattle.std.specs.Prelude.{List, [], ◌∷◌, ◌++◌, ◌==◌, ◌&&◌, ◌||◌, Bool, not, length, map, filter}
use Rattle.std.specs.Prelude.{Option, Some, None, codes, if◌then◌else◌}
use Rattle.std.specs.Bool.{then_some}
use Rattle.std.specs.List.{list_all}
use Rattle.std.specs.Str.{bytes_eq, chars}
use Rattle.lsp_text.specs.Lines.{Line, lines_of}
use Rattle.lsp_text.specs.SameText.{is_nothing}
use Rattle.lsp_docs.specs.Calls.{Text}
use Rattle.lsp_verdict.specs.Report.{line}
use Rattle.lsp_facts.specs.Fact.{Fact, quoted_text, spaced}
use Rattle.lsp_facts.specs.declared.ends.Conversion as code

-- ---- of which kinds they are

-- the line ends of a text, in order
abbrev pub ends_in : Text → List Text
ends_in t = filter (λ e. not (is_nothing e)) (map (λ (l : Line). l.end) (lines_of t))

-- the line ends of one text and those that another has in their place
pub record Conversion : Type 0 where
  pub from : Text
  pub to : Text

abbrev pub conversion_view : code.Conversion → Conversion
conversion_view c = record { from = chars c.from.now; to = chars c.to.now }

-- each of these is `from`, each of those is `to`, and there are as many
abbrev pub are_converted : Text → Text → List Text → List Text → Bool
are_converted from to es fs =
    length es == length fs && (list_all (bytes_eq from) es && list_all (bytes_eq to) fs)

-- **the kinds of two texts' line ends, where each text has one kind, as often as the other**
abbrev pub conversion_of : List Text → List Text → Option Conversion
conversion_of (e ∷ es) (f ∷ fs) =
    then_some (are_converted e f es fs) (record { from = e; to = f })
conversion_of _ _ = None

-- ---- the end of a text

-- CR LF, LF or CR
abbrev pub is_end : Text → Bool
is_end t = bytes_eq t (13 ∷ 10 ∷ []) || (bytes_eq t (10 ∷ []) || bytes_eq t (13 ∷ []))

-- a text without the line end at its very end, where it has one
abbrev pub without_last : Text → Text
without_last [] = []
without_last (c ∷ cs) = if is_end (c ∷ cs) then [] else c ∷ without_last cs

-- ---- what is said

abbrev pub converts : Text → Text → Fact
converts from to =
    codes "ends converted" ++ spaced (quoted_text from) ++ spaced (quoted_text to) ++ 10 ∷ []

-- but for the line end at the very end they are the same
abbrev pub differ_last : Text → Text → Bool
differ_last t other = bytes_eq (without_last t) (without_last other)

abbrev pub last_or_mixed : Text → Text → Fact
last_or_mixed t other =
    if differ_last t other
    then line (codes "ends" ∷ codes "last" ∷ []) else line (codes "ends" ∷ codes "mixed" ∷ [])

abbrev pub ends_by : Option Conversion → Text → Text → Fact
ends_by None t other = last_or_mixed t other
ends_by (Some c) t other = converts c.from c.to

-- **in which line ends two texts differ**: all of one kind are of another, or only the last one
-- differs, or neither
abbrev pub ends_apart : Text → Text → Fact
ends_apart t other = ends_by (conversion_of (ends_in t) (ends_in other)) t other
