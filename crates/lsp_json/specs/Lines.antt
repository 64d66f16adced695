-- The lines of a report as JSON: an object for each line, in the order of the lines. A No and a bad
-- log have the line behind them, which says what is wrong, in their object.
use Rattle.std.specs.Prelude.{ℕ, Bool, true, false, ◌||◌, not, List, [], ◌∷◌, ◌++◌, flat_map, codes}
use Rattle.std.specs.Prelude.{Option, Some, None, if◌then◌else◌}
use Rattle.std.specs.Borrow.{Bor}
use Rattle.std.specs.Str.{bytes_eq}
use Rattle.std.specs.Str.Lines.{lines}
use Rattle.json.specs.Print.{quoted}
use Rattle.lsp_json.specs.Fields.{fields_of, fit}
use Rattle.lsp_json.specs.Members.{member, members_of}
use Rattle.lsp_json.specs.Words.{Words, words_in}

-- ---- rows

-- what a line is, and the pattern of its words
abbrev pub Row : Type 0
Row = List ℕ × List ℕ

abbrev pub row_view : Bor (List ℕ) × Bor (List ℕ) → Row
row_view row = (row.0.now, row.1.now)

-- the first row whose pattern takes all words
abbrev pub row_for : List Row → Words → Option Row
row_for [] words = None
row_for (row ∷ others) words =
    if fit (fields_of row.1) words then Some row else row_for others words

-- the line behind such a line says what is wrong
abbrev pub has_text : Option Row → Bool
has_text None = false
has_text (Some row) = bytes_eq row.0 (codes "no") || bytes_eq row.0 (codes "bad log")

-- ---- objects

-- the beginning of an object: what its line is
abbrev pub is_front : List ℕ → List ℕ
is_front is = codes "{\"is\":" ++ quoted is

-- an object up to its end: what the line is, and the members of its words; a line that no row takes
-- is a text
abbrev pub front : Option Row → Words → List ℕ → List ℕ
front None words line = is_front (codes "line") ++ member (codes "text", quoted line)
front (Some row) words line = is_front row.0 ++ flat_map member (members_of (fields_of row.1) words)

-- the end of an object, and LF, unless its text comes next
abbrev pub end_unless : Bool → List ℕ
end_unless true = []
end_unless false = 125 ∷ 10 ∷ []

-- the object of a line; its end comes after the text, if it has one
abbrev pub object_by : List Row → List ℕ → List ℕ
object_by table line = let row = row_for table (words_in line) in
    front row (words_in line) line ++ end_unless (has_text row)

-- the text of an object, and its end
abbrev pub text_json : List ℕ → List ℕ
text_json line = member (codes "text", quoted line) ++ end_unless false

-- what a line becomes, which may be the text of an object
abbrev pub line_by : List Row → Bool → List ℕ → List ℕ
line_by table true line = text_json line
line_by table false line = object_by table line

abbrev pub awaits_text : List Row → Bool → List ℕ → Bool
awaits_text table true line = false
awaits_text table false line = has_text (row_for table (words_in line))

-- what these lines become, the first of which may be the text of an object
abbrev pub json_from : List Row → Bool → List (List ℕ) → List ℕ
json_from table is_text [] = end_unless (not is_text)
json_from table is_text (line ∷ others) =
    line_by table is_text line ++ json_from table (awaits_text table is_text line) others

-- **a report as JSON**: an object for each of its lines, by these rows
abbrev pub json_by : List Row → List ℕ → List ℕ
json_by table report = json_from table false (lines report)
