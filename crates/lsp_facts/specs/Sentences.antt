-- What the lines that are said about an event mean together, in one plain sentence, and whose fault
-- that usually is.
use Rattle.std.specs.Prelude.{ℕ, List, [], ◌∷◌, ◌++◌, ◌&&◌, ◌==◌, Bool, Option, Some, None}
use Rattle.std.specs.Prelude.{codes, if◌then◌else◌, option_map, unwrap_or}
use Rattle.std.specs.Borrow.{Bor}
use Rattle.std.specs.List.{list_any, starts_with}
use Rattle.json.specs.Print.{quoted}
use Rattle.lsp_verdict.specs.Report.{line}

-- how two lines begin that are said about an event, and what is said of both
pub record Row : Type 0 where
  pub one : List ℕ
  pub other : List ℕ
  pub sentence : List ℕ

abbrev pub says : List ℕ → List ℕ → List ℕ → Row
says one other sentence = record { one = one; other = other; sentence = sentence }

abbrev pub row_view : Bor (List ℕ) × Bor (List ℕ) × Bor (List ℕ) → Row
row_view row = record { one = row.0.now; other = row.1.now; sentence = row.2.now }

-- some line begins so
abbrev pub has_line : List (List ℕ) → List ℕ → Bool
has_line lines front = list_any (λ fact. starts_with (λ a b. a == b) fact front) lines

abbrev pub holds : Row → List (List ℕ) → Bool
holds row lines = has_line lines row.one && has_line lines row.other

-- the first row both of whose lines are said
abbrev pub row_for : List Row → List (List ℕ) → Option Row
row_for [] lines = None
row_for (row ∷ others) lines = if holds row lines then Some row else row_for others lines

-- ---- the sentence

-- **the sentences**, each after how the two lines begin that it is said of; any line begins with
-- nothing
unfoldable pub rows : List Row
rows =
    says (codes "offset-encoding utf-8\n") (codes "fits utf-8")
    (codes "The editor seems to count columns in utf-8, which only the older offsetEncoding names.")
    ∷ says (codes "offset-encoding utf-16\n") (codes "fits utf-16")
    (codes "The editor seems to count columns in utf-16, which only the older offsetEncoding names.")
    ∷ says (codes "offset-encoding utf-32\n") (codes "fits utf-32")
    (codes "The editor seems to count columns in utf-32, which only the older offsetEncoding names.")
    ∷ says (codes "offset-encoding utf-16\n") (codes "fits utf-8 utf-16\n")
    (codes "The editor seems to count columns in utf-16, which only the older offsetEncoding names.")
    ∷ says (codes "offset-encoding utf-32\n") (codes "fits utf-8 utf-32\n")
    (codes "The editor seems to count columns in utf-32, which only the older offsetEncoding names.")
    ∷ says (codes "offset-encoding utf-32\n") (codes "fits utf-16 utf-32\n")
    (codes "The editor seems to count columns in utf-32, which only the older offsetEncoding names.")
    ∷ says (codes "fits utf-8\n") (codes "inside ")
    (codes "The editor may split a character, or count columns in utf-8, which was not agreed.")
    ∷ says (codes "fits utf-16\n") (codes "inside ")
    (codes "The editor may split a character, or count columns in utf-16, which was not agreed.")
    ∷ says (codes "fits utf-32\n") (codes "inside ")
    (codes "The editor may split a character, or count columns in utf-32, which was not agreed.")
    ∷ says (codes "fits ") (codes "inside ")
    (codes "The editor may split a character, or count columns in another encoding than the agreed one.")
    ∷ says (codes "fits utf-8\n") (codes "encoding utf-16\n")
    (codes "The editor seems to count columns in utf-8; utf-16 was agreed.")
    ∷ says (codes "fits utf-8\n") (codes "encoding utf-32\n")
    (codes "The editor seems to count columns in utf-8; utf-32 was agreed.")
    ∷ says (codes "fits utf-16\n") (codes "encoding utf-8\n")
    (codes "The editor seems to count columns in utf-16; utf-8 was agreed.")
    ∷ says (codes "fits utf-16\n") (codes "encoding utf-32\n")
    (codes "The editor seems to count columns in utf-16; utf-32 was agreed.")
    ∷ says (codes "fits utf-32\n") (codes "encoding utf-8\n")
    (codes "The editor seems to count columns in utf-32; utf-8 was agreed.")
    ∷ says (codes "fits utf-32\n") (codes "encoding utf-16\n")
    (codes "The editor seems to count columns in utf-32; utf-16 was agreed.")
    ∷ says (codes "fits ") []
    (codes "The editor seems to count columns in another encoding than the agreed one.")
    ∷ says (codes "lines-by lf\n") []
    (codes "The editor seems to end lines at LF alone; LSP ends them at CR, too.")
    ∷ says (codes "lines-by ecmascript\n") []
    (codes "The editor seems to end lines at U+2028 and U+2029, too; LSP does not.")
    ∷ says (codes "lines-by python\n") []
    (codes "The editor seems to split lines like Python's splitlines; LSP has fewer line ends.")
    ∷ says (codes "at-once ") []
    (codes "The editor may compute all ranges of a message against the text before that message.")
    ∷ says (codes "exchanged ") []
    (codes "The editor may have sent two messages in the wrong order.")
    ∷ says (codes "without ") [] (codes "The editor may have sent a change that it did not make.")
    ∷ says (codes "ends converted ") []
    (codes "Only line ends differ: each is written in another way.")
    ∷ says (codes "ends last\n") [] (codes "Only the line end at the very end differs.")
    ∷ says (codes "ends mixed\n") [] (codes "Only line ends differ.")
    ∷ says (codes "right-from ") []
    (codes "The last messages seem right; an earlier one is wrong, or a change was never sent.")
    ∷ says (codes "suspects 0\n") (codes "saved ")
    (codes "The text may have changed without a message, or another text may have been saved.")
    ∷ says (codes "suspects 0\n") []
    (codes "The text may have changed without a message, or the snapshot may be of another moment.")
    ∷ says (codes "suspects 1\n") (codes "equal ")
    (codes "Either one message is wrong, or one change was never sent.")
    ∷ says (codes "header-ends lf\n") []
    (codes "A header line ends with LF alone; it must end with CR LF.")
    ∷ says (codes "counts ") []
    (codes "Content-Length seems to count characters; it must count bytes.")
    ∷ says (codes "whole ") [] (codes "Content-Length is smaller than the content.")
    ∷ says (codes "same ") [] (codes "The editor sent the same changes twice.")
    ∷ says (codes "precedes ") []
    (codes "The editor seems to have sent two messages in the wrong order.")
    ∷ says (codes "saved-as ") (codes "closed ")
    (codes "The editor closed this document, saved it later, and did not open it again.")
    ∷ says (codes "saved-as ") []
    (codes "The editor saved a document under this name, and did not open it.")
    ∷ says (codes "similar ") [] (codes "A document is open under another spelling of this URI.")
    ∷ says (codes "opened never\n") [] (codes "The document was never opened.")
    ∷ says (codes "open ") []
    (codes "The id is a text where that of the request is a number, or the reverse.")
    ∷ says (codes "asked ") []
    (codes "The id was used again before the first request was answered.")
    ∷ says (codes "answered ") [] (codes "The request was answered before.") ∷ []

abbrev pub so_line : Option Row → List ℕ
so_line None = []
so_line (Some row) = line (codes "so" ∷ quoted row.sentence ∷ [])

-- **the sentence for these lines**, if a row has one
abbrev pub so_lines : List (List ℕ) → List ℕ
so_lines lines = so_line (row_for rows lines)

-- ---- whose fault it usually is

-- **those whose fault it is, whatever the rule**, in the same way
unfoldable pub blames : List Row
blames =
    says (codes "offset-encoding utf-8\n") (codes "fits utf-8") (codes "outside")
    ∷ says (codes "offset-encoding utf-16\n") (codes "fits utf-16") (codes "outside")
    ∷ says (codes "offset-encoding utf-32\n") (codes "fits utf-32") (codes "outside")
    ∷ says (codes "offset-encoding utf-16\n") (codes "fits utf-8 utf-16\n") (codes "outside")
    ∷ says (codes "offset-encoding utf-32\n") (codes "fits utf-8 utf-32\n") (codes "outside")
    ∷ says (codes "offset-encoding utf-32\n") (codes "fits utf-16 utf-32\n") (codes "outside")
    ∷ says (codes "suspects 0\n") (codes "in-editor ") (codes "editor or recorder") ∷ []

-- by the first of these rows both of whose lines are said, if there is one; else that of those
-- given
abbrev pub blamed_by : List Row → List (List ℕ) → List ℕ → List ℕ
blamed_by rows lines usual =
    unwrap_or (option_map (λ (row : Row). row.sentence) (row_for rows lines)) usual

-- **whose fault it is by these lines**, if a row says so; else that of those given
abbrev pub blamed : List (List ℕ) → List ℕ → List ℕ
blamed lines usual = blamed_by blames lines usual
