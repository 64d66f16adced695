-- What the suspects make if lines end otherwise than in LSP.
use Rattle.std.specs.Prelude.{ℕ, ◌+◌, ◌==◌, ◌&&◌, ◌||◌, nat_lt, not, Bool, List, []}
use Rattle.std.specs.Prelude.{◌∷◌, codes, is_some, length, if◌then◌else◌, Option, Some, None}
use Rattle.std.specs.Prelude.{option_and_then, option_map, option_to_list}
use Rattle.std.specs.List.{find, flat_map, list_any}
use Rattle.std.specs.Str.{chars}
use Rattle.lsp_trail.specs.Common.{Edit, Encoding, line, Position, SentEdits, Span, splice, Terms}
use Rattle.lsp_trail.specs.Common.{Text, text_extent}
use Rattle.lsp_text.specs.Lines.{is_return, starts_with_feed}
use Rattle.lsp_text.specs.Places.{place_of}
use Rattle.lsp_facts.specs.Fact.{Fact}
use Rattle.lsp_origins.specs.Fits.{is_made}
use Rattle.lsp_origins.specs.declared.fits.Trial.{Trial}
use Rattle.lsp_origins.specs.declared.other_lines.LinesBy.{LinesBy}
use Rattle.lsp_origins.specs.declared.other_lines.LinesBy.TheVariants.{EcmaScript, Lf, Python}

-- ---- which characters end a line

-- U+2028 and U+2029
abbrev pub is_separator : ℕ → Bool
is_separator c = c == 0x2028 || c == 0x2029

-- these, and a CR that LF does not follow
abbrev pub is_end : Bool → ℕ → Bool
is_end before_feed c = is_return c && not before_feed || is_separator c

-- VT, FF, FS, GS, RS and NEL
abbrev pub is_break : ℕ → Bool
is_break c =
    c == 0x0B || c == 0x0C || c == 0x1C || c == 0x1D || c == 0x1E || c == 0x85

-- a character, before LF or not, as the lines of LSP have it: LF where it ends a line, too, and a
-- space where it ends none
abbrev pub seen_as : LinesBy → Bool → ℕ → ℕ
seen_as Lf before_feed c = if is_return c then 32 else c
seen_as EcmaScript before_feed c = if is_end before_feed c then 10 else c
seen_as Python before_feed c = if is_end before_feed c || is_break c then 10 else c

-- **a text that has the lines of LSP where this one has the others**
abbrev pub seen : LinesBy → Text → Text
seen by [] = []
seen by (c ∷ more) = seen_as by (starts_with_feed more) c ∷ seen by more

-- ---- whether the lines can be others than those of LSP

-- a character that may end a line of these, or of LSP, alone
abbrev pub is_other : LinesBy → ℕ → Bool
is_other Lf c = is_return c
is_other EcmaScript c = is_separator c
is_other Python c = is_separator c || is_break c

abbrev pub has_other : LinesBy → Text → Bool
has_other by t = list_any (is_other by) t

abbrev pub inserts_other : LinesBy → SentEdits → Bool
inserts_other by s = list_any (λ (e : Edit). has_other by e.text) s.edits

-- there is one in the text, or in one that messages insert
abbrev pub may_differ : LinesBy → Text → List SentEdits → Bool
may_differ by t sent = has_other by t || list_any (inserts_other by) sent

-- ---- what changes make

-- the place of a position that is past no end
abbrev pub place_within : Encoding → Text → Position → Option ℕ
place_within enc t p = if is_some (text_extent enc t p) then None else place_of enc t p

abbrev pub place_by : LinesBy → Encoding → Text → Position → Option ℕ
place_by by enc t p = place_within enc (seen by t) p

-- a text in place of what is between two places
abbrev pub spliced_by : Text → Option ℕ → Option ℕ → Text → Option Text
spliced_by t (Some a) (Some b) s = if nat_lt b a then None else Some (splice t a b s)
spliced_by t _ _ s = None

abbrev pub replaced_by : LinesBy → Encoding → Text → Option Span → Text → Option Text
replaced_by by enc t None s = Some s
replaced_by by enc t (Some span) s =
    spliced_by t (place_by by enc t span.first) (place_by by enc t span.second) s

abbrev pub changed_by : LinesBy → Encoding → Text → Edit → Option Text
changed_by by enc t edit = replaced_by by enc t edit.span edit.text

-- **what changes make, one after another**; nothing where a position is past an end, or inside a
-- character
abbrev pub made_so : LinesBy → Encoding → Text → List Edit → Option Text
made_so by enc t [] = Some t
made_so by enc t (edit ∷ more) =
    option_and_then (λ u. made_so by enc u more) (changed_by by enc t edit)

-- those of all messages
abbrev pub edits_in : List SentEdits → List Edit
edits_in sent = flat_map (λ (s : SentEdits). s.edits) sent

-- ---- the line

abbrev pub gives_so : Terms → Encoding → Text → List SentEdits → Text → LinesBy → Bool
gives_so terms enc t sent other by =
    may_differ by t sent && is_made terms.line_ends other (made_so by enc t (edits_in sent))

abbrev pub most_tried : ℕ
most_tried = 256

abbrev pub all_lines : List LinesBy
all_lines = Lf ∷ EcmaScript ∷ Python ∷ []

-- **the first other lines with which they make the other text**, where there are not too many
abbrev pub lines_by : Terms → Encoding → Text → List SentEdits → Text → Option LinesBy
lines_by terms enc t sent other =
    if nat_lt most_tried (length (edits_in sent)) then None
    else find (gives_so terms enc t sent other) all_lines

abbrev pub lines_name : LinesBy → List ℕ
lines_name Lf = codes "lf"
lines_name EcmaScript = codes "ecmascript"
lines_name Python = codes "python"

abbrev pub lines_facts : Terms → Encoding → Text → List SentEdits → Text → List Fact
lines_facts terms enc t sent other =
    option_to_list (option_map (λ (by : LinesBy). line (codes "lines-by" ∷ lines_name by ∷ []))
    (lines_by terms enc t sent other))

-- ---- as the code has it

-- a character that is written, if there is one
abbrev pub seen_of : LinesBy → Bool → Option ℕ → Text
seen_of by before_feed c = option_to_list (option_map (seen_as by before_feed) c)

abbrev pub gives_by : Trial → List SentEdits → LinesBy → Bool
gives_by trial sent by =
    gives_so trial.docs.now.terms trial.encoding trial.text.now.content sent
    (chars trial.other.now) by

abbrev pub facts_of_trial : Trial → List SentEdits → List Fact
facts_of_trial trial sent =
    lines_facts trial.docs.now.terms trial.encoding trial.text.now.content sent
    (chars trial.other.now)
