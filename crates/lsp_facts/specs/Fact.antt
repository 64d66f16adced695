-- What an explanation says: a fact is its line. Lines and columns are counted from 0, columns in
-- units of the encoding that the session agreed on; earlier events are named by their places.
use Rattle.std.specs.Prelude.{ℕ, ◌-◌, ◌^◌, length, take, drop, nat_lt, if◌then◌else◌, String}
use Rattle.std.specs.Prelude.{string_bytes, ℤ, List, [], ◌∷◌, ◌++◌, ◌&&◌, ◌==◌, Option, Some, None}
use Rattle.std.specs.Prelude.{codes, decimal, Bool, false, true, ◌||◌, is_none, option_and_then}
use Rattle.std.specs.Global.{Global}
use Rattle.std.specs.Str.{chars, is_utf8}
use Rattle.std.specs.List.{flat_map}
use Rattle.std.specs.Fmt.{signed_decimal, digits, format_spec, padded_integral}
use Rattle.lsp_replay.specs.Common.{bad_log, broken, content, Encoding, encoding_name, id_text}
use Rattle.lsp_replay.specs.Common.{Ident, is_within, line_around, line_before_place, Message}
use Rattle.lsp_replay.specs.Common.{message_in, no, parts_of, Phase, Position, show, Span, Who}
use Rattle.lsp_replay.specs.Common.{words_of, yes}
use Rattle.lsp_docs.specs.Calls.{Text}
use lib.Utf8.{encodes}
use Rattle.json.specs.Print.{quoted}
use Rattle.lsp_types.specs.declared.rules.TheConstants as rules
use Rattle.lsp_rpc.specs.Reading.{broken_rule}
use Rattle.lsp_session.specs.declared.phase.Phase.TheVariants as phases
use Rattle.lsp_replay.specs.declared.heard.EventPlace.{EventPlace}
use Rattle.lsp_verdict.specs.Report.{line, who_name}
use Rattle.lsp_verdict.specs.Placed.{Raw}
use Rattle.lsp_verdict.specs.Verdict.{Verdict}
use Rattle.serde_json.specs.Data.{Data}
use Rattle.serde_json.specs.Read.{read}
use Rattle.lsp_facts.specs.FrameFronts.{may_go_on}
use Rattle.lsp_facts.specs.Sentences.{blamed, so_lines}
use Rattle.lsp_facts.specs.declared.part.Excerpt as code

-- ---- a line of a document, of which a long one is shown as the part around a place

-- some characters of a line, and how many are left out before and after them
pub record Part : Type 0 where
  pub before : ℕ
  pub text : Text
  pub after : ℕ

abbrev pub text_of : String Global → Text
text_of text = chars (string_bytes text)

abbrev pub part_view : code.Excerpt → Part
part_view part = record { before = part.before; text = text_of part.text; after = part.after }

-- how many characters of a line are shown at most, and how many of them come before the place
abbrev pub most_shown : ℕ
most_shown = 200

abbrev pub shown_before : ℕ
shown_before = 100

-- how many of this many characters are left out before those that are shown: none where all are
abbrev pub left_before : ℕ → ℕ → ℕ
left_before count place = if nat_lt most_shown count then place - shown_before else 0

-- how many are left out after them, where this many are before them
abbrev pub left_after : ℕ → ℕ → ℕ
left_after count before = count - before - most_shown

abbrev pub shown : ℕ → Text → Text
shown before line = take most_shown (drop before line)

-- **the line, or the part of it around the place after this many of its characters**
abbrev pub part_at : ℕ → Text → Part
part_at place line =
    let before = left_before (length line) place in
    record {
      before = before;
      text = shown before line;
      after = left_after (length line) before;
    }

-- the line of a text in which a place lies, or the part of it around the place
abbrev pub part_around : Text → ℕ → Part
part_around t n = part_at (length (line_before_place t n)) (line_around t n)

-- ---- facts

-- the bytes of a line, with its LF
abbrev pub Fact : Type 0
Fact = List ℕ

abbrev pub fact_lines : List Fact → List ℕ
fact_lines facts = flat_map (λ (fact : Fact). fact) facts

-- ---- words

-- a word with a space before it
abbrev pub spaced : List ℕ → List ℕ
spaced word = 32 ∷ word

-- an event: its number, whose it is, and its number among theirs
abbrev pub place_words : EventPlace → List (List ℕ)
place_words place =
    codes "event" ∷ decimal place.event ∷ who_name place.who ∷ decimal place.number ∷ []

-- the same, where there is one
abbrev pub by_words : Option EventPlace → List (List ℕ)
by_words None = []
by_words (Some place) = place_words place

abbrev pub position_words : Position → List ℕ
position_words position = spaced (decimal position.line) ++ spaced (decimal position.column)

-- both its positions, or that the change is of the whole text
abbrev pub span_words : Option Span → List ℕ
span_words None = spaced (codes "whole")
span_words (Some span) = position_words span.first ++ position_words span.second

-- how many are left out of a list, where any are
abbrev pub more_words : ℕ → List ℕ
more_words count = if count == 0 then [] else spaced (codes "and") ++ spaced (decimal count)

abbrev pub phase_name : Phase → List ℕ
phase_name phases.Fresh = codes "fresh"
phase_name phases.Waiting = codes "waiting"
phase_name phases.Answered = codes "answered"
phase_name phases.Ready = codes "ready"
phase_name phases.Stopping = codes "stopping"
phase_name phases.Exited = codes "exited"

-- characters, as JSON text
abbrev pub quoted_text : List ℕ → List ℕ
quoted_text text = quoted (encodes text)

-- a character by its number: at least four hexadecimal digits, as `{:04X}` writes them
abbrev pub code_of : ℕ → List ℕ
code_of c =
    codes "U+" ++ padded_integral (format_spec 32 0 4 4 (2 ^ 64 - 1)) false [] (digits 16 true c)

-- the same, where there is a character: else the text ends
abbrev pub code_word : Option ℕ → List ℕ
code_word None = codes "end"
code_word (Some c) = code_of c

-- ---- lines of one shape

-- an event that is cited
abbrev pub cited : List ℕ → EventPlace → Fact
cited key place = line (key ∷ place_words place)

-- a version, and the event that brought it
abbrev pub version_by : List ℕ → ℤ → EventPlace → Fact
version_by key number place = line (key ∷ signed_decimal number ∷ place_words place)

-- a part of a line, and how many characters are left out before and after it
abbrev pub cut_line : List ℕ → Part → Fact
cut_line key part =
    line (key ∷ quoted_text part.text ∷ codes "cut" ∷ decimal part.before ∷ decimal part.after ∷ [])

-- a line of a document, or a part of it
abbrev pub part_line : List ℕ → Part → Fact
part_line key part =
    if part.before == 0 && part.after == 0 then line (key ∷ quoted_text part.text ∷ [])
    else cut_line key part

-- the characters at which two texts differ
abbrev pub differing_codes : Option ℕ → Option ℕ → Fact
differing_codes held other =
    codes "codes" ++ spaced (code_word held) ++ spaced (code_word other) ++ 10 ∷ []

-- ---- facts that are said in several places

-- the version that is held, and the event that set it
abbrev pub holds : ℤ → Option EventPlace → Fact
holds number by = line (codes "held" ∷ signed_decimal number ∷ by_words by)

-- the one that was sent
abbrev pub sends : ℤ → Fact
sends number = line (codes "sent" ∷ signed_decimal number ∷ [])

-- the encoding in which columns and lengths are counted (LSP 3.17, PositionEncodingKind)
abbrev pub counts_in : Encoding → Fact
counts_in encoding = line (codes "encoding" ∷ encoding_name (Some encoding) ∷ [])

-- the change that fails, from 1, and its span (LSP 3.17, TextDocumentContentChangeEvent)
abbrev pub fails : ℕ → Option Span → Fact
fails which span = codes "change" ++ spaced (decimal which) ++ span_words span ++ 10 ∷ []

-- the bytes of UTF-8 that a text would have, and how many it may have
abbrev pub would_have : ℕ → Fact
would_have count = line (codes "bytes" ∷ decimal count ∷ [])

abbrev pub may_have : ℕ → Fact
may_have count = line (codes "limit" ∷ decimal count ∷ [])

-- how far the session has come
abbrev pub in_phase : Phase → Fact
in_phase phase = line (codes "phase" ∷ phase_name phase ∷ [])

-- a request that waits for its response, and the event that sent it
abbrev pub waits : Ident → List ℕ → Option EventPlace → Fact
waits id method by = line (codes "request" ∷ id_text id ∷ quoted method ∷ by_words by)

-- ---- the event

-- a message: the number of its event, whose it is, and its number among those of its side
abbrev pub message_event : ℕ → Who → ℕ → Message → List ℕ
message_event event by number said =
    line (codes "event" ∷ decimal event ∷ who_name by ∷ decimal number ∷ words_of said ∷ [])

-- a snapshot, and what cannot be read: no words
abbrev pub bare_event : ℕ → Who → ℕ → List ℕ
bare_event event by number =
    line (codes "event" ∷ decimal event ∷ who_name by ∷ decimal number ∷ [])

-- the message that a value is, where it keeps the rules 202 to 208
abbrev pub value_message : Data → Option Message
value_message d = if is_none (broken_rule d) then message_in (parts_of d) else None

-- the message that a content is, whatever its params
abbrev pub content_message : List ℕ → Option Message
content_message bytes = if is_utf8 bytes then option_and_then value_message (read bytes) else None

-- a content, which is this message or none
abbrev pub content_event : ℕ → Who → ℕ → Option Message → List ℕ
content_event event by number (Some said) = message_event event by number said
content_event event by number None = bare_event event by number

-- **the line of an event**: its number, whose it is, its number among theirs, and the words of a
-- message
abbrev pub event_line : ℕ → Who → ℕ → Raw → List ℕ
event_line event by number (content side bytes) =
    content_event event by number (content_message bytes)
event_line event by number _ = bare_event event by number

-- the place after the last event, and whose the next one would be
abbrev pub end_event : ℕ → Who → List ℕ
end_event event by = line (codes "end" ∷ decimal event ∷ who_name by ∷ [])

-- ---- whose fault it usually is

-- 107 and 701: that of the recording
abbrev pub is_recorders : ℕ → Bool
is_recorders rule = rule == rules.STREAM_ENDS_INSIDE_FRAME || rule == rules.LATE_SNAPSHOT

-- 503, 504 and 607: both sides may be right, and the checker does not follow them
abbrev pub is_outside : ℕ → Bool
is_outside rule = is_within rules.ENCODING_OUTSIDE_PROFILE rules.DYNAMIC_REGISTRATION rule
    || rule == rules.DOCUMENT_OVER_LIMIT

-- 303, 411, 412, 501 and 502
abbrev pub is_servers : ℕ → Bool
is_servers rule = rule == rules.REQUEST_NOT_ANSWERED
    || is_within rules.SERVER_BEFORE_INITIALIZE rules.ENCODING_NOT_OFFERED rule

-- of the rules above 302; the rest is the editor's
abbrev pub usual_role : ℕ → List ℕ
usual_role rule =
    if is_outside rule then codes "outside"
    else (if is_servers rule then codes "server" else codes "editor")

-- what a side writes, and how it answers and asks (101 to 302), is its own fault
abbrev pub usual : ℕ → Who → List ℕ
usual rule by =
    if is_recorders rule then codes "recorder"
    else (if is_within rules.HEADER_PART_TOO_LONG rules.ID_ALREADY_OPEN rule
    then who_name by else usual_role rule)

abbrev pub usual_line : List ℕ → List ℕ
usual_line who = line (codes "usually" ∷ who ∷ [])

-- 107: that of the recording, where bytes that could follow may make a frame of what there is; else
-- the side sent something else
abbrev pub usual_inside : List ℕ → Who → List ℕ
usual_inside rest by = if may_go_on rest then codes "recorder" else who_name by

-- that of a No; that of a log is the recorder's
abbrev pub usual_of : Verdict → List ℕ
usual_of (no rule by count event) = usual rule by
usual_of _ = codes "recorder"

-- **the facts, whose fault it usually is**, by them or by the rule, **and what they mean together**
abbrev pub detail_lines : List Fact → List ℕ → List ℕ
detail_lines facts who = fact_lines facts ++ usual_line (blamed facts who) ++ so_lines facts
