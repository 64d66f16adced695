-- What an input seems to be by the bytes that it begins with.
use Rattle.std.specs.Prelude.{ℕ, Bool, false, ◌||◌, ◌&&◌, ◌==◌, nat_le, not, map, take, drop}
use Rattle.std.specs.Prelude.{List, [], ◌∷◌, ◌++◌, Option, Some, None, Result, Ok, Err, codes, nat_eq, zero, suc, if◌then◌else◌}
use Rattle.std.specs.Char.{is_ascii_alphanumeric, to_ascii_lowercase}
use Rattle.std.specs.List.{starts_with, prefix_len}
use Rattle.std.specs.Str.{bytes_eq}
use Rattle.lsp_extract.specs.declared.event.EventOutcome.{EventOutcome}
use Rattle.lsp_extract.specs.declared.event.EventOutcome.TheVariants as events
use Rattle.lsp_request.specs.declared.task_outcome.TaskOutcome.{TaskOutcome}
use Rattle.lsp_request.specs.declared.task_outcome.TaskOutcome.TheVariants as tasks
use Rattle.lsp_verdict.specs.declared.outcome.Outcome.{Outcome}
use Rattle.lsp_verdict.specs.declared.outcome.Outcome.TheVariants.{Judged}
use Rattle.lsp_replay.specs.Common.{BadLog, NoDocument, Rule, RunFault, Stream, StreamFault}
use Rattle.lsp_replay.specs.Common.{TooLong}
use Rattle.lsp_types.specs.declared.rules.TheConstants as rules
use Rattle.lsp_request.specs.declared.hint.Hint.{Hint}
use Rattle.lsp_request.specs.declared.hint.Hint.TheVariants as hints

abbrev pub begins : List ℕ → List ℕ → Bool
begins front bytes = starts_with nat_eq bytes front

-- gzip, bzip2, xz, Zstandard, zip
abbrev pub is_compressed : List ℕ → Bool
is_compressed bytes = begins (31 ∷ 139 ∷ []) bytes || (begins (codes "BZh") bytes
    || (begins (253 ∷ codes "7zXZ") bytes || (begins (40 ∷ 181 ∷ 47 ∷ 253 ∷ []) bytes
    || begins (codes "PK" ++ 3 ∷ 4 ∷ []) bytes)))

-- a log after a byte order mark of UTF-8
abbrev pub has_mark : List ℕ → Bool
has_mark bytes = begins (239 ∷ 187 ∷ 191 ∷ []) bytes

-- a field of LSP's header part, whose name is written in any case
abbrev pub is_stream : List ℕ → Bool
is_stream bytes = bytes_eq (map to_ascii_lowercase (take 8 bytes)) (codes "content-")

-- a letter, a digit or a hyphen
abbrev pub is_name_byte : ℕ → Bool
is_name_byte byte = is_ascii_alphanumeric byte || byte == 45

-- neither CR nor LF
abbrev pub is_line_byte : ℕ → Bool
is_line_byte byte = not (byte == 13) && not (byte == 10)

-- any field of a header part: a name and a colon, on a line that ends with CR before any LF
abbrev pub is_field : List ℕ → Bool
is_field bytes =
    begins (codes ":") (drop (prefix_len is_name_byte bytes) bytes)
    && begins (13 ∷ []) (drop (prefix_len is_line_byte bytes) bytes)

-- a header part by which the rule can be understood: with a field of LSP's, or another one and a
-- length
abbrev pub has_header : ℕ → List ℕ → Bool
has_header rule bytes =
    is_stream bytes || (not (rule == rules.NOT_ONE_CONTENT_LENGTH) && is_field bytes)

-- the first line of a log, and CR LF after it
abbrev pub has_line_ends : List ℕ → Bool
has_line_ends bytes = begins (codes "lsp-session 1" ++ 13 ∷ []) bytes || begins (codes "lsp-session 2" ++ 13 ∷ []) bytes

-- ---- a trace, which an editor or a server writes of its messages

-- `[Trace - `, `[Info  - `, `[LSP   - `: VS Code, coc.nvim, lsp-mode, gopls, the LSP Inspector
abbrev pub is_labelled : List ℕ → Bool
is_labelled bytes = begins (codes "[") bytes && begins (codes " - ") (drop 6 bytes)

-- `2026-11-30 11:34:09.136 [`, `2026-11-30T11:34:09.136 helix_`: VS Code, Helix
abbrev pub is_dated : List ℕ → Bool
is_dated bytes = begins (codes "-") (drop 4 bytes) && (begins (codes "-") (drop 7 bytes)
    && (begins (codes " [") (drop 23 bytes) || begins (codes " helix_") (drop 23 bytes)))

-- `I[11:34:09.136] `: clangd
abbrev pub is_timed : List ℕ → Bool
is_timed bytes = begins (codes "[") (drop 1 bytes) && (begins (codes ":") (drop 4 bytes)
    && (begins (codes ":") (drop 7 bytes) && begins (codes "] ") (drop 14 bytes)))

abbrev pub is_trace : List ℕ → Bool
is_trace bytes = is_labelled bytes || (is_dated bytes || (is_timed bytes
    || (begins (codes "{\"isLSPMessage\"") bytes || (begins (codes "// Send:") bytes
    || begins (codes "\n// Send:") bytes))))

abbrev pub session_hint : List ℕ → Hint
session_hint bytes =
    if has_line_ends bytes then hints.LineEnds
    else if begins (codes "lsp-session ") bytes then hints.OtherFormat
    else if is_compressed bytes then hints.Compressed
    else if is_trace bytes then hints.Trace
    else hints.Unknown

-- what an input seems to be that does not begin as a log does
abbrev pub log_hint : List ℕ → Hint
log_hint [] = hints.Empty
log_hint (byte ∷ bytes) =
    if is_stream (byte ∷ bytes) then hints.RawStream
    else if has_mark (byte ∷ bytes) then hints.ByteOrderMark
    else session_hint (byte ∷ bytes)

-- the first frame has a fault of its header part or its length, and the bytes begin with no header
-- part by which that can be understood
abbrev pub has_no_header : ℕ → StreamFault → List ℕ → Bool
has_no_header frame (Rule rule) bytes =
    frame == 1 && (nat_le rule rules.STREAM_ENDS_INSIDE_FRAME && not (has_header rule bytes))
has_no_header frame TooLong bytes = false

-- what an input seems to be of which a frame has a fault
abbrev pub stream_hint : ℕ → StreamFault → List ℕ → Option Hint
stream_hint frame fault bytes =
    if begins (codes "lsp-session ") bytes then Some hints.Log
    else if is_compressed bytes then Some hints.Compressed
    else if has_no_header frame fault bytes then Some hints.NoHeader
    else None

-- a log has a fault at its first line only where its record is 0
abbrev pub fault_hint : ℕ → List ℕ → Option Hint
fault_hint zero bytes = Some (log_hint bytes)
fault_hint (suc n) bytes = None

abbrev pub run_hint : Outcome → List ℕ → Option Hint
run_hint (Judged (BadLog number code)) bytes = fault_hint number bytes
run_hint (Stream frame fault) bytes = stream_hint frame fault bytes
run_hint NoDocument bytes = Some hints.OtherDocuments
run_hint _ bytes = None

abbrev pub event_hint : EventOutcome → List ℕ → Option Hint
event_hint (events.BadLog number code) bytes = fault_hint number bytes
event_hint _ bytes = None

-- what an input seems to be, where a task ended so on it
abbrev pub hint_of : Result TaskOutcome RunFault → List ℕ → Option Hint
hint_of (Ok (tasks.Run outcome)) bytes = run_hint outcome bytes
hint_of (Ok (tasks.Event outcome)) bytes = event_hint outcome bytes
hint_of (Err fault) bytes = None

-- the words of a hint
abbrev pub hint_text : Hint → List ℕ
hint_text hints.Empty = codes "the input is empty: the recorder wrote nothing"
hint_text hints.RawStream = codes "this looks like one raw stream of frames: try 'lspcheck frames'"
hint_text hints.Log = codes "this looks like the log of a session: try 'lspcheck check'"
hint_text hints.LineEnds = codes "the first line ends in CR LF; the lines of a log end in LF alone"
hint_text hints.ByteOrderMark = codes "the input begins with a byte order mark; a log has none"
hint_text hints.OtherFormat = codes "this version of lspcheck does not know the format of this log"
hint_text hints.Compressed = codes "the input is compressed: unpack it first"
hint_text hints.Trace = codes "this looks like a trace: 'recorders/from-trace FILE' makes a log of it"
hint_text hints.Unknown = codes "a log begins with the line 'lsp-session 2': see docs/LOG_FORMAT.md"
hint_text hints.NoHeader = codes "a raw stream begins with a header part: 'Content-Length: 52'"
hint_text hints.OtherDocuments = codes "'lspcheck show --long' shows the URI of each document"
