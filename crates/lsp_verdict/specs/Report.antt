-- The reports of a verdict and of a fault of a stream.
use Rattle.std.specs.Prelude.{ℕ, List, [], ◌∷◌, ◌++◌, Bool, true, false, Option, Some, None, codes}
use Rattle.std.specs.Prelude.{decimal}
use Rattle.std.specs.List.{flat_map}
use Rattle.std.specs.Fmt.{signed_decimal}
use Rattle.json.specs.Print.{quoted}
use Rattle.lsp_rpc.specs.Words.{id_text}
use Rattle.lsp_types.specs.declared.side.Side.{Side}
use Rattle.lsp_types.specs.declared.side.Side.TheVariants.{Editor, Server}
use Rattle.lsp_types.specs.declared.position.Encoding.{Encoding}
use Rattle.lsp_types.specs.declared.position.Encoding.TheVariants.{Utf8, Utf16, Utf32}
use Rattle.lsp_types.specs.declared.change.SyncKind.{SyncKind}
use Rattle.lsp_types.specs.declared.change.SyncKind.TheVariants.{Nothing, Full, Incremental}
use Rattle.lsp_session.specs.Entry.{Entry}
use Rattle.lsp_log.specs.declared.fault.LogCode.TheVariants.{L6}
use Rattle.lsp_verdict.specs.declared.verdict.Who.{Who}
use Rattle.lsp_verdict.specs.declared.verdict.Who.TheVariants as who
use Rattle.lsp_verdict.specs.Texts.{text_of, code_name, code_text}
use Rattle.lsp_verdict.specs.Verdict.{Document, Summary, Verdict, yes, no, bad_log}
use Rattle.lsp_verdict.specs.declared.outcome.StreamFault.{StreamFault}
use Rattle.lsp_verdict.specs.declared.outcome.StreamFault.TheVariants.{Rule, TooLong}

-- words with a space between each two, and a LF
abbrev pub line : List (List ℕ) → List ℕ
line [] = 10 ∷ []
line (w ∷ []) = w ++ 10 ∷ []
line (w ∷ x ∷ ws) = w ++ 32 ∷ line (x ∷ ws)

abbrev pub side_name : Side → List ℕ
side_name Editor = codes "editor"
side_name Server = codes "server"

abbrev pub who_name : Who → List ℕ
who_name who.Editor = codes "editor"
who_name who.Server = codes "server"
who_name who.Snapshot = codes "snapshot"

abbrev pub encoding_name : Option Encoding → List ℕ
encoding_name None = codes "-"
encoding_name (Some Utf8) = codes "utf-8"
encoding_name (Some Utf16) = codes "utf-16"
encoding_name (Some Utf32) = codes "utf-32"

abbrev pub kind_name : Option SyncKind → List ℕ
kind_name None = codes "-"
kind_name (Some Nothing) = codes "none"
kind_name (Some Full) = codes "full"
kind_name (Some Incremental) = codes "incremental"

abbrev pub document_line : Document → List ℕ
document_line d = line (codes "document" ∷ signed_decimal d.number ∷ decimal d.bytes ∷ quoted d.uri ∷ [])

abbrev pub cancelled_word : Bool → List (List ℕ)
cancelled_word true = codes "cancelled" ∷ []
cancelled_word false = []

abbrev pub request_line : Side × Entry → List ℕ
request_line (side, r) = line (codes "request" ∷ side_name side ∷ id_text r.id ∷ quoted r.method ∷ cancelled_word r.cancelled)

-- what was counted, and what was agreed
abbrev pub count_lines : Summary → List ℕ
count_lines s =
    line (codes "messages" ∷ decimal s.editor ∷ decimal s.server ∷ [])
    ++ line (codes "snapshots" ∷ decimal s.snapshots ∷ codes "unmatched" ∷ decimal s.unmatched ∷ [])
    ++ line (codes "encoding" ∷ encoding_name s.encoding ∷ codes "sync" ∷ kind_name s.sync ∷ [])

-- the two lines of a No, with these words behind the number of its event
abbrev pub no_lines : ℕ → Who → ℕ → ℕ → List (List ℕ) → List ℕ
no_lines rule who count event words =
    line (codes "no" ∷ decimal rule ∷ who_name who ∷ decimal count ∷ codes "event" ∷ decimal event ∷ words)
    ++ line (text_of rule ∷ [])

-- the report of a verdict
abbrev pub report : Verdict → List ℕ
report (yes s) =
    line (codes "yes" ∷ []) ++ count_lines s ++ flat_map document_line s.documents ++ flat_map request_line s.requests
report (no rule who count event) = no_lines rule who count event []
report (bad_log at code) = line (codes "bad" ∷ codes "log" ∷ code_name code ∷ codes "record" ∷ decimal at ∷ []) ++ line (code_text code ∷ [])

-- ---- a fault of a stream

-- the code and the frame's number, LF, the text, LF
abbrev pub two_lines : List ℕ → ℕ → List ℕ → List ℕ
two_lines code frame text =
    codes "fault " ++ code ++ codes " frame " ++ decimal frame ++ codes "\n" ++ text ++ codes "\n"

abbrev pub stream_report : ℕ → StreamFault → List ℕ
stream_report frame (Rule rule) = two_lines (decimal rule) frame (text_of rule)
stream_report frame TooLong = two_lines (code_name L6) frame (code_text L6)
