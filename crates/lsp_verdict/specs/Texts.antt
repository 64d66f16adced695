-- The fixed texts of the rules, and of the faults of a log and of a run.
use Rattle.std.specs.Prelude.{ℕ, List, [], ◌∷◌, ◌==◌, if◌then◌else◌, codes}
use Rattle.lsp_log.specs.declared.fault.LogCode.{LogCode}
use Rattle.lsp_log.specs.declared.fault.LogCode.TheVariants.{L1, L2, L3, L4, L5, L6}
use Rattle.lsp_verdict.specs.declared.outcome.RunFault.{RunFault}
use Rattle.lsp_verdict.specs.declared.outcome.RunFault.TheVariants.{Read, Write, Memory}
use Rattle.lsp_types.specs.declared.rules.TheConstants as rules

-- ---- rules

pub record Text : Type 0 where
  pub number : ℕ
  pub text : List ℕ

abbrev pub rule : ℕ → List ℕ → Text
rule number text = record { number = number; text = text }

-- the rules on what a message says after those before it
abbrev pub session_texts : List Text
session_texts =
    rule rules.RESPONSE_TO_NO_OPEN_REQUEST (codes "response to no open request")
    ∷ rule rules.ID_ALREADY_OPEN (codes "id is already open")
    ∷ rule rules.REQUEST_NOT_ANSWERED (codes "request is not answered")
    ∷ rule rules.EDITOR_BEFORE_INITIALIZE (codes "editor message before initialize")
    ∷ rule rules.EDITOR_WHILE_INITIALIZE_OPEN (codes "editor message while initialize is open")
    ∷ rule rules.INITIALIZED_NOT_FIRST (codes "initialized does not come first")
    ∷ rule rules.INITIALIZE_AGAIN (codes "initialize or initialized again")
    ∷ rule rules.EDITOR_AFTER_SHUTDOWN (codes "editor message after shutdown")
    ∷ rule rules.EDITOR_AFTER_EXIT (codes "editor message after exit")
    ∷ rule rules.EXIT_MISSING (codes "exit is missing")
    ∷ rule rules.SERVER_BEFORE_INITIALIZE (codes "server message before initialize")
    ∷ rule rules.SERVER_WHILE_INITIALIZE_OPEN (codes "server message while initialize is open")
    ∷ rule rules.BAD_INITIALIZE_RESULT (codes "bad initialize result")
    ∷ rule rules.ENCODING_NOT_OFFERED (codes "encoding was not offered")
    ∷ rule rules.ENCODING_OUTSIDE_PROFILE (codes "encoding outside the profile")
    ∷ rule rules.DYNAMIC_REGISTRATION (codes "dynamic registration of synchronisation")
    ∷ rule rules.DOCUMENT_ALREADY_OPEN (codes "document is already open")
    ∷ rule rules.DOCUMENT_NOT_OPEN (codes "document is not open")
    ∷ rule rules.VERSION_DOES_NOT_RISE (codes "version does not rise")
    ∷ rule rules.CHANGE_NOT_OF_KIND (codes "change does not fit the sync kind")
    ∷ rule rules.POSITION_INSIDE_CHARACTER (codes "position inside a character")
    ∷ rule rules.RANGE_REVERSED (codes "range is reversed")
    ∷ rule rules.DOCUMENT_OVER_LIMIT (codes "document over the limit")
    ∷ rule rules.SAVED_TEXT_DIFFERS (codes "saved text differs")
    ∷ rule rules.LATE_SNAPSHOT (codes "late snapshot")
    ∷ rule rules.SNAPSHOT_DIFFERS (codes "snapshot differs")
    ∷ []

abbrev pub texts : List Text
texts =
    rule rules.HEADER_PART_TOO_LONG (codes "header part too long")
    ∷ rule rules.BAD_HEADER_LINE (codes "bad header line")
    ∷ rule rules.NOT_ONE_CONTENT_LENGTH (codes "not exactly one Content-Length")
    ∷ rule rules.BAD_CONTENT_LENGTH (codes "bad Content-Length number")
    ∷ rule rules.CONTENT_TOO_LONG (codes "content too long")
    ∷ rule rules.CHARSET_NOT_UTF_8 (codes "charset is not utf-8")
    ∷ rule rules.STREAM_ENDS_INSIDE_FRAME (codes "stream ends inside a frame")
    ∷ rule rules.CONTENT_NOT_JSON (codes "content is not JSON")
    ∷ rule rules.MESSAGE_NOT_OBJECT (codes "message is not an object")
    ∷ rule rules.BAD_JSONRPC_VERSION (codes "jsonrpc is not \"2.0\"")
    ∷ rule rules.METHOD_NOT_STRING (codes "method is not a string")
    ∷ rule rules.BAD_ID (codes "bad id")
    ∷ rule rules.BAD_PARAMS (codes "bad params")
    ∷ rule rules.NOT_A_MESSAGE (codes "not a request, notification or response")
    ∷ rule rules.BAD_ERROR_OBJECT (codes "bad error object")
    ∷ rule rules.BAD_METHOD_PARAMS (codes "bad params of an interpreted method")
    ∷ session_texts

-- the text of the rule of this number among these, empty where it has none
abbrev pub text_among : List Text → ℕ → List ℕ
text_among [] number = []
text_among (first ∷ others) number = if first.number == number then first.text else text_among others number

abbrev pub text_of : ℕ → List ℕ
text_of number = text_among texts number

-- ---- faults of a log

abbrev pub code_name : LogCode → List ℕ
code_name L1 = codes "L1"
code_name L2 = codes "L2"
code_name L3 = codes "L3"
code_name L4 = codes "L4"
code_name L5 = codes "L5"
code_name L6 = codes "L6"

abbrev pub code_text : LogCode → List ℕ
code_text L1 = codes "bad first line"
code_text L2 = codes "bad record line"
code_text L3 = codes "size out of range"
code_text L4 = codes "record cut short or its line end missing"
code_text L5 = codes "snapshot is not UTF-8"
code_text L6 = codes "log too long"

-- ---- faults of a run

abbrev pub fault_text : RunFault → List ℕ
fault_text Read = codes "read fault"
fault_text Write = codes "write fault"
fault_text Memory = codes "out of memory"
