-- The contents of the worked sessions, as JSON text, and the events that they are read as.
use Rattle.std.proofs.Common.{ℕ, ◌∷◌, [], List, ◌++◌}
use Rattle.std.specs.Prelude.{pos, codes, Option, Some, None}
use Rattle.serde_json.specs.Data.{Data}
use Rattle.serde_json.specs.Read.{read}
use Rattle.lsp_rpc.specs.Message.{Message}
use Rattle.lsp_rpc.specs.Act.{Act}
use Rattle.lsp_rpc.specs.Reading.{broken_rule, message_in, parts_of}
use Rattle.lsp_rpc.specs.Params.{act_at}
use Rattle.lsp_types.specs.declared.side.Side.{Side}
use Rattle.lsp_types.specs.declared.side.Side.TheVariants.{Editor, Server}
use Rattle.lsp_verdict.specs.Event.{Event, message, fault, snapshot}
use Rattle.lsp_types.specs.declared.line_ends.LineEnds.TheVariants.{Exact}
use Rattle.lsp_docs.specs.Documents.{Terms}
use Rattle.lsp_verdict.specs.Verdict.{Verdict, verdict}
use Rattle.lsp_verdict.specs.Interleaving.{complete}

abbrev with_act : Side → Message → Option Act → Event
with_act side m None = fault side 209
with_act side m (Some act) = message (record { side = side; message = m; act = act })

abbrev by_message : Side → Option Message → Event
by_message side None = fault side 201
by_message side (Some m) = with_act side m (act_at side m)

abbrev by_rule : Side → Data → Option ℕ → Event
by_rule side d None = by_message side (message_in (parts_of d))
by_rule side d (Some rule) = fault side rule

abbrev by_value : Side → Option Data → Event
by_value side None = fault side 201
by_value side (Some d) = by_rule side d (broken_rule d)

-- the event that a content of a side is read as
abbrev pub read_as : Side → List ℕ → Event
read_as side content = by_value side (read content)

abbrev pub E : List ℕ → Event
E content = read_as Editor content

abbrev pub S : List ℕ → Event
S content = read_as Server content

-- ---- the editor's messages and the server's

abbrev pub I : List ℕ → Event
I id = E (codes "{\"jsonrpc\":\"2.0\",\"id\":" ++ id ++ codes ",\"method\":\"initialize\",\"params\":{\"capabilities\":{}}}")

abbrev pub I1 : Event
I1 = I (codes "1")

abbrev pub IT : Event
IT = E (codes "{\"jsonrpc\":\"2.0\",\"id\":1,\"method\":\"initialize\",\"params\":{\"workDoneToken\":\"w\",\"capabilities\":{}}}")

abbrev pub IE : List ℕ → Event
IE name = E (codes "{\"jsonrpc\":\"2.0\",\"id\":1,\"method\":\"initialize\",\"params\":{\"capabilities\":{\"general\":{\"positionEncodings\":[\"" ++ name ++ codes "\"]}}}}")

abbrev pub A : List ℕ → List ℕ → Event
A id capabilities = S (codes "{\"jsonrpc\":\"2.0\",\"id\":" ++ id ++ codes ",\"result\":{\"capabilities\":" ++ capabilities ++ codes "}}")

abbrev pub A1 : Event
A1 = A (codes "1") (codes "{\"textDocumentSync\":2}")

abbrev pub N1 : Event
N1 = E (codes "{\"jsonrpc\":\"2.0\",\"method\":\"initialized\",\"params\":{}}")

abbrev pub START : List Event
START = I1 ∷ A1 ∷ N1 ∷ []

abbrev pub OPEN : List ℕ → List ℕ → Event
OPEN version text =
    E (codes "{\"jsonrpc\":\"2.0\",\"method\":\"textDocument/didOpen\",\"params\":{\"textDocument\":{\"uri\":\"file:///a\",\"languageId\":\"x\",\"version\":" ++ version
    ++ codes ",\"text\":\"" ++ text ++ codes "\"}}}")

abbrev pub CHG : List ℕ → List ℕ → Event
CHG version changes =
    E (codes "{\"jsonrpc\":\"2.0\",\"method\":\"textDocument/didChange\",\"params\":{\"textDocument\":{\"uri\":\"file:///a\",\"version\":" ++ version
    ++ codes "},\"contentChanges\":[" ++ changes ++ codes "]}}")

abbrev pub REP : List ℕ → List ℕ → List ℕ → List ℕ → List ℕ → List ℕ
REP line column to_line to_column text =
    codes "{\"range\":{\"start\":{\"line\":" ++ line ++ codes ",\"character\":" ++ column
    ++ codes "},\"end\":{\"line\":" ++ to_line ++ codes ",\"character\":" ++ to_column ++ codes "}},\"text\":\"" ++ text ++ codes "\"}"

abbrev pub FULL : List ℕ → List ℕ
FULL text = codes "{\"text\":\"" ++ text ++ codes "\"}"

abbrev pub CLOSE : Event
CLOSE = E (codes "{\"jsonrpc\":\"2.0\",\"method\":\"textDocument/didClose\",\"params\":{\"textDocument\":{\"uri\":\"file:///a\"}}}")

abbrev pub SAVE : List ℕ → Event
SAVE text = E (codes "{\"jsonrpc\":\"2.0\",\"method\":\"textDocument/didSave\",\"params\":{\"textDocument\":{\"uri\":\"file:///a\"},\"text\":\"" ++ text ++ codes "\"}}")

abbrev pub SH : Event
SH = E (codes "{\"jsonrpc\":\"2.0\",\"id\":2,\"method\":\"shutdown\",\"params\":null}")

abbrev pub RN : Event
RN = S (codes "{\"jsonrpc\":\"2.0\",\"id\":2,\"result\":null}")

abbrev pub EX : Event
EX = E (codes "{\"jsonrpc\":\"2.0\",\"method\":\"exit\"}")

abbrev pub REQ : Event
REQ = E (codes "{\"jsonrpc\":\"2.0\",\"id\":7,\"method\":\"textDocument/hover\",\"params\":{}}")

abbrev pub CANCEL : Event
CANCEL = E (codes "{\"jsonrpc\":\"2.0\",\"method\":\"$/cancelRequest\",\"params\":{\"id\":7}}")

abbrev pub RES : List ℕ → Event
RES id = S (codes "{\"jsonrpc\":\"2.0\",\"id\":" ++ id ++ codes ",\"result\":null}")

abbrev pub ERR : List ℕ → List ℕ → Event
ERR id code = S (codes "{\"jsonrpc\":\"2.0\",\"id\":" ++ id ++ codes ",\"error\":{\"code\":" ++ code ++ codes ",\"message\":\"c\"}}")

abbrev pub LOG : Event
LOG = S (codes "{\"jsonrpc\":\"2.0\",\"method\":\"window/logMessage\",\"params\":{\"type\":3,\"message\":\"m\"}}")

abbrev pub PROG : List ℕ → Event
PROG token = S (codes "{\"jsonrpc\":\"2.0\",\"method\":\"$/progress\",\"params\":{\"token\":\"" ++ token ++ codes "\",\"value\":{}}}")

abbrev pub REG : List ℕ → Event
REG method = S (codes "{\"jsonrpc\":\"2.0\",\"id\":1,\"method\":\"client/registerCapability\",\"params\":{\"registrations\":[{\"id\":\"r\",\"method\":\"" ++ method ++ codes "\"}]}}")

abbrev pub T : ℕ → List ℕ → Event
T version text = snapshot (codes "file:///a") (pos version) text

-- ---- sessions

-- format 1
abbrev pub terms : Terms
terms = record { limit = 16777216; kept = 0; line_ends = Exact }

abbrev pub judged : List Event → Verdict
judged events = verdict terms events complete
