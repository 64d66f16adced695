-- Which event offends, and the verdict on a session.
use Rattle.std.specs.Prelude.{ℕ, ℤ, ◌+◌, List, ◌++◌, length, map, filter, Bool, true, false, Option, Some, None, option_and_then, option_map, unwrap_or}
use Rattle.std.specs.Option.{option_or}
use Rattle.lsp_types.specs.declared.side.Side.{Side}
use Rattle.lsp_types.specs.declared.side.Side.TheVariants.{Editor, Server}
use Rattle.lsp_types.specs.declared.position.Encoding.{Encoding}
use Rattle.lsp_types.specs.declared.change.SyncKind.{SyncKind}
use Rattle.lsp_session.specs.Entry.{Entry}
use Rattle.lsp_session.specs.Negotiation.{encoding, sync_kind}
use Rattle.lsp_session.specs.Requests.{open_requests}
use Rattle.lsp_session.specs.Sent.{same_side}
use Rattle.lsp_session.specs.Rules.{rule_after}
use Rattle.lsp_docs.specs.Calls.{byte_len}
use Rattle.lsp_docs.specs.Documents.{Held, documents, Terms}
use Rattle.lsp_docs.specs.Rules.{call_rule}
use Rattle.lsp_docs.specs.Snapshots.{unmatched}
use Rattle.lsp_log.specs.declared.fault.LogCode.{LogCode}
use Rattle.lsp_verdict.specs.declared.verdict.Who.{Who}
use Rattle.lsp_verdict.specs.declared.verdict.Who.TheVariants as who
use Rattle.lsp_verdict.specs.LookBack.{first_of}
use Rattle.lsp_verdict.specs.Event.{Event, message, fault, snapshot, sent_in, call_at, calls}
use Rattle.lsp_types.specs.declared.rules.TheConstants as rules

-- ---- offences

-- 601 to 702: the least rule on documents that the event breaks after the events before it
abbrev pub document_rule : Terms → List Event → Event → Option ℕ
document_rule terms before event = option_and_then (call_rule terms (calls before)) (call_at before event)

-- the least rule that the event offends after the events before it: of a message 301 to 504 come
-- first
abbrev pub offence : Terms → List Event → Event → Option ℕ
offence terms before (fault side rule) = Some rule
offence terms before (message m) = option_or (rule_after (sent_in before) m) (document_rule terms before (message m))
offence terms before (snapshot uri number text) = document_rule terms before (snapshot uri number text)

-- ---- numbers

abbrev pub is_of : Side → Event → Bool
is_of side (message m) = same_side side m.side
is_of side (fault by rule) = same_side side by
is_of side (snapshot uri number text) = false

abbrev pub is_snapshot : Event → Bool
is_snapshot (snapshot uri number text) = true
is_snapshot _ = false

abbrev pub count_of : (Event → Bool) → List Event → ℕ
count_of test events = length (filter test events)

-- ---- verdicts

-- an open document, as a report has it
pub record Document : Type 0 where
  pub uri : List ℕ
  pub number : ℤ
  pub bytes : ℕ

-- the result of a session that keeps the rules
pub record Summary : Type 0 where
  pub editor : ℕ
  pub server : ℕ
  pub snapshots : ℕ
  pub unmatched : ℕ
  pub encoding : Option Encoding
  pub sync : Option SyncKind
  pub documents : List Document
  pub requests : List (Side × Entry)

-- No has the rule, whose event it is, its number among theirs, and its number among all
pub data Verdict : Type 0 where
  yes : Summary → Verdict
  no : ℕ → Who → ℕ → ℕ → Verdict
  bad_log : ℕ → LogCode → Verdict

abbrev pub who_of : Side → Who
who_of Editor = who.Editor
who_of Server = who.Server

-- whose event it is
abbrev pub whose : Event → Who
whose (message m) = who_of m.side
whose (fault side rule) = who_of side
whose (snapshot uri number text) = who.Snapshot

abbrev pub belongs_to : Who → Event → Bool
belongs_to who.Editor event = is_of Editor event
belongs_to who.Server event = is_of Server event
belongs_to who.Snapshot event = is_snapshot event

-- No by this rule at the event that comes next, whose it is
abbrev pub no_next : ℕ → Who → List Event → Verdict
no_next rule by before = no rule by (count_of (belongs_to by) before + 1) (length before + 1)

abbrev pub no_by : List Event → Event → ℕ → Verdict
no_by before event rule = no_next rule (whose event) before

abbrev pub no_at : Terms → List Event → Event → Option Verdict
no_at terms before event = option_map (no_by before event) (offence terms before event)

-- No at the first event that offends
abbrev pub first_no : Terms → List Event → Option Verdict
first_no terms events = first_of (no_at terms) events

-- how a log ends: with a fault, with bytes of the editor's that are not a whole frame, or of the
-- server's
pub record Ending : Type 0 where
  pub log_fault : Option (ℕ × LogCode)
  pub editor_rest : Bool
  pub server_rest : Bool

abbrev pub document_of : Held → Document
document_of held = record { uri = held.uri; number = held.version.number; bytes = byte_len held.version.text }

abbrev pub open_of : Side → List Event → List (Side × Entry)
open_of side events = map (λ request. (side, request)) (open_requests side (sent_in events))

abbrev pub summary : Terms → List Event → Summary
summary terms events = record {
  editor = count_of (is_of Editor) events;
  server = count_of (is_of Server) events;
  snapshots = count_of is_snapshot events;
  unmatched = unmatched terms (calls events);
  encoding = encoding (sent_in events);
  sync = sync_kind (sent_in events);
  documents = map document_of (documents terms (calls events));
  requests = open_of Editor events ++ open_of Server events;
}

abbrev pub bad_log_of : Option (ℕ × LogCode) → Option Verdict
bad_log_of None = None
bad_log_of (Some flaw) = Some (bad_log flaw.0 flaw.1)

-- 107 where bytes are left that are not a whole frame, the editor's first
abbrev pub rest_of : List Event → Bool → Bool → Option Verdict
rest_of events true server = Some (no_next rules.STREAM_ENDS_INSIDE_FRAME who.Editor events)
rest_of events false true = Some (no_next rules.STREAM_ENDS_INSIDE_FRAME who.Server events)
rest_of events false false = None

-- the first that applies: an offence, a fault of the log, a rest
abbrev pub refusal : Terms → List Event → Ending → Option Verdict
refusal terms events end = option_or (first_no terms events) (option_or (bad_log_of end.log_fault) (rest_of events end.editor_rest end.server_rest))

-- the verdict on a session with these events that ends so
abbrev pub verdict : Terms → List Event → Ending → Verdict
verdict terms events end = unwrap_or (refusal terms events end) (yes (summary terms events))
