-- Sessions in which each side sends the same in the same order, however the two sides' events meet.
use Rattle.std.specs.Prelude.{◌≡◌, ℕ, nat_le, List, [], ◌∷◌, ◌++◌, length, filter, All, Bool, true, false, ◌&&◌, ◌||◌, if◌then◌else◌, Option, Some, None, is_some, option_and_then, option_map}
use Rattle.std.specs.Option.{option_or}
use Rattle.serde_json.specs.Data.{Data}
use Rattle.lsp_frame.specs.Bounds.{Bounds}
use Rattle.lsp_rpc.specs.Params.{act_at}
use Rattle.lsp_types.specs.declared.side.Side.{Side}
use Rattle.lsp_types.specs.declared.side.Side.TheVariants.{Editor, Server}
use Rattle.lsp_session.specs.Handshake.{first_settled, result_of}
use Rattle.lsp_session.specs.Negotiation.{agreed, agreed_at}
use Rattle.lsp_session.specs.Requests.{answers}
use Rattle.lsp_session.specs.Sent.{Sent, same_side, is_initialize, is_response, request_by}
use Rattle.lsp_docs.specs.Documents.{documents, Terms}
use Rattle.lsp_log.specs.Log.{Record}
use Rattle.lsp_verdict.specs.Event.{calls, Event, message, fault, snapshot, sent_in}
use Rattle.lsp_verdict.specs.Placed.{IsSession}
use Rattle.lsp_verdict.specs.Verdict.{Ending, Summary, first_no, verdict, yes, no}
use Rattle.lsp_verdict.specs.declared.verdict.Who.{Who}
use Rattle.lsp_types.specs.declared.rules.TheConstants as rules

-- ---- each side's own order

-- in whose order an event is; a snapshot is in the editor's
abbrev pub order_of : Event → Side
order_of (message m) = m.side
order_of (fault side rule) = side
order_of (snapshot uri number text) = Editor

-- the event is in this side's order
abbrev pub is_own : Side → Event → Bool
is_own side event = same_side side (order_of event)

-- the events of a side in order, the snapshots among the editor's
abbrev pub own : Side → List Event → List Event
own side events = filter (is_own side) events

-- each side has the same events in the same order; how the two sides' events meet may differ
pub record AreInterleavings (events others : List Event) : Type 0 where
  pub editor : own Editor events ≡ own Editor others
  pub server : own Server events ≡ own Server others

-- a message means what its side, its method and its params say
abbrev pub IsRead : Event → Type 0
IsRead (message m) = act_at m.side m.message ≡ Some m.act
IsRead _ = Unit {0}

-- **The events of records are read.**
abbrev pub SessionsAreRead : Type 0
SessionsAreRead = (limits : Bounds) (records : List Record) (events : List Event) → IsSession limits records events → All IsRead events

-- ---- the handshake in each side's own order

-- the editor sends a request
abbrev pub is_asked : Sent → Bool
is_asked m = is_some (request_by Editor m)

-- the server sends a response
abbrev pub is_reply : Sent → Bool
is_reply m = same_side Server m.side && is_response m.message

-- the value of a result that the server sends
abbrev pub result_by : Sent → Option Data
result_by m = if same_side Server m.side then result_of m.message else None

-- the value of the server's first result
abbrev pub first_result : List Sent → Option Data
first_result [] = None
first_result (m ∷ later) = option_or (result_by m) (first_result later)

-- the response answers a request of the editor's, before which as many requests stand as responses
-- of the server before the response: the k-th answers the k-th
pub record AnswersInTurn (before : List Sent) (reply : Sent) : Type 0 where
  pub earlier : List Sent
  pub asked : Sent
  pub between : List Sent
  pub place : before ≡ earlier ++ asked ∷ between
  pub asks : is_asked asked ≡ true
  pub fits : answers asked between reply ≡ true
  pub turn : length (filter is_asked earlier) ≡ length (filter is_reply before)

-- nothing up to this message offends, and the server sent no result before it
pub record IsEarly (terms : Terms) (before : List Event) (m : Sent) : Type 0 where
  pub read : All IsRead (before ++ message m ∷ [])
  pub clean : first_no terms (before ++ message m ∷ []) ≡ None
  pub unsettled : first_result (sent_in before) ≡ None

-- **Up to the server's first result, the k-th response answers the k-th request**, so what is
-- agreed can be read off the server's own order.
pub record HandshakeInTurn : Type 0 where
  -- each request of the editor is an `initialize`
  pub starts : (terms : Terms) (before : List Event) (m : Sent) → IsEarly terms before m → is_asked m ≡ true → is_initialize m.act ≡ true
  -- the server's k-th response answers the k-th of them
  pub replies : (terms : Terms) (before : List Event) (m : Sent) → IsEarly terms before m → is_reply m ≡ true → AnswersInTurn (sent_in before) m
  -- so the first result that answers an `initialize` is the first in the server's own order
  pub settles : (terms : Terms) (events : List Event) → All IsRead events → first_no terms events ≡ None
      → option_map (λ s. s.value) (first_settled (sent_in events)) ≡ first_result (sent_in (own Server events))
  -- and what is agreed is what it picks
  pub agrees : (terms : Terms) (events : List Event) → All IsRead events → first_no terms events ≡ None
      → agreed (sent_in events) ≡ option_and_then agreed_at (first_result (sent_in (own Server events)))

-- ---- verdicts

-- a log without a fault, whose streams are complete frames
abbrev pub complete : Ending
complete = record { log_fault = None; editor_rest = false; server_rest = false }

-- 301 and 302, and 401 to 412: whether a message may come where it does
abbrev pub is_order_rule : ℕ → Bool
is_order_rule rule =
    (nat_le rules.RESPONSE_TO_NO_OPEN_REQUEST rule && nat_le rule rules.ID_ALREADY_OPEN)
    || (nat_le rules.EDITOR_BEFORE_INITIALIZE rule && nat_le rule rules.SERVER_WHILE_INITIALIZE_OPEN)

-- the open documents with their versions and texts, the unmatched snapshots and what was agreed are
-- the same
pub record Agree (terms : Terms) (events others : List Event) (s t : Summary) : Type 0 where
  pub held : documents terms (calls events) ≡ documents terms (calls others)
  pub listed : s.documents ≡ t.documents
  pub unmatched : s.unmatched ≡ t.unmatched
  pub encoding : s.encoding ≡ t.encoding
  pub sync : s.sync ≡ t.sync

-- **Two Yes agree**, however the sides' events meet.
abbrev pub BothYesAgree : Type 0
BothYesAgree = (terms : Terms) (events others : List Event) (s t : Summary) → All IsRead events → AreInterleavings events others
    → verdict terms events complete ≡ yes s → verdict terms others complete ≡ yes t → Agree terms events others s t

-- **Where one is Yes and the other No, the No is by a rule on the order.**
abbrev pub OnlyOrderOffends : Type 0
OnlyOrderOffends = (terms : Terms) (events others : List Event) (s : Summary) (rule : ℕ) (who : Who) (number event : ℕ) → All IsRead events → AreInterleavings events others
    → verdict terms events complete ≡ yes s → verdict terms others complete ≡ no rule who number event → is_order_rule rule ≡ true
