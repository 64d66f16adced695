-- Which requests are open, which response answers which request, and the rules on ids.
-- (JSON-RPC 2.0, sections 4 and 5; LSP 3.17, "Cancellation Support".)
use Rattle.std.specs.Prelude.{ℕ, List, [], ◌∷◌, ◌++◌, Bool, false, not, ◌&&◌, ◌||◌, if◌then◌else◌}
use Rattle.std.specs.Prelude.{Option, Some, None}
use Rattle.lsp_rpc.specs.Ident.{Ident, same_id}
use Rattle.lsp_rpc.specs.Message.{Message, request, notification, response}
use Rattle.lsp_types.specs.declared.side.Side.{Side}
use Rattle.lsp_session.specs.Entry.{Entry, has_id, ask_rule}
use Rattle.lsp_session.specs.Sent.{Sent, other_side, request_of, request_by, answered_id}
use Rattle.lsp_session.specs.Sent.{cancelled_id}
use Rattle.lsp_types.specs.declared.rules.TheConstants as rules

abbrev pub names : Option Ident → Ident → Bool
names None id = false
names (Some named) id = same_id named id

-- one of these messages answers this side's request
abbrev pub is_answered : Side → Ident → List Sent → Bool
is_answered side id [] = false
is_answered side id (m ∷ later) = names (answered_id side m) id || is_answered side id later

-- one of these messages cancels it
abbrev pub is_cancelled : Side → Ident → List Sent → Bool
is_cancelled side id [] = false
is_cancelled side id (m ∷ later) = names (cancelled_id side m) id || is_cancelled side id later

abbrev pub open_entry : Side → Option (Ident × List ℕ) → List Sent → List Entry
open_entry side None later = []
open_entry side (Some asked) later =
    if is_answered side asked.0 later then []
    else record { id = asked.0; method = asked.1; cancelled = is_cancelled side asked.0 later } ∷ []

-- the requests of this side that no later message answers, in the order in which they were sent
abbrev pub open_requests : Side → List Sent → List Entry
open_requests side [] = []
open_requests side (m ∷ later) =
    open_entry side (request_by side m) later ++ open_requests side later

abbrev pub answers_request : Side → Option (Ident × List ℕ) → List Sent → Sent → Bool
answers_request side None between m = false
answers_request side (Some asked) between m =
    names (answered_id side m) asked.0 && not (is_answered side asked.0 between)

-- `m` answers the request `asked`, where these messages come between the two
abbrev pub answers : Sent → List Sent → Sent → Bool
answers asked between m = answers_request asked.side (request_of asked.message) between m

-- ---- the rules

-- a response has the id of an open request
abbrev pub answer_rule : Option Ident → List Entry → Option ℕ
answer_rule None entries = Some rules.RESPONSE_TO_NO_OPEN_REQUEST
answer_rule (Some id) entries = if has_id id entries
    then None else Some rules.RESPONSE_TO_NO_OPEN_REQUEST

-- the rule for a message, where these requests of its own and of the other side are open
abbrev pub id_rule : List Entry → List Entry → Message → Option ℕ
id_rule own other (request id method params) = ask_rule id own
id_rule own other (notification method params) = None
id_rule own other (response id reply) = answer_rule id other

-- the rule on ids that the message breaks
abbrev pub request_rule : List Sent → Sent → Option ℕ
request_rule before m = id_rule (open_requests m.side before)
    (open_requests (other_side m.side) before) m.message
