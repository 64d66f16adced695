-- The rules and readings as a session finds them by what it keeps.
use Rattle.std.specs.Prelude.{ℕ, List, [], ◌∷◌, Bool, true, not, ◌&&◌, ◌||◌, Option, Some, None}
use Rattle.std.specs.Prelude.{is_some}
use Rattle.lsp_rpc.specs.Act.{Act}
use Rattle.lsp_rpc.specs.Message.{Message}
use Rattle.lsp_types.specs.declared.side.Side.{Side}
use Rattle.lsp_types.specs.declared.side.Side.TheVariants.{Editor, Server}
use Rattle.lsp_session.specs.Entry.{Entry}
use Rattle.lsp_session.specs.Handshake.{is_empty, settled_among}
use Rattle.lsp_session.specs.Lifecycle.{is_early, reports_on}
use Rattle.lsp_session.specs.Negotiation.{first_row, settled_rule}
use Rattle.lsp_session.specs.OpenInitialize.{Initialize}
use Rattle.lsp_session.specs.Requests.{id_rule}
use Rattle.lsp_session.specs.Sent.{is_exit, is_initialize, is_initialized, is_response, other_side}
use Rattle.lsp_session.specs.State.{State, agreed_in}
use Rattle.lsp_session.specs.declared.negotiation.Agreed.{Agreed}
use Rattle.lsp_types.specs.declared.rules.TheConstants as rules

abbrev pub open_of : Side → State → List Entry
open_of Editor s = s.editor
open_of Server s = s.server

abbrev pub is_done : State → Bool
is_done s = is_some s.agreed

abbrev pub is_waiting : State → Bool
is_waiting s = not (is_done s) && not (is_empty s.initializes)

abbrev pub is_fresh : State → Bool
is_fresh s = not (is_done s) && is_empty s.initializes

-- what the message agrees on, where it is a result that answers the open `initialize`
abbrev pub agreed_by : State → Side → Message → Option (Option Agreed)
agreed_by s side message = agreed_in (settled_among s.initializes side message)

-- ---- the rules

abbrev pub request_rule : State → Side → Message → Option ℕ
request_rule s side message = id_rule (open_of side s) (open_of (other_side side) s) message

-- for a request or notification of the editor, other than `exit`
abbrev pub handshake_rule : State → Act → Option ℕ
handshake_rule s act =
    first_row (
    (is_fresh s && is_initialize act, None)
    ∷ (is_fresh s, Some rules.EDITOR_BEFORE_INITIALIZE)
    ∷ (is_waiting s, Some rules.EDITOR_WHILE_INITIALIZE_OPEN)
    ∷ (s.shutdown, Some rules.EDITOR_AFTER_SHUTDOWN)
    ∷ (is_initialize act, Some rules.INITIALIZE_AGAIN)
    ∷ (not s.initialized && is_initialized act, None)
    ∷ (not s.initialized, Some rules.INITIALIZED_NOT_FIRST)
    ∷ (is_initialized act, Some rules.INITIALIZE_AGAIN)
    ∷ [])

abbrev pub editor_rule : State → Message → Act → Option ℕ
editor_rule s message act =
    first_row (
    (s.exit, Some rules.EDITOR_AFTER_EXIT)
    ∷ (is_response message, None)
    ∷ (is_exit act, None)
    ∷ (true, handshake_rule s act)
    ∷ [])

-- what the server may send while an `initialize` is open
abbrev pub comes_early : List Initialize → Act → Bool
comes_early unanswered act = is_early act || reports_on unanswered act

abbrev pub server_rule : State → Message → Act → Option ℕ
server_rule s message act =
    first_row (
    (is_response message, None)
    ∷ (is_fresh s, Some rules.SERVER_BEFORE_INITIALIZE)
    ∷ (is_waiting s && comes_early s.initializes act, None)
    ∷ (is_waiting s, Some rules.SERVER_WHILE_INITIALIZE_OPEN)
    ∷ [])

abbrev pub lifecycle_rule : State → Side → Message → Act → Option ℕ
lifecycle_rule s Editor message act = editor_rule s message act
lifecycle_rule s Server message act = server_rule s message act

abbrev pub result_rule : State → Side → Message → Option ℕ
result_rule s side message = settled_rule (settled_among s.initializes side message)
