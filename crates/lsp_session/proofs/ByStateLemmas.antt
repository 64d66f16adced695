-- What a session finds by what it keeps is what the list of messages says.
use Rattle.std.proofs.Common.{◌≡◌, ℕ, List, ◌∷◌, [], Bool, true, false, not, ◌&&◌, ◌||◌, Option}
use Rattle.std.proofs.Common.{Some, None, is_some, if◌then◌else◌, refl}
use Rattle.std.specs.Option.{option_or}
use Rattle.lsp_rpc.specs.Act.{Act, Offer, Picked}
use Rattle.lsp_rpc.specs.Message.{Message}
use Rattle.lsp_rpc.specs.Results.{picked_at}
use Rattle.lsp_types.specs.declared.side.Side.{Side}
use Rattle.lsp_types.specs.declared.side.Side.TheVariants.{Editor, Server}
use Rattle.lsp_session.specs.ByState as by_state
use Rattle.lsp_session.specs.Handshake.{Settled, first_settled, is_done, is_empty, open_initializes}
use Rattle.lsp_session.specs.Handshake.{settled_by, was_sent}
use Rattle.lsp_session.specs.Lifecycle.{is_early, lifecycle_rule, reports_on}
use Rattle.lsp_session.specs.Negotiation.{first_row, pick_rule, register_rule, settled_rule}
use Rattle.lsp_session.specs.Negotiation.{shape_rule}
use Rattle.lsp_session.specs.Requests.{open_requests, request_rule}
use Rattle.lsp_session.specs.Rules.{early_rule, rule_after}
use Rattle.lsp_session.specs.Sent.{Sent, is_exit, is_initialize, is_initialized, is_response}
use Rattle.lsp_session.specs.Sent.{is_shutdown, other_side}
use Rattle.lsp_session.specs.State.{State, agreed_in, state_of}

pub open_of-state_of : (side : Side) (before : List Sent)
    → by_state.open_of side (state_of before) ≡ open_requests side before
open_of-state_of Editor before = refl
open_of-state_of Server before = refl

pub is_done-state_of : (before : List Sent) → by_state.is_done (state_of before) ≡ is_done before
is_done-state_of before = some (first_settled before)
  where
    some : (settled : Option Settled) → is_some (agreed_in settled) ≡ is_some settled
    some None = refl
    some (Some s) = refl

request_rule-state_of : (before : List Sent) (m : Sent)
    → by_state.request_rule (state_of before) m.side m.message ≡ request_rule before m
request_rule-state_of before m =
    rw (open_of-state_of m.side before, open_of-state_of (other_side m.side) before) refl

-- ---- the table, beside the order in which a session asks

editor_rows : (exited response an_exit an_initialize done empty shutdown initialized
    an_initialized : Bool)
    → first_row {X = ℕ} (
    (exited, Some 406)
    ∷ (response, None)
    ∷ (an_exit, None)
    ∷ (
      true,
      first_row {X = ℕ} (
          ((not done && empty) && an_initialize, None)
          ∷ (not done && empty, Some 401)
          ∷ (not done && not empty, Some 402)
          ∷ (shutdown, Some 405)
          ∷ (an_initialize, Some 404)
          ∷ (not initialized && an_initialized, None)
          ∷ (not initialized, Some 403)
          ∷ (an_initialized, Some 404)
          ∷ []),
    )
    ∷ [])
    ≡ first_row {X = ℕ} (
    (exited, Some 406)
    ∷ ((not response && an_exit) && true, None)
    ∷ ((not response && an_initialize) && (not done && empty), None)
    ∷ (not response && (not done && empty), Some 401)
    ∷ (not response && (not done && not empty), Some 402)
    ∷ (not response && (done && shutdown), Some 405)
    ∷ ((not response && an_initialize) && done, Some 404)
    ∷ ((not response && an_initialized) && (done && not initialized), None)
    ∷ (not response && (done && not initialized), Some 403)
    ∷ ((not response && an_initialized) && done, Some 404)
    ∷ (not response && done, None)
    ∷ [])
editor_rows false false false true false true shutdown initialized an_initialized = refl
editor_rows false false false true true empty true initialized an_initialized = refl
editor_rows false false false false false true shutdown initialized an_initialized = refl
editor_rows false false false false true empty false true true = refl
editor_rows false false false false true empty false false true = refl
editor_rows _ _ _ _ _ _ _ _ _ = refl

server_rows : (response done empty early reports : Bool)
    → first_row {X = ℕ} (
    (response, None)
    ∷ (not done && empty, Some 411)
    ∷ ((not done && not empty) && (early || reports), None)
    ∷ (not done && not empty, Some 412)
    ∷ [])
    ≡ first_row {X = ℕ} (
    (not response && (not done && empty), Some 411)
    ∷ ((not response && early) && (not done && not empty), None)
    ∷ ((not response && reports) && (not done && not empty), None)
    ∷ (not response && (not done && not empty), Some 412)
    ∷ (not response && done, None)
    ∷ [])
server_rows false true empty true true = refl
server_rows false true empty false true = refl
server_rows false false false false true = refl
server_rows _ _ _ _ _ = refl

lifecycle_rule-state_of : (before : List Sent) (side : Side) (message : Message) (act : Act)
    → by_state.lifecycle_rule (state_of before) side message act ≡ lifecycle_rule before (record {
      side = side;
      message = message;
      act = act;
    })
lifecycle_rule-state_of before Editor message act =
    rw (is_done-state_of before)
    (editor_rows (was_sent is_exit before) (is_response message) (is_exit act) (is_initialize act)
    (is_done before) (is_empty (open_initializes before)) (was_sent is_shutdown before)
    (was_sent is_initialized before) (is_initialized act))
lifecycle_rule-state_of before Server message act =
    rw (is_done-state_of before)
    (server_rows (is_response message) (is_done before) (is_empty (open_initializes before))
    (is_early act) (reports_on (open_initializes before) act))

-- the least rule that the message breaks
abbrev pub rule_by : State → Sent → Option ℕ
rule_by s m =
    option_or (by_state.request_rule s m.side m.message)
    (option_or (by_state.lifecycle_rule s m.side m.message m.act)
    (option_or (by_state.result_rule s m.side m.message) (register_rule m.side m.act)))

-- the rules by the state are the rules by the list
pub rule_by-state_of : (before : List Sent) (m : Sent)
    → rule_by (state_of before) m ≡ rule_after before m
rule_by-state_of before m =
    rw (request_rule-state_of before m, lifecycle_rule-state_of before m.side m.message m.act) refl

-- ---- what is decided before a session grows

abbrev shape_at : Option Picked → Option ℕ
shape_at picked = if is_some picked then None else Some 501

early-parts : (ids lifecycle : Option ℕ) (settled : Option Settled) (register : Option ℕ)
    → option_or ids (option_or lifecycle (option_or (settled_rule settled) register)) ≡ None
    → option_or ids (option_or lifecycle (shape_rule settled register)) ≡ None
early-parts None None (Some s) register none = shaped s.offer (picked_at s.value) register none
  where
    shaped : (offer : Offer) (picked : Option Picked) (other : Option ℕ)
        → option_or (pick_rule offer picked) other ≡ None → shape_at picked ≡ None
    shaped offer None other none = none
    shaped offer (Some picked) other none = refl
early-parts _ _ _ register none = none

-- a message that breaks no rule breaks none of the early ones
pub early-none : (before : List Sent) (m : Sent) → rule_after before m ≡ None
    → early_rule before m ≡ None
early-none before m none =
    early-parts (request_rule before m) (lifecycle_rule before m) (settled_by before m)
    (register_rule m.side m.act) none
