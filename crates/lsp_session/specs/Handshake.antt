-- How far the handshake has come: which `initialize` is open, and which result answered one.
-- (LSP 3.17, "Server lifecycle".)
use Rattle.std.specs.Prelude.{ℕ, List, [], ◌∷◌, ◌++◌, Bool, true, false, not, ◌&&◌, if◌then◌else◌}
use Rattle.std.specs.Prelude.{Option, Some, None, is_some}
use Rattle.std.specs.List.{list_any}
use Rattle.std.specs.Option.{option_or}
use Rattle.serde_json.specs.Data.{Data}
use Rattle.lsp_rpc.specs.Ident.{Ident}
use Rattle.lsp_rpc.specs.Message.{Message, response, result}
use Rattle.lsp_rpc.specs.Act.{Act, Offer}
use Rattle.lsp_types.specs.declared.side.Side.{Side}
use Rattle.lsp_types.specs.declared.side.Side.TheVariants.{Editor}
use Rattle.lsp_session.specs.declared.phase.Phase.{Phase}
use Rattle.lsp_session.specs.declared.phase.Phase.TheVariants.{Fresh, Waiting, Answered, Ready}
use Rattle.lsp_session.specs.declared.phase.Phase.TheVariants.{Stopping, Exited}
use Rattle.lsp_session.specs.OpenInitialize.{Initialize}
use Rattle.lsp_session.specs.Requests.{names, is_answered}
use Rattle.lsp_session.specs.Sent.{Sent, answered_from, is_exit, is_initialized, is_shutdown}
use Rattle.lsp_session.specs.Sent.{offer_of, request_by, sends}

-- ---- the open `initialize`

abbrev pub initialize_at : Option (Ident × List ℕ) → Option Offer → Option Initialize
initialize_at (Some asked) (Some offer) = Some (record { id = asked.0; offer = offer })
initialize_at _ _ = None

-- the `initialize` of the editor that the message is
abbrev pub initialize_by : Sent → Option Initialize
initialize_by m = initialize_at (request_by Editor m) (offer_of m.act)

abbrev pub open_initialize : Option Initialize → List Sent → List Initialize
open_initialize None later = []
open_initialize (Some i) later = if is_answered Editor i.id later then [] else i ∷ []

-- the `initialize` requests that no later message answers
abbrev pub open_initializes : List Sent → List Initialize
open_initializes [] = []
open_initializes (m ∷ later) = open_initialize (initialize_by m) later ++ open_initializes later

-- ---- the result that settles the handshake

-- a result, and the offer of the `initialize` that it answers
pub record Settled : Type 0 where
  pub offer : Offer
  pub value : Data

abbrev pub result_of : Message → Option Data
result_of (response id (result value)) = Some value
result_of _ = None

-- the offer of the `initialize` with this id
abbrev pub offer_to : Option Ident → List Initialize → Option Offer
offer_to named [] = None
offer_to named (i ∷ rest) = if names named i.id then Some i.offer else offer_to named rest

abbrev pub settled_at : Option Offer → Option Data → Option Settled
settled_at (Some offer) (Some value) = Some (record { offer = offer; value = value })
settled_at _ _ = None

-- the message, where it answers one of these by a result
abbrev pub settled_among : List Initialize → Side → Message → Option Settled
settled_among unanswered side message =
    settled_at (offer_to (answered_from Editor side message) unanswered) (result_of message)

-- the message, where it is a result that answers an `initialize` before it
abbrev pub settled_by : List Sent → Sent → Option Settled
settled_by before m = settled_among (open_initializes before) m.side m.message

abbrev pub first_settled_from : List Sent → List Sent → Option Settled
first_settled_from before [] = None
first_settled_from before (m ∷ later) =
    option_or (settled_by before m) (first_settled_from (before ++ m ∷ []) later)

-- the first result that answers an `initialize`
abbrev pub first_settled : List Sent → Option Settled
first_settled before = first_settled_from [] before

-- ---- the three states of the handshake

abbrev pub is_empty : List Initialize → Bool
is_empty [] = true
is_empty (i ∷ rest) = false

-- an `initialize` was answered by a result
abbrev pub is_done : List Sent → Bool
is_done before = is_some (first_settled before)

-- none was, and one is open
abbrev pub is_waiting : List Sent → Bool
is_waiting before = not (is_done before) && not (is_empty (open_initializes before))

-- neither
abbrev pub is_fresh : List Sent → Bool
is_fresh before = not (is_done before) && is_empty (open_initializes before)

-- the editor sent such an act
abbrev pub was_sent : (Act → Bool) → List Sent → Bool
was_sent test before = list_any (sends test) before

-- the last phase that applies
abbrev pub phase : List Sent → Phase
phase before =
    if was_sent is_exit before then Exited
    else (if was_sent is_shutdown before then Stopping
    else (if was_sent is_initialized before then Ready
    else (if is_done before then Answered
    else (if is_waiting before then Waiting else Fresh))))
