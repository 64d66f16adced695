-- Laws of the definitions.
use Rattle.std.specs.Prelude.{◌≡◌, ◌⊎◌, ℕ, ◌≤◌, List, [], ◌∷◌, ◌++◌, Bool, true, false, Some, None}
use Rattle.lsp_rpc.specs.Act.{Act}
use Rattle.lsp_rpc.specs.Message.{Message}
use Rattle.lsp_rpc.specs.Outline.{without_params, without_result}
use Rattle.lsp_types.specs.declared.side.Side.{Side}
use Rattle.lsp_session.specs.Handshake.{open_initializes, is_done, is_fresh, is_waiting}
use Rattle.lsp_session.specs.Lifecycle.{lifecycle_rule}
use Rattle.lsp_session.specs.Negotiation.{negotiation_rule}
use Rattle.lsp_session.specs.Requests.{answers, request_rule}
use Rattle.lsp_session.specs.Rules.{IsAdmitted, rule_after}
use Rattle.lsp_session.specs.Sent.{Sent, is_response}
use Rattle.lsp_session.specs.State.{state_of}

-- one of the three kinds of rules that the message breaks is this one
abbrev pub IsBroken : List Sent → Sent → ℕ → Type 0
IsBroken before m rule =
    (request_rule before m ≡ Some rule)
    ⊎ ((lifecycle_rule before m ≡ Some rule) ⊎ (negotiation_rule before m ≡ Some rule))

-- the rule that a message breaks is the least of those that it breaks
abbrev pub LeastRule : Type 0
LeastRule = (before : List Sent) (m : Sent) (rule : ℕ) → rule_after before m ≡ Some rule
    → IsBroken before m rule × ((other : ℕ) → IsBroken before m other → rule ≤ other)

-- a request among these that `m` answers, and its place
pub record AnsweredRequest (before : List Sent) (m : Sent) : Type 0 where
  pub earlier : List Sent
  pub asked : Sent
  pub between : List Sent
  pub place : before ≡ earlier ++ asked ∷ between
  pub answers : answers asked between m ≡ true

-- a response that breaks no rule answers a request
abbrev pub AnswersARequest : Type 0
AnswersARequest = (before : List Sent) (m : Sent) → rule_after before m ≡ None
    → is_response m.message ≡ true → AnsweredRequest before m

-- among admitted messages, no response answers requests at two places
abbrev pub AnswersNoOther : Type 0
AnswersNoOther = (earlier : List Sent) (first : Sent) (between : List Sent) (second : Sent)
    (after : List Sent) (m : Sent)
    → IsAdmitted (earlier ++ first ∷ (between ++ second ∷ after))
    → answers first (between ++ second ∷ after) m ≡ true
    → answers second after m ≡ false

-- a request that was answered is not answered again
abbrev pub AnsweredOnce : Type 0
AnsweredOnce = (asked : Sent) (between : List Sent) (m : Sent) (after : List Sent) (again : Sent)
    → answers asked between m ≡ true
    → answers asked (between ++ m ∷ after) again ≡ false

-- exactly one of three
abbrev pub OneOf : Bool → Bool → Bool → Type 0
OneOf a b c =
    ((a ≡ true) × (b ≡ false) × (c ≡ false))
    ⊎ ((a ≡ false) × (b ≡ true) × (c ≡ false))
    ⊎ ((a ≡ false) × (b ≡ false) × (c ≡ true))

-- the handshake is always in exactly one of its three states
abbrev pub OneHandshake : Type 0
OneHandshake = (before : List Sent) → OneOf (is_fresh before) (is_waiting before) (is_done before)

abbrev pub sent_by : Side → Act → Message → Sent
sent_by side act message = record { side = side; message = message; act = act }

-- where no `initialize` is open, messages that differ in the value of a result alone break the same
-- rule, and leave a session with the same
abbrev pub ResultUnread : Type 0
ResultUnread = (before : List Sent) (side : Side) (act : Act) (first second : Message)
    → open_initializes before ≡ []
    → without_result first ≡ without_result second
    → (rule_after before (sent_by side act first) ≡ rule_after before (sent_by side act second))
    × (state_of (before ++ sent_by side act first ∷ [])
    ≡ state_of (before ++ sent_by side act second ∷ []))

-- messages that mean the same and differ in their params alone break the same rule, and leave a
-- session with the same
abbrev pub ParamsUnread : Type 0
ParamsUnread = (before : List Sent) (side : Side) (act : Act) (first second : Message)
    → without_params first ≡ without_params second
    → (rule_after before (sent_by side act first) ≡ rule_after before (sent_by side act second))
    × (state_of (before ++ sent_by side act first ∷ [])
    ≡ state_of (before ++ sent_by side act second ∷ []))
