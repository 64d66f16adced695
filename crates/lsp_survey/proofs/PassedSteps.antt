-- What is noted of the requests that were passed over, with one event more.
use Rattle.std.specs.Prelude.{if◌then◌else◌, ◌&&◌, ◌||◌, ◌==◌, option_and_then, unwrap_or}
use Rattle.std.proofs.Common.{◌≡◌, Bool, List, Option, refl, sym, ap, ◌∙◌, ℕ, true, false}
use Rattle.std.proofs.Common.{Some, None, subst}
use Rattle.lsp_replay.specs.Common.{answered_by, answered_from, asked_by, asked_from, error, Event}
use Rattle.lsp_replay.specs.Common.{follows_passed, Id, id_view, Ident, is_passed, is_unheard}
use Rattle.lsp_replay.specs.Common.{leaves_unheard, Message, message_view, Noted, notification}
use Rattle.lsp_replay.specs.Common.{other_side, outline, passes, request, request_id, response}
use Rattle.lsp_replay.specs.Common.{response_id, result, same_id, same_side, Side, Terms}
use Rattle.lsp_rpc.specs.declared.message.Message as lent
use Rattle.lsp_rpc.specs.declared.message.Message.TheVariants as sends
use Rattle.serde_json.specs.Data.{Data}
use Rattle.lsp_types.specs.declared.rules.TheConstants as rules
use Rattle.lsp_types.specs.declared.side.Side.TheVariants.{Editor, Server}
use Rattle.lsp_verdict.specs.Event.{fault}
use Rattle.lsp_verdict.specs.Offences.{is_any_passed, is_initialized_by}
use Rattle.lsp_verdict.specs.Offences.{tells_initialized}
use Rattle.lsp_survey.specs.Notes.{ArePassed, Passes, SetsRequest, SetsAny, has_any, has_passed}
use Rattle.lsp_survey.specs.Lost.{IsMessageOf}
use Rattle.lsp_survey.specs.declared.notes.passed.Passed.{Passed}

-- ---- one request is noted, or no more

set_true : (own old : Bool) → (if own then true else old)
    ≡ unwrap_or (if own then Some true else None) old
set_true true old = refl
set_true false old = refl

-- what a side's request with this id comes to, if it is noted
asked_sets : (by : Side) (o : Option Ident) (rule : ℕ) (old new : Passed) → SetsAny by o old new
    → (side : Side) (k : Id) → has_passed new side (id_view k)
    ≡ unwrap_or (passes (if same_side side by then o else None) None (id_view k) rule)
    (has_passed old side (id_view k))
asked_sets Editor None rule old new same Editor k = ap (λ p. has_passed p Editor (id_view k)) same
asked_sets Editor None rule old new same Server k = ap (λ p. has_passed p Server (id_view k)) same
asked_sets Server None rule old new same Editor k = ap (λ p. has_passed p Editor (id_view k)) same
asked_sets Server None rule old new same Server k = ap (λ p. has_passed p Server (id_view k)) same
asked_sets Editor (Some id) rule old new sets Editor k =
    sets Editor k ∙ set_true (same_id id (id_view k)) (has_passed old Editor (id_view k))
asked_sets Editor (Some id) rule old new sets Server k = sets Server k
asked_sets Server (Some id) rule old new sets Editor k = sets Editor k
asked_sets Server (Some id) rule old new sets Server k =
    sets Server k ∙ set_true (same_id id (id_view k)) (has_passed old Server (id_view k))

-- ---- what a message does

module _ (rule : ℕ) (old new : Passed) where
  pub asked_passes : (by : Side) (id : Ident) (method : List ℕ) (params : Option Data)
      → SetsRequest by id true old new → Passes rule by (request id method params) old new
  asked_passes Editor id method params sets Editor k =
      asked_sets Editor (Some id) rule old new sets Editor k
  asked_passes Editor id method params sets Server k =
      asked_sets Editor (Some id) rule old new sets Server k
  asked_passes Server id method params sets Editor k =
      asked_sets Server (Some id) rule old new sets Editor k
  asked_passes Server id method params sets Server k =
      asked_sets Server (Some id) rule old new sets Server k

-- ---- what an event does

asked_alike : (side by : Side) (m : Message) → asked_from side by (outline m) ≡ asked_from side by m
asked_alike side by (request id method params) = refl
asked_alike side by (notification method params) = refl
asked_alike side by (response id (result value)) = refl
asked_alike side by (response id (error code)) = refl

answered_alike : (m : Message) → response_id (outline m) ≡ response_id m
answered_alike (request id method params) = refl
answered_alike (notification method params) = refl
answered_alike (response id (result value)) = refl
answered_alike (response id (error code)) = refl

tells_alike : (m : Message) → tells_initialized (outline m) ≡ tells_initialized m
tells_alike (request id method params) = refl
tells_alike (notification method params) = refl
tells_alike (response id (result value)) = refl
tells_alike (response id (error code)) = refl

module _ (by : Side) (said : Message) (event : Event) (is : IsMessageOf by said event) where
  pub message_initialized : (same_side Editor by && tells_initialized said)
      ≡ is_initialized_by event
  message_initialized =
      ap (λ b. same_side Editor by && b) (sym (tells_alike said)
      ∙ ap tells_initialized (sym is.3) ∙ tells_alike is.0.message)
      ∙ ap (λ s. same_side Editor s && tells_initialized is.0.message) (sym is.2)
      ∙ ap is_initialized_by (sym is.1)

  -- it leaves the server without an `initialized`
  pub message_unheard : (rule : ℕ)
      → (is_initialized_by event || rule == rules.INITIALIZED_NOT_FIRST) ≡ leaves_unheard rule event
  message_unheard rule =
      ap (λ e. is_initialized_by e || rule == rules.INITIALIZED_NOT_FIRST) is.1
      ∙ ap (leaves_unheard rule) (sym is.1)

  same_id_in : response_id said ≡ response_id is.0.message
  same_id_in = sym (answered_alike said) ∙ ap response_id (sym is.3) ∙ answered_alike is.0.message

  asked_is : (side : Side) → asked_from side by said ≡ asked_by side event None
  asked_is side =
      sym (asked_alike side by said)
      ∙ ap (asked_from side by) (sym is.3)
      ∙ asked_alike side by is.0.message
      ∙ ap (λ s. asked_from side s is.0.message) (sym is.2)
      ∙ ap (λ e. asked_by side e None) (sym is.1)

  answered_is : (side : Side) → answered_from side by said ≡ answered_by side event
  answered_is side =
      ap (λ o. if same_side side by then None else o) same_id_in
      ∙ ap (λ s. answered_from side s is.0.message) (sym is.2)
      ∙ ap (answered_by side) (sym is.1)

  pub message_passes : (rule : ℕ) (old new : Passed) → Passes rule by said old new
      → ArePassed (Some rule) event None old new
  message_passes rule old new noted side k =
      noted side k
      ∙ ap (λ o. unwrap_or (passes o (answered_from side by said) (id_view k) rule)
      (has_passed old side (id_view k))) (asked_is side)
      ∙ ap (λ o. unwrap_or (passes (asked_by side event None) o (id_view k) rule)
      (has_passed old side (id_view k))) (answered_is side)

-- a content that cannot be read
pub content_passes : (by : Side) (code rule : ℕ) (malformed : Option Message) (old new : Passed)
    → SetsAny by (option_and_then request_id malformed) old new
    → ArePassed (Some rule) (fault by code) malformed old new
content_passes by code rule None old new same side k =
    ap (λ p. has_passed p side (id_view k)) same
content_passes by code rule (Some m) old new sets side k =
    asked_sets by (request_id m) rule old new sets side k

-- an event that asks nothing and answers nothing
pub fault_passes : (event : Event) (by : Side) (code rule : ℕ) (old new : Passed)
    → event ≡ fault by code → new ≡ old → ArePassed (Some rule) event None old new
fault_passes event by code rule old new is same =
    subst (λ (e : Event). ArePassed (Some rule) e None old new) (sym is)
    (content_passes by code rule None old new same)

pub kept_passes : (event : Event) (malformed : Option Message) (old new : Passed) → new ≡ old
    → ArePassed None event malformed old new
kept_passes event malformed old new same side k = ap (λ p. has_passed p side (id_view k)) same

-- ---- what follows from a message that was passed over

module _ (terms : Terms) (before : List Noted) (p : Passed)
    (are : (side : Side) (k : Id) → has_passed p side (id_view k)
    ≡ is_passed terms side (id_view k) before) (unheard : Bool)
    (told : unheard ≡ is_unheard terms before) where
  any_passed : (side : Side) (m : lent.Message) → has_any p side (response_id (message_view m))
      ≡ is_any_passed terms side (response_id (message_view m)) before
  any_passed side (sends.Request id method params) = refl
  any_passed side (sends.Notification method params) = refl
  any_passed side (sends.Response None answer) = refl
  any_passed side (sends.Response (Some id) answer) = are side id

  pub passed_late : (rule : ℕ) (by : Side) (m : lent.Message) (event : Event)
      → IsMessageOf by (message_view m) event
      → (rule == rules.RESPONSE_TO_NO_OPEN_REQUEST
      && has_any p (other_side by) (response_id (message_view m))
      || rule == rules.INITIALIZED_NOT_FIRST && unheard)
      ≡ follows_passed terms rule before event
  passed_late rule by m event is =
      ap (λ b. rule == rules.RESPONSE_TO_NO_OPEN_REQUEST && b
      || rule == rules.INITIALIZED_NOT_FIRST && unheard) (any_passed (other_side by) m)
      ∙ ap (λ b. rule == rules.RESPONSE_TO_NO_OPEN_REQUEST
      && is_any_passed terms (other_side by) (response_id (message_view m)) before
      || rule == rules.INITIALIZED_NOT_FIRST && b) told
      ∙ ap (λ o. rule == rules.RESPONSE_TO_NO_OPEN_REQUEST
      && is_any_passed terms (other_side by) o before
      || rule == rules.INITIALIZED_NOT_FIRST && is_unheard terms before)
      (same_id_in by (message_view m) event is)
      ∙ ap (λ s. rule == rules.RESPONSE_TO_NO_OPEN_REQUEST
      && is_any_passed terms (other_side s) (response_id is.0.message) before
      || rule == rules.INITIALIZED_NOT_FIRST && is_unheard terms before) (sym is.2)
      ∙ ap (follows_passed terms rule before) (sym is.1)
