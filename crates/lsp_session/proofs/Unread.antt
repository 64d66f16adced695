-- Nothing in a session reads the params of a message, and where no `initialize` is open nothing
-- reads the value of a result.
use Rattle.std.proofs.Common.{◌≡◌, ℕ, List, [], ◌∷◌, ◌++◌, Option, refl, sym, ap, ◌∙◌}
use Rattle.lsp_rpc.specs.Act.{Act}
use Rattle.lsp_rpc.specs.Message.{Message, request, notification, response, result, error}
use Rattle.lsp_rpc.specs.Outline.{without_params, without_result}
use Rattle.lsp_types.specs.declared.side.Side.{Side}
use Rattle.lsp_session.specs.Handshake.{open_initializes}
use Rattle.lsp_session.specs.Laws.{ParamsUnread, ResultUnread, sent_by}
use Rattle.lsp_session.specs.Rules.{rule_after}
use Rattle.lsp_session.specs.Sent.{Sent}
use Rattle.lsp_session.specs.State.{State, state_of, next}
use Rattle.lsp_session.proofs.Steps.{state_of-push}

module _ (before : List Sent) (side : Side) (act : Act) where
  abbrev RuleOf : Message → Option ℕ
  RuleOf m = rule_after before (sent_by side act m)

  abbrev StateAfter : Message → State
  StateAfter m = next (state_of before) (sent_by side act m)

  -- messages that are one without a part that isn't read break the same rule, and leave a session
  -- in the same state
  alike : (bare : Message → Message) → ((m : Message) → RuleOf m ≡ RuleOf (bare m))
      → ((m : Message) → StateAfter m ≡ StateAfter (bare m)) → (a b : Message) → bare a ≡ bare b
      → (RuleOf a ≡ RuleOf b) × (state_of (before ++ sent_by side act a ∷ [])
      ≡ state_of (before ++ sent_by side act b ∷ []))
  alike bare rule state a b same = (
    rule a ∙ ap RuleOf same ∙ sym (rule b),
    sym (state_of-push before (sent_by side act a)) ∙ state a ∙ ap StateAfter same ∙ sym (state b)
        ∙ state_of-push before (sent_by side act b),
  )

  rule_without_params : (m : Message) → RuleOf m ≡ RuleOf (without_params m)
  rule_without_params (request id method params) = refl
  rule_without_params (notification method params) = refl
  rule_without_params (response id reply) = refl

  state_without_params : (m : Message) → StateAfter m ≡ StateAfter (without_params m)
  state_without_params (request id method params) = refl
  state_without_params (notification method params) = refl
  state_without_params (response id reply) = refl

  module _ (none : open_initializes before ≡ []) where
    rule_without_result : (m : Message) → RuleOf m ≡ RuleOf (without_result m)
    rule_without_result (response id (result value)) = rw none
    rule_without_result _ = refl

    state_without_result : (m : Message) → StateAfter m ≡ StateAfter (without_result m)
    state_without_result (response id (result value)) = rw none
    state_without_result _ = refl

pub params_unread : ParamsUnread
params_unread before side act a b same =
    alike before side act without_params (rule_without_params before side act)
    (state_without_params before side act) a b same

pub result_unread : ResultUnread
result_unread before side act a b none same =
    alike before side act without_result (rule_without_result before side act none)
    (state_without_result before side act none) a b same
