use Rattle.std.proofs.Common.{◌∙◌, string_bytes}
use Rattle.std.proofs.lemmas.Result.{IfOk-weaker}
use Rattle.lsp_rpc.specs.View.{message_view}
use Rattle.lsp_redact.proofs.BrokenTexts.{content_left, never_both, params_left}
use Rattle.lsp_redact.proofs.broken.broken_text.Goals as goal

pub returns-then-rule-ne-BAD_METHOD_PARAMS : goal.returns-then-rule-ne-BAD_METHOD_PARAMS
returns-then-rule-ne-BAD_METHOD_PARAMS c = λ side refused.
    content_left c.args.content.now c.args.rule (string_bytes c.in_ok-text.text)
    c.if-rule-ne-BAD_METHOD_PARAMS.true (c.in_ok-text.ensures.ok ∙ c.broken_content.ensures)

pub returns-in-Ok : goal.returns-in-Ok
returns-in-Ok c =
    IfOk-weaker c.bare_text.result _ _ (λ text is side refused.
    params_left c.args.content.now c.args.rule (string_bytes text) (message_view c.in-Ok.message)
    c.if-rule-ne-BAD_METHOD_PARAMS.false c.in-Ok.ensures.ok is) c.bare_text.ensures

pub returns-in-Err-Rule : goal.returns-in-Err-Rule
returns-in-Err-Rule c = λ side refused.
    never_both side c.args.content.now c.args.rule c.in-Err-Rule.field-0 _ _
    c.if-rule-ne-BAD_METHOD_PARAMS.false refused c.in-Err-Rule.field-0-is c.in-Err-Rule.ensures.rule
