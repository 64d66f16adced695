use Rattle.std.proofs.Common.{◌∙◌}
use Rattle.std.proofs.lemmas.Result.{IfOk-weaker}
use Rattle.lsp_redact.proofs.Copying.{is_call}
use Rattle.lsp_redact.proofs.copies.copy_act.Goals as goal

pub returns-in_default : goal.returns-in_default
returns-in_default c =
    let same = is_call c.args.act.now c.in_default.not-Initialize c.in_default.not-Initialized
    c.in_default.not-Shutdown c.in_default.not-Exit c.in_default.not-Cancel
    c.in_default.not-Progress c.in_default.not-Early c.in_default.not-Register in
    IfOk-weaker c.copy_call.result _ _ (λ copy is. is ∙ same) c.copy_call.ensures
