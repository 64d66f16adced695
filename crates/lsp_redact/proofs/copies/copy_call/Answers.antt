use Rattle.std.proofs.Common.{sym}
use Rattle.lsp_redact.proofs.Copying.{says_nothing}
use Rattle.lsp_redact.proofs.copies.copy_call.Goals as goal

pub returns-in_default : goal.returns-in_default
returns-in_default c =
    sym (says_nothing c.args.act.now c.in_default.not-DidOpen c.in_default.not-DidChange
    c.in_default.not-DidClose c.in_default.not-DidSave)
