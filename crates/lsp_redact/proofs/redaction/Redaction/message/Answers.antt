use Rattle.std.proofs.lemmas.Result.{IfOk-weaker}
use Rattle.lsp_rpc.specs.Ident.{id_view}
use Rattle.lsp_redact.proofs.Showing.{writes_joined}
use Rattle.lsp_redact.proofs.ShownLists.{lent}
use Rattle.lsp_redact.proofs.redaction.Redaction.message.Goals as goal

pub returns-in-Request : goal.returns-in-Request
returns-in-Request c =
    let told = rw c.as_str.ensures.value at c.called.ensures in rw c.in-Request.is told

pub returns-in-Notification : goal.returns-in-Notification
returns-in-Notification c =
    let told = rw c.as_str-in-Notification.ensures.value at c.called-in-Notification.ensures in
    rw c.in-Notification.is told

pub returns-in-Response : goal.returns-in-Response
returns-in-Response c =
    let id = lent id_view c.as_ref.result c.in-Response.id c.as_ref.ensures.value in
    let told = rw id at c.response.ensures in
    rw c.in-Response.is
    (IfOk-weaker c.response.result _ _ (λ shown writes. writes_joined writes) told)
