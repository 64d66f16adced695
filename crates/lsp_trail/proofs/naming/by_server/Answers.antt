use Rattle.std.proofs.Common.{◌∙◌, sym}
use Rattle.std.proofs.lemmas.Result.{IfOk-weaker}
use Rattle.lsp_rpc.specs.View.{message_view}
use Rattle.lsp_trail.proofs.NamedDocuments.{diagnosed_so, undiagnosed}
use Rattle.lsp_trail.proofs.naming.by_server.Goals as goal

-- one without diagnostics
pub returns-then-not-diagnoses : goal.returns-then-not-diagnoses
returns-then-not-diagnoses c = λ m reads same.
    undiagnosed m (message_view c.args.message.now) same
    (sym c.diagnoses.ensures ∙ c.if-not-diagnoses.true)

pub returns : goal.returns
returns c = IfOk-weaker c.version_of.result _ _ (λ named is m reads same.
    is ∙ diagnosed_so m (message_view c.args.message.now) same c.args.content.now reads
    (sym c.diagnoses.ensures ∙ c.if-not-diagnoses.false)) c.version_of.ensures
