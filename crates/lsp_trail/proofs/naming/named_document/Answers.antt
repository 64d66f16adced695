use Rattle.std.proofs.Common.{◌∙◌, sym}
use Rattle.std.proofs.lemmas.Result.{IfOk-weaker}
use Rattle.lsp_trail.proofs.NamedDocuments.{said_so, silent, silent_raw}
use Rattle.lsp_trail.proofs.naming.named_document.Goals as goal

-- no content is no message
pub returns-in_default : goal.returns-in_default
returns-in_default c = λ kept event reads speaks.
    silent_raw c.args.raw event c.in_default.not-Content reads

pub returns-in_default-spoken : goal.returns-in_default-spoken
returns-in_default-spoken c = λ kept event reads speaks.
    silent event (rw c.in_default-spoken.is at speaks)

pub returns : goal.returns
returns c = IfOk-weaker c.named_in.result _ _ (λ named is kept event reads speaks.
    let said = rw c.in-Some.is at speaks in
    let own = said_so c.in-Content.side c.in-Content.content.now event (rw c.in-Content.is at reads)
    said.1.sent said.1.is in
    is said.1.sent.message own.0 said.1.says ∙ sym own.1) c.named_in.ensures
