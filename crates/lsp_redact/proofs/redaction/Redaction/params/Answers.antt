use Rattle.std.proofs.Common.{Some, refl}
use Rattle.std.proofs.lemmas.Result.{IfOk-weaker}
use Rattle.serde_json.specs.Data.{Data}
use Rattle.lsp_redact.proofs.Showing.{writes_made}
use Rattle.lsp_redact.proofs.ShownParams.{rest_written}
use Rattle.lsp_redact.proofs.redaction.Redaction.params.Goals as goal

pub returns-in_ok-offered-in-Initialize : goal.returns-in_ok-offered-in-Initialize
returns-in_ok-offered-in-Initialize c =
    rw c.in-Initialize.is (writes_made (λ (d : Data). Some d) _ refl
    c.in_ok-offered-in-Initialize.ensures)

pub returns-in-Cancel : goal.returns-in-Cancel
returns-in-Cancel c = rw c.in-Cancel.is c.naming.ensures

pub returns-in-Progress : goal.returns-in-Progress
returns-in-Progress c = rw c.in-Progress.is c.naming-in-Progress.ensures

pub returns-in_ok-registered-in-Register : goal.returns-in_ok-registered-in-Register
returns-in_ok-registered-in-Register c =
    let told = rw c.as_slice.ensures.value at c.in_ok-registered-in-Register.ensures in
    rw c.in-Register.is (writes_made (λ (d : Data). Some d) _ refl told)

pub returns-in_default : goal.returns-in_default
returns-in_default c =
    IfOk-weaker c.call.result _ _ (λ params is. rest_written c.args.self.now c.call.new.self
    c.args.act.now _ c.in_default.not-Initialize c.in_default.not-Cancel c.in_default.not-Progress
    c.in_default.not-Register is) c.call.ensures
