use Rattle.std.proofs.Common.{Some, refl}
use Rattle.serde_json.specs.Data.{Data}
use Rattle.lsp_redact.proofs.Showing.{writes_made, writes_same}
use Rattle.lsp_redact.proofs.redaction.Redaction.given_encodings.Goals as goal

pub returns-in_ok-shown-in-Some : goal.returns-in_ok-shown-in-Some
returns-in_ok-shown-in-Some c =
    let told = rw c.as_slice.ensures.value at c.in_ok-shown-in-Some.ensures in
    rw c.in-Some.is (writes_made (λ (d : Data). Some d) _ refl told)

pub returns-in-None : goal.returns-in-None
returns-in-None c = rw c.in-None.is (writes_same c.args.self.now _ _ refl)
