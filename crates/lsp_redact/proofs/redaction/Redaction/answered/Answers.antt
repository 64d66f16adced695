use Rattle.std.proofs.Common.{refl}
use Rattle.lsp_redact.proofs.Showing.{writes_same}
use Rattle.lsp_redact.proofs.ShownLists.{view-Null}
use Rattle.lsp_redact.proofs.redaction.Redaction.answered.Goals as goal

pub returns-in_ok-shown-in-Some : goal.returns-in_ok-shown-in-Some
returns-in_ok-shown-in-Some c =
    rw c.in-Some.is (record { same = refl; shows = c.in_ok-shown-in-Some.ensures })

pub returns-in-None : goal.returns-in-None
returns-in-None c = rw c.in-None.is (writes_same c.args.self.now _ _ view-Null)
