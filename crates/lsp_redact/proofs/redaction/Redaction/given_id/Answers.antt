use Rattle.std.proofs.Common.{Some, refl}
use Rattle.serde_json.specs.Data.{Data}
use Rattle.lsp_redact.proofs.Showing.{shows_made, writes_same}
use Rattle.lsp_redact.proofs.redaction.Redaction.given_id.Goals as goal

pub returns-in_ok-shown-in-Some : goal.returns-in_ok-shown-in-Some
returns-in_ok-shown-in-Some c = rw c.in-Some.is (record {
  same = refl;
  shows = shows_made (λ (d : Data). Some d) _ refl c.in_ok-shown-in-Some.ensures;
})

pub returns-in-None : goal.returns-in-None
returns-in-None c = rw c.in-None.is (writes_same c.args.self.now _ _ refl)
