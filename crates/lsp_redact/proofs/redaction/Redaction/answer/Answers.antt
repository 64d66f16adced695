use Rattle.std.proofs.Common.{◌≡◌, ap, rules, w32, ◌∙◌}
use Rattle.std.proofs.lemmas.Int.{to_z-of_z}
use mir.Val.{SFits}
use Rattle.serde_json.specs.View.{view}
use Rattle.lsp_redact.specs.Messages.{error_data}
use Rattle.lsp_redact.proofs.Showing.{writes_same}
use Rattle.lsp_redact.proofs.ShownLists.{view-Null}
use Rattle.lsp_redact.proofs.redaction.Redaction.answer.Goals as goal

pub returns-in_ok-shown-in-Picks : goal.returns-in_ok-shown-in-Picks
returns-in_ok-shown-in-Picks c = rw c.in-Picks.is c.in_ok-shown-in-Picks.ensures

pub returns-in-Nothing : goal.returns-in-Nothing
returns-in-Nothing c = rw c.in-Nothing.is (writes_same c.args.self.now _ _ view-Null)

pub returns-in_ok-error-in-Error : goal.returns-in_ok-error-in-Error
returns-in_ok-error-in-Error c =
    let fits : SFits w32 c.in-Error.code = search rules in
    let made : view c.in_ok-error-in-Error.error ≡ error_data c.in-Error.code =
    c.in_ok-error-in-Error.ensures ∙ ap error_data (to_z-of_z w32 c.in-Error.code fits) in
    rw c.in-Error.is (writes_same c.args.self.now _ _ made)
