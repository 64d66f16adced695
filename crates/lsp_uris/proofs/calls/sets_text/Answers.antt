use Rattle.std.proofs.Common.{◌∙◌, ap}
use Rattle.std.specs.Prelude.{not}
use Rattle.lsp_uris.proofs.SetTexts.{some_changes}
use Rattle.lsp_uris.proofs.calls.sets_text.Goals as goal

pub returns-in-Changes : goal.returns-in-Changes
returns-in-Changes c =
    let at = c.in-Changes in
    rw at.is (ap not c.is_empty.ensures
    ∙ some_changes at.encoding at.kind at.uri.now at.version at.changes.now)
