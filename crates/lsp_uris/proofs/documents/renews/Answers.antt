use Rattle.std.proofs.Common.{◌∙◌, sym}
use Rattle.lsp_uris.proofs.SetTexts.{any_renews}
use Rattle.lsp_uris.proofs.documents.renews.Goals as goal

pub returns-in-Changes : goal.returns-in-Changes
returns-in-Changes c =
    rw c.in-Changes.is (c.any_whole.ensures ∙ sym (any_renews c.in-Changes.changes.now))
