use Rattle.std.proofs.Common.{ap, ◌∙◌}
use Rattle.serde_json.specs.Data.{object}
use Rattle.lsp_redact.proofs.Members.{save_made}
use Rattle.lsp_redact.proofs.documents.saved_value.Goals as goal

pub returns : goal.returns
returns c =
    c.object_of.ensures
    ∙ ap object (save_made _ _ _ _ _ _ _ c.no_members-members.ensures c.in_ok-put_given.ensures
    c.given_text.ensures c.in_ok-put.ensures.ok c.in_ok-document.ensures)
