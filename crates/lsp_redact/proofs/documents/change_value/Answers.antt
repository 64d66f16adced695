use Rattle.std.proofs.Common.{ap, ◌∙◌}
use Rattle.serde_json.specs.Data.{object}
use Rattle.lsp_redact.proofs.Members.{change_made}
use Rattle.lsp_redact.proofs.documents.change_value.Goals as goal

pub returns : goal.returns
returns c =
    c.object_of.ensures
    ∙ ap object (change_made _ _ _ _ _ _ _ _ _ _ c.no_members-members.ensures
    c.in_ok-put_given.ensures c.in_ok-range.ensures c.in_ok-put_given-2.ensures
    c.length_value.ensures c.in_ok-put.ensures.ok c.text_value.ensures)
