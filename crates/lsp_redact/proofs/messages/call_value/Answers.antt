use Rattle.std.proofs.Common.{ap, ◌∙◌}
use Rattle.serde_json.specs.Data.{object}
use Rattle.lsp_redact.proofs.Members.{call_made}
use Rattle.lsp_redact.proofs.messages.call_value.Goals as goal

pub returns : goal.returns
returns c =
    c.object_of.ensures
    ∙ ap object (call_made _ _ _ _ _ _ _ _ _ _ c.no_members-members.ensures
    c.in_ok-put_given.ensures c.in_ok-put.ensures.ok c.in_ok-version_value.ensures
    c.in_ok-put-2.ensures.ok c.text_value.ensures c.in_ok-put_given-2.ensures)
