use Rattle.std.proofs.Common.{ap, ◌∙◌}
use Rattle.serde_json.specs.Data.{object}
use Rattle.lsp_redact.proofs.Members.{answer_made}
use Rattle.lsp_redact.proofs.messages.response_value.Goals as goal

pub returns : goal.returns
returns c =
    c.object_of.ensures
    ∙ ap object (answer_made _ _ _ _ _ _ _ _ c.no_members-members.ensures c.in_ok-put.ensures.ok
    c.in_ok-version_value.ensures c.in_ok-put-2.ensures.ok c.in_ok-put-3.ensures.ok)
