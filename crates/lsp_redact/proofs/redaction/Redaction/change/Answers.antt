use Rattle.std.proofs.Common.{ap, ◌∙◌}
use Rattle.lsp_rpc.specs.Act.{Text}
use Rattle.lsp_redact.specs.Characters.{shown_bytes}
use Rattle.lsp_redact.specs.Messages.{change_of}
use Rattle.lsp_redact.proofs.redaction.Redaction.change.Goals as goal

pub returns : goal.returns
returns c =
    c.in_ok-shown.ensures
    ∙ ap (λ (t : Text). change_of c.args.change.now.span c.args.change.now.range_length t)
    (c.in_ok-text.ensures ∙ ap (shown_bytes c.args.self.now.apart) c.as_str.ensures.value)
