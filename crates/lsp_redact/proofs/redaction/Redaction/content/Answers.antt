use Rattle.std.proofs.Common.{◌≡◌, false, string_bytes}
use Rattle.serde_json.specs.Data.{Data}
use Rattle.serde_json.specs.Written.{compact_text, has_float}
use Rattle.lsp_rpc.specs.View.{act_view}
use Rattle.lsp_redact.specs.Shown.{shown_act, shown_head}
use Rattle.lsp_redact.specs.View.{head_view}
use Rattle.lsp_redact.proofs.Showing.{writes_good}
use Rattle.lsp_redact.proofs.WrittenTexts.{no_float}
use Rattle.lsp_redact.proofs.redaction.Redaction.content.Goals as goal

pub returns : goal.returns
returns c =
    writes_good compact_text (string_bytes c.in_ok-text.text)
    (λ (d : Data). has_float d ≡ false)
    (λ n. no_float (shown_head n (head_view c.args.head.now))
    (shown_act n c.args.self.now.apart (act_view c.args.act.now)))
    c.in_ok-text.ensures.text c.in_ok-message.ensures
