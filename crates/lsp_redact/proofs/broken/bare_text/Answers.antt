use Rattle.std.proofs.Common.{string_bytes}
use Rattle.serde_json.specs.View.{view}
use Rattle.lsp_rpc.specs.View.{message_view}
use Rattle.lsp_redact.proofs.BrokenTexts.{call_left}
use Rattle.lsp_redact.proofs.broken.bare_text.Goals as goal

pub returns : goal.returns
returns c =
    call_left (message_view c.args.message.now) (view c.in_ok-bare.bare)
    (string_bytes c.in_ok-text.text) c.in_ok-bare.ensures c.in_ok-text.ensures.text
