use Rattle.std.specs.Prelude.{option_map}
use Rattle.std.proofs.Common.{◌∙◌, None, ap, sym}
use Rattle.lsp_outline.specs.Versions.{versioned}
use Rattle.lsp_rpc.specs.View.{message_view}
use Rattle.lsp_trail.proofs.NamedDocuments.{named_so, unnamed}
use Rattle.lsp_trail.proofs.naming.by_editor.Goals as goal

-- a response names none
pub returns-then-not-is_call : goal.returns-then-not-is_call
returns-then-not-is_call c = λ m reads same.
    unnamed m (message_view c.args.message.now) same
    (sym c.is_call.ensures ∙ c.if-not-is_call.true)

pub returns : goal.returns
returns c = λ m reads same.
    c.without_version.ensures
    ∙ ap (option_map (versioned None)) c.in_ok-uri.ensures
    ∙ named_so m (message_view c.args.message.now) same c.args.content.now reads
    (sym c.is_call.ensures ∙ c.if-not-is_call.false)
