use Rattle.std.proofs.Common.{ap, ◌∙◌, ◌++◌, map}
use Rattle.std.specs.Prelude.{option_to_list}
use Rattle.lsp_verdict.specs.Heard.{heard_events}
use Rattle.lsp_redact.specs.View.{kept_view}
use Rattle.lsp_redact.proofs.AccountKeeps.{own_reads, own_speaks, waits_after}
use Rattle.lsp_redact.proofs.AccountSteps.{keeps_on}
use Rattle.lsp_redact.proofs.redacting.Redacting.keep.Goals as goal

pub returns-clause-keeps : goal.returns-clause-keeps
returns-clause-keeps c = λ terms before h stands seen rule.
    let own = c.args.self.now in
    keeps_on terms before h own _ stands rule
    (c.in_ok-push_given.ensures
    ∙ ap (λ o. map kept_view own.kept.items ++ option_to_list o)
    (c.in_ok-kept.ensures (heard_events before) h.note.event stands.awaits_is
    (own_reads terms before h _ _ _ c.args.seen.now seen stands.clean)
    (own_speaks terms before h _ _ _ c.args.seen.now seen stands.clean)))
    (waits_after terms before h _ _ _ c.args.seen.now seen stands.clean
    c.awaits_initialize-self.result c.awaits_initialize-self.ensures rule)
