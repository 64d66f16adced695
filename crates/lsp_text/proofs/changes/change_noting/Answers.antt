use Rattle.std.proofs.Common.{sym, ap, ◌∙◌}
use Rattle.lsp_text.proofs.Edits.Applied.{on_ok_always}
use Rattle.lsp_text.proofs.FoundChanges.{noted-nothing}
use Rattle.lsp_text.specs.Findings.{noted, found_of}
use Rattle.lsp_text.proofs.changes.change_noting.Goals as goal

pub returns-in-None-clause-found : goal.returns-in-None-clause-found
returns-in-None-clause-found g c =
    on_ok_always c.replace_all.result _
    (sym (noted-nothing c.args.found.now)
    ∙ ap (λ o. noted c.args.found.now (found_of c.args.encoding
    (g.S.TextStore.content c.args.store.now) o c.args.range_length)) (sym c.in-None.is))
