-- The answer for a text on a log.
use Rattle.std.proofs.Common.{[], refl, sym, ap, ◌∙◌}
use Rattle.lsp_verdict.specs.Outcome.{log_terms}
use Rattle.lsp_verdict.specs.Shown.{up_to_editor, text_answer, OneText, SomeText}
use Rattle.lsp_verdict.proofs.Logs.{same_events, same_terms, one_verdict, some_verdict}

pub some_text : SomeText
some_text limits log n uri =
    let (v, whole) = some_verdict limits log in (
      text_answer (log_terms limits whole.format) uri v (up_to_editor n [] whole.final.events),
      (v, whole, refl),
    )

pub one_text : OneText
one_text limits sizes log n uri a b (v, p, is) (w, q, at) =
    is ∙ ap (λ x. text_answer (log_terms limits p.format) uri x (up_to_editor n [] p.final.events)) (one_verdict limits sizes log v w p q)
    ∙ ap (λ t. text_answer t uri w (up_to_editor n [] p.final.events)) (same_terms limits sizes log v w p q)
    ∙ ap (λ es. text_answer (log_terms limits q.format) uri w (up_to_editor n [] es)) (same_events limits sizes log v w p q) ∙ sym at
