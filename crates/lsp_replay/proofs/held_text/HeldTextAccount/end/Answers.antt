use Rattle.std.proofs.Common.{◌∙◌, ap, sym}
use Rattle.lsp_replay.specs.TextAnswers.{end_answer, text_at, text_behind}
use Rattle.lsp_replay.proofs.TextRuns.{closes_answer}
use Rattle.lsp_verdict.specs.Verdict.{bad_log_of}
use Rattle.lsp_replay.proofs.held_text.HeldTextAccount.end.Goals as goal

pub returns : goal.returns
returns c = record {
  closes = λ terms heard few stood small.
      closes_answer (text_at _) text_behind c.in_ok-outcome.ensures
      (λ tail fits. c.at_end.ensures ∙ ap (λ f. end_answer (bad_log_of f)) (sym fits.fault));
}
