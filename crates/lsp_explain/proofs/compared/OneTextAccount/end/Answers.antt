use Rattle.std.proofs.Common.{◌∙◌, ap, sym}
use Rattle.lsp_replay.proofs.TextRuns.{closes_answer}
use Rattle.lsp_verdict.specs.Verdict.{bad_log_of}
use Rattle.lsp_explain.specs.Compared.{answer_after, answer_behind, sound_answer}
use Rattle.lsp_explain.proofs.compared.OneTextAccount.end.Goals as goal

pub returns : goal.returns
returns c = record {
  closes = λ terms heard clean stood few.
      closes_answer (answer_after _) answer_behind c.in_ok-outcome.ensures
      (λ tail fits. c.answer_at.ensures
      ∙ ap (λ f. sound_answer (bad_log_of f)) (sym fits.fault));
}
