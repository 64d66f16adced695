use Rattle.lsp_judge.proofs.TextRuns.{asked, text_told}
use Rattle.lsp_replay.specs.TextAnswers.{text_at, text_behind}
use Rattle.lsp_replay.proofs.TextRuns.{text_written}
use Rattle.lsp_judge.proofs.text.run_text.Goals as goal

pub returns : goal.returns
returns g c = record {
  text = text_written (text_at (asked c.args.number c.args.uri.now)) text_behind c.args.limits _
      (text_told c.args.number c.args.uri.now c.args.limits) _ _ c.pass.ensures.passes;
}
