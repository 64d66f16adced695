-- Laws of `check` and `show`, with lines and with JSON: what they answer is the verdict, and each
-- log has one output.
use Rattle.lsp_judge.specs.JudgingRun.{JudgingAsked, judging_run}
use Rattle.lsp_replay.specs.JsonRun.{run_in}
use Rattle.lsp_replay.specs.RunLaws.{AnswersVerdict, HasOneOutput}
use Rattle.lsp_replay.specs.declared.form.Form.{Form}

-- **What these runs answer is the verdict on the log**, in each form
abbrev pub JudgingAnswersVerdict : Type 0
JudgingAnswersVerdict = (form : Form) (asked : JudgingAsked)
    → AnswersVerdict asked.completeness (run_in form (judging_run asked))

-- **Each log has exactly one output of these runs**, in each form
abbrev pub OneJudgingOutput : Type 0
OneJudgingOutput =
    (form : Form) (asked : JudgingAsked) → HasOneOutput (run_in form (judging_run asked))
