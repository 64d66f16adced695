use Rattle.std.proofs.Common.{true}
use Rattle.lsp_replay.specs.TextAnswers.{text_at, text_behind}
use Rattle.lsp_replay.proofs.RunLaws.{writes_at_its_end}
use Rattle.lsp_replay.proofs.TextRuns.{quiet}
use Rattle.lsp_survey.specs.KeptText.{kept_text_run}
use Rattle.lsp_survey.proofs.laws.kept_text_at_its_end.Goals as goal

pub returns : goal.returns
returns c = λ n uri. writes_at_its_end (kept_text_run n uri)
    (quiet (text_at (record { number = n; uri = uri; skips = true })) text_behind)
