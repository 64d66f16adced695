use Rattle.std.proofs.Common.{true}
use Rattle.lsp_replay.specs.TextAnswers.{text_at, text_behind}
use Rattle.lsp_replay.proofs.TextRuns.{has_one_answer, kept_ends, behind_ends}
use Rattle.lsp_survey.proofs.laws.one_kept_text.Goals as goal

pub returns : goal.returns
returns c = λ n uri.
    has_one_answer (text_at (record { number = n; uri = uri; skips = true })) text_behind
    (kept_ends n uri) behind_ends
