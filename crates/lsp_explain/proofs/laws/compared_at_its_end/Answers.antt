use Rattle.lsp_explain.specs.Compared.{answer_after, answer_behind, compared_run}
use Rattle.lsp_replay.proofs.RunLaws.{writes_at_its_end}
use Rattle.lsp_replay.proofs.TextRuns.{quiet}
use Rattle.lsp_explain.proofs.laws.compared_at_its_end.Goals as goal

pub returns : goal.returns
returns c = λ which.
    writes_at_its_end (compared_run which) (quiet (answer_after which) answer_behind)
