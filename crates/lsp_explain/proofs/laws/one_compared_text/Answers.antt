use Rattle.lsp_explain.specs.Compared.{answer_after, answer_behind}
use Rattle.lsp_replay.proofs.TextRuns.{has_one_answer}
use Rattle.lsp_explain.proofs.ComparedTexts.{after_ends, behind_ends}
use Rattle.lsp_explain.proofs.laws.one_compared_text.Goals as goal

pub returns : goal.returns
returns c = λ which.
    has_one_answer (answer_after which) answer_behind (after_ends which) behind_ends
