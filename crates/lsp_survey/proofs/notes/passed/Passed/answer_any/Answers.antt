use Rattle.lsp_survey.proofs.notes.passed.Passed.answer_any.Goals as goal

pub returns-in-Some : goal.returns-in-Some
returns-in-Some c = rw c.in-Some.is c.answer.ensures
