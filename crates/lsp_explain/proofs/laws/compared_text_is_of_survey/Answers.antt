use Rattle.lsp_explain.proofs.ComparedTexts.{compared_text_is_of_survey}
use Rattle.lsp_explain.proofs.laws.compared_text_is_of_survey.Goals as goal

pub returns : goal.returns
returns c = compared_text_is_of_survey
