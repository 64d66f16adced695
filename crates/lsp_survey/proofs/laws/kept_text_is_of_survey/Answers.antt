use Rattle.lsp_survey.proofs.KeptTexts.{kept_text_is_of_survey}
use Rattle.lsp_survey.proofs.laws.kept_text_is_of_survey.Goals as goal

pub returns : goal.returns
returns c = kept_text_is_of_survey
