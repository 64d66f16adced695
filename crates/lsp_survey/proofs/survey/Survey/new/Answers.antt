use Rattle.lsp_survey.proofs.survey.Survey.new.Goals as goal

pub returns-clause-stands : goal.returns-clause-stands
returns-clause-stands c = λ terms. record { losses = c.new.ensures terms; tally = c.new-2.ensures }
