use Rattle.lsp_survey.proofs.text.run_text_all.Goals as goal

pub returns : goal.returns
returns g c = record { passes = c.pass.ensures.passes }
