use Rattle.lsp_explain.proofs.run_all.AllCausesAccount.end.Goals as goal

pub returns : goal.returns
returns c = record { closes = c.in_ok-verdict.ensures.closes }
