use Rattle.lsp_explain.proofs.compared.run_compared.Goals as goal

pub returns : goal.returns
returns g c = record { passes = c.pass.ensures.passes }
