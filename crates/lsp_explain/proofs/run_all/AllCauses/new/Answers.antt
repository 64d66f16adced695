use Rattle.lsp_explain.proofs.run_all.AllCauses.new.Goals as goal

pub returns-clause-stands : goal.returns-clause-stands
returns-clause-stands c = λ terms. record {
  lost = c.new.ensures terms;
  tallied = c.new-2.ensures;
  trail = c.new-3.ensures terms;
}
