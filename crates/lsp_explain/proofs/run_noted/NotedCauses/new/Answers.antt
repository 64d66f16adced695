use Rattle.lsp_explain.proofs.run_noted.NotedCauses.new.Goals as goal

pub returns : goal.returns
returns c = record {
  completeness = c.new.ensures.completeness;
  stands = λ terms. record {
    causes = c.new.ensures.stands terms;
    notes = c.new-2.ensures terms;
  };
}
