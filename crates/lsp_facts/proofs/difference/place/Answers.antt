use Rattle.lsp_facts.proofs.difference.place.Goals as goal

pub returns-in-Exact : goal.returns-in-Exact
returns-in-Exact c = rw c.in-Exact.is c.at_difference.ensures

pub returns-in-Ignored : goal.returns-in-Ignored
returns-in-Ignored c = rw c.in-Ignored.is c.by_lines.ensures
