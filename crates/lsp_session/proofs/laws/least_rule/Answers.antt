use Rattle.lsp_session.proofs.LeastRuleLemmas as lemmas
use Rattle.lsp_session.proofs.laws.least_rule.Goals as goal

pub returns : goal.returns
returns c = lemmas.least_rule
