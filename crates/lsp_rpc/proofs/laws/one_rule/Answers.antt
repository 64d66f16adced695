use Rattle.lsp_rpc.proofs.Readings as lemmas
use Rattle.lsp_rpc.proofs.laws.one_rule.Goals as goal

pub returns : goal.returns
returns c = lemmas.one_rule
