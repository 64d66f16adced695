use Rattle.lsp_rpc.proofs.Readings as lemmas
use Rattle.lsp_rpc.proofs.laws.message_or_rule.Goals as goal

pub returns : goal.returns
returns c = lemmas.message_or_rule
