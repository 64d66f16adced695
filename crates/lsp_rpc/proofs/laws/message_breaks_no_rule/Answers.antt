use Rattle.lsp_rpc.proofs.Readings as lemmas
use Rattle.lsp_rpc.proofs.laws.message_breaks_no_rule.Goals as goal

pub returns : goal.returns
returns c = lemmas.not_both
