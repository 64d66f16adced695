use Rattle.lsp_rpc.proofs.IdLemmas as lemmas
use Rattle.lsp_rpc.proofs.laws.same_id_is_equality.Goals as goal

pub returns : goal.returns
returns c = lemmas.same_id_is_equality
