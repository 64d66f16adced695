use Rattle.lsp_facts.proofs.ShapedMembers as proved
use Rattle.lsp_facts.proofs.laws.bad_result_has_a_member.Goals as goal

pub returns : goal.returns
returns c = proved.result_has_member
