use Rattle.lsp_facts.proofs.ShapedMembers as proved
use Rattle.lsp_facts.proofs.laws.bad_params_have_a_member.Goals as goal

pub returns : goal.returns
returns c = proved.params_have_member
