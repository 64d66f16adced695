use Rattle.std.proofs.Common.{w32, rules}
use Rattle.std.proofs.lemmas.Int.{to_z-of_z}
use mir.Val.{SFits}
use Rattle.lsp_facts.proofs.documents.of_rule.Goals as goal

pub returns-in-Changes : goal.returns-in-Changes
returns-in-Changes g c =
    let fits : SFits w32 c.in-Changes.version = search rules in
    rw c.in-Changes.is (simp to_z-of_z at c.of_change.ensures)
