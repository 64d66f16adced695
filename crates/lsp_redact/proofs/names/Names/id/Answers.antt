use Rattle.std.proofs.Common.{rules, w32}
use Rattle.std.proofs.lemmas.Int.{to_z-of_z}
use mir.Val.{SFits}
use Rattle.lsp_redact.proofs.names.Names.id.Goals as goal

pub returns-in-Number : goal.returns-in-Number
returns-in-Number c =
    let fits : SFits w32 c.in-Number.number = search rules in
    let told = rw (to_z-of_z w32 c.in-Number.number fits) at c.id_number.ensures in
    rw c.in-Number.is told

pub returns-in-Text : goal.returns-in-Text
returns-in-Text c = let told = rw c.as_str.ensures.value at c.id_text.ensures in rw c.in-Text.is told
