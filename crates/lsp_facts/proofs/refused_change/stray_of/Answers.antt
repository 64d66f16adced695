use Rattle.std.specs.Str.{chars}
use Rattle.lsp_facts.proofs.MadeChanges.{first_stray, second_stray}
use Rattle.lsp_facts.proofs.refused_change.stray_of.Goals as goal

pub returns-in-Some : goal.returns-in-Some
returns-in-Some c = first_stray c.args.encoding (chars c.args.text.now) c.args.span c.in-Some.field-0 c.in-Some.ensures

pub returns-in-None : goal.returns-in-None
returns-in-None c = second_stray c.args.encoding (chars c.args.text.now) c.args.span c.in-None.ensures
