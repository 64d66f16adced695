use Rattle.std.specs.Str.{chars}
use Rattle.lsp_types.specs.declared.line_ends.LineEnds.TheVariants.{Ignored}
use Rattle.lsp_docs.proofs.Others.{same_where}
use Rattle.lsp_facts.proofs.text_facts.are_same_lines.Goals as goal

pub returns : goal.returns
returns c = same_where Ignored (chars c.args.held.now) (chars c.args.other.now)
    c.same_lines.result c.same_lines.ensures
