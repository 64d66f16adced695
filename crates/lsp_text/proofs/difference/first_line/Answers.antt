use Rattle.std.proofs.Common.{ap, ◌∙◌}
use Rattle.std.specs.Str.{chars}
use Rattle.lsp_text.proofs.Differing.LinePlaces.{line_whole, first_boundary, first_spelled}
use Rattle.lsp_text.proofs.difference.first_line.Goals as goal

pub returns-in_default : goal.returns-in_default
returns-in_default c = line_whole c.args.text.now c.in_default.ensures

pub split_at-requires : goal.split_at-requires
split_at-requires c = first_boundary c.args.text.now c.in-Some.line c.in-Some.ensures

pub returns : goal.returns
returns c = ap chars c.split_at.ensures.front ∙ first_spelled c.args.text.now c.in-Some.line c.in-Some.ensures
