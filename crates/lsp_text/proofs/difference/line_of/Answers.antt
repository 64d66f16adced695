use Rattle.std.proofs.Common.{ap, ◌∙◌}
use Rattle.std.specs.Str.{chars}
use Rattle.lsp_text.specs.Lines.{spelled, line_at}
use Rattle.lsp_text.proofs.Differing.LinePlaces.{line_there}
use Rattle.lsp_text.proofs.difference.line_of.Goals as goal

pub returns : goal.returns
returns c =
    c.first_line.ensures ∙ ap (λ bs. spelled (line_at 0 (chars bs))) c.split_at.ensures.back
    ∙ line_there c.args.text.now c.args.offset c.line_start.result c.utf8.text c.requires c.line_start.ensures
