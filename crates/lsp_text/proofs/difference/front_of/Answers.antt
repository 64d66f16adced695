use Rattle.std.proofs.Common.{◌-◌, take, ap, ◌∙◌}
use Rattle.std.specs.Str.{chars}
use Rattle.lsp_text.proofs.Differing.LinePlaces.{before_there}
use Rattle.lsp_text.proofs.difference.front_of.Goals as goal

pub returns : goal.returns
returns c =
    let offset = c.args.offset in
    let start = c.line_start-start.result in
    ap chars (c.split_at-2.ensures.front ∙ ap (take (offset - start)) c.split_at.ensures.back)
    ∙ before_there c.args.text.now offset start c.utf8.text c.requires c.line_start-start.ensures
