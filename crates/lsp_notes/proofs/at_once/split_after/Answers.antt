use Rattle.std.proofs.Common.{◌≡◌}
use Rattle.lsp_notes.proofs.AtOnceSteps.{split_so}
use Rattle.lsp_notes.proofs.at_once.split_after.Goals as goal

pub returns : goal.returns
returns c =
    let same : c.in-Ok.column ≡ c.args.count = c.in-Ok.ensures.1 in
    split_so c.args.text.now c.split_at.result.0.now c.split_at.result.1.now c.in-Ok.column
    c.args.count c.in-Some.offset same c.split_at.ensures.front c.split_at.ensures.back c.utf8.text
    c.in-Some.ensures
