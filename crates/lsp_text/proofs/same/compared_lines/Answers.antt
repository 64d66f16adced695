use Rattle.lsp_text.proofs.SameBytes.{spelled_lines}
use Rattle.lsp_text.proofs.same.compared_lines.Goals as goal

pub returns : goal.returns
returns c = spelled_lines c.args.text.now c.without_last_end.result.now c.with_feeds.result
    c.utf8.text c.without_last_end.ensures c.with_feeds.ensures
