use Rattle.lsp_text.proofs.Differing.LineStarts.{starts_at_front, starts_behind}
use Rattle.lsp_text.proofs.difference.line_start.Goals as goal

pub returns-in-None : goal.returns-in-None
returns-in-None c =
    starts_at_front c.args.text.now c.as_bytes-bytes.result.now c.args.offset c.search_end.result c.utf8.text c.as_bytes-bytes.ensures.value c.requires c.search_end.ensures c.in-None.ensures

pub returns-in-Some : goal.returns-in-Some
returns-in-Some c =
    starts_behind c.args.text.now c.as_bytes-bytes.result.now c.args.offset c.search_end.result c.in-Some.last c.utf8.text c.as_bytes-bytes.ensures.value c.requires c.search_end.ensures
    c.in-Some.ensures.0 c.in-Some.ensures.1
