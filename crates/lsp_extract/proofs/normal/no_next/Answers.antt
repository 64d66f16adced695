use Rattle.lsp_extract.proofs.Forming.Forms.{no_is}
use Rattle.lsp_extract.proofs.normal.no_next.Goals as goal

pub returns : goal.returns
returns c = λ raws counted. no_is c.args.rule c.args.side c.who_of-who.result c.args.counts.now _ _
    raws counted c.who_of-who.ensures c.next-number.ensures
