use Rattle.lsp_request.proofs.Appended.{ahead_left}
use Rattle.lsp_request.proofs.reader.CountedReader+BufReader+R.consume.Goals as goal

pub returns-clause-bytes : goal.returns-clause-bytes
returns-clause-bytes g c =
    ahead_left g.R.Read.remaining c.args.self.now.reader _ c.args.count c.requires
    c.consume.ensures.bytes
