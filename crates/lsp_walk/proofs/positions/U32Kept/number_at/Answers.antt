use Rattle.std.proofs.Common.{refl}
use Rattle.serde_json.specs.Data.{number, unsigned}
use Rattle.lsp_walk.proofs.Walking.{numeral_value}
use Rattle.lsp_walk.proofs.positions.U32Kept.number_at.Goals as goal

pub returns-clause-read : goal.returns-clause-read
returns-clause-read c = λ may.
    let n = c.in_ok-n.n in
    let read = c.in_ok-n.ensures in (
      number (unsigned n),
      numeral_value c.args.bytes.now c.args.from c.in_ok-n.end n (read.read may),
      (refl, read.fits),
    )
