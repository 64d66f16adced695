use Rattle.std.proofs.Common.{ap}
use Rattle.lsp_verdict.specs.Offences.{Offence}
use Rattle.lsp_verdict.specs.Verdict.{Verdict}
use Rattle.lsp_verdict.proofs.offence.Offence.next.Goals as goal

pub returns : goal.returns
returns c = λ events counted.
    ap (λ (v : Verdict). let o : Offence = record { no = v; follows = c.args.follows } in o) (c.next-number.ensures c.args.rule events counted)
