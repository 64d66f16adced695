use Rattle.std.proofs.Common.{Some, ap}
use Rattle.lsp_verdict.specs.Offences.{Offence}
use Rattle.lsp_judge.proofs.ruling.Ruling.no_next.Goals as goal

pub returns-clause-no : goal.returns-clause-no
returns-clause-no c = λ events counted.
    ap (λ (o : Offence). Some o.no) (c.next.ensures events counted)
