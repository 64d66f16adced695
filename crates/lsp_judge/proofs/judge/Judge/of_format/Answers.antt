use Rattle.std.proofs.Common.{refl}
use Rattle.lsp_judge.proofs.Records.{new_stands}
use Rattle.lsp_judge.proofs.judge.Judge.of_format.Goals as goal

pub returns-clause-stands : goal.returns-clause-stands
returns-clause-stands g c =
    new_stands _ c.new.ensures c.new-2.ensures.terms c.new-2.ensures.follows refl
