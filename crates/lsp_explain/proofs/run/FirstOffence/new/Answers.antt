use Rattle.std.proofs.Common.{refl}
use Rattle.lsp_explain.proofs.run.FirstOffence.new.Goals as goal

pub returns : goal.returns
returns c = record {
  completeness = refl;
  stands = λ terms. record {
    trail = c.new.ensures terms;
    misfits = c.new-2.ensures;
    messages = c.new-3.ensures terms;
    clean = refl;
  };
}
