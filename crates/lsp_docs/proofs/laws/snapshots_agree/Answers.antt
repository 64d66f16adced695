use Rattle.lsp_docs.proofs.Agreeing.{agrees-behind, agrees-before}
use Rattle.lsp_docs.proofs.laws.snapshots_agree.Goals as goal

pub returns : goal.returns
returns c = record {
  earlier = λ terms before between uri n t v h stays now number.
      agrees-behind terms before between uri n t h stays v now number;
  later = λ terms before between uri n t v h stays now number.
      agrees-before terms before between uri n t v h stays now number;
}
