use Rattle.lsp_docs.proofs.Setters.{has-setter, no-setter}
use Rattle.lsp_docs.proofs.laws.setters_compare.Goals as goal

pub returns : goal.returns
returns c = record {
  compared = λ terms front back uri n t h is. has-setter terms front back uri n t h is;
  unmatched = λ terms front back uri n t h is place bound set.
      no-setter terms front back uri n t h is place bound set;
}
