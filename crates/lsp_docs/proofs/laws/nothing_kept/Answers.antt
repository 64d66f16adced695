use Rattle.lsp_docs.proofs.Past.{rule-none_kept, compared-none_kept}
use Rattle.lsp_docs.proofs.laws.nothing_kept.Goals as goal

pub returns : goal.returns
returns c = record {
  rule = λ terms calls uri n t none. rule-none_kept terms calls uri n t none;
  compared = λ terms front back uri n none. compared-none_kept terms front back uri n none;
}
