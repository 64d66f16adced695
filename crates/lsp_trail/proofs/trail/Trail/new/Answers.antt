use Rattle.std.proofs.Common.{[], refl, subst, sym}
use Rattle.lsp_trail.specs.Bases.{AreBases}
use Rattle.lsp_trail.specs.Uncompared.{AreUncompared}
use Rattle.lsp_trail.proofs.trail.Trail.new.Goals as goal

pub returns : goal.returns
returns c = λ terms. record {
  marked = c.new.ensures;
  opened = c.new-2.ensures;
  based = subst (λ es. AreBases terms es []) (sym c.new-3.ensures) (λ uri. (refl, refl));
  changed = c.new-4.ensures terms;
  saved = c.new-5.ensures terms;
  shown = subst (λ es. AreUncompared terms es []) (sym c.new-6.ensures) (λ uri. refl);
  said = c.new-7.ensures;
}
