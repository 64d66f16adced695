use Rattle.std.proofs.Common.{◌∙◌, ap}
use Rattle.std.specs.Prelude.{is_some}
use Rattle.lsp_origins.proofs.trace.earlier_of.Goals as goal

pub returns : goal.returns
returns c = λ terms before are.
    let setter = c.in_ok-set_by.ensures terms before are in
    let equal = c.is_some-was_equal.ensures ∙ ap is_some (c.agreed.ensures terms before are) in
    λ i. record { set_by = setter i; was_equal = equal i }
