use Rattle.std.proofs.Common.{◌∙◌, ap}
use Rattle.lsp_origins.specs.Traced.{last_place}
use Rattle.lsp_origins.proofs.trace.setter_of.Goals as goal

pub returns : goal.returns
returns c = λ terms before are.
    c.last_place.ensures
    ∙ ap last_place (c.as_slice.ensures.value ∙ c.in_ok-setters.ensures terms before are)
