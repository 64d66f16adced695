use Rattle.std.proofs.Common.{◌∙◌, ap}
use Rattle.lsp_trail.specs.Common.{Exited, same_phase}
use Rattle.lsp_notes.proofs.along.has_exited.Goals as goal

pub returns : goal.returns
returns c = λ before stands.
    c.is_exited.ensures ∙ ap (λ p. same_phase p Exited) (c.phase.ensures before stands)
