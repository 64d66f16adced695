use Rattle.std.proofs.Common.{[], sym, ◌∙◌}
use Rattle.std.proofs.lemmas.Bool.{false≢true}
use Rattle.std.proofs.lemmas.List.{append-nil}
use Rattle.lsp_lined.specs.declared.walk.Front.{Front}
use Rattle.lsp_lined.proofs.HeldText.{holds}
use Rattle.lsp_lined.proofs.Walks.{left_in_order}
use Rattle.lsp_lined.proofs.lined.lines.Lines.spell.Goals as goal

pub walk-requires-clause-order : goal.walk-requires-clause-order
walk-requires-clause-order c = left_in_order (λ (a : Front). a.rest.now)

pub returns-in-Ok-clause-utf8 : goal.returns-in-Ok-clause-utf8
returns-in-Ok-clause-utf8 c = (holds c.self.inside.held c.args.self.now c.self.invariant c.self.view_is).utf8

pub returns-in-Err-clause-value : goal.returns-in-Err-clause-value
returns-in-Err-clause-value c = (
  λ t. absurd (false≢true t),
  λ e. absurd (c.in-Err.ensures.err.otherwise []
      (sym e ∙ sym c.self.view_is ∙ sym (append-nil _))),
)

pub returns-in-Err-clause-utf8 : goal.returns-in-Err-clause-utf8
returns-in-Err-clause-utf8 c = (holds c.self.inside.held c.args.self.now c.self.invariant c.self.view_is).utf8
