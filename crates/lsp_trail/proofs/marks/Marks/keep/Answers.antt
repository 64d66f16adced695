use Rattle.std.proofs.Common.{ap, subst, sym}
use Rattle.lsp_trail.specs.Marking.{StepsOn, finds_equal, marked_in}
use Rattle.lsp_trail.specs.declared.step.Step.{Step}
use Rattle.lsp_trail.proofs.marks.Marks.keep.Goals as goal

pub returns-in-Closes-clause-marked : goal.returns-in-Closes-clause-marked
returns-in-Closes-clause-marked c = subst (λ (step : Step). StepsOn c.args.uri.now c.args.place.now step
    c.args.self.now.map.entries c.close.new.map.entries) (sym c.in-Closes.is)
    (c.close.ensures c.args.place.now)

pub returns-in-Closes-clause-equal : goal.returns-in-Closes-clause-equal
returns-in-Closes-clause-equal c =
    ap (λ (step : Step). finds_equal step (marked_in c.args.self.now.map.entries c.args.uri.now))
    (sym c.in-Closes.is)
