use Rattle.std.proofs.Common.{List, ℕ, OnOk, OnErr, subst}
use Rattle.lsp_lined.proofs.Walks.{cut_between}
use Rattle.lsp_lined.proofs.block.BlockPart.walk.Goals as goal

pub returns-clause-ok : goal.returns-clause-ok
returns-clause-ok g c =
    subst
    (λ (x : List ℕ). OnOk c.visit.result
    (g.V.Visitor.sees c.args.visitor.now x c.visit.new.self))
    (cut_between c.args.self.now c.as_str.result.now c.split_at.result.0.now
    c.split_at-2.result.1.now c.args.from c.args.to c.requires.span.order c.as_str.ensures
    c.split_at.ensures.front c.split_at-2.ensures.back)
    c.visit.ensures.ok

pub returns-clause-err : goal.returns-clause-err
returns-clause-err g c =
    subst
    (λ (x : List ℕ). OnErr c.visit.result
    (g.V.Visitor.stops c.args.visitor.now x c.visit.new.self))
    (cut_between c.args.self.now c.as_str.result.now c.split_at.result.0.now
    c.split_at-2.result.1.now c.args.from c.args.to c.requires.span.order c.as_str.ensures
    c.split_at.ensures.front c.split_at-2.ensures.back)
    c.visit.ensures.err
