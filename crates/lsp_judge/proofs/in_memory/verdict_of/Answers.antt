use Rattle.std.proofs.Common.{Ok, ap, ◌∙◌}
use Rattle.lsp_replay.specs.Common.{IsVerdict, Told, verdict_view}
use Rattle.lsp_judge.proofs.InMemory.{of_memory}
use Rattle.lsp_judge.proofs.in_memory.verdict_of.Goals as goal

pub returns : goal.returns
returns c =
    of_memory c.args.limits c.args.log.now _ _
    (λ log. IsVerdict c.args.limits log (verdict_view c.in-Some.verdict))
    (ap (λ (t : Told). t.bytes) c.new-source.ensures)
    (c.check_held.ensures.checked.writes.verdict c.in-Some.verdict
    (c.in-Ok.is ∙ ap Ok c.in-Some.ensures))
