use Rattle.std.proofs.Common.{sym, subst}
use Rattle.lsp_verdict.specs.Given.{AreCounts, raw_view}
use Rattle.lsp_verdict.specs.declared.counts.Counts.{Counts}
use Rattle.lsp_judge.proofs.Records.{hears_one}
use Rattle.lsp_judge.proofs.contents.take.Goals as goal

pub returns-in-Ok-clause-ok : goal.returns-in-Ok-clause-ok
returns-in-Ok-clause-ok g c = λ terms raws so_far has.
    hears_one terms _ _ _ _ _ _ raws so_far (raw_view c.args.raw) has c.in-Ok.ensures.terms
    (c.in-Ok.ensures.ok so_far has.follows.holds)

pub returns-in-Err-clause-no : goal.returns-in-Err-clause-no
returns-in-Err-clause-no g c = λ so_far follows.
    let counted = subst (λ (w : Counts). AreCounts w so_far) (sym c.in-Err.ensures.uncounted)
    follows.counted in
    c.no_for.ensures.no (raw_view c.args.raw) c.args.events.now.docs.terms so_far counted
    c.who-who.ensures (c.in-Err.ensures.rule so_far follows.holds)

pub returns-in-Err-clause-memory : goal.returns-in-Err-clause-memory
returns-in-Err-clause-memory g c = λ is so_far follows.
    rw (c.no_for.ensures.memory is) at (c.in-Err.ensures.rule so_far follows.holds)
