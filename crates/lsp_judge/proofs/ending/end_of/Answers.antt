use Rattle.lsp_judge.proofs.Finals.{no_ends, yes_ends}
use Rattle.lsp_judge.proofs.ending.end_of.Goals as goal

pub returns-in-Some : goal.returns-in-Some
returns-in-Some g c = λ so_far follows.
    no_ends c.args.completeness c.args.events.now.docs.terms so_far c.args.editor c.args.server _
    (c.first_end.ensures so_far follows.holds) c.in-Some.rule c.in-Some.who c.no_next.result c.in-Some.is
    (c.no_next.ensures.no so_far follows.counted)

pub returns-in_ok-summary_of-in-None : goal.returns-in_ok-summary_of-in-None
returns-in_ok-summary_of-in-None g c = λ so_far follows.
    yes_ends c.args.completeness c.args.events.now.docs.terms so_far c.args.editor c.args.server _
    (c.first_end.ensures so_far follows.holds) c.in_ok-summary_of-in-None.field-0 c.in-None.is
    (c.in_ok-summary_of-in-None.ensures so_far follows)
