use Rattle.lsp_log.proofs.FirstLines.{first_taken}
use Rattle.lsp_log.proofs.found.first_line.Goals as goal

pub returns-clause-answer : goal.returns-clause-answer
returns-clause-answer g c =
    let reached = c.in_ok-reach.ensures.answer in
    first_taken c.in-Some.format _ _ _ _ _ _ c.near.result.now reached.1 c.near.ensures.value c.in-Some.ensures c.skip.ensures
