use Rattle.lsp_facts.proofs.difference.apart.Goals as goal

pub returns-in_default : goal.returns-in_default
returns-in_default c = λ differ. absurd (differ (rw c.in_default.is at c.in_ok-facts.ensures))

pub returns : goal.returns
returns c = λ differ.
    let told = rw c.in-Some.is at c.in_ok-facts.ensures in
    record { place = c.in-Some.facts; at = told.1; are = c.in_ok-line_ends.ensures }
