use Rattle.lsp_replay.proofs.Apart.{none_waits}
use Rattle.lsp_replay.proofs.events.wanted_results.Goals as goal

pub returns-then-awaits_initialize : goal.returns-then-awaits_initialize
returns-then-awaits_initialize c = λ out. absurd (cc)

pub returns-else-awaits_initialize : goal.returns-else-awaits_initialize
returns-else-awaits_initialize c = λ out before stands.
    none_waits _ (c.if-awaits_initialize.ensures before stands)
