use Rattle.std.proofs.Common.{◌∙◌, ap}
use Rattle.std.proofs.lemmas.Result.{IfOk-weaker}
use Rattle.lsp_facts.specs.EventFacts.{header_facts}
use Rattle.lsp_facts.proofs.faults.frame_facts.Goals as goal

pub returns : goal.returns
returns c = IfOk-weaker c.header_facts.result _ _
    (λ facts are. are ∙ ap header_facts c.header_front.ensures) c.header_facts.ensures
