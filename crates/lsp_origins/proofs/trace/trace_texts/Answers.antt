use Rattle.std.proofs.Common.{◌++◌, ◌∙◌, ap, append_assoc}
use Rattle.std.proofs.lemmas.Result.{on_ok_weaker}
use Rattle.lsp_trail.specs.Marking.{recent, steps}
use Rattle.lsp_origins.specs.Traced.{equal_facts, suspect_facts}
use Rattle.lsp_origins.proofs.trace.trace_texts.Goals as goal

pub returns : goal.returns
returns c = on_ok_weaker c.push_suspects.result (λ said terms before are.
    let old = c.args.facts.now in
    let limit = c.args.until in
    let equal = c.agreed-equal.result in
    let last = recent (steps terms c.args.uri.now before) in
    let setters = c.as_slice.ensures.value ∙ c.in_ok-setters.ensures terms before are in
    said ∙ (λ i. c.in_ok-push_equal.ensures i ++ suspect_facts equal limit (setters i))
    ∙ append_assoc old (equal_facts equal) (suspect_facts equal limit last)
    ∙ ap (λ e. old ++ (equal_facts e ++ suspect_facts e limit last))
    (c.agreed-equal.ensures terms before are)) c.push_suspects.ensures
