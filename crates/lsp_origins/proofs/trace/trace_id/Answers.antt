use Rattle.std.specs.Prelude.{codes}
use Rattle.std.proofs.Common.{◌++◌, sym, ap, ◌∙◌, append_assoc}
use Rattle.std.proofs.lemmas.Result.{on_ok_weaker}
use Rattle.lsp_trail.specs.Common.{id_view, numbered, other_side}
use Rattle.lsp_trail.specs.Asking.{answered}
use Rattle.lsp_origins.specs.Traced.{id_trace, place_facts, twin_facts, twin}
use Rattle.lsp_origins.proofs.trace.trace_id.Goals as goal

pub returns-in_ok-push_twin-in-301 : goal.returns-in_ok-push_twin-in-301
returns-in_ok-push_twin-in-301 c =
    let old = c.args.facts.now in
    let side = c.args.side in
    let id = id_view c.args.id.now in
    on_ok_weaker c.push_earlier.result
    (λ says terms before are.
    let said = numbered terms before in
    let twins = c.in_ok-push_twin-in-301.ensures terms before are
    ∙ ap (λ s. old ++ twin_facts s said (twin id)) c.other_side-asker.ensures in
    let last = c.answered.ensures terms before are
    ∙ ap (λ s. answered s id said) c.other_side-asker.ensures in
    says
    ∙ (λ i. twins i ++ place_facts (codes "answered") (last i))
    ∙ append_assoc old (twin_facts (other_side side) said (twin id)) _
    ∙ ap (λ r. old ++ id_trace r said side id) (sym c.in-301.is))
    c.push_earlier.ensures
