use Rattle.std.specs.Prelude.{codes, if◌then◌else◌, option_map, unwrap_or}
use Rattle.std.proofs.Common.{◌++◌, [], sym, ap, ◌∙◌}
use Rattle.std.proofs.lemmas.Result.{on_ok_weaker}
use Rattle.lsp_trail.specs.Common.{message_view, numbered, since}
use Rattle.lsp_facts.specs.EventFacts.{id_in}
use Rattle.lsp_origins.specs.Traced.{id_trace, place_facts}
use Rattle.lsp_origins.proofs.trace.trace_message.Goals as goal

pub returns-in-Some : goal.returns-in-Some
returns-in-Some c =
    let old = c.args.facts.now in
    let id = id_in (message_view c.args.message.now) in
    on_ok_weaker c.trace_id.result
    (λ says terms before are.
    let said = numbered terms before in
    says terms before are
    ∙ ap (λ o. old ++ unwrap_or (option_map (id_trace c.args.rule said c.args.side) o) [])
    c.in-Some.ensures
    ∙ ap (λ b. old ++ (if b then place_facts (codes "since") (since said)
    else unwrap_or (option_map (id_trace c.args.rule said c.args.side) id) []))
    (sym (sym c.is_on_phase.ensures ∙ c.if-is_on_phase.false)))
    c.trace_id.ensures
