use Rattle.std.specs.Prelude.{codes, map}
use Rattle.std.proofs.Common.{◌++◌, ◌∙◌, Some, ap, append_assoc, sym}
use Rattle.std.proofs.lemmas.Result.{on_ok_weaker}
use Rattle.lsp_trail.specs.Common.{call_view, calls, kept_of, steps, terms_in, uri_of}
use Rattle.lsp_types.specs.declared.rules.TheConstants.{SAVED_TEXT_DIFFERS, SNAPSHOT_DIFFERS}
use Rattle.lsp_facts.specs.Fact.{cited}
use Rattle.lsp_origins.specs.Told.{told_facts}
use Rattle.lsp_origins.specs.Traced.{apart_facts, apart_traced, differing, until_of}
use Rattle.lsp_origins.proofs.trace.trace_call.Goals as goal

pub returns-then-rule-eq-SNAPSHOT_DIFFERS : goal.returns-then-rule-eq-SNAPSHOT_DIFFERS
returns-then-rule-eq-SNAPSHOT_DIFFERS c =
    on_ok_weaker c.push_told.result (λ says before stands breaks tried.
    let old = c.args.facts.now in
    let terms = terms_in c.args.past in
    let call = call_view c.args.call in
    let place = c.args.place in
    let done = steps terms (uri_of call) before in
    let limit = until_of place call in
    let is = c.if-rule-eq-SNAPSHOT_DIFFERS.true in
    let snapshots = map (cited (codes "snapshot")) c.as_slice.result.now in
    let more = told_facts terms before SNAPSHOT_DIFFERS limit call in
    let found = c.as_slice.ensures.value
    ∙ c.in_ok-snapshots.ensures before stands (breaks ∙ ap Some is) tried
    ∙ ap (differing terms (calls (kept_of terms before)) done place call)
    c.until_of-until.ensures in
    let texts = c.in_ok-trace_texts.ensures terms before stands.trail.marked in
    says before stands breaks tried
    ∙ (λ i. texts i ++ told_facts terms before (is i) (c.until_of-until.ensures i) call)
    ∙ (λ i. (c.in_ok-push_snapshots.ensures i
    ++ apart_facts (steps terms (c.uri-uri.ensures i) before) (c.until_of-until.ensures i)) ++ more)
    ∙ append_assoc (old ++ snapshots) (apart_facts done limit) more
    ∙ append_assoc old snapshots (apart_facts done limit ++ more)
    ∙ ap (λ ps. old ++ (map (cited (codes "snapshot")) ps ++ (apart_facts done limit ++ more))) found
    ∙ ap (λ r. old ++ apart_traced terms before place r call) (sym is)) c.push_told.ensures

pub returns-then-rule-eq-SAVED_TEXT_DIFFERS : goal.returns-then-rule-eq-SAVED_TEXT_DIFFERS
returns-then-rule-eq-SAVED_TEXT_DIFFERS c =
    on_ok_weaker c.push_told-then-rule-eq-SAVED_TEXT_DIFFERS.result
    (λ says before stands breaks tried.
    let old = c.args.facts.now in
    let terms = terms_in c.args.past in
    let call = call_view c.args.call in
    let limit = until_of c.args.place call in
    let is = c.if-rule-eq-SAVED_TEXT_DIFFERS.true in
    let more = told_facts terms before SAVED_TEXT_DIFFERS limit call in
    let texts = c.in_ok-trace_texts-2.ensures terms before
    stands.trail.marked in
    says before stands breaks tried
    ∙ (λ i. texts i ++ told_facts terms before (is i) (c.until_of-until.ensures i) call)
    ∙ (λ i. (old ++ apart_facts (steps terms (c.uri-uri.ensures i) before)
    (c.until_of-until.ensures i)) ++ more)
    ∙ append_assoc old (apart_facts (steps terms (uri_of call) before) limit) more
    ∙ ap (λ r. old ++ apart_traced terms before c.args.place r call) (sym is))
    c.push_told-then-rule-eq-SAVED_TEXT_DIFFERS.ensures
