use Rattle.std.proofs.Common.{◌≡◌, ℕ, List, ◌∷◌, [], ◌++◌, ap, ◌∙◌}
use Rattle.std.specs.Prelude.{codes}
use Rattle.json.specs.Print.{quoted}
use Rattle.lsp_replay.specs.Common.{call_view, held, uri_of}
use Rattle.lsp_verdict.specs.Report.{line}
use Rattle.lsp_facts.specs.DocumentFacts.{head_facts, held_fact, sent_facts}
use Rattle.lsp_facts.proofs.documents.call_facts.Goals as goal

pub returns : goal.returns
returns g c = λ calls h e tries.
    let call = call_view c.args.call in
    let terms = c.args.docs.now.terms in
    let details = c.in_ok-details.field-0 in
    let set_by = c.args.earlier.set_by in
    let head : c.push_sent.new.facts ≡ head_facts set_by (held terms (uri_of call) calls) call =
    c.in_ok-push_sent.ensures
    ∙ ap (λ l. l ++ sent_facts call) (c.in_ok-facts.ensures calls h
    ∙ ap (λ (u : List ℕ). line (codes "uri" ∷ quoted u ∷ [])
    ∷ held_fact set_by (held terms u calls)) c.uri.ensures) in
    record {
      details = details;
      says = c.in_ok-details.ensures calls h e tries;
      are = c.in_ok-append.ensures ∙ ap (λ l. l ++ details) head;
    }
