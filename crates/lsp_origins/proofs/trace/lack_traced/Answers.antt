use Rattle.std.specs.Prelude.{codes, map}
use Rattle.std.proofs.Common.{◌∷◌, [], ◌++◌, Option, List, sym, ap, ◌∙◌, subst, append_assoc}
use Rattle.lsp_trail.specs.Common.{EventPlace, numbered, Sent, sents, since, terms_in}
use Rattle.lsp_session.specs.State.{Stands}
use Rattle.lsp_trail.proofs.SessionSteps.{sents-numbered}
use Rattle.lsp_facts.specs.Fact.{Fact, in_phase}
use Rattle.lsp_origins.specs.Traced.{place_facts, waiting_by}
use Rattle.lsp_origins.proofs.trace.lack_traced.Goals as goal

pub returns : goal.returns
returns c = λ before stands.
    let terms = terms_in c.args.past in
    let said = numbered terms before in
    let noted = stands.trail.said in
    let sent = subst (λ (ms : List Sent). Stands c.args.past.held.now.session ms)
    (sym (sents-numbered terms before)) stands.holds.sent in
    let asked = c.in_ok-facts.ensures terms before noted
    ∙ ap (map (waiting_by said)) (c.pending.ensures.open (sents said) sent) in
    let phase = c.phase.ensures (sents said) sent in
    c.in_ok-push_earlier.ensures
    ∙ ap (λ (o : Option EventPlace). c.phase-2.new.self ++ place_facts (codes "since") o)
    (c.since.ensures terms before noted)
    ∙ ap (λ (l : List Fact). l ++ place_facts (codes "since") (since said))
    (c.in_ok-phase.ensures.ok ∙ (λ i. asked i ++ in_phase (phase i) ∷ []))
    ∙ append_assoc _ _ (place_facts (codes "since") (since said))
