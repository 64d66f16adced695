use Rattle.std.specs.Prelude.{map}
use Rattle.std.proofs.Common.{[], ◌∷◌, ◌++◌, ◌∙◌, ap, append-nil, sym}
use Rattle.std.proofs.lemmas.List.{map-append}
use Rattle.lsp_survey.specs.SessionEnds.{listed_by}
use Rattle.lsp_replay.specs.Common.{by_itself, offence_view}
use Rattle.lsp_verdict.specs.Verdict.{Verdict}
use Rattle.lsp_verdict.proofs.ExactCounts.{no_exact}
use Rattle.lsp_survey.proofs.end_of_session.list.Goals as goal

pub returns-in_default : goal.returns-in_default
returns-in_default c = λ events counted few.
    let old = map offence_view c.args.listed.now.items in
    sym (append-nil old) ∙ ap (λ r. old ++ listed_by r events) (sym c.in_default.is)

pub returns : goal.returns
returns c = λ events counted few.
    let old = map offence_view c.args.listed.now.items in
    let rule = c.in-Some.rule in
    ap (map offence_view) c.in_ok-push.ensures.items
    ∙ map-append offence_view c.args.listed.now.items (c.next.result ∷ [])
    ∙ ap (λ o. old ++ o ∷ []) (c.next.ensures events counted
    ∙ ap (λ (v : Verdict). by_itself v) (no_exact events rule c.in-Some.by few))
    ∙ ap (λ r. old ++ listed_by r events) (sym c.in-Some.is)
