use Rattle.std.specs.Prelude.{filter}
use Rattle.std.proofs.Common.{◌++◌, ◌∙◌, ap}
use Rattle.std.proofs.lemmas.Result.{on_ok_weaker}
use Rattle.lsp_facts.specs.DocumentFacts.{fits_fact}
use Rattle.lsp_origins.specs.Fits.{if_given, is_given_by, suspects_view}
use Rattle.lsp_origins.proofs.Fitting.{fitting_two}
use Rattle.lsp_origins.proofs.fits.push_fitting.Goals as goal

pub returns : goal.returns
returns c =
    let old = c.args.facts.now in
    let trial = c.args.trial in
    let sent = suspects_view c.args.suspects.now in
    let two = c.others-first.result in
    on_ok_weaker c.fitting.result (λ said. said
    ∙ ap (λ es. old ++ fits_fact es)
    (c.as_slice.ensures.value ∙ c.in_ok-push_if_given-2.ensures
    ∙ ap (λ es. es ++ if_given trial sent two.1) c.in_ok-push_if_given.ensures
    ∙ ap (λ es. es ++ if_given trial sent two.0 ++ if_given trial sent two.1)
    c.new-names.ensures.items
    ∙ fitting_two trial sent two
    ∙ ap (filter (is_given_by trial sent)) c.others-first.ensures)) c.fitting.ensures
