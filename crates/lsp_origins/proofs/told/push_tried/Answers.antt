use Rattle.std.specs.Prelude.{option_map}
use Rattle.std.proofs.Common.{◌++◌, ◌∙◌, ap}
use Rattle.std.proofs.lemmas.Result.{on_ok_weaker}
use Rattle.lsp_facts.specs.DocumentFacts.{fits_fact}
use Rattle.lsp_origins.specs.Fits.{fitting_by, is_given_by, suspects_view}
use Rattle.lsp_origins.specs.OtherLines.{facts_of_trial}
use Rattle.lsp_origins.specs.Rearranged.{rearranged_facts}
use Rattle.lsp_origins.specs.RightFrom.{facts_by}
use Rattle.lsp_trail.specs.Uncompared.{shown_view}
use Rattle.lsp_origins.specs.declared.rearranged.Way.TheVariants.{AtOnce, Exchanged, Without}
use Rattle.lsp_origins.proofs.ToldFacts.{told_in_turn}
use Rattle.lsp_origins.proofs.told.push_tried.Goals as goal

pub returns : goal.returns
returns c =
    let old = c.args.facts.now in
    let trial = c.args.trial in
    let sent = suspects_view c.args.suspects.now in
    let way = rearranged_facts (λ messages. is_given_by trial messages trial.encoding)
    c.args.setters.now sent in
    let fits = fits_fact (fitting_by trial sent) in
    let lines = facts_of_trial trial sent in
    let right = facts_by trial (option_map (λ s. shown_view s.now) c.args.shown) sent in
    on_ok_weaker c.push_right_from.result (λ said. said
    ∙ ap (λ l. l ++ right) (c.in_ok-push_rearranged-3.ensures
    ∙ ap (λ l. l ++ way Without) (c.in_ok-push_rearranged-2.ensures
    ∙ ap (λ l. l ++ way Exchanged) (c.in_ok-push_rearranged.ensures
    ∙ ap (λ l. l ++ way AtOnce) (c.in_ok-push_lines_by.ensures
    ∙ ap (λ l. l ++ lines) c.in_ok-push_fitting.ensures))))
    ∙ told_in_turn old fits lines (way AtOnce) (way Exchanged) (way Without) right)
    c.push_right_from.ensures
