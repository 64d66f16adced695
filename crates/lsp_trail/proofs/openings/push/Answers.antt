use Rattle.std.proofs.Common.{◌∷◌, [], ◌++◌, ap, ◌∙◌}
use Rattle.std.proofs.lemmas.Result.{on_ok_weaker}
use Rattle.lsp_trail.specs.History.{on_document, last_ones}
use Rattle.lsp_trail.specs.Openings.{on_view}
use Rattle.lsp_trail.proofs.History.{held-push}
use Rattle.lsp_trail.proofs.openings.push.Goals as goal

pub returns : goal.returns
returns c = on_ok_weaker c.push_within.result (λ more ons are.
    held-push on_view c.args.most c.args.held.now.items c.push_within.new.held.items _ ons
    c.requires more are
    ∙ ap (λ uri. last_ones c.args.most (ons ++ on_document uri c.args.place.now ∷ []))
    c.in_ok-uri.ensures.ok) c.push_within.ensures
