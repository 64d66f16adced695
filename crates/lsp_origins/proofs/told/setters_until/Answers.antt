use Rattle.std.proofs.Common.{◌++◌, ◌∷◌, ◌∙◌, [], ap, rules, sym, w32}
use Rattle.std.proofs.lemmas.Int.{to_z-of_z}
use mir.Val.{SFits}
use Rattle.lsp_trail.specs.Marking.{at_version, recent, steps}
use Rattle.lsp_origins.specs.Told.{setters_until}
use Rattle.lsp_origins.proofs.ToldFacts.{no_own_setter}
use Rattle.lsp_origins.proofs.told.setters_until.Goals as goal

-- with the call itself
pub returns-in_ok-push-in-Message : goal.returns-in_ok-push-in-Message
returns-in_ok-push-in-Message c = λ terms before marked.
    let number = c.in-Message.version in
    let fits : SFits w32 number = search rules in
    let pushed = simp to_z-of_z at c.in_ok-push-in-Message.ensures.items in
    pushed
    ∙ ap (λ l. l ++ at_version 0 c.in-Message.place number ∷ [])
    (c.in_ok-setters.ensures terms before marked)
    ∙ ap (λ u. setters_until u (recent (steps terms c.args.uri.now before))) (sym c.in-Message.is)

-- without
pub returns-in_default : goal.returns-in_default
returns-in_default c = λ terms before marked.
    c.in_ok-setters.ensures terms before marked
    ∙ no_own_setter c.args.until (recent (steps terms c.args.uri.now before)) c.in_default.not-Message
