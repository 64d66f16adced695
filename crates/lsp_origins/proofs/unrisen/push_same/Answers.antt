use Rattle.std.specs.Prelude.{if◌then◌else◌, codes}
use Rattle.std.proofs.Common.{[], ◌∷◌, ◌++◌, ◌∙◌, Bool, ap, append-nil, sym}
use Rattle.std.proofs.lemmas.Result.{on_ok_weaker}
use Rattle.lsp_facts.specs.Fact.{cited}
use Rattle.lsp_origins.proofs.unrisen.push_same.Goals as goal

-- it has other changes
pub returns-then-not-has_changes : goal.returns-then-not-has_changes
returns-then-not-has_changes c = λ terms before are.
    sym (append-nil c.args.facts.now)
    ∙ ap (λ (b : Bool). c.args.facts.now
    ++ (if b then cited (codes "same") c.args.place ∷ [] else []))
    (sym c.if-not-has_changes.true ∙ c.has_changes.ensures terms before are)

pub returns : goal.returns
returns c = on_ok_weaker c.event.result (λ says terms before are.
    says
    ∙ ap (λ (b : Bool). c.args.facts.now
    ++ (if b then cited (codes "same") c.args.place ∷ [] else []))
    (sym c.if-not-has_changes.false ∙ c.has_changes.ensures terms before are))
    c.event.ensures.ok
