use Rattle.std.proofs.Common.{◌≡◌, [], ◌∷◌, ◌++◌, ap, sym, subst, ◌∙◌}
use Rattle.std.specs.Prelude.{OnOk, codes}
use Rattle.json.specs.Print.{quoted}
use Rattle.lsp_verdict.specs.Report.{line}
use Rattle.lsp_facts.specs.EventFacts.{pick_facts}
use Rattle.lsp_facts.proofs.messages.push_picked.Goals as goal

pub returns-in-Ok : goal.returns-in-Ok
returns-in-Ok c =
    subst (λ said. OnOk c.text.result (c.text.new.self ≡ c.args.facts.now ++ said))
    (ap (λ name. line (codes "picked" ∷ quoted name ∷ []) ∷ []) c.as_str.ensures.value
    ∙ ap pick_facts (sym c.in-Ok.ensures.gives))
    c.text.ensures.ok
