use Rattle.std.specs.Prelude.{codes, if◌then◌else◌, option_map}
use Rattle.std.proofs.Common.{◌≡◌, ◌++◌, ◌∷◌, ◌∙◌, [], Bool, true, ap, rules, sym, w32}
use Rattle.std.proofs.lemmas.Int.{to_z-of_z}
use Rattle.std.proofs.lemmas.Result.{on_ok_weaker}
use mir.Val.{SFits}
use Rattle.lsp_facts.specs.Fact.{version_by}
use Rattle.lsp_origins.specs.Fits.{suspects_view}
use Rattle.lsp_origins.specs.RightFrom.{facts_by, is_right_by}
use Rattle.lsp_trail.specs.Uncompared.{shown_view}
use Rattle.lsp_origins.proofs.right_from.push_right_from.Goals as goal

pub returns : goal.returns
returns c =
    let old = c.args.facts.now in
    let sent = suspects_view c.args.suspects.now in
    let s = shown_view c.in-Some.shown.now in
    let number = c.in-Some.shown.now.version in
    let fits : SFits w32 number = search rules in
    let told = simp to_z-of_z at c.version_by.ensures.ok in
    let right : is_right_by c.args.trial sent s ≡ true =
    sym c.in_ok-is_right_from.ensures ∙ c.if-not-branch.false in
    on_ok_weaker c.version_by.result (λ said. said
    ∙ ap (λ (b : Bool). old ++ (if b then version_by (codes "right-from") number s.place ∷ []
    else [])) (sym right)
    ∙ ap (λ o. old ++ facts_by c.args.trial o sent)
    (sym (ap (option_map (λ x. shown_view x.now)) c.in-Some.is))) told
