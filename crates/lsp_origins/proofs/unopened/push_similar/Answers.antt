use Rattle.std.proofs.Common.{ℕ, List, ◌++◌, length, sym, ap, ◌∙◌, append_assoc}
use Rattle.std.proofs.lemmas.List.{map-append}
use Rattle.std.specs.List.{flat_map}
use Rattle.std.proofs.lemmas.Grind.{flat_map-append}
use Rattle.std.proofs.lemmas.Result.{on_ok_weaker}
use Rattle.lsp_trail.specs.Common.{last_openings, on_view, ons_view, terms_in}
use Rattle.lsp_facts.specs.Fact.{Fact}
use Rattle.lsp_origins.specs.Traced.{similar_fact}
use Rattle.lsp_origins.proofs.unopened.push_similar.Goals as goal

pub returns : goal.returns
returns c =
    let terms = terms_in c.args.past in
    let old = c.args.facts.now in
    let first = c.last_opened.result.0.now in
    let second = c.last_opened.result.1.now in
    on_ok_weaker c.push_spelled-2.result
    (λ says before stands.
    let each = similar_fact terms before (length c.args.uri.now) c.as_slice-spelling.result.now in
    says before stands
    ∙ ap (λ (l : List Fact). l ++ flat_map each (ons_view second))
    (c.in_ok-push_spelled.ensures before stands)
    ∙ append_assoc old (flat_map each (ons_view first)) (flat_map each (ons_view second))
    ∙ ap (λ (l : List Fact). old ++ l) (sym (flat_map-append each (ons_view first)
    (ons_view second))
    ∙ ap (flat_map each) (sym (map-append on_view first second)
    ∙ c.last_opened.ensures terms before stands.trail.opened))
    ∙ ap (λ (b : List ℕ). old ++ flat_map (similar_fact terms before (length c.args.uri.now) b)
    (last_openings terms before)) (c.as_slice-spelling.ensures.value ∙ c.in_ok-spelling.ensures))
    c.push_spelled-2.ensures
