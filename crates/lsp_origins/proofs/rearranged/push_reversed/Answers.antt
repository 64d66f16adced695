use Rattle.std.specs.Prelude.{reverse}
use Rattle.std.proofs.Common.{◌++◌, ◌∙◌, ap}
use Rattle.std.proofs.lemmas.List.{map-append}
use Rattle.indexmap.proofs.ReorderLemmas.{map-reverse}
use Rattle.lsp_origins.specs.Fits.{suspect_view, suspects_view}
use Rattle.lsp_origins.proofs.rearranged.push_reversed.Goals as goal

pub returns : goal.returns
returns c =
    let old = c.args.others.now.items in
    let part = c.args.part.now in
    ap suspects_view (c.in_ok-extend_from_slice.ensures.items
    ∙ ap (λ l. old ++ l) (c.as_slice.ensures.value ∙ c.reverse.ensures.items
    ∙ ap reverse c.in_ok-reversed.ensures.items))
    ∙ map-append suspect_view old (reverse part)
    ∙ ap (λ l. suspects_view old ++ l) (map-reverse suspect_view part)
