use Rattle.std.proofs.Common.{ℕ, List, map, drop, sym, subst}
use Rattle.std.specs.Str.{IsCharBoundary}
use Rattle.lsp_lined.specs.Ends.{IsRest}
use Rattle.lsp_lined.proofs.Rests.{found_rest}
use Rattle.lsp_lined.proofs.PartPlaces.{found_units}
use Rattle.lsp_lined.proofs.PartEdits.{part_of_found}
use Rattle.lsp_lined.proofs.part.rest_in.Goals as goal

pub rest_of_block-requires : goal.rest_of_block-requires
rest_of_block-requires g c =
    let f = g.T.Part.text in
    let ps = map f c.args.parts.now in
    let found = c.find-found in
    let text = part_of_found f c.args.parts.now found.result.index c.index-parts-found.result
    found.ensures.index c.index-parts-found.is in
    subst (λ (x : List ℕ). IsCharBoundary x found.result.left) (sym text)
    (found_units ps c.args.offset found.result c.requires.parts found.ensures
    c.requires.boundary).boundary

pub returns : goal.returns
returns g c =
    let f = g.T.Part.text in
    let ps = map f c.args.parts.now in
    let found = c.find-found in
    let text = part_of_found f c.args.parts.now found.result.index c.index-parts-found.result
    found.ensures.index c.index-parts-found.is in
    found_rest ps c.args.offset found.result _ c.requires.parts found.ensures c.requires.boundary
    (subst (λ (x : List ℕ). IsRest (drop found.result.left x) c.rest_of_block.result.now) text
    c.rest_of_block.ensures)
