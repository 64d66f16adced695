use Rattle.std.proofs.Common.{◌<◌, ℕ, List, map, sym, subst, arith}
use Rattle.lsp_lined.specs.Ends.{ends_in, IsLineEnd}
use Rattle.lsp_lined.specs.Parts.{joined}
use Rattle.lsp_lined.specs.declared.sums.Measure.TheVariants.{Ends}
use Rattle.lsp_lined.proofs.PartPlaces.{found_below, found_line_end}
use Rattle.lsp_lined.specs.Windows.{moved_end}
use Rattle.lsp_lined.proofs.PartEdits.{part_of_found}
use Rattle.lsp_lined.proofs.EndsInLines.{end_within}
use Rattle.lsp_lined.proofs.part.line_end_in.Goals as goal

pub line_end-end-requires : goal.line_end-end-requires
line_end-end-requires g c =
    let ps = map g.T.Part.text c.args.parts.now in
    subst (λ (x : List ℕ). c.find-found.result.left < ends_in x)
    (sym (part_of_found g.T.Part.text c.args.parts.now c.find-found.result.index c.index-parts-found.result c.find-found.ensures.index c.index-parts-found.is))
    (found_below ps Ends c.args.n c.find-found.result c.requires.parts c.find-found.ensures c.requires.some)

pub overflow_add-result : goal.overflow_add-result
overflow_add-result g c =
    let ps = map g.T.Part.text c.args.parts.now in
    let end =
    found_line_end ps c.args.n c.find-found.result c.line_end-end.result c.requires.parts c.find-found.ensures
    (subst (λ (x : List ℕ). IsLineEnd x c.find-found.result.left c.line_end-end.result)
    (part_of_found g.T.Part.text c.args.parts.now c.find-found.result.index c.index-parts-found.result c.find-found.ensures.index c.index-parts-found.is) c.line_end-end.ensures) in
    let h = end_within (joined ps) c.args.n (moved_end c.find-found.result.bytes c.line_end-end.result) end in
    record { fits = omega (arith, h.0, h.1, c.requires.fits) }

pub overflow_add-result-2 : goal.overflow_add-result-2
overflow_add-result-2 g c =
    let ps = map g.T.Part.text c.args.parts.now in
    let end =
    found_line_end ps c.args.n c.find-found.result c.line_end-end.result c.requires.parts c.find-found.ensures
    (subst (λ (x : List ℕ). IsLineEnd x c.find-found.result.left c.line_end-end.result)
    (part_of_found g.T.Part.text c.args.parts.now c.find-found.result.index c.index-parts-found.result c.find-found.ensures.index c.index-parts-found.is) c.line_end-end.ensures) in
    let h = end_within (joined ps) c.args.n (moved_end c.find-found.result.bytes c.line_end-end.result) end in
    record { fits = omega (arith, h.1, c.requires.fits) }

pub returns : goal.returns
returns g c =
    let ps = map g.T.Part.text c.args.parts.now in
    found_line_end ps c.args.n c.find-found.result c.line_end-end.result c.requires.parts c.find-found.ensures
    (subst (λ (x : List ℕ). IsLineEnd x c.find-found.result.left c.line_end-end.result)
    (part_of_found g.T.Part.text c.args.parts.now c.find-found.result.index c.index-parts-found.result c.find-found.ensures.index c.index-parts-found.is) c.line_end-end.ensures)
