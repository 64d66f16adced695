use Rattle.std.proofs.Common.{ℕ, List, map, take, length, sym, ap, subst, ◌∙◌, arith}
use Rattle.std.proofs.lemmas.List.{take-map}
use Rattle.std.specs.Str.{chars, IsCharBoundary}
use Rattle.lsp_text.specs.Places.{units}
use Rattle.lsp_lined.specs.Sums.{sums_of, amount_in}
use Rattle.lsp_lined.specs.Parts.{joined, AreParts}
use Rattle.lsp_lined.specs.declared.sums.Measure.TheVariants.{Units}
use Rattle.lsp_lined.proofs.PartPlaces.{found_units}
use Rattle.lsp_lined.proofs.PartSteps.{parts_take, joined_take_le}
use Rattle.lsp_lined.proofs.PartEdits.{part_of_found, units_fit}
use Rattle.lsp_lined.proofs.part.units_before_in.Goals as goal

pub sums_in-requires-clause-parts : goal.sums_in-requires-clause-parts
sums_in-requires-clause-parts g c =
    let f = g.T.Part.text in
    subst AreParts (take-map f c.find-found.result.index c.args.parts.now) (parts_take (map f c.args.parts.now) c.find-found.result.index c.requires.parts)

pub sums_in-requires-clause-fits : goal.sums_in-requires-clause-fits
sums_in-requires-clause-fits g c =
    let f = g.T.Part.text in
    omega (
      arith,
      ap (λ (xs : List (List ℕ)). length (joined xs)) (take-map f c.find-found.result.index c.args.parts.now),
      joined_take_le (map f c.args.parts.now) c.find-found.result.index,
      c.requires.fits,
    )

pub units_before-requires : goal.units_before-requires
units_before-requires g c =
    let ps = map g.T.Part.text c.args.parts.now in
    let text = part_of_found g.T.Part.text c.args.parts.now c.find-found.result.index c.index-parts-found.result c.find-found.ensures.index c.index-parts-found.is in
    subst (λ (x : List ℕ). IsCharBoundary x c.find-found.result.left) (sym text) (found_units ps c.args.offset c.find-found.result c.requires.parts c.find-found.ensures c.requires.boundary).boundary

pub returns : goal.returns
returns g c =
    let f = g.T.Part.text in
    let ps = map f c.args.parts.now in
    let n = c.find-found.result.index in
    let text = part_of_found f c.args.parts.now n c.index-parts-found.result c.find-found.ensures.index c.index-parts-found.is in
    let place = found_units ps c.args.offset c.find-found.result c.requires.parts c.find-found.ensures c.requires.boundary in
    let before = c.by-before.ensures ∙ ap (amount_in (Units c.args.encoding)) (c.sums_in.ensures ∙ ap (λ (xs : List (List ℕ)). sums_of (joined xs)) (sym (take-map f n c.args.parts.now))) in
    let after = c.units_before.ensures ∙ ap (λ (x : List ℕ). units c.args.encoding (chars (take c.find-found.result.left x))) text in
    omega (arith, before, after, place.units c.args.encoding)

pub overflow_add-result : goal.overflow_add-result
overflow_add-result g c =
    let f = g.T.Part.text in
    let ps = map f c.args.parts.now in
    let n = c.find-found.result.index in
    let text = part_of_found f c.args.parts.now n c.index-parts-found.result c.find-found.ensures.index c.index-parts-found.is in
    let place = found_units ps c.args.offset c.find-found.result c.requires.parts c.find-found.ensures c.requires.boundary in
    let before = c.by-before.ensures ∙ ap (amount_in (Units c.args.encoding)) (c.sums_in.ensures ∙ ap (λ (xs : List (List ℕ)). sums_of (joined xs)) (sym (take-map f n c.args.parts.now))) in
    let after = c.units_before.ensures ∙ ap (λ (x : List ℕ). units c.args.encoding (chars (take c.find-found.result.left x))) text in
    let most = units_fit c.args.encoding ps c.args.offset c.requires.parts c.requires.boundary in
    record { fits = omega (arith, before, after, place.units c.args.encoding, most, c.requires.fits) }
