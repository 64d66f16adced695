use Rattle.std.proofs.Common.{ℕ, List, map, take, length, sym, ap, subst, ◌∙◌, arith}
use Rattle.std.proofs.lemmas.List.{take-map}
use Rattle.lsp_lined.specs.Ends.{ends_in}
use Rattle.lsp_lined.specs.Parts.{joined, AreParts, IsSeam}
use Rattle.lsp_lined.specs.declared.sums.Sums.{Sums}
use Rattle.lsp_lined.proofs.Rests.{found_seam}
use Rattle.lsp_lined.proofs.PartSteps.{parts_take, joined_take_le}
use Rattle.lsp_lined.proofs.PartEdits.{part_of_found}
use Rattle.lsp_lined.proofs.part.ends_before_in.Goals as goal

pub sums_in-before-requires-clause-parts : goal.sums_in-before-requires-clause-parts
sums_in-before-requires-clause-parts g c =
    let f = g.T.Part.text in
    subst AreParts (take-map f c.find-found.result.index c.args.parts.now)
    (parts_take (map f c.args.parts.now) c.find-found.result.index c.requires.parts)

pub sums_in-before-requires-clause-fits : goal.sums_in-before-requires-clause-fits
sums_in-before-requires-clause-fits g c =
    let f = g.T.Part.text in
    omega (
      arith,
      ap (λ (xs : List (List ℕ)). length (joined xs))
          (take-map f c.find-found.result.index c.args.parts.now),
      joined_take_le (map f c.args.parts.now) c.find-found.result.index,
      c.requires.fits,
    )

pub ends_before-requires : goal.ends_before-requires
ends_before-requires g c =
    let f = g.T.Part.text in
    let found = c.find-found in
    let text = part_of_found f c.args.parts.now found.result.index c.index-parts-found.result
    found.ensures.index c.index-parts-found.is in
    subst (λ (x : List ℕ). IsSeam x found.result.left) (sym text)
    (found_seam (map f c.args.parts.now) c.args.offset found.result c.requires.parts
    found.ensures c.requires.seam).seam

pub returns : goal.returns
returns g c =
    let f = g.T.Part.text in
    let ps = map f c.args.parts.now in
    let found = c.find-found in
    let n = found.result.index in
    let text = part_of_found f c.args.parts.now n c.index-parts-found.result found.ensures.index
    c.index-parts-found.is in
    let place = found_seam ps c.args.offset found.result c.requires.parts found.ensures
    c.requires.seam in
    let before = ap (λ (s : Sums). s.ends) c.sums_in-before.ensures
    ∙ ap (λ (xs : List (List ℕ)). ends_in (joined xs)) (sym (take-map f n c.args.parts.now)) in
    let after = c.ends_before.ensures
    ∙ ap (λ (x : List ℕ). ends_in (take found.result.left x)) text in
    omega (arith, before, after, place.ends)

pub overflow_add-result : goal.overflow_add-result
overflow_add-result g c =
    let f = g.T.Part.text in
    let ps = map f c.args.parts.now in
    let found = c.find-found in
    let n = found.result.index in
    let text = part_of_found f c.args.parts.now n c.index-parts-found.result found.ensures.index
    c.index-parts-found.is in
    let place = found_seam ps c.args.offset found.result c.requires.parts found.ensures
    c.requires.seam in
    let before = ap (λ (s : Sums). s.ends) c.sums_in-before.ensures
    ∙ ap (λ (xs : List (List ℕ)). ends_in (joined xs)) (sym (take-map f n c.args.parts.now)) in
    let after = c.ends_before.ensures
    ∙ ap (λ (x : List ℕ). ends_in (take found.result.left x)) text in
    record { fits = omega (arith, before, after, place.ends, place.most, c.requires.fits) }
