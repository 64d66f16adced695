use Rattle.std.proofs.Common.{ℕ, List, map, sym, ap, subst, ◌∙◌, arith}
use Rattle.std.specs.Str.{chars}
use Rattle.lsp_text.specs.Places.{place_in_line}
use Rattle.lsp_text.specs.Offsets.{IsOffset}
use Rattle.lsp_lined.proofs.PartPlaces.{found_offset, found_none}
use Rattle.lsp_lined.proofs.PartEdits.{part_of_found}
use Rattle.lsp_lined.proofs.part.offset_in.Goals as goal

pub returns-in_err-offset : goal.returns-in_err-offset
returns-in_err-offset g c =
    let ps = map g.T.Part.text c.args.parts.now in
    let text = part_of_found g.T.Part.text c.args.parts.now c.find-found.result.index c.index-parts-found.result c.find-found.ensures.index c.index-parts-found.is in
    rw c.from_residual.ensures
    (found_none ps c.args.encoding c.args.column c.find-found.result c.requires.parts c.find-found.ensures
    (ap (λ (x : List ℕ). place_in_line c.args.encoding (chars x) c.find-found.result.left) (sym text) ∙ c.in_err-offset.ensures))

pub overflow_add-result : goal.overflow_add-result
overflow_add-result g c =
    let ps = map g.T.Part.text c.args.parts.now in
    let text = part_of_found g.T.Part.text c.args.parts.now c.find-found.result.index c.index-parts-found.result c.find-found.ensures.index c.index-parts-found.is in
    let o =
    found_offset ps c.args.encoding c.args.column c.in_ok-offset.offset c.find-found.result c.requires.parts c.find-found.ensures
    (subst (λ (x : List ℕ). IsOffset c.args.encoding x c.find-found.result.left c.in_ok-offset.offset) text c.in_ok-offset.ensures) in
    let within = o.boundary.0 in
    record { fits = omega (arith, within, c.requires.fits) }

pub returns : goal.returns
returns g c =
    let ps = map g.T.Part.text c.args.parts.now in
    let text = part_of_found g.T.Part.text c.args.parts.now c.find-found.result.index c.index-parts-found.result c.find-found.ensures.index c.index-parts-found.is in
    found_offset ps c.args.encoding c.args.column c.in_ok-offset.offset c.find-found.result c.requires.parts c.find-found.ensures
    (subst (λ (x : List ℕ). IsOffset c.args.encoding x c.find-found.result.left c.in_ok-offset.offset) text c.in_ok-offset.ensures)
