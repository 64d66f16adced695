use Rattle.std.proofs.Common.{refl, arith}
use Rattle.lsp_lined.proofs.LentPlaces.{IsFarLine, far_line, far_within, past_far, in_far}
use Rattle.lsp_lined.proofs.lined.lines.LentLine.offset_of_far.Goals as goal
use Rattle.lsp_lined.proofs.lined.lines.LentLine.offset_of_far.Goals.{After-units_before-through}

far : (c : After-units_before-through)
    → IsFarLine c.args.encoding c.args.self.now c.units_before-before.result
    c.units_before-through.result
far c = far_line c.args.encoding c.args.self.now c.units_before-before.result
    c.units_before-through.result c.requires c.units_before-before.ensures
    c.units_before-through.ensures

pub overflow_sub-through : goal.overflow_sub-through
overflow_sub-through c = (far (goal.at.overflow_sub-through c).After-units_before-through).order

pub returns-then-through-before : goal.returns-then-through-before
returns-then-through-before c =
    past_far c.args.encoding c.args.self.now c.args.column c.units_before-before.result
    c.units_before-through.result c.requires
    (far (goal.at.returns-then-through-before c).After-units_before-through)
    c.if-through-before.true

pub overflow_add-before : goal.overflow_add-before
overflow_add-before c =
    let f = far (goal.at.overflow_add-before c).After-units_before-through in
    record { fits = omega (arith, f.most, f.order, c.requires.held.fits, c.if-through-before.false) }

pub offset_of-requires-clause-within : goal.offset_of-requires-clause-within
offset_of-requires-clause-within c =
    far_within c.args.encoding c.args.self.now c.args.column c.units_before-before.result
    c.units_before-through.result c.requires
    (far (goal.at.offset_of-requires-clause-within c).After-units_before-through)
    c.if-through-before.false

pub returns : goal.returns
returns c =
    in_far c.args.encoding c.args.self.now c.args.column c.units_before-before.result
    c.units_before-through.result _ c.offset_of.result c.requires
    (far (goal.at.returns c).After-units_before-through) c.if-through-before.false
    refl c.offset_of.ensures
