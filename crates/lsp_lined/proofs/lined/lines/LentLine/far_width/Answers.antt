use Rattle.std.proofs.Common.{arith}
use Rattle.lsp_lined.proofs.PastEnds.{far_units}
use Rattle.lsp_lined.proofs.lined.lines.LentLine.far_width.Goals as goal

pub overflow_sub-result : goal.overflow_sub-result
overflow_sub-result c =
    let sum = far_units c.args.encoding c.args.self.now c.units_before-before.result
    c.units_before-through.result c.requires c.units_before-before.ensures
    c.units_before-through.ensures in omega (arith, sum)

pub returns : goal.returns
returns c =
    let sum = far_units c.args.encoding c.args.self.now c.units_before-before.result
    c.units_before-through.result c.requires c.units_before-before.ensures
    c.units_before-through.ensures in omega (arith, sum)
