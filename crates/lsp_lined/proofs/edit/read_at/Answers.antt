use Rattle.std.proofs.Common.{arith}
use Rattle.std.specs.Str.{chars}
use Rattle.lsp_lined.proofs.StepCounts.{line_number_lt}
use Rattle.lsp_lined.proofs.edit.read_at.Goals as goal

pub read-requires : goal.read-requires
read-requires c =
    let lt = line_number_lt (chars c.args.lines.now) c.args.position in
    omega (arith, c.number_of.ensures)
