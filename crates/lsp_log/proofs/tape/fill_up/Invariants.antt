use Rattle.std.proofs.Common.{◌-◌, ◌≤◌, length, vec_capacity}
use Rattle.lsp_log.specs.Tape.{Grown}
use Rattle.lsp_log.proofs.tape.fill_up.Given as goal

abbrev pub invariant-loop-bytes : goal.invariant-loop-bytes
invariant-loop-bytes g l =
    (l.fn.len ≤ vec_capacity l.bytes)
    × (length l.bytes.items ≤ l.fn.len)
    × Grown l.fn.left l.left (g.R.Source.told l.fn.reader) (g.R.Source.told l.reader) l.fn.bytes.items l.bytes.items

abbrev pub decreases-loop-bytes : goal.decreases-loop-bytes
decreases-loop-bytes g l = l.fn.len - length l.bytes.items
