use Rattle.std.proofs.Common.{◌≤◌, ◌-◌}
use Rattle.lsp_frame.specs.Pulling.{GavePast}
use Rattle.lsp_frame.proofs.decoder.go_past.Given as goal

abbrev pub invariant-loop-past : goal.invariant-loop-past
invariant-loop-past g l = GavePast (g.R.Source.told l.fn.source) (g.R.Source.told l.source) l.past × (l.past ≤ l.most)

abbrev pub decreases-loop-past : goal.decreases-loop-past
decreases-loop-past g l = l.most - l.past
