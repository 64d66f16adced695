use Rattle.std.proofs.Common.{length}
use Rattle.lsp_workloads.proofs.session.push_without_returns.Given as goal

abbrev pub decreases-loop-place : goal.decreases-loop-place
decreases-loop-place l = length l.rest
