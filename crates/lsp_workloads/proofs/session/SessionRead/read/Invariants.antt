use Rattle.std.proofs.Common.{◌≤◌, length}
use Rattle.lsp_workloads.proofs.session.SessionRead.read.Given as goal

-- What is filled lies within the buffer.
abbrev pub invariant-loop : goal.invariant-loop
invariant-loop l = l.filled ≤ length l.buffer
