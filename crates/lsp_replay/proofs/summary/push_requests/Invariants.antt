use Rattle.std.proofs.Common.{◌≡◌, ◌++◌, map, length}
use Rattle.lsp_verdict.specs.Given.{requests_view}
use Rattle.lsp_replay.proofs.summary.push_requests.Given as goal

abbrev pub decreases-loop-request : goal.decreases-loop-request
decreases-loop-request l = length l.requests

abbrev pub invariant-loop-request : goal.invariant-loop-request
invariant-loop-request l = requests_view l.found.items ++ map (λ r. (l.side, r)) l.requests
    ≡ requests_view l.fn.found.items ++ map (λ r. (l.side, r)) l.pending
