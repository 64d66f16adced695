use Rattle.std.proofs.Common.{◌≡◌, length}
use Rattle.lsp_verdict.specs.Given.{requests_view}
use Rattle.lsp_redact.specs.Check.{same_requests}
use Rattle.lsp_redact.proofs.check.same_requests.Given as goal

abbrev pub invariant-loop-first : goal.invariant-loop-first
invariant-loop-first l =
    same_requests (requests_view l.requests) (requests_view l.others)
    ≡ same_requests (requests_view l.first) (requests_view l.second)

abbrev pub decreases-loop-first : goal.decreases-loop-first
decreases-loop-first l = length l.first
