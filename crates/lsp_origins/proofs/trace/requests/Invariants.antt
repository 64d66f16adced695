use Rattle.std.proofs.Common.{◌≡◌, ◌++◌, List, length, map}
use Rattle.lsp_trail.specs.Common.{Event, numbered, Terms}
use Rattle.lsp_trail.specs.Conversations.{IsConversation}
use Rattle.lsp_origins.specs.Traced.{waiting_by}
use Rattle.lsp_origins.proofs.trace.requests.Given as goal

abbrev pub decreases-loop-request : goal.decreases-loop-request
decreases-loop-request l = length l.requests

abbrev pub invariant-loop-request : goal.invariant-loop-request
invariant-loop-request l =
    (terms : Terms) (before : List Event) → IsConversation terms l.said before
    → l.facts ++ map (waiting_by (numbered terms before)) l.requests
    ≡ map (waiting_by (numbered terms before)) l.pending
