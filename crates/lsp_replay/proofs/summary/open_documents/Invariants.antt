use Rattle.std.proofs.Common.{List, length}
use Rattle.lsp_docs.specs.Calls.{Call}
use Rattle.lsp_docs.specs.State as docs_state
use Rattle.lsp_replay.proofs.Listing.{AreListed}
use Rattle.lsp_replay.proofs.summary.open_documents.Given as goal

abbrev pub decreases-loop-uri : goal.decreases-loop-uri
decreases-loop-uri g l = length l.uris

abbrev pub invariant-loop-uri : goal.invariant-loop-uri
invariant-loop-uri g l = (calls : List Call) → docs_state.Stands l.docs calls
    → AreListed l.docs calls l.found.items l.uris
