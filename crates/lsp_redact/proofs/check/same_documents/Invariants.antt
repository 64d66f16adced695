use Rattle.std.proofs.Common.{◌≡◌, length, map}
use Rattle.lsp_verdict.specs.Given.{document_view}
use Rattle.lsp_redact.specs.Check.{same_documents}
use Rattle.lsp_redact.proofs.check.same_documents.Given as goal

abbrev pub invariant-loop-first : goal.invariant-loop-first
invariant-loop-first l =
    same_documents (map document_view l.documents) (map document_view l.others)
    ≡ same_documents (map document_view l.first) (map document_view l.second)

abbrev pub decreases-loop-first : goal.decreases-loop-first
decreases-loop-first l = length l.first
