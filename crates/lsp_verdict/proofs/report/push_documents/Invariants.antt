use Rattle.std.proofs.Common.{◌≡◌, ◌++◌, string_bytes, map, take}
use Rattle.std.specs.List.{flat_map}
use Rattle.lsp_verdict.specs.Given.{document_view}
use Rattle.lsp_verdict.specs.Report.{document_line}
use Rattle.lsp_verdict.proofs.report.push_documents.Given as goal

abbrev pub invariant-loop-document : goal.invariant-loop-document
invariant-loop-document l =
    string_bytes l.report ≡ string_bytes l.fn.report ++ flat_map document_line (map document_view (take l.document-index l.documents))
