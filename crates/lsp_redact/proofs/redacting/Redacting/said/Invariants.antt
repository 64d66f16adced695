use Rattle.std.proofs.Common.{map, max, string_bytes, take}
use Rattle.lsp_redact.specs.Names.{names_in}
use Rattle.lsp_redact.specs.Naming.{Writes}
use Rattle.lsp_redact.specs.Redacting.{log_by}
use Rattle.lsp_redact.specs.View.{kept_view}
use Rattle.lsp_redact.proofs.redacting.Redacting.said.Given as goal

abbrev pub invariant-loop-kept : goal.invariant-loop-kept
invariant-loop-kept l =
    Writes l.fn.redaction l.redaction (names_in (map kept_view (take l.kept-index l.kept-items)))
    (λ n. log_by (max l.most 1) l.fn.format n l.fn.redaction.apart
    (map kept_view (take l.kept-index l.kept-items))) (string_bytes l.text)
