use Rattle.std.proofs.Common.{map, take}
use Rattle.lsp_rpc.specs.View.{texts_view}
use Rattle.serde_json.specs.View.{view}
use Rattle.lsp_redact.specs.Messages.{registration_data}
use Rattle.lsp_redact.specs.Names.{method_names, shown_method}
use Rattle.lsp_redact.specs.Naming.{Writes}
use Rattle.lsp_redact.proofs.redaction.Redaction.registrations.Given as goal

abbrev pub invariant-loop-method : goal.invariant-loop-method
invariant-loop-method l =
    Writes l.fn.self l.self (method_names (texts_view (take l.method-index l.methods)))
    (λ n. map registration_data (map (shown_method n) (texts_view (take l.method-index l.methods))))
    (map view l.shown.items)
