use Rattle.std.proofs.Common.{map, take}
use Rattle.lsp_rpc.specs.View.{texts_view}
use Rattle.serde_json.specs.View.{view}
use Rattle.lsp_redact.specs.Messages.{encoding_data}
use Rattle.lsp_redact.specs.Names.{encoding_names, shown_encoding}
use Rattle.lsp_redact.specs.Naming.{Writes}
use Rattle.lsp_redact.proofs.redaction.Redaction.encodings.Given as goal

abbrev pub invariant-loop-name : goal.invariant-loop-name
invariant-loop-name l =
    Writes l.fn.self l.self (encoding_names (texts_view (take l.name-index l.names)))
    (λ n. map encoding_data (map (shown_encoding n) (texts_view (take l.name-index l.names))))
    (map view l.shown.items)
