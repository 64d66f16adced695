use Rattle.std.proofs.Common.{◌≡◌, map, take}
use Rattle.lsp_rpc.specs.View.{changes_view}
use Rattle.serde_json.specs.View.{view}
use Rattle.lsp_redact.specs.Messages.{change_data}
use Rattle.lsp_redact.specs.Shown.{shown_change}
use Rattle.lsp_redact.proofs.redaction.Redaction.changes.Given as goal

abbrev pub invariant-loop-change : goal.invariant-loop-change
invariant-loop-change l = map view l.shown.items
    ≡ map change_data (map (shown_change l.self.apart) (changes_view (take l.change-index l.changes)))
