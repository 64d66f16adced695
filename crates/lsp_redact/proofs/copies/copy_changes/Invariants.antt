use Rattle.std.proofs.Common.{◌≡◌, ◌++◌, drop}
use Rattle.lsp_rpc.specs.View.{changes_view}
use Rattle.lsp_redact.proofs.copies.copy_changes.Given as goal

abbrev pub invariant-loop-change : goal.invariant-loop-change
invariant-loop-change l = changes_view l.changes
    ≡ changes_view l.copies.items ++ changes_view (drop l.change-index l.changes)
