use Rattle.std.proofs.Common.{◌≡◌, ◌+◌, drop}
use Rattle.lsp_rpc.specs.View.{texts_view}
use Rattle.lsp_facts.specs.EventFacts.{names_fitting, offered_bytes}
use Rattle.lsp_facts.proofs.messages.count_fitting.Given as goal

abbrev pub invariant-loop-name : goal.invariant-loop-name
invariant-loop-name l =
    (l.count ≡ l.name-index)
    × (names_fitting offered_bytes (texts_view l.names)
    ≡ l.count + names_fitting l.room (texts_view (drop l.name-index l.names)))
