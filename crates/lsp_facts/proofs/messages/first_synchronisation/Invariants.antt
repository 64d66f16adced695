use Rattle.std.proofs.Common.{◌≡◌, drop}
use Rattle.lsp_rpc.specs.View.{texts_view}
use Rattle.lsp_facts.specs.EventFacts.{first_synchronisation}
use Rattle.lsp_facts.proofs.messages.first_synchronisation.Given as goal

abbrev pub invariant-loop-method : goal.invariant-loop-method
invariant-loop-method l = first_synchronisation (texts_view l.methods) ≡ first_synchronisation (texts_view (drop l.method-index l.methods))
