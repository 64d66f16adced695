use Rattle.std.proofs.Common.{◌≡◌, ◌++◌, drop}
use Rattle.lsp_rpc.specs.View.{texts_view}
use Rattle.lsp_redact.proofs.copies.copy_texts.Given as goal

abbrev pub invariant-loop-text : goal.invariant-loop-text
invariant-loop-text l = texts_view l.texts
    ≡ texts_view l.copies.items ++ texts_view (drop l.text-index l.texts)
