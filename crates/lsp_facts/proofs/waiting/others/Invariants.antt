use Rattle.std.proofs.Common.{◌≡◌, take}
use Rattle.lsp_docs.specs.Stored.{texts_of}
use Rattle.lsp_facts.specs.TwoTexts.{lent_text}
use Rattle.lsp_facts.specs.Refuting.{others_of}
use Rattle.lsp_facts.proofs.waiting.others.Given as goal

abbrev pub invariant-loop-index : goal.invariant-loop-index
invariant-loop-index g l =
    l.others.items ≡ others_of l.line_ends (lent_text g.S.TextStore.content l.text)
    (take l.index l.snapshots) (texts_of l.texts)
