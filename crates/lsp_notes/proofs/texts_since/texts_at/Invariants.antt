use Rattle.std.proofs.Common.{◌≡◌, ◌++◌, List, drop}
use Rattle.lsp_trail.specs.Common.{Call, held, kept, Stands}
use Rattle.lsp_notes.specs.TextsSince.{contents, not_below, texts_at}
use Rattle.lsp_notes.proofs.texts_since.texts_at.Given as goal

abbrev pub invariant-loop-number : goal.invariant-loop-number
invariant-loop-number l = (made : List Call) → Stands l.docs made
    → texts_at (kept l.docs.terms l.uri made) (held l.docs.terms l.uri made)
    (not_below l.version l.numbers)
    ≡ contents l.texts.items ++ texts_at (kept l.docs.terms l.uri made)
    (held l.docs.terms l.uri made) (not_below l.version (drop l.number-index l.numbers))
