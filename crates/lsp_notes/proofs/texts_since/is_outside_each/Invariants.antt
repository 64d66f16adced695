use Rattle.std.proofs.Common.{◌≡◌, drop}
use Rattle.lsp_notes.specs.TextsSince.{contents, is_outside_each}
use Rattle.lsp_notes.proofs.texts_since.is_outside_each.Given as goal

abbrev pub invariant-loop-text : goal.invariant-loop-text
invariant-loop-text l =
    is_outside_each l.encoding (contents l.texts) l.position
    ≡ is_outside_each l.encoding (contents (drop l.text-index l.texts)) l.position
