use Rattle.std.proofs.Common.{◌≡◌, drop}
use Rattle.lsp_text.specs.Changes.{edits_of}
use Rattle.lsp_notes.specs.TextsSince.{contents, overlap_each}
use Rattle.lsp_notes.proofs.texts_since.overlap_each.Given as goal

abbrev pub invariant-loop-text : goal.invariant-loop-text
invariant-loop-text l =
    overlap_each l.encoding (contents l.texts) (edits_of l.edits)
    ≡ overlap_each l.encoding (contents (drop l.text-index l.texts)) (edits_of l.edits)
