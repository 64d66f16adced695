use Rattle.std.proofs.Common.{◌≡◌, ◌++◌, drop}
use Rattle.lsp_text.specs.Changes.{edits_of}
use Rattle.lsp_notes.specs.TextsSince.{stretches}
use Rattle.lsp_notes.proofs.texts_since.stretches_in.Given as goal

abbrev pub invariant-loop-edit : goal.invariant-loop-edit
invariant-loop-edit l =
    stretches l.encoding (edits_of l.edits) l.text.content
    ≡ l.found.items
    ++ stretches l.encoding (edits_of (drop l.edit-index l.edits)) l.text.content
