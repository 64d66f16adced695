use Rattle.std.proofs.Common.{◌≡◌, drop}
use Rattle.lsp_text.specs.Changes.{edits_of}
use Rattle.lsp_notes.specs.TextsSince.{contents, first_outside}
use Rattle.lsp_notes.proofs.texts_since.first_outside.Given as goal

abbrev pub invariant-loop-edit : goal.invariant-loop-edit
invariant-loop-edit l =
    first_outside l.encoding (contents l.texts) (edits_of l.edits)
    ≡ first_outside l.encoding (contents l.texts) (edits_of (drop l.edit-index l.edits))
