use Rattle.std.proofs.Common.{◌≡◌, ◌++◌, map, take}
use Rattle.lsp_notes.specs.DocumentNotes.{document_line, notes_view}
use Rattle.lsp_notes.proofs.document_notes.push_lines.Given as goal

abbrev pub invariant-loop-note : goal.invariant-loop-note
invariant-loop-note l =
    l.facts ≡ l.fn.facts ++ map document_line (notes_view (take l.note-index l.notes))
