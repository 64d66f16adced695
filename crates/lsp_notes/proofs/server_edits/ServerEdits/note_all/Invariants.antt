use Rattle.std.proofs.Common.{List, map, take}
use Rattle.lsp_trail.specs.Common.{Event, Terms}
use Rattle.lsp_notes.specs.ServerEdits.{IsNow, NotesBy, edited_view}
use Rattle.lsp_notes.proofs.server_edits.ServerEdits.note_all.Given as goal

abbrev pub invariant-loop-one : goal.invariant-loop-one
invariant-loop-one l =
    (terms : Terms) (before : List Event) (event : Event) → IsNow terms before event l.now
    → NotesBy terms before event (map edited_view (take l.one-index l.edited)) l.fn.self l.self
