use Rattle.std.proofs.Common.{◌≡◌, ◌++◌, map, take}
use Rattle.lsp_trail.specs.SessionNotes.{misused_views}
use Rattle.lsp_notes.specs.Notes.{misuse_line}
use Rattle.lsp_notes.proofs.notes.push_misuses.Given as goal

abbrev pub invariant-loop-misused : goal.invariant-loop-misused
invariant-loop-misused l = l.notes
    ≡ l.fn.notes ++ map misuse_line (misused_views (take l.misused-index l.misuses))
