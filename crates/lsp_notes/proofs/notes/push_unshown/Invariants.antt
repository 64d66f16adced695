use Rattle.std.proofs.Common.{◌≡◌, ◌++◌, map, take}
use Rattle.lsp_trail.specs.Openings.{names_view}
use Rattle.lsp_notes.specs.Notes.{unshown_line}
use Rattle.lsp_notes.proofs.notes.push_unshown.Given as goal

abbrev pub invariant-loop-uri : goal.invariant-loop-uri
invariant-loop-uri l =
    l.notes ≡ l.fn.notes ++ map unshown_line (names_view (take l.uri-index l.unshown))
