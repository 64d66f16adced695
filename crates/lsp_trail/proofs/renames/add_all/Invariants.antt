use Rattle.std.proofs.Common.{take}
use Rattle.lsp_trail.specs.Renames.{Moves, each_move}
use Rattle.lsp_trail.specs.Openings.{names_view}
use Rattle.lsp_trail.proofs.renames.add_all.Given as goal

abbrev pub invariant-loop-uri : goal.invariant-loop-uri
invariant-loop-uri l =
    Moves (each_move l.is_gone (names_view (take l.uri-index l.uris))) l.fn.moves.items
    l.moves.items
