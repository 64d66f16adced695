use Rattle.std.specs.Prelude.{length, nat_lt}
use Rattle.std.proofs.Common.{◌≡◌, drop}
use Rattle.lsp_origins.specs.Fits.{suspects_view}
use Rattle.lsp_origins.specs.OtherLines.{edits_in, most_tried}
use Rattle.lsp_origins.proofs.other_lines.are_many.Given as goal

abbrev pub invariant-loop-suspect : goal.invariant-loop-suspect
invariant-loop-suspect l =
    nat_lt most_tried (length (edits_in (suspects_view l.suspects)))
    ≡ nat_lt l.left (length (edits_in (suspects_view (drop l.suspect-index l.suspects))))
