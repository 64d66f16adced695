use Rattle.std.specs.Prelude.{map}
use Rattle.std.specs.List.{fold}
use Rattle.std.proofs.Common.{◌≡◌, drop}
use Rattle.lsp_text.specs.Changes.{edits_of}
use Rattle.lsp_origins.specs.Fits.{suspect_view, suspects_view}
use Rattle.lsp_origins.specs.Rearranged.{alone, backwards, put_in}
use Rattle.lsp_origins.proofs.rearranged.backwards.Given as goal

abbrev pub invariant-loop-at : goal.invariant-loop-at
invariant-loop-at l =
    fold put_in (suspects_view l.parts.items)
    (map (alone l.suspect.version) (edits_of (drop l.at l.suspect.changes.now)))
    ≡ backwards (suspect_view l.suspect)
