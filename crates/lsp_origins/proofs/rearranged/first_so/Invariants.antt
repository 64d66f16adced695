use Rattle.std.specs.Prelude.{ℕ}
use Rattle.std.specs.List.{enumerate_from, find}
use Rattle.std.proofs.Common.{◌≡◌, drop}
use Rattle.lsp_origins.specs.Fits.{is_given_by, suspects_view}
use Rattle.lsp_origins.specs.Rearranged.{rearranged, some_give}
use Rattle.lsp_trail.specs.SentEdits.{SentEdits}
use Rattle.lsp_origins.proofs.rearranged.first_so.Given as goal

abbrev pub invariant-loop-at : goal.invariant-loop-at
invariant-loop-at l =
    let test = λ (p : ℕ × SentEdits).
    some_give (λ sent. is_given_by l.trial sent l.trial.encoding)
    (rearranged l.way p.0 (suspects_view l.suspects)) in
    find test (enumerate_from 0 (suspects_view l.suspects))
    ≡ find test (enumerate_from l.at (suspects_view (drop l.at l.suspects)))
