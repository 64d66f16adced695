use Rattle.std.proofs.Common.{◌≡◌, ◌++◌, drop}
use Rattle.lsp_origins.specs.Fits.{suspects_view}
use Rattle.lsp_trail.specs.SentEdits.{sents_view}
use Rattle.lsp_origins.proofs.fits.sent_ones.Given as goal

abbrev pub invariant-loop-one : goal.invariant-loop-one
invariant-loop-one l =
    suspects_view l.suspects.items ++ sents_view (drop l.one-index l.sent) ≡ sents_view l.sent
