use Rattle.std.proofs.Common.{◌≡◌, drop}
use Rattle.lsp_origins.specs.Fits.{made_by, suspects_view}
use Rattle.lsp_origins.proofs.fits.make_all.Given as goal

abbrev pub invariant-loop-suspect : goal.invariant-loop-suspect
invariant-loop-suspect l =
    made_by l.limit l.encoding l.fn.made.content (suspects_view l.suspects)
    ≡ made_by l.limit l.encoding l.made.content (suspects_view (drop l.suspect-index l.suspects))
