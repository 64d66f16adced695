use Rattle.std.proofs.Common.{[], ◌∷◌, ◌++◌}
use Rattle.lsp_replay.proofs.SeenLines.{place_counted}
use Rattle.lsp_replay.proofs.heard.EventPlace.last.Goals as goal

pub returns : goal.returns
returns c = λ before event counted own.
    place_counted before event _ _ _ own counted.all
    (c.of.ensures (before ++ event ∷ []) counted)
