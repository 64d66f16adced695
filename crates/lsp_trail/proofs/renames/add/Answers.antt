use Rattle.std.proofs.Common.{◌<◌, ◌∷◌, [], ◌++◌, ap, ◌∙◌, arith}
use Rattle.std.proofs.lemmas.Result.{on_ok_weaker}
use Rattle.lsp_trail.specs.History.{last_ones}
use Rattle.lsp_trail.specs.Renames.{most_moves, move, move_view}
use Rattle.lsp_trail.proofs.History.{held-push}
use Rattle.lsp_trail.proofs.renames.add.Goals as goal

pub returns : goal.returns
returns c =
    let some : 0 < most_moves = omega arith in
    on_ok_weaker c.push_within.result (λ more before are.
    held-push move_view most_moves c.args.moves.now.items c.push_within.new.held.items _ before
    some more are
    ∙ ap (λ uri. last_ones most_moves (before ++ move c.args.is_gone uri ∷ []))
    c.in_ok-uri.ensures.ok) c.push_within.ensures
