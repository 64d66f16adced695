use Rattle.std.proofs.Common.{subst, ◌∷◌, []}
use Rattle.lsp_trail.specs.Renames.{Moves, each_move}
use Rattle.lsp_trail.proofs.RenameSteps.{one_added}
use Rattle.lsp_trail.proofs.renames.add_all.Goals as goal

pub loop-uri-preserved : goal.loop-uri-preserved
loop-uri-preserved c =
    one_added c.args.is_gone c.args.uris.now c.loop-uri.uri-index c.uri-item.result
    c.args.moves.now.items c.loop-uri.moves.items c.add.new.moves.items c.loop-uri-test.true
    c.uri-item.is
    c.loop-uri.invariant
    (subst (λ u. Moves (each_move c.args.is_gone (u ∷ [])) c.loop-uri.moves.items
    c.add.new.moves.items)
    c.as_str.ensures.value c.in_ok-add.ensures)
