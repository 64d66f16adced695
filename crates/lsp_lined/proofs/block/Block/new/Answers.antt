use Rattle.std.proofs.Common.{length, ap, ◌∙◌}
use Rattle.lsp_lined.proofs.EndCounts.{length-places_behind}
use Rattle.lsp_lined.proofs.block.Block.new.Goals as goal

pub of-sums-requires : goal.of-sums-requires
of-sums-requires c =
    c.len.ensures ∙ c.in_ok-places.places.ok.0 ∙ ap length c.in_ok-places.ensures
    ∙ length-places_behind 0 c.args.text.now
