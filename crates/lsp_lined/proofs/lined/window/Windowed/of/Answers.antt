use Rattle.std.proofs.Common.{ap, ◌∙◌, arith}
use Rattle.lsp_lined.specs.Sums.{sums_of}
use Rattle.lsp_lined.proofs.SameEnds.{ends_nothing}
use Rattle.lsp_lined.proofs.WindowEdits.{held_closed}
use Rattle.lsp_lined.proofs.lined.window.Windowed.of.Goals as goal

pub returns : goal.returns
returns c =
    held_closed _ c.args.text.now
    (record {
      tree_is = c.in_ok-tree.ensures;
      window_is = c.in_ok-new.ensures;
      before_is = c.none.ensures;
      skipped_is = c.none-2.ensures;
      sums_are = c.sums.ensures.sums ∙ ap sums_of c.in_ok-tree.ensures;
      ends = ends_nothing;
      utf8 = c.utf8.text;
      fits = omega arith;
    })
