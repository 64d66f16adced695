use Rattle.lsp_lined.proofs.WindowEdits.{first_seam}
use Rattle.lsp_lined.proofs.lined.window.seam_before.Goals as goal

pub returns-then-min-le-BEFORE : goal.returns-then-min-le-BEFORE
returns-then-min-le-BEFORE c = first_seam c.args.tree.now c.sums-len.ensures.utf8
