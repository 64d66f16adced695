use Rattle.std.proofs.Common.{arith}
use Rattle.lsp_lined.proofs.WindowEdits.{held_closed}
use Rattle.lsp_lined.proofs.WindowPatches.{renewed_fits, renewed}
use Rattle.lsp_lined.proofs.lined.window.Windowed.renew.Goals as goal

pub edit-requires-clause-fits : goal.edit-requires-clause-fits
edit-requires-clause-fits c =
    renewed_fits c.close.new.self c.args.text.now c.patch_to-patch.result c.patch_to-patch.ensures
    (omega arith)

pub returns-clause-ok : goal.returns-clause-ok
returns-clause-ok c =
    held_closed _ c.args.text.now
    (renewed c.close.new.self c.args.text.now c.edit.new.self c.sums-self.result
    c.patch_to-patch.result c.in_ok-close.ensures.ok.0.held c.in_ok-close.ensures.ok.1
    c.patch_to-patch.ensures c.in_ok-edit.ensures.ok c.sums-self.ensures.sums c.utf8.text
    (omega arith))
