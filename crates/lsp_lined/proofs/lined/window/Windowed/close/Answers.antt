use Rattle.std.proofs.Common.{◌∙◌}
use Rattle.lsp_lined.specs.Windows.{text_with}
use Rattle.lsp_lined.proofs.WindowEdits.{NoWindow, closed_by, held_closed, is_closed}
use Rattle.lsp_lined.proofs.WindowPatches.{patched_fits}
use Rattle.lsp_lined.proofs.lined.window.Windowed.close.Goals as goal

pub edit-requires-clause-fits : goal.edit-requires-clause-fits
edit-requires-clause-fits c =
    patched_fits c.args.self.now c.as_str.result.now c.patch_between-patch.result c.requires
    c.patch_between-patch.ensures c.as_str.ensures

pub returns-clause-ok : goal.returns-clause-ok
returns-clause-ok c =
    let w = c.args.self.now in
    let done : NoWindow c.edit.new.self c.in_ok-none.none c.none-self.result c.none-self-2.result
    w.sums 0 0 (text_with w) =
    closed_by w c.edit.new.self c.as_str.result.now c.in_ok-none.none c.none-self.result
    c.none-self-2.result c.requires (c.in_ok-edit.ensures.ok ∙ c.patch_between-patch.ensures.same)
    c.as_str.ensures c.in_ok-none.ensures c.none-self.ensures c.none-self-2.ensures in
    (held_closed _ (text_with w) done, is_closed _ (text_with w) done)
