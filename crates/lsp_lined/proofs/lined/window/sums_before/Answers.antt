use Rattle.lsp_lined.proofs.WindowEdits.{before_counted}
use Rattle.lsp_lined.proofs.lined.window.sums_before.Goals as goal

pub returns : goal.returns
returns c =
    before_counted c.args.tree.now c.args.place c.ends_before.result
    c.units_before.result c.units_before-2.result c.requires c.ends_before.ensures
    c.units_before.ensures c.units_before-2.ensures
