use Rattle.std.specs.List.{replace_range}
use Rattle.lsp_lined.specs.Windows.{text_with}
use Rattle.lsp_lined.proofs.WindowEdits.{apart, apart_fits, held_closed}
use Rattle.lsp_lined.proofs.lined.window.Windowed.replace_apart.Goals as goal

pub edit-requires-clause-fits : goal.edit-requires-clause-fits
edit-requires-clause-fits c =
    apart_fits c.args.self.now c.args.from c.args.to c.args.text.now c.requires.edit
    c.requires.closed

pub returns-clause-ok : goal.returns-clause-ok
returns-clause-ok c =
    let w = c.args.self.now in
    held_closed _ (replace_range (text_with w) c.args.from c.args.to c.args.text.now)
    (apart w c.args.from c.args.to c.args.text.now c.edit.new.self c.sums-self.result
    c.requires.edit c.requires.closed c.utf8.text c.in_ok-edit.ensures.ok
    c.sums-self.ensures.sums)
