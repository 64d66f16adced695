use Rattle.std.proofs.Common.{refl}
use Rattle.lsp_lined.proofs.HeldText.{lent}
use Rattle.lsp_lined.proofs.lined.lines.Lines.line_from.Goals as goal

pub returns : goal.returns
returns c =
    lent c.self.inside.held c.args.self.now c.args.i _ c.self.invariant c.self.view_is refl
    c.requires.number c.requires.at c.requires.near c.end_of-end.ensures
