use Rattle.lsp_lined.proofs.HeldText.{holds, number_held}
use Rattle.lsp_lined.proofs.lined.lines.Lines.number_of.Goals as goal

pub returns : goal.returns
returns c =
    number_held c.self.inside.held.sums c.args.self.now c.args.position c.min.result (holds c.self.inside.held c.args.self.now c.self.invariant c.self.view_is) c.min.ensures
