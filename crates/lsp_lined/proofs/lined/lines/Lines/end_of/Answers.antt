use Rattle.std.proofs.Common.{◌<◌, List, ℕ, sym, subst, arith}
use Rattle.lsp_lined.specs.Ends.{ends_in}
use Rattle.lsp_lined.proofs.HeldText.{holds, end_of_last, end_in}
use Rattle.lsp_lined.proofs.lined.lines.Lines.end_of.Goals as goal

pub returns-then-i-self : goal.returns-then-i-self
returns-then-i-self c =
    end_of_last c.self.inside.held.sums c.args.self.now c.args.i
    (holds c.self.inside.held c.args.self.now c.self.invariant c.self.view_is) c.if-i-self.true

pub line_end-end-requires-clause-some : goal.line_end-end-requires-clause-some
line_end-end-requires-clause-some c =
    let h = holds c.self.inside.held c.args.self.now c.self.invariant c.self.view_is in
    let below : c.args.i < ends_in c.args.self.now =
    omega (arith, h.lines, h.ends, c.requires, c.if-i-self.false) in
    subst (λ (x : List ℕ). c.args.i < ends_in x) (sym c.self.view_is) below

pub returns : goal.returns
returns c =
    let h = holds c.self.inside.held c.args.self.now c.self.invariant c.self.view_is in
    end_in c.args.self.now _ c.args.i c.line_end-end.result h.utf8 c.self.view_is
    c.line_end-end.ensures
