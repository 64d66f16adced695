use Rattle.std.proofs.Common.{◌<◌, ◌-◌, List, ℕ, sym, subst, arith}
use Rattle.lsp_text.proofs.Positions.{at_first_line}
use Rattle.lsp_lined.specs.Ends.{ends_in}
use Rattle.lsp_lined.proofs.HeldText.{holds, near_none, line_behind, near_behind}
use Rattle.lsp_lined.proofs.lined.lines.Lines.peek.Goals as goal

pub line_from-requires-clause-at : goal.line_from-requires-clause-at
line_from-requires-clause-at c =
    at_first_line c.args.self.now
    (holds c.self.inside.held c.args.self.now c.self.invariant c.self.view_is).utf8

pub line_from-requires-clause-near : goal.line_from-requires-clause-near
line_from-requires-clause-near c = near_none c.args.self.now

pub line_end-before-requires-clause-some : goal.line_end-before-requires-clause-some
line_end-before-requires-clause-some c =
    let h = holds c.self.inside.held c.args.self.now c.self.invariant c.self.view_is in
    let below : c.args.i - 1 < ends_in c.args.self.now =
    omega (arith, h.lines, h.ends, c.requires, c.if-i-eq0.false) in
    subst (λ (x : List ℕ). c.args.i - 1 < ends_in x) (sym c.self.view_is) below

pub line_from-requires-2-clause-at : goal.line_from-requires-2-clause-at
line_from-requires-2-clause-at c =
    let h = holds c.self.inside.held c.args.self.now c.self.invariant c.self.view_is in
    line_behind c.args.self.now _ c.args.i c.line_end-before.result h.utf8 c.self.view_is
    (omega (arith, c.if-i-eq0.false)) c.line_end-before.ensures

pub line_from-requires-2-clause-near : goal.line_from-requires-2-clause-near
line_from-requires-2-clause-near c =
    near_behind c.args.self.now _ (c.args.i - 1) c.line_end-before.result c.self.view_is
    c.line_end-before.ensures
