use Rattle.std.proofs.Common.{arith}
use Rattle.lsp_lined.proofs.WindowEnds.{ends_counted, end_before, end_in_window, end_after}
use Rattle.lsp_lined.proofs.WindowEnds.{end_number_below}
use Rattle.lsp_lined.proofs.lined.window.Windowed.line_end.Goals as goal

pub line_end-requires : goal.line_end-requires
line_end-requires c =
    omega (arith, (ends_counted c.args.self.now c.requires.held).front, c.if-n-self.true)

pub up_to_place-requires-clause-within : goal.up_to_place-requires-clause-within
up_to_place-requires-clause-within c =
    (end_before c.args.self.now c.args.n c.line_end.result c.requires.held c.if-n-self.true
    c.line_end.ensures).within

pub up_to_place-requires-clause-boundary : goal.up_to_place-requires-clause-boundary
up_to_place-requires-clause-boundary c =
    (end_before c.args.self.now c.args.n c.line_end.result c.requires.held c.if-n-self.true
    c.line_end.ensures).boundary

pub returns-then-n-self : goal.returns-then-n-self
returns-then-n-self c =
    let up = c.up_to_place.ensures in
    (end_before c.args.self.now c.args.n c.line_end.result c.requires.held c.if-n-self.true
    c.line_end.ensures).end c.up_to_place.result
    (record { at = up.at; after = up.after; rest = up.rest; plain = up.plain })

pub returns-then-n-sums : goal.returns-then-n-sums
returns-then-n-sums c =
    end_in_window c.args.self.now c.args.n c.line_end-then-n-sums.result c.moved.result
    c.requires.held c.if-n-self.false c.line_end-then-n-sums.ensures c.moved.ensures

pub overflow_add-n : goal.overflow_add-n
overflow_add-n c =
    let w = c.args.self.now in
    let below = end_number_below w c.args.n c.sums-sums.result c.requires.held
    c.sums-sums.ensures.sums c.if-n-self.false c.if-n-sums.false c.requires.some in
    let k = ends_counted w c.requires.held in
    record { fits = omega (arith, below, k.most, c.requires.held.tree_fits) }

pub line_end-end-requires : goal.line_end-end-requires
line_end-end-requires c =
    end_number_below c.args.self.now c.args.n c.sums-sums.result c.requires.held
    c.sums-sums.ensures.sums c.if-n-self.false c.if-n-sums.false c.requires.some

pub moved-requires-2-clause-at : goal.moved-requires-2-clause-at
moved-requires-2-clause-at c =
    (end_after c.args.self.now c.args.n c.sums-sums.result c.line_end-end.result c.requires.held
    c.sums-sums.ensures.sums c.if-n-self.false c.if-n-sums.false c.line_end-end.ensures).order

pub returns : goal.returns
returns c =
    (end_after c.args.self.now c.args.n c.sums-sums.result c.line_end-end.result c.requires.held
    c.sums-sums.ensures.sums c.if-n-self.false c.if-n-sums.false c.line_end-end.ensures).end
    c.moved-2.result c.moved-2.ensures
