use Rattle.std.proofs.Common.{arith}
use Rattle.lsp_lined.proofs.WindowPlaces.{IsColumnAfter, found_in_front, found_in_window}
use Rattle.lsp_lined.proofs.WindowPlaces.{none_in_window, column_fits, found_after, none_after}
use Rattle.lsp_lined.proofs.lined.window.Windowed.offset_of.Goals as goal
use Rattle.lsp_lined.proofs.lined.window.Windowed.offset_of.Goals.{After-by-5}

pub returns-then-column-by : goal.returns-then-column-by
returns-then-column-by c =
    found_in_front c.args.self.now c.args.encoding c.args.column c.by.result c.offset_of.result
    c.requires.held c.by.ensures c.if-column-by.true c.offset_of.ensures

pub returns-in_err-offset_of : goal.returns-in_err-offset_of
returns-in_err-offset_of c =
    rw c.from_residual.ensures
    (none_in_window c.args.self.now c.args.encoding c.sums-sums.result c.args.column c.by-2.result
    c.by-3.result c.requires.held c.sums-sums.ensures.sums c.by-2.ensures c.by-3.ensures
    (omega (arith, c.if-column-by.false, c.by.ensures, c.by-2.ensures))
    c.if-column-by-2.true c.in_err-offset_of.ensures)

pub returns-then-column-by-2 : goal.returns-then-column-by-2
returns-then-column-by-2 c =
    found_in_window c.args.self.now c.args.encoding c.sums-sums.result c.args.column c.by-2.result
    c.by-3.result c.in_ok-offset_of.field-0 c.requires.held c.sums-sums.ensures.sums
    c.by-2.ensures c.by-3.ensures
    (omega (arith, c.if-column-by.false, c.by.ensures, c.by-2.ensures))
    c.if-column-by-2.true c.in_ok-offset_of.ensures

after : (c : After-by-5) → IsColumnAfter c.args.self.now c.args.encoding c.sums-sums.result
    c.args.column c.by-2.result c.by-4.result c.by-5.result
after c = record {
  sums = c.sums-sums.ensures.sums;
  before = c.by-2.ensures;
  window = c.by-4.ensures;
  skipped = c.by-5.ensures;
  first = omega (arith, c.if-column-by.false, c.by.ensures, c.by-2.ensures);
  second = omega (arith, c.if-column-by-2.false, c.by-3.ensures, c.by-4.ensures);
  within = c.requires.within;
}

pub overflow_add-column : goal.overflow_add-column
overflow_add-column c =
    let at = (goal.at.overflow_add-column c).After-by-5 in
    let fits = column_fits c.args.self.now c.args.encoding c.sums-sums.result c.args.column
    c.by-2.result c.by-4.result c.by-5.result c.requires.held (after at) in
    record { fits = omega (arith, fits, c.requires.held.tree_fits) }

pub returns-in_err-offset : goal.returns-in_err-offset
returns-in_err-offset c =
    let at = (goal.at.returns-in_err-offset c).After-by-5 in
    rw c.from_residual-in_err-offset.ensures
    (none_after c.args.self.now c.args.encoding c.sums-sums.result c.args.column c.by-2.result
    c.by-4.result c.by-5.result c.requires.held (after at) c.in_err-offset.ensures)

pub overflow_sub-result : goal.overflow_sub-result
overflow_sub-result c =
    let at = (goal.at.overflow_sub-result c).After-by-5 in
    (found_after c.args.self.now c.args.encoding c.sums-sums.result c.args.column c.by-2.result
    c.by-4.result c.by-5.result c.in_ok-offset.offset c.requires.held (after at)
    c.in_ok-offset.ensures).order

pub returns : goal.returns
returns c =
    let at = (goal.at.returns c).After-by-5 in
    (found_after c.args.self.now c.args.encoding c.sums-sums.result c.args.column c.by-2.result
    c.by-4.result c.by-5.result c.in_ok-offset.offset c.requires.held (after at)
    c.in_ok-offset.ensures).at
