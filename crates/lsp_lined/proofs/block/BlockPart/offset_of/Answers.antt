use Rattle.std.proofs.Common.{List, ℕ, ap, arith, sym, ◌∙◌}
use Rattle.std.specs.Str.{chars}
use Rattle.lsp_text.specs.Places.{units}
use Rattle.lsp_lined.proofs.BlockPlaces.{held_text, block_past, block_plain, width_fits, width_is}
use Rattle.lsp_lined.proofs.block.BlockPart.offset_of.Goals as goal

pub returns-then-width-column : goal.returns-then-width-column
returns-then-width-column c =
    let held = c.deref-held in
    let h = held_text c.self.inside c.args.self.now held.result.now c.self.invariant
    c.self.view_is held.ensures in
    block_past c.args.encoding c.args.self.now held.result.now.sums c.by-width.result c.args.column
    h.utf8 h.sums c.by-width.ensures c.if-width-column.true

pub returns-then-held : goal.returns-then-held
returns-then-held c =
    let held = c.deref-held in
    let h = held_text c.self.inside c.args.self.now held.result.now c.self.invariant
    c.self.view_is held.ensures in
    block_plain c.args.encoding c.args.self.now held.result.now.sums c.by-width.result c.args.column
    h.utf8 h.sums c.by-width.ensures c.if-width-column.false c.if-held.true

pub overflow_cast-column : goal.overflow_cast-column
overflow_cast-column c =
    let held = c.deref-held in
    let h = held_text c.self.inside c.args.self.now held.result.now c.self.invariant
    c.self.view_is held.ensures in
    let fits = width_fits c.args.encoding c.args.self.now held.result.now.sums c.by-width.result
    h.utf8 h.sums c.by-width.ensures h.short in
    record { fits = omega (arith, c.if-width-column.false, fits) }

pub overflow_cast-width : goal.overflow_cast-width
overflow_cast-width c =
    let held = c.deref-held in
    let h = held_text c.self.inside c.args.self.now held.result.now c.self.invariant
    c.self.view_is held.ensures in
    record {
      fits =
          width_fits c.args.encoding c.args.self.now held.result.now.sums c.by-width.result
          h.utf8 h.sums c.by-width.ensures h.short;
    }

pub offset_in_counted-requires-clause-width : goal.offset_in_counted-requires-clause-width
offset_in_counted-requires-clause-width c =
    let held = c.deref-held in
    let h = held_text c.self.inside c.args.self.now held.result.now c.self.invariant
    c.self.view_is held.ensures in
    width_is c.args.encoding c.args.self.now held.result.now.sums c.by-width.result h.utf8 h.sums
    c.by-width.ensures
    ∙ ap (λ (x : List ℕ). units c.args.encoding (chars x)) (sym c.as_str.ensures)
