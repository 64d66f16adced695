use Rattle.std.proofs.Common.{sym, ◌∙◌, w32}
use Rattle.std.proofs.lemmas.Int.{to_z-of_z}
use mir.Val.{SFits}
use Rattle.lsp_docs.proofs.Due.{dropped_next, dropped_left, dropped_count}
use Rattle.lsp_docs.proofs.queue.drop_until.Goals as goal

pub loop-texts-preserved : goal.loop-texts-preserved
loop-texts-preserved c =
    let fits : SFits w32 c.args.version = c.ranges.version in
    let kept = simp to_z-of_z at c.loop-texts.invariant in
    let reached = simp to_z-of_z at c.is_reached.ensures in
    let count = simp to_z-of_z at c.drop_first.ensures.missed in
    rw (to_z-of_z w32 c.args.version fits)
    (dropped_next c.args.version _ c.loop-texts.texts.entries _ c.loop-texts.missed
    c.drop_first.result _ kept (sym reached ∙ c.loop-texts-test.true) c.drop_first.ensures.rest
    count c.saturating_add-missed.ensures)

pub returns-clause-left : goal.returns-clause-left
returns-clause-left c =
    let fits : SFits w32 c.args.version = c.ranges.version in
    let kept = simp to_z-of_z at c.loop-texts.invariant in
    let reached = simp to_z-of_z at c.is_reached.ensures in
    dropped_left c.args.version _ c.loop-texts.texts.entries c.loop-texts.missed kept
    (sym reached ∙ c.loop-texts-test.false)

pub returns-clause-missed : goal.returns-clause-missed
returns-clause-missed c =
    let fits : SFits w32 c.args.version = c.ranges.version in
    let kept = simp to_z-of_z at c.loop-texts.invariant in
    let reached = simp to_z-of_z at c.is_reached.ensures in
    dropped_count c.args.version _ c.loop-texts.texts.entries c.loop-texts.missed kept
    (sym reached ∙ c.loop-texts-test.false)

pub drop_first-requires : goal.drop_first-requires
drop_first-requires c = sym c.is_reached.ensures ∙ c.loop-texts-test.true
