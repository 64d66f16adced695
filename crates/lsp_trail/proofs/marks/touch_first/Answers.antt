use Rattle.std.proofs.Common.{Some, sym, ap, ◌∙◌}
use Rattle.lsp_uris.proofs.Putting.{puts-key}
use Rattle.lsp_trail.specs.Marking.{finds_equal, mark_view, stepped}
use Rattle.lsp_trail.proofs.Marking.{steps_on}
use Rattle.lsp_trail.proofs.marks.touch_first.Goals as goal

pub returns-clause-marked : goal.returns-clause-marked
returns-clause-marked c =
    let uri = c.args.uri.now in
    let p = c.args.place.now in
    let step = c.args.step.now in
    let mark = c.step.new.self in
    let old = c.args.map.now.entries in
    let new = c.insert.new.self.entries in
    let updates = c.in_ok-insert.ensures.updates in
    steps_on uri p step (Some (mark_view mark)) old new
    (puts-key mark_view (Some mark) old new c.in_ok-key.key uri c.in_ok-key.ensures.ok updates.1
    updates.3)
    (c.in_ok-is_equal.ensures.marked ∙ ap (stepped p step) (c.new-mark.ensures ∙ sym c.requires.none))

pub returns-clause-equal : goal.returns-clause-equal
returns-clause-equal c =
    c.in_ok-is_equal.ensures.equal
    ∙ ap (finds_equal c.args.step.now) (c.new-mark.ensures ∙ sym c.requires.none)
