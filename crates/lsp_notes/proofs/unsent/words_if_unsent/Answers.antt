use Rattle.std.proofs.Common.{◌∙◌, Some, ap, rules, w32}
use Rattle.std.proofs.lemmas.Int.{to_z-of_z}
use mir.Val.{SFits}
use Rattle.lsp_notes.proofs.LateSteps.{closed_before, set_before, unsent_so}
use Rattle.lsp_notes.proofs.unsent.words_if_unsent.Goals as goal

-- a message may have set it
pub returns-then-not-is_unset : goal.returns-then-not-is_unset
returns-then-not-is_unset c = λ terms before trail.
    let fits : SFits w32 c.args.version = search rules in
    let unset = simp to_z-of_z at c.is_unset.ensures in
    set_before terms before c.args.uri.now c.args.version c.as_slice.result.now c.is_unset.result
    (c.as_slice.ensures.value ∙ c.in_ok-setters.ensures terms before trail.marked)
    unset c.if-not-is_unset.true

-- the document may have been closed
pub returns-then-not-is_never : goal.returns-then-not-is_never
returns-then-not-is_never c = λ terms before trail.
    let fits : SFits w32 c.args.version = search rules in
    let unset = simp to_z-of_z at c.is_unset.ensures in
    closed_before terms before c.args.uri.now c.args.version c.as_slice.result.now c.closing.result
    c.is_unset.result c.is_never.result
    (c.as_slice.ensures.value ∙ c.in_ok-setters.ensures terms before trail.marked)
    (c.closing.ensures terms before trail.opened) unset c.is_never.ensures
    c.if-not-is_unset.false c.if-not-is_never.true

pub returns : goal.returns
returns c = λ terms before trail.
    let fits : SFits w32 c.args.version = search rules in
    let unset = simp to_z-of_z at c.is_unset.ensures in
    let words = simp to_z-of_z at c.in_ok-words.ensures.ok in
    ap Some words
    ∙ unsent_so terms before c.args.uri.now c.args.version c.as_slice.result.now c.closing.result
    c.is_unset.result c.is_never.result
    (c.as_slice.ensures.value ∙ c.in_ok-setters.ensures terms before trail.marked)
    (c.closing.ensures terms before trail.opened) unset c.is_never.ensures
    c.if-not-is_unset.false c.if-not-is_never.false
