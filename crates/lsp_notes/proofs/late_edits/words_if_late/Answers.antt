use Rattle.std.proofs.Common.{◌∙◌, ap, rules, sym, w32}
use Rattle.std.proofs.lemmas.Int.{to_z-of_z}
use mir.Val.{SFits}
use Rattle.lsp_trail.specs.Common.{edits_of, held, kept}
use Rattle.lsp_notes.specs.LateEdits.{late_view, made_late}
use Rattle.lsp_notes.proofs.LateSteps.{words_not, words_so, words_unknown}
use Rattle.lsp_notes.proofs.late_edits.words_if_late.Goals as goal

-- the version at the request is not known
pub returns-in_default : goal.returns-in_default
returns-in_default c = λ made setter stands own.
    words_unknown c.args.docs.now.terms made c.args.uri.now c.args.encoding c.args.setters.now
    setter (late_view c.args.answer.now) c.args.newer own
    (sym c.in_default.is ∙ c.version_at.ensures)

-- the edits were not made late
pub returns-then-not-branch : goal.returns-then-not-branch
returns-then-not-branch c = λ made setter stands own.
    let terms = c.args.docs.now.terms in
    let uri = c.args.uri.now in
    let enc = c.args.encoding in
    let older = c.in-Some.older in
    let fits : SFits w32 older = search rules in
    let fits_newer : SFits w32 c.args.newer = search rules in
    let late = simp to_z-of_z at (c.in_ok-made_late.ensures made stands) in
    words_not terms made uri enc c.args.setters.now setter (late_view c.args.answer.now) c.args.newer
    own older (sym c.in-Some.is ∙ c.version_at.ensures)
    (ap (λ edits. made_late enc (edits_of edits) older c.args.newer (kept terms uri made)
    (held terms uri made)) (sym c.as_slice-edits.ensures.value) ∙ sym late ∙ c.if-not-branch.true)

pub returns : goal.returns
returns c = λ made setter stands own.
    let terms = c.args.docs.now.terms in
    let uri = c.args.uri.now in
    let enc = c.args.encoding in
    let older = c.in-Some.older in
    let fits : SFits w32 older = search rules in
    let fits_newer : SFits w32 c.args.newer = search rules in
    let late = simp to_z-of_z at (c.in_ok-made_late.ensures made stands) in
    words_so terms made uri enc c.args.setters.now setter (late_view c.args.answer.now) c.args.newer
    own older _ (sym c.in-Some.is ∙ c.version_at.ensures)
    (ap (λ edits. made_late enc (edits_of edits) older c.args.newer (kept terms uri made)
    (held terms uri made)) (sym c.as_slice-edits.ensures.value) ∙ sym late ∙ c.if-not-branch.false)
    c.in_ok-late_words.ensures
