use Rattle.std.specs.Prelude.{get_or}
use Rattle.std.proofs.Common.{◌++◌, ◌∙◌, append-nil, ap, pos, rules, sym, w32}
use Rattle.std.proofs.lemmas.Int.{to_z-of_z}
use Rattle.std.proofs.lemmas.List.{drop_all}
use mir.Val.{SFits}
use Rattle.lsp_trail.specs.Common.{held, kept}
use Rattle.lsp_notes.specs.TextsSince.{contents, not_below, texts_at}
use Rattle.lsp_notes.proofs.EditedTexts.{get_or_any, texts_next}
use Rattle.lsp_notes.proofs.texts_since.texts_at.Goals as goal

pub loop-number-preserved : goal.loop-number-preserved
loop-number-preserved c = λ made stands.
    let terms = c.args.docs.now.terms in
    let uri = c.args.uri.now in
    let numbers = c.args.numbers.now in
    let i = c.loop-number.number-index in
    let number = get_or numbers i (pos 0) in
    let fits : SFits w32 c.args.version = search rules in
    let fits_number : SFits w32 number = search rules in
    let more = simp to_z-of_z at (c.in_ok-push_text.ensures made stands) in
    let inv = simp to_z-of_z at (c.loop-number.invariant made stands) in
    let next = texts_next (kept terms uri made) (held terms uri made) c.args.version numbers i number
    _ _ _ c.loop-number-test.true (get_or_any numbers i (pos 0) c.loop-number-test.true) inv more in
    simp to_z-of_z next

pub returns : goal.returns
returns c = λ made stands.
    let terms = c.args.docs.now.terms in
    let uri = c.args.uri.now in
    let done = contents c.loop-number.texts.items in
    let fits : SFits w32 c.args.version = search rules in
    let inv = simp to_z-of_z at (c.loop-number.invariant made stands) in
    sym (inv
    ∙ ap (λ ns. done ++ texts_at (kept terms uri made) (held terms uri made)
    (not_below c.args.version ns))
    (drop_all c.loop-number.number-index c.args.numbers.now c.loop-number-test.false)
    ∙ append-nil done)
