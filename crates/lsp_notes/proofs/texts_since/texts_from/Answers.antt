use Rattle.std.proofs.Common.{◌∙◌, Some, ap, rules, w32}
use Rattle.std.proofs.lemmas.Int.{to_z-of_z}
use mir.Val.{SFits}
use Rattle.lsp_trail.specs.Common.{held, kept}
use Rattle.lsp_notes.specs.TextsSince.{not_below, texts_at}
use Rattle.lsp_notes.proofs.EditedTexts.{known_texts, unknown_texts}
use Rattle.lsp_notes.proofs.texts_since.texts_from.Goals as goal

-- that version is not known
pub returns-then-is_none : goal.returns-then-is_none
returns-then-is_none c = λ made stands.
    let terms = c.args.docs.now.terms in
    let uri = c.args.uri.now in
    let fits : SFits w32 c.args.version = search rules in
    let at = simp to_z-of_z at (c.store_at.ensures made stands) in
    unknown_texts (kept terms uri made) (held terms uri made) c.args.version c.store_at.result at
    c.is_none.result c.is_none.ensures c.if-is_none.true

pub returns : goal.returns
returns c = λ made stands.
    let terms = c.args.docs.now.terms in
    let uri = c.args.uri.now in
    let before = kept terms uri made in
    let v = held terms uri made in
    let fits : SFits w32 c.args.version = search rules in
    let at = simp to_z-of_z at (c.store_at.ensures made stands) in
    let texts = simp to_z-of_z at (c.in_ok-texts.ensures made stands) in
    known_texts before v c.args.version c.store_at.result at
    c.is_none.result c.is_none.ensures c.if-is_none.false _
    (texts ∙ ap (λ numbers. texts_at before v (not_below c.args.version numbers))
    (c.as_slice.ensures.value ∙ c.in_ok-numbers.ensures made stands))
