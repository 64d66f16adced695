use Rattle.std.specs.Prelude.{if◌then◌else◌, not}
use Rattle.std.proofs.Common.{◌++◌, ◌∷◌, ◌∙◌, [], Bool, ap, rules, sym, w32}
use Rattle.std.proofs.lemmas.Int.{to_z-of_z}
use mir.Val.{SFits}
use Rattle.lsp_trail.specs.Common.{held, kept, text_at}
use Rattle.lsp_notes.specs.TextsSince.{contents, texts_at}
use Rattle.lsp_notes.proofs.EditedTexts.{text_more}
use Rattle.lsp_notes.proofs.texts_since.push_text.Goals as goal

pub returns : goal.returns
returns c = λ made stands.
    let terms = c.args.docs.now.terms in
    let before = kept terms c.args.uri.now made in
    let v = held terms c.args.uri.now made in
    let texts = c.args.texts.now.items in
    let number = c.args.number in
    let fits : SFits w32 number = search rules in
    let fits_version : SFits w32 c.args.version = search rules in
    let less = simp to_z-of_z at c.if-number-version.false in
    let at = simp to_z-of_z at (c.in-Some.ensures made stands) in
    ap contents c.in_ok-push.ensures.items
    ∙ text_more texts c.in_ok-copy.copy _ (text_at number before v) c.in_ok-copy.ensures.content
    at
    ∙ ap (λ (b : Bool). contents texts ++ texts_at before v (if not b then number ∷ [] else []))
    (sym less)
