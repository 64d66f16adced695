use Rattle.std.proofs.Common.{◌∙◌, ap, w32, rules}
use Rattle.std.proofs.lemmas.Int.{to_z-of_z}
use Rattle.std.specs.Option.{option_map}
use mir.Val.{SFits}
use Rattle.lsp_docs.specs.Stored.{texts_of}
use Rattle.lsp_facts.specs.TwoTexts.{lent_text, two_texts}
use Rattle.lsp_facts.specs.Refuting.{first_other}
use Rattle.lsp_facts.proofs.two_texts.against.Goals as goal

pub returns-in_err-in_editor : goal.returns-in_err-in_editor
returns-in_err-in_editor g c = rw c.from_residual.ensures (λ calls h.
    let fits : SFits w32 c.args.brought.version = search rules in
    let waits = simp to_z-of_z at c.waiting_texts-waiting.ensures in
    let text = lent_text g.S.TextStore.content c.args.brought.text in
    let ends = c.args.docs.now.terms.line_ends in
    ap (option_map (two_texts text)) (c.in_err-in_editor.ensures
    ∙ ap (λ x. first_other x text (texts_of c.waiting_texts-waiting.result.now)) c.line_ends.ensures
    ∙ ap (first_other ends text) (waits calls h)))

pub returns : goal.returns
returns g c = λ calls h.
    let fits : SFits w32 c.args.brought.version = search rules in
    let waits = simp to_z-of_z at c.waiting_texts-waiting.ensures in
    let text = lent_text g.S.TextStore.content c.args.brought.text in
    let ends = c.args.docs.now.terms.line_ends in
    ap (option_map (two_texts text)) (c.in_ok-in_editor.ensures
    ∙ ap (λ x. first_other x text (texts_of c.waiting_texts-waiting.result.now)) c.line_ends.ensures
    ∙ ap (first_other ends text) (waits calls h))
