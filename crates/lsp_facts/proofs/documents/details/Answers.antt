use Rattle.std.proofs.Common.{Option, ap, sym, ◌∙◌, subst}
use Rattle.std.specs.Str.{chars}
use Rattle.lsp_docs.specs.Taken.{call_view}
use Rattle.lsp_facts.specs.DocumentFacts.{AreDetails, editor_key}
use Rattle.lsp_facts.specs.TwoTexts.{TwoTexts, lent_text, texts_view}
use Rattle.lsp_facts.proofs.TextsDiffer.{apart_moved, found_differ, none_found}
use Rattle.lsp_facts.proofs.documents.details.Goals as goal

pub returns-in_default : goal.returns-in_default
returns-in_default g c = λ calls h e tries.
    let terms = c.args.docs.now.terms in
    let call = call_view c.args.call in
    let none = c.in_default.ensures calls h (λ of. e) (λ of. tries) in
    subst (λ (o : Option TwoTexts). AreDetails terms c.args.encoding calls call c.args.rule
    c.args.was_equal o c.in_ok-facts.facts) none
    (c.in_ok-facts.ensures calls h e tries
    (none_found terms calls call c.args.rule e (sym none)))

pub returns : goal.returns
returns g c = λ calls h e tries.
    let terms = c.args.docs.now.terms in
    let call = call_view c.args.call in
    let content = g.S.TextStore.content in
    let texts = texts_view content c.in-Some.texts in
    let some = c.in-Some.ensures calls h (λ of. e) (λ of. tries) in
    let facts = c.in_ok-facts-2.facts in
    subst (λ (o : Option TwoTexts). AreDetails terms c.args.encoding calls call c.args.rule
    c.args.was_equal o facts) some
    (apart_moved c.args.encoding c.args.was_equal c.line_ends-ends.result terms.line_ends
    (chars c.as_str.result.now) (lent_text content c.in-Some.texts.by_messages)
    (chars c.in-Some.texts.in_editor.now) c.editor_key-key.result.now (editor_key call) facts
    c.line_ends-ends.ensures (ap chars c.as_str.ensures.value ∙ c.in_ok-made.ensures)
    c.editor_key-key.ensures (found_differ terms calls call c.args.rule e texts (sym some))
    c.in_ok-facts-2.ensures)
