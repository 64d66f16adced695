use Rattle.std.proofs.Common.{◌∙◌, sym, length, take, ap}
use Rattle.std.proofs.lemmas.List.{take_min}
use Rattle.lsp_facts.specs.TwoTexts.{lent_text}
use Rattle.lsp_facts.proofs.OtherTexts.{alike_others}
use Rattle.lsp_facts.proofs.waiting.differing.Goals as goal

pub returns : goal.returns
returns g c = λ any.
    let ns = c.args.snapshots.now in
    c.in_ok-from_slice.ensures.items
    ∙ ap (λ n. take n ns) c.min-count.ensures
    ∙ take_min (length c.args.texts.now) ns
    ∙ alike_others c.args.line_ends (lent_text g.S.TextStore.content c.args.text) c.args.texts.now ns
    (sym c.any_differs.ensures ∙ c.if-any_differs.false) any
