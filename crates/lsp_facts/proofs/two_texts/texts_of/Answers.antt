use Rattle.std.proofs.Common.{None, ap, sym, ◌∙◌}
use Rattle.std.specs.Prelude.{if◌then◌else◌}
use Rattle.lsp_docs.specs.Taken.{call_view}
use Rattle.lsp_facts.specs.TwoTexts.{compared}
use Rattle.lsp_facts.proofs.two_texts.texts_of.Goals as goal

pub returns-then-is_of_texts : goal.returns-then-is_of_texts
returns-then-is_of_texts g c = λ calls h breaks tries.
    let of = sym c.is_of_texts.ensures ∙ c.if-is_of_texts.true in
    c.compared.ensures calls c.args.rule h (breaks of) of (tries of)
    ∙ sym (ap (λ b. if b then compared c.args.docs.now.terms calls (call_view c.args.call) else None)
    of)
