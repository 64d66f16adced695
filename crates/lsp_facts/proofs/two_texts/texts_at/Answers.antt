use Rattle.std.specs.Prelude.{option_and_then, option_map}
use Rattle.std.proofs.Common.{◌≡◌, ◌∙◌, Bor, Some, ap, subst, sym}
use Rattle.lsp_replay.specs.Common.{call_at, call_view, calls, Counted, made_in}
use Rattle.lsp_docs.specs.declared.tried.Tried.{Tried}
use Rattle.lsp_replay.specs.Tries.{IsTriedOf}
use Rattle.lsp_facts.specs.TwoTexts.{texts_of}
use Rattle.lsp_facts.proofs.CallBreaks.{call_breaks, is_on_documents}
use Rattle.lsp_facts.proofs.two_texts.texts_at.Goals as goal

pub returns-in-Some : goal.returns-in-Some
returns-in-Some c = λ kept event stands says offends tries.
    let terms = c.args.held.now.docs.terms in
    let rule = c.args.rule in
    let call = call_view c.in-Some.call in
    let made = made_in (option_map (λ (t : Bor (Tried Counted)). t.now) c.args.tried) in
    let is : call_at kept event ≡ Some call = sym says ∙ ap (option_map call_view) c.in-Some.is in
    c.texts_of.ensures (calls kept) stands
    (λ on_texts. call_breaks terms kept event call rule (is_on_documents rule on_texts) offends is)
    (λ on_texts. subst (λ o. IsTriedOf terms (calls kept) o made) is
    (tries (is_on_documents rule on_texts)))
    ∙ ap (option_and_then (λ one. texts_of terms (calls kept) one rule)) (sym is)

pub returns-in-None : goal.returns-in-None
returns-in-None c = λ kept event stands says offends tries.
    ap (option_and_then (λ one. texts_of c.args.held.now.docs.terms (calls kept) one c.args.rule))
    (sym (ap (option_map call_view) c.in-None.is) ∙ says)
