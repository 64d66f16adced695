use Rattle.std.proofs.Common.{List, ℕ, ap, refl, ◌∙◌, w32, rules}
use Rattle.std.proofs.lemmas.Int.{to_z-of_z}
use Rattle.std.specs.Prelude.{option_and_then}
use Rattle.std.specs.Str.{chars}
use mir.Val.{SFits}
use Rattle.lsp_replay.specs.Common.{call_view, uri_of}
use Rattle.lsp_facts.specs.TwoTexts.{against, brought_view, recorded}
use Rattle.lsp_facts.proofs.DocumentRules.{not_this, shown_other}
use Rattle.lsp_facts.proofs.OtherTexts.{by_brought}
use Rattle.lsp_facts.proofs.two_texts.compared.Goals as goal

pub returns-in-Shows : goal.returns-in-Shows
returns-in-Shows g c =
    let fits : SFits w32 c.in-Shows.version = search rules in
    let told = simp to_z-of_z at c.store_at.ensures in
    let text = chars c.in-Shows.text.now in
    rw c.in-Shows.is (λ calls rule h e of tries. c.stored-in-Shows.ensures
    ∙ ap (recorded text) (shown_other c.args.docs.now calls h c.in-Shows.uri.now c.in-Shows.version
    text rule (λ late. not_this rule 701 refl late of) e _ (told calls h)))

pub returns-in_err-brought-in_default : goal.returns-in_err-brought-in_default
returns-in_err-brought-in_default g c = rw c.from_residual-in_err-brought-in_default.ensures (λ calls rule h e of tries.
    let terms = c.args.docs.now.terms in
    let call = call_view c.args.call in
    ap (option_and_then (against terms calls (uri_of call)))
    (c.in_err-brought-in_default.ensures calls rule h e of tries)
    ∙ by_brought terms calls c.args.call c.in_default.not-Saves c.in_default.not-Shows)

pub returns-in_ok-brought-in_default : goal.returns-in_ok-brought-in_default
returns-in_ok-brought-in_default g c = λ calls rule h e of tries.
    let terms = c.args.docs.now.terms in
    let call = call_view c.args.call in
    let brought = brought_view g.S.TextStore.content c.in_ok-brought-in_default.brought in
    c.against.ensures calls h
    ∙ ap (λ (u : List ℕ). against terms calls u brought) c.uri.ensures
    ∙ ap (option_and_then (against terms calls (uri_of call)))
    (c.in_ok-brought-in_default.ensures calls rule h e of tries)
    ∙ by_brought terms calls c.args.call c.in_default.not-Saves c.in_default.not-Shows
