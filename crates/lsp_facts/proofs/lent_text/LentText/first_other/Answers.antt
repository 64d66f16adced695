use Rattle.std.proofs.Common.{Bool, ap, sym, ◌∙◌, arith, String, Some}
use Rattle.std.specs.Global.{Global}
use Rattle.std.specs.List.{find}
use Rattle.std.specs.Option.{option_map}
use Rattle.std.specs.Str.{chars}
use Rattle.std.proofs.lemmas.List.{take_all}
use Rattle.lsp_docs.specs.Stored.{text_of}
use Rattle.lsp_docs.proofs.Others.{find-map}
use Rattle.lsp_facts.specs.TwoTexts.{lent_text}
use Rattle.lsp_facts.specs.Refuting.{is_other}
use Rattle.lsp_facts.proofs.OtherTexts.{find-here, find-more}
use Rattle.lsp_facts.proofs.lent_text.LentText.first_other.Goals as goal

pub returns-then-is_other : goal.returns-then-is_other
returns-then-is_other g c =
    let test = is_other c.args.line_ends (lent_text g.S.TextStore.content c.args.self.now) in
    let seen : String Global → Bool = λ s. test (text_of s) in
    let here = find-here seen c.args.texts.now c.loop-other.other-index c.other-item.result
    c.loop-other-test.true c.other-item.is c.loop-other.invariant
    (sym c.is_other.ensures ∙ c.if-is_other.true) in
    ap (λ bs. Some (chars bs)) c.as_str.ensures.value
    ∙ sym (find-map test text_of c.args.texts.now ∙ ap (option_map text_of) here)

pub loop-other-preserved : goal.loop-other-preserved
loop-other-preserved g c =
    let seen : String Global → Bool =
    λ s. is_other c.args.line_ends (lent_text g.S.TextStore.content c.args.self.now) (text_of s) in
    find-more seen c.args.texts.now c.loop-other.other-index c.other-item.result
    c.loop-other-test.true c.other-item.is c.loop-other.invariant
    (sym c.is_other.ensures ∙ c.if-is_other.false)

pub returns : goal.returns
returns g c =
    let test = is_other c.args.line_ends (lent_text g.S.TextStore.content c.args.self.now) in
    let seen : String Global → Bool = λ s. test (text_of s) in
    sym (find-map test text_of c.args.texts.now
    ∙ ap (option_map text_of)
    (ap (find seen) (sym (take_all c.loop-other.other-index c.args.texts.now (omega arith)))
    ∙ c.loop-other.invariant))
