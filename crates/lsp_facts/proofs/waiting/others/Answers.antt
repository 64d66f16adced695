use Rattle.std.proofs.Common.{sym, ap, ◌∙◌, arith, take_all}
use Rattle.lsp_docs.specs.Stored.{texts_of}
use Rattle.lsp_facts.specs.TwoTexts.{lent_text}
use Rattle.lsp_facts.specs.Refuting.{others_of}
use Rattle.lsp_facts.proofs.OtherTexts.{others-there, others-passed}
use Rattle.lsp_facts.proofs.waiting.others.Goals as goal
use Rattle.lsp_facts.proofs.waiting.others.Goals.{then-is_other_at+in_ok-push, else-is_other_at}

pub loop-index-preserved : goal.loop-index-preserved
loop-index-preserved g c =
    let text = lent_text g.S.TextStore.content c.args.text in
    let texts = texts_of c.args.texts.now in
    elim c.if-is_other_at.branch [
      | then-is_other_at+in_ok-push w ↦
          ap (λ v. v.items) w.others-is
          ∙ w.in_ok-push.ensures.items
          ∙ others-there c.args.line_ends text c.args.snapshots.now texts c.loop-index.index _
          c.loop-index.others.items c.loop-index-test.true
          (sym c.is_other_at.ensures ∙ w.if-is_other_at.true) c.loop-index.invariant
      | else-is_other_at w ↦
          ap (λ v. v.items) w.others-is
          ∙ others-passed c.args.line_ends text c.args.snapshots.now texts c.loop-index.index
          c.loop-index.others.items c.loop-index-test.true
          (sym c.is_other_at.ensures ∙ w.if-is_other_at.false) c.loop-index.invariant
    ]

pub returns : goal.returns
returns g c =
    let texts = texts_of c.args.texts.now in
    c.loop-index.invariant ∙ ap (λ l. others_of c.args.line_ends
    (lent_text g.S.TextStore.content c.args.text) l texts)
    (take_all c.loop-index.index c.args.snapshots.now (omega (arith, c.loop-index-test.false)))
