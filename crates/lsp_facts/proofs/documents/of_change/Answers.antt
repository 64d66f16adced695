use Rattle.std.proofs.Common.{◌≡◌, ◌∙◌, ℕ, Err, ap, inl, inr, subst}
use Rattle.std.proofs.lemmas.Result.{IfOk-weaker}
use Rattle.std.specs.Str.{chars}
use Rattle.lsp_replay.specs.Common.{changed, edit_of, edits_of, held, versions_of, waiting}
use Rattle.lsp_docs.specs.Snapshots.{kept}
use Rattle.lsp_docs.specs.Calls.{Text}
use Rattle.lsp_facts.specs.DocumentFacts.{kind_facts, IsRefused}
use Rattle.lsp_facts.proofs.MadeChanges.{here_at, all_seen, tried_there}
use Rattle.lsp_facts.proofs.DocumentRules.{all_made, change_fails, of_none, of_text}
use Rattle.lsp_facts.proofs.documents.of_change.Goals as goal

pub returns-in_default : goal.returns-in_default
returns-in_default g c = λ calls h e tries other.
    let terms = c.args.docs.now.terms in
    let uri = c.args.uri.now in
    of_none terms (versions_of uri (waiting terms calls)) (kept terms uri calls) c.args.encoding
    c.args.kind uri c.args.version (edits_of c.args.changes.now) c.args.rule c.new.result
    (held terms uri calls) (c.in_default.ensures calls h) c.new.ensures

pub returns-then-rule-eq-VERSION_DOES_NOT_RISE : goal.returns-then-rule-eq-VERSION_DOES_NOT_RISE
returns-then-rule-eq-VERSION_DOES_NOT_RISE g c = λ calls h e tries other.
    let terms = c.args.docs.now.terms in
    let uri = c.args.uri.now in
    of_text terms (versions_of uri (waiting terms calls)) (kept terms uri calls) c.args.encoding
    c.args.kind uri c.args.version (edits_of c.args.changes.now) c.args.rule _
    (held terms uri calls) (g.S.TextStore.content c.in-Some.store.now) (c.in-Some.ensures calls h)
    (inl (c.if-rule-eq-VERSION_DOES_NOT_RISE.true, c.new-then-rule-eq-VERSION_DOES_NOT_RISE.ensures))

pub returns-then-rule-eq-CHANGE_NOT_OF_KIND : goal.returns-then-rule-eq-CHANGE_NOT_OF_KIND
returns-then-rule-eq-CHANGE_NOT_OF_KIND g c =
    let t = g.S.TextStore.content c.in-Some.store.now in
    let cs = edits_of c.args.changes.now in
    IfOk-weaker c.misfit.result _ _ (λ facts are calls h e tries other.
    let terms = c.args.docs.now.terms in
    let uri = c.args.uri.now in
    of_text terms (versions_of uri (waiting terms calls)) (kept terms uri calls) c.args.encoding
    c.args.kind uri c.args.version cs c.args.rule facts (held terms uri calls) t
    (c.in-Some.ensures calls h)
    (inr (inl (
      c.if-rule-eq-CHANGE_NOT_OF_KIND.true,
      are ∙ ap (λ limit. kind_facts limit c.args.encoding c.args.kind t cs) c.limit.ensures,
    ))))
    c.misfit.ensures

pub returns-then-changes-count : goal.returns-then-changes-count
returns-then-changes-count g c = λ calls h e tries other.
    let terms = c.args.docs.now.terms in
    let uri = c.args.uri.now in
    let cs = edits_of c.args.changes.now in
    let n = c.as_tried-count.result.count in
    let content = g.S.TextStore.content in
    let t = content c.in-Some.store.now in
    let text = content c.as_tried-count.result.store.now in
    let there = held terms uri calls in
    let holds = c.in-Some.ensures calls h in
    all_made terms (versions_of uri (waiting terms calls)) (kept terms uri calls) c.args.encoding
    c.args.kind uri c.args.version cs c.args.rule _ n text
    c.if-rule-eq-VERSION_DOES_NOT_RISE.false c.if-rule-eq-CHANGE_NOT_OF_KIND.false there t holds e
    (λ early. tried_there terms.limit c.args.encoding there t cs _ text n holds
    c.as_tried-count.ensures (tries early))
    (all_seen c.args.changes.now n c.if-changes-count.true) other

pub returns : goal.returns
returns g c =
    let cs = edits_of c.args.changes.now in
    let n = c.as_tried-count.result.count in
    let content = g.S.TextStore.content in
    let t = content c.in-Some.store.now in
    let text = content c.as_tried-count.result.store.now in
    let edit = edit_of c.index-changes-count.result in
    let spelled : chars c.as_str-text.result.now ≡ text = ap chars c.as_str-text.ensures.value
    ∙ c.in_ok-text.ensures in
    IfOk-weaker c.refused.result _ _ (λ facts explained calls h e tries other.
    let terms = c.args.docs.now.terms in
    let uri = c.args.uri.now in
    let there = held terms uri calls in
    let holds = c.in-Some.ensures calls h in
    let told = subst (λ (x : Text). changed c.args.encoding x edit.span edit.text terms.limit
    ≡ Err c.args.rule → IsRefused terms.limit c.args.encoding x n edit c.args.rule facts) spelled
    (subst (λ (limit : ℕ). changed c.args.encoding (chars c.as_str-text.result.now) edit.span
    edit.text limit ≡ Err c.args.rule
    → IsRefused limit c.args.encoding (chars c.as_str-text.result.now) n edit c.args.rule facts)
    c.limit-2.ensures explained) in
    change_fails terms (versions_of uri (waiting terms calls)) (kept terms uri calls)
    c.args.encoding c.args.kind uri c.args.version cs c.args.rule facts n text
    c.if-rule-eq-VERSION_DOES_NOT_RISE.false c.if-rule-eq-CHANGE_NOT_OF_KIND.false there t holds e
    (λ early. tried_there terms.limit c.args.encoding there t cs _ text n holds
    c.as_tried-count.ensures (tries early))
    edit (here_at c.args.changes.now n c.index-changes-count.result
    c.if-changes-count.false c.index-changes-count.is) told)
    c.refused.ensures
