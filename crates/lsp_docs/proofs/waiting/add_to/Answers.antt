use Rattle.std.proofs.Common.{◌≡◌, sym, ap, ◌∙◌, rules, string_bytes, subst, w32}
use Rattle.std.proofs.lemmas.Int.{to_z-of_z}
use mir.Val.{SFits}
use Rattle.lsp_docs.specs.Documents.{versioned}
use Rattle.lsp_docs.specs.State.{IsAdded}
use Rattle.lsp_docs.specs.Stored.{text_of, queues_in}
use Rattle.lsp_docs.proofs.Queues.{added-there, queued, written-same}
use Rattle.lsp_docs.proofs.waiting.add_to.Goals as goal

pub returns-in_err-push-clause-err : goal.returns-in_err-push-clause-err
returns-in_err-push-clause-err c =
    let w = c.push.new.self in
    let left : queues_in (c.get_mut.follows.lender w).entries
    ≡ queues_in c.args.snapshots.now.entries =
    ap queues_in (c.get_mut.follows.holds w).0
    ∙ written-same (queued (λ d. d)) c.args.uri.now w c.in-Some.waiting.now
    (λ k. ap (λ vs. record { uri = string_bytes k; versions = vs }) c.in_err-push.ensures.err) _
    (sym c.in-Some.ensures.value) in
    search rules

pub returns-clause-ok : goal.returns-clause-ok
returns-clause-ok c =
    let fits : SFits w32 c.args.version = c.ranges.version in
    let w = c.push.new.self in
    let v = versioned c.args.version (text_of c.args.text) in
    let more = simp to_z-of_z at c.in_ok-push.ensures.ok in
    subst (λ es. IsAdded c.args.uri.now v (queues_in c.args.snapshots.now.entries) (queues_in es))
    (sym (c.get_mut.follows.holds w).0)
    (added-there (λ x. x) c.args.uri.now v c.in-Some.waiting.now w more _
    (sym c.in-Some.ensures.value))
