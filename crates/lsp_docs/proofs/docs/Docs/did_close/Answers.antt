use Rattle.std.proofs.Common.{◌≡◌, ap, ◌∙◌, sym, is_some, false, true, rules}
use Rattle.lsp_docs.specs.Calls.{closes}
use Rattle.lsp_docs.specs.State.{held_in, queue_of}
use Rattle.lsp_docs.proofs.Stepping.{accepts-closed, breaks, close-none, close-some, stated}
use Rattle.lsp_docs.proofs.Stepping.{terms_in}
use Rattle.lsp_docs.proofs.docs.Docs.did_close.Goals as goal

pub returns-then-not-remove-clause-refuses : goal.returns-then-not-remove-clause-refuses
returns-then-not-remove-clause-refuses g c =
    let s = c.args.self.now in
    let uri = c.args.uri.now in
    let out : c.remove.result ≡ false = search rules in
    let gone : is_some (held_in uri s.documents) ≡ false =
    ap (λ x. is_some (held_in uri x.documents)) (sym c.self.view_is)
    ∙ (sym c.remove.ensures.found ∙ out) in
    breaks s (closes uri) _
    (close-none s.terms (held_in uri s.documents) (queue_of uri s.kept) (queue_of uri s.waits.queues)
    uri gone)

pub returns-then-not-remove-clause-err : goal.returns-then-not-remove-clause-err
returns-then-not-remove-clause-err g c =
    let out : c.remove.result ≡ false = search rules in
    ap (λ l. stated (terms_in c.self.inside.terms.limit c.self.inside.terms.kept
    c.self.inside.terms.line_ends) l.held l.kept c.self.inside.waiting)
    (c.remove.ensures.absent out) ∙ c.self.view_is

pub returns-clause-accepts : goal.returns-clause-accepts
returns-clause-accepts g c =
    let was = stated (terms_in c.self.inside.terms.limit c.self.inside.terms.kept
    c.self.inside.terms.line_ends) c.self.inside.documents.held c.self.inside.documents.kept
    c.self.inside.waiting in
    let uri = c.args.uri.now in
    let out : c.remove.result ≡ true = search rules in
    rw (← c.self.view_is) (accepts-closed was uri _ _ _
    (close-some was.terms (held_in uri was.documents) (queue_of uri was.kept)
    (queue_of uri was.waits.queues) uri (sym c.remove.ensures.found ∙ out))
    c.remove.ensures.held c.remove.ensures.kept c.release.ensures.left c.release.ensures.missed)
