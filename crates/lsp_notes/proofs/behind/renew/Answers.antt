use Rattle.std.specs.Prelude.{if◌then◌else◌, option_map}
use Rattle.std.proofs.Common.{◌∙◌, Bool, None, Some, ap, false, refl, subst, sym}
use Rattle.lsp_trail.specs.Common.{call_view, uri_of}
use Rattle.lsp_notes.specs.Behind.{PutsBehind, renewed}
use Rattle.lsp_notes.proofs.BehindSteps.{put_one}
use Rattle.lsp_notes.proofs.behind.renew.Goals as goal

-- nothing is said
pub returns-in_default : goal.returns-in_default
returns-in_default c =
    subst (λ own. PutsBehind false own c.args.uris.now.entries c.args.uris.now.entries)
    (sym (ap (λ o. renewed (option_map call_view o)) c.in_default.is)) (λ uri. refl)

-- the whole text is not given
pub returns-then-not-renews : goal.returns-then-not-renews
returns-then-not-renews c =
    let own = uri_of (call_view c.in-Some.call) in
    subst (λ o. PutsBehind false o c.args.uris.now.entries c.args.uris.now.entries)
    (sym (ap (λ o. renewed (option_map call_view o)) c.in-Some.is
    ∙ ap (λ (b : Bool). if b then Some own else None)
    (sym c.renews.ensures ∙ c.if-not-renews.true))) (λ uri. refl)

pub returns : goal.returns
returns c =
    let own = uri_of (call_view c.in-Some.call) in
    subst (λ o. PutsBehind false o c.args.uris.now.entries c.forget_uri.new.uris.entries)
    (ap Some c.uri.ensures
    ∙ sym (ap (λ o. renewed (option_map call_view o)) c.in-Some.is
    ∙ ap (λ (b : Bool). if b then Some own else None)
    (sym c.renews.ensures ∙ c.if-not-renews.false)))
    (λ uri. put_one _ _ uri _ _ (c.forget_uri.ensures uri))
