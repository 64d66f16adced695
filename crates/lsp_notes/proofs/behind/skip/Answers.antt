use Rattle.std.specs.Prelude.{if◌then◌else◌, option_map}
use Rattle.std.proofs.Common.{◌∙◌, Bool, None, Some, ap, refl, subst, sym, true}
use Rattle.std.proofs.lemmas.Result.{on_ok_weaker}
use Rattle.lsp_trail.specs.Common.{call_view, is_reopened, raw_view, uri_of}
use Rattle.lsp_notes.specs.Behind.{PutsBehind, parts, skipped}
use Rattle.lsp_notes.proofs.BehindSteps.{put_one}
use Rattle.lsp_notes.proofs.behind.skip.Goals as goal

-- it is no call
pub returns-in_default : goal.returns-in_default
returns-in_default c = on_ok_weaker c.skip_malformed.result (λ puts made stands.
    let raw = raw_view c.args.raw in
    subst (λ o. PutsBehind true (skipped raw c.args.rule
    (is_reopened c.args.docs.now.terms made (option_map call_view o)) (option_map call_view o))
    c.args.uris.now.entries c.skip_malformed.new.uris.entries) (sym c.in_default.is) puts)
    c.skip_malformed.ensures

-- it was to change the text
pub returns-then-parts : goal.returns-then-parts
returns-then-parts c = on_ok_weaker c.add_uri.result (λ added made stands.
    let raw = raw_view c.args.raw in
    let call = call_view c.in-Some.call in
    let so = sym (c.parts.ensures
    ∙ ap (λ (b : Bool). parts c.args.rule b call) (c.reopens.ensures made stands))
    ∙ c.if-parts.true in
    subst (λ own. PutsBehind true own c.args.uris.now.entries c.add_uri.new.uris.entries)
    (ap Some c.uri.ensures
    ∙ sym (ap (λ o. skipped raw c.args.rule
    (is_reopened c.args.docs.now.terms made (option_map call_view o)) (option_map call_view o))
    c.in-Some.is
    ∙ ap (λ (b : Bool). if b then Some (uri_of call) else None) so))
    (λ uri. put_one _ _ uri _ _ (added uri))) c.add_uri.ensures

-- it was not
pub returns : goal.returns
returns c = λ made stands.
    let raw = raw_view c.args.raw in
    let call = call_view c.in-Some.call in
    let so = sym (c.parts.ensures
    ∙ ap (λ (b : Bool). parts c.args.rule b call) (c.reopens.ensures made stands))
    ∙ c.if-parts.false in
    subst (λ own. PutsBehind true own c.args.uris.now.entries c.args.uris.now.entries)
    (sym (ap (λ o. skipped raw c.args.rule
    (is_reopened c.args.docs.now.terms made (option_map call_view o)) (option_map call_view o))
    c.in-Some.is
    ∙ ap (λ (b : Bool). if b then Some (uri_of call) else None) so)) (λ uri. refl)
