use Rattle.std.specs.Prelude.{option_and_then, option_map, unwrap_or}
use Rattle.std.proofs.Common.{◌≡◌, ◌∙◌, [], Bor, Some, None, ap, subst, sym}
use Rattle.std.proofs.lemmas.Option.{none-some}
use Rattle.std.proofs.lemmas.Result.{IfOk-weaker}
use Rattle.lsp_trail.specs.Common.{call_rule, call_view, calls, Counted, IsTriedOf, kept_of}
use Rattle.lsp_trail.specs.Common.{made_in, place_of, said_at, terms_in, Tried, uri_of}
use Rattle.lsp_facts.specs.EventFacts.{AreCallFacts}
use Rattle.lsp_origins.specs.Traced.{AreTraced, call_traced, earlier_by, earlier_of}
use Rattle.lsp_origins.proofs.trace.said_traced.Goals as goal

pub returns-in-Some : goal.returns-in-Some
returns-in-Some c = IfOk-weaker c.call_traced.result _ _
    (λ facts are before event stands place says breaks tries.
    let terms = terms_in c.args.past in
    let kept = kept_of terms before in
    let rule = c.args.rule in
    let call = call_view c.in-Some.call in
    let made = made_in (option_map (λ (t : Bor (Tried Counted)). t.now) c.args.tried) in
    let is : said_at terms before event ≡ Some call =
    sym says ∙ ap (option_map call_view) c.in-Some.is in
    subst (λ o. AreTraced (AreCallFacts terms kept rule o)
    (earlier_by terms before o)
    (unwrap_or (option_map (call_traced terms before (place_of before event) rule) o) []) facts)
    (sym is)
    (subst (λ p. AreTraced (AreCallFacts terms kept rule (Some call))
    (earlier_of terms before (uri_of call)) (call_traced terms before p rule call) facts) place
    (are before stands (ap (option_and_then (call_rule terms (calls kept))) (sym is) ∙ breaks)
    (subst (λ o. IsTriedOf terms (calls kept) o made) is tries)))) c.call_traced.ensures

-- it says nothing, and breaks none
pub returns-in-None : goal.returns-in-None
returns-in-None c = λ before event stands place says breaks tries.
    let terms = terms_in c.args.past in
    let is : said_at terms before event ≡ None =
    sym says ∙ ap (option_map call_view) c.in-None.is in
    absurd (none-some c.args.rule
    (ap (option_and_then (call_rule terms (calls (kept_of terms before)))) (sym is) ∙ breaks))
