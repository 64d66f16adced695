use Rattle.std.specs.Prelude.{unwrap_or}
use Rattle.std.proofs.Common.{◌++◌, ◌∙◌, Some, ap, append_assoc, subst}
use Rattle.lsp_trail.specs.Common.{call_view, calls, kept_of, sent_in, terms_in, uri_of, Utf16}
use Rattle.lsp_facts.specs.DocumentFacts.{AreDocumentFacts}
use Rattle.lsp_facts.specs.EventFacts.{AreCallFacts}
use Rattle.lsp_origins.specs.OlderEncoding.{older_traced}
use Rattle.lsp_origins.specs.Traced.{earlier_of, unopened_traced, unrisen_traced}
use Rattle.lsp_origins.proofs.trace.call_traced.Goals as goal

pub returns : goal.returns
returns c = λ before stands breaks tried.
    let terms = terms_in c.args.past in
    let kept = kept_of terms before in
    let call = call_view c.args.call in
    let rule = c.args.rule in
    let plain = c.in_ok-facts.facts in
    let earlier = c.in_ok-earlier.earlier in
    let agreed = c.unwrap_or-encoding.ensures
    ∙ ap (λ o. unwrap_or o Utf16) (c.encoding.ensures (sent_in kept) stands.holds.sent) in (
      plain,
      subst (λ o. AreCallFacts terms kept rule (Some call) o plain)
          (c.in_ok-earlier.ensures terms before stands.trail.marked
          ∙ ap (earlier_of terms before) c.uri.ensures)
          (subst (λ e. AreDocumentFacts terms e (calls kept) call rule earlier plain) agreed
          (c.in_ok-facts.ensures (calls kept) stands.holds.called breaks tried)),
      c.in_ok-trace_older.ensures before stands
          ∙ ap (λ l. l ++ older_traced terms before rule)
          (c.in_ok-trace_unrisen.ensures before stands
          ∙ ap (λ l. l ++ unrisen_traced terms before rule call)
          (c.in_ok-trace_unopened.ensures before stands
          ∙ ap (λ l. l ++ unopened_traced terms before rule (uri_of call))
          (c.in_ok-trace_call.ensures before stands breaks tried)
          ∙ append_assoc plain _ (unopened_traced terms before rule (uri_of call)))
          ∙ append_assoc plain _ (unrisen_traced terms before rule call))
          ∙ append_assoc plain _ (older_traced terms before rule),
    )
