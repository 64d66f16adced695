-- The rule that an event offends by is broken by its call, where it is one on documents.
use Rattle.std.specs.Prelude.{option_and_then}
use Rattle.std.specs.Option.{option_or}
use Rattle.std.proofs.Common.{◌≡◌, ◌≤◌, ◌∙◌, ℕ, List, Option, Some, None, ap, arith, refl, sym, true}
use Rattle.std.proofs.lemmas.Bool.Decides.{nat_tests}
use Rattle.std.proofs.lemmas.Option.{same_Some}
use Rattle.lsp_replay.specs.Common.{Call, call_at, call_rule, calls, Event, message, offence, Sent}
use Rattle.lsp_replay.specs.Common.{sent_in, snapshot, Terms}
use Rattle.lsp_facts.specs.TwoTexts.{is_of_texts}
use Rattle.lsp_session.specs.Rules.{rule_after}
use Rattle.lsp_session.proofs.LeastRuleLemmas.{rules_end}
use Rattle.lsp_verdict.specs.Event.{fault}
use Rattle.lsp_verdict.specs.Verdict.{document_rule}

pub is_on_documents : (rule : ℕ) → is_of_texts rule ≡ true → 601 ≤ rule
is_on_documents rule is = grind (arith, nat_tests)

-- a rule from 601 on that a message breaks is one on what it says about a document
pub by_rule : (terms : Terms) (kept : List Event) (m : Sent) (rule : ℕ) → 601 ≤ rule
    → (o : Option ℕ) → rule_after (sent_in kept) m ≡ o
    → option_or o (document_rule terms kept (message m)) ≡ Some rule
    → document_rule terms kept (message m) ≡ Some rule
by_rule terms kept m rule least None is e = e
by_rule terms kept m rule least (Some r) is e =
    let same : r ≡ rule = same_Some r rule e in
    let below = rules_end (sent_in kept) m r is in
    absurd (omega (arith, same, below, least))

-- and the call of any event that says something about one breaks it
pub call_breaks : (terms : Terms) (kept : List Event) (event : Event) (call : Call) (rule : ℕ)
    → 601 ≤ rule → offence terms kept event ≡ Some rule → call_at kept event ≡ Some call
    → call_rule terms (calls kept) call ≡ Some rule
call_breaks terms kept event call rule least offends says =
    ap (option_and_then (call_rule terms (calls kept))) (sym says) ∙ by_event event offends says
  where
    by_event : (e : Event) → offence terms kept e ≡ Some rule → call_at kept e ≡ Some call
        → document_rule terms kept e ≡ Some rule
    by_event (message m) is at =
        by_rule terms kept m rule least (rule_after (sent_in kept) m) refl is
    by_event (fault side code) is at = absurd (cc at)
    by_event (snapshot uri number text) is at = is
