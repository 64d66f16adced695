-- Where no event offends, the calls on documents are accepted, versions rise, and held texts are
-- those of the snapshots.
use Rattle.std.proofs.Common.{◌≡◌, ℕ, Bool, true, false, List, [], ◌∷◌, ◌++◌, Option, Some, None, refl, sym, ap, subst, ◌∙◌, append-nil}
use Rattle.std.specs.Prelude.{ℤ, int_lt, not, if◌then◌else◌, map, option_and_then, unwrap_or}
use Rattle.std.specs.List.{cons_option}
use Rattle.lsp_rpc.specs.Act.{did_change}
use Rattle.lsp_types.specs.declared.position.Encoding.{Encoding}
use Rattle.lsp_types.specs.declared.position.Encoding.TheVariants.{Utf16}
use Rattle.lsp_types.specs.declared.change.SyncKind.{SyncKind}
use Rattle.lsp_types.specs.declared.change.SyncKind.TheVariants.{Nothing}
use Rattle.lsp_session.specs.Negotiation.{encoding, sync_kind}
use Rattle.lsp_session.specs.Rules.{rule_after}
use Rattle.lsp_docs.specs.Calls.{Call}
use Rattle.lsp_docs.specs.Documents.{Version, held, Terms}
use Rattle.lsp_text.specs.Edits.{Edit}
use Rattle.lsp_docs.specs.Rules.{change_rule, call_rule, AreAcceptedFrom, AreAccepted}
use Rattle.lsp_verdict.specs.Event.{edit_of, call_of, call_at, calls, Event, message, fault}
use Rattle.lsp_verdict.specs.Event.{snapshot, sent_in}
use Rattle.lsp_verdict.specs.Kept.{NothingOffends, VersionsRise, SnapshotsAgree, ExactMeansEqual}
use Rattle.lsp_types.specs.declared.line_ends.LineEnds.{LineEnds}
use Rattle.lsp_text.specs.SameText.{SameText}
use Rattle.lsp_verdict.specs.LookBack.{first_from, each_from}
use Rattle.lsp_verdict.specs.Verdict.{no_by, no_at, first_no, offence, document_rule}
use Rattle.lsp_verdict.proofs.Below.{bound-agrees}
use Rattle.lsp_verdict.proofs.Finding.{map_none}
use Rattle.lsp_verdict.proofs.LookBackLemmas.{or_none_parts, each_of-snoc}

pub document_rule_none : (terms : Terms) (before : List Event) (e : Event) → offence terms before e ≡ None → document_rule terms before e ≡ None
document_rule_none terms before (message m) none = (or_none_parts (rule_after (sent_in before) m) (document_rule terms before (message m)) none).1
document_rule_none terms before (fault side rule) none = refl
document_rule_none terms before (snapshot uri n t) none = none

-- the calls that come next are accepted, whether or not the first event makes one
with_call : (terms : Terms) (made next : List Call) (o : Option Call) (rest : List Call) → next ≡ made ++ cons_option o [] → option_and_then (call_rule terms made) o ≡ None
    → AreAcceptedFrom terms next rest → AreAcceptedFrom terms made (cons_option o rest)
with_call terms made next None rest is none later = subst (λ (w : List Call). AreAcceptedFrom terms w rest) (is ∙ append-nil made) later
with_call terms made next (Some c) rest is none later = (none, subst (λ (w : List Call). AreAcceptedFrom terms w rest) is later)

accepted_from : (terms : Terms) (before es : List Event) → first_from (no_at terms) before es ≡ None → AreAcceptedFrom terms (calls before) (each_from call_at before es)
accepted_from terms before [] none = tt
accepted_from terms before (e ∷ after) none =
    let parts = or_none_parts (no_at terms before e) (first_from (no_at terms) (before ++ e ∷ []) after) none in
    with_call terms (calls before) (calls (before ++ e ∷ [])) (call_at before e) (each_from call_at (before ++ e ∷ []) after) (each_of-snoc call_at before e)
    (document_rule_none terms before e (map_none (no_by before e) (offence terms before e) parts.0)) (accepted_from terms (before ++ e ∷ []) after parts.1)

pub calls_accepted : (terms : Terms) (es : List Event) → first_no terms es ≡ None → AreAccepted terms (calls es)
calls_accepted terms es none = accepted_from terms [] es none

no_rule : (rule : ℕ) → Some rule ≡ None → ⊥
no_rule rule e = absurd cc

rises : (terms : Terms) (waits : List Version) (enc : Encoding) (kind : SyncKind) (number : ℤ) (cs : List Edit) (h : Option Version) → change_rule terms waits enc kind number cs h ≡ None → (v : Version) × (h ≡ Some v) × (int_lt v.number number ≡ true)
rises terms waits enc kind number cs None e = absurd (no_rule 602 e)
rises terms waits enc kind number cs (Some v) e = (v, refl, by_test (int_lt v.number number) _ e)
  where
    by_test : (b : Bool) (rest : Option ℕ) → (if not b then Some 603 else rest) ≡ None → b ≡ true
    by_test true rest e = refl
    by_test false rest e = absurd (no_rule 603 e)

pub versions_rise : (terms : Terms) (es : List Event) → NothingOffends terms es → VersionsRise terms es
versions_rise terms es clean before after m uri number cs cut means =
    let none = document_rule_none terms before (message m) (clean before after (message m) cut) in
    let enc = unwrap_or (encoding (sent_in before)) Utf16 in
    let kind = unwrap_or (sync_kind (sent_in before)) Nothing in
    let made : call_of enc kind m.act ≡ call_of enc kind (did_change uri number cs) = ap (call_of enc kind) means in
    rises terms _ _ _ number (map edit_of cs) (held terms uri (calls before)) (ap (option_and_then (call_rule terms (calls before))) (sym made) ∙ none)

-- after every prefix each held text is that of each snapshot of its opening and version
pub snapshots_agree : (terms : Terms) (made : List Call) → AreAccepted terms made → SnapshotsAgree terms made
snapshots_agree terms made accepted before after front back uri number text v whole cut is same binds =
    bound-agrees terms before after front back uri number text v (subst (AreAccepted terms) whole accepted) (sym whole ∙ cut) binds is same

-- **Where line ends count, the same texts are equal.**
pub exact_means_equal : ExactMeansEqual
exact_means_equal terms made exact agree before after front back uri number text v whole cut is same
    binds =
    subst (λ (ends : LineEnds). SameText ends v.text text) exact
    (agree before after front back uri number text v whole cut is same binds)
