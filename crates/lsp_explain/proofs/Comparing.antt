-- The two whole texts of the first event that offends.
use Rattle.std.specs.Prelude.{option_map}
use Rattle.std.proofs.Common.{◌≡◌, ℕ, List, Option, Some, sym, ap, subst, ◌∙◌, Bor}
use Rattle.lsp_docs.specs.State as docs
use Rattle.lsp_trail.specs.Common.{call_at, call_view, calls, Counted, Counts, Event, Fate, HasFate}
use Rattle.lsp_trail.specs.Common.{Heard, heard_events, Holds, IsSeen, kept_before, kept_of}
use Rattle.lsp_trail.specs.Common.{made_in, offence, Offends, rule_of, Terms, Tried}
use Rattle.lsp_facts.specs.TwoTexts.{TwoTexts, texts_at}
use Rattle.lsp_replay.specs.Tries.{TriesCall}
use Rattle.lsp_replay.specs.declared.seen.Seen.{Seen}
use Rattle.lsp_replay.proofs.Seeing.{events-push}
use Rattle.lsp_session.specs.State as session
use Rattle.lsp_verdict.proofs.Offences.Steps.{kept-refused}
use Rattle.lsp_explain.specs.Compared.{answer_after, answer_of}
use Rattle.lsp_facts.specs.declared.two_texts.ComparedText.{ComparedText}

-- ---- the first event that offends

pub answer_is : (which : ComparedText) (terms : Terms) (before : List Heard) (h : Heard)
    (o : Option ℕ) → rule_of terms before h ≡ o
    → answer_after which terms before h ≡ option_map (λ rule.
    answer_of which (texts_at terms (kept_before terms before) h.note.event rule)) o
answer_is which terms before h o is = ap (option_map (λ rule.
    answer_of which (texts_at terms (kept_before terms before) h.note.event rule))) is

-- ---- what is compared of an event

-- what compares what this event says, is compared of it
pub compared_here : (terms : Terms) (before : List Heard) (h : Heard) (rule : ℕ) (s : Seen)
    (tried : Option (Bor (Tried Counted))) (m : session.State) (d : docs.State) (c : Counts)
    (texts : Option TwoTexts) → s.fate ≡ Offends rule tried → IsSeen m d c s terms before h
    → ((kept : List Event) (event : Event) → docs.Stands d (calls kept)
    → option_map call_view s.call ≡ call_at kept event → offence d.terms kept event ≡ Some rule
    → TriesCall d.terms kept (call_at kept event) rule (made_in (option_map (λ t. t.now) tried))
    → texts ≡ texts_at d.terms kept event rule)
    → texts ≡ texts_at terms (kept_before terms before) h.note.event rule
compared_here terms before h rule s tried m d c texts is seen are =
    let stood = seen.stood in
    let event = h.note.event in
    let kept = kept_before terms before in
    let has = subst (λ (f : Fate). HasFate terms before h f) is seen.fate in
    let holds : Holds m d kept = subst (Holds m d) (ap (kept_of terms) (events-push before h)
    ∙ kept-refused terms (heard_events before) event rule has.0) stood.holds in
    are kept event holds.called seen.says (ap (λ (t : Terms). offence t kept event) stood.by ∙ has.0)
    (subst (λ (t : Terms). TriesCall t kept (call_at kept event) rule
    (made_in (option_map (λ t. t.now) tried))) (sym stood.by) has.1)
    ∙ ap (λ (t : Terms). texts_at t kept event rule) stood.by
