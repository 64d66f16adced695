-- What the account that writes a log with its words replaced is told of an event.
use Rattle.std.proofs.Common.{◌≡◌, ℕ, List, [], ◌∷◌, ◌++◌, Option, Some, None, sym, ap, subst, ◌∙◌}
use Rattle.std.specs.Borrow.{Bor}
use Rattle.std.specs.Prelude.{if◌then◌else◌, is_some, not, option_map}
use Rattle.lsp_replay.specs.Common.{call_at, call_view, calls, Counted, Counts, Event, first_no}
use Rattle.lsp_replay.specs.Common.{HasFate, Heard, heard_events, Holds, is_empty, IsSeen}
use Rattle.lsp_replay.specs.Common.{kept_before, kept_of, made_in, MaySpeak, offence}
use Rattle.lsp_replay.specs.Common.{open_initializes, Reads, rule_of, Sent, sent_in, Terms}
use Rattle.lsp_replay.specs.Common.{TriesCall}
use Rattle.lsp_docs.specs.State as docs
use Rattle.lsp_docs.specs.declared.tried.Tried.{Tried}
use Rattle.lsp_session.specs.State as session
use Rattle.lsp_replay.specs.declared.seen.Fate.{Fate}
use Rattle.lsp_replay.specs.declared.seen.Fate.TheVariants.{Offends}
use Rattle.lsp_replay.specs.declared.seen.Seen.{Seen}
use Rattle.lsp_replay.proofs.AllHeard.{first_after, none_is}
use Rattle.lsp_replay.proofs.Seeing.{events-push}
use Rattle.lsp_verdict.specs.Given.{raw_view}
use Rattle.lsp_verdict.specs.Placed.{Raw}
use Rattle.lsp_verdict.proofs.Offences.Offending.{all_are_kept, kept_more}
use Rattle.lsp_redact.specs.Kept.{awaits}
use Rattle.lsp_redact.specs.Redacting.{apart_at}

module _ (terms : Terms) (before : List Heard) (h : Heard) (m : session.State) (d : docs.State)
    (c : Counts) (s : Seen) (seen : IsSeen m d c s terms before h)
    (clean : first_no terms (heard_events before) ≡ None) where
  abbrev events : List Event
  events = heard_events before

  abbrev event : Event
  event = h.note.event

  pub own_reads : Reads (raw_view s.raw) event
  own_reads = subst (λ (raw : Raw). Reads raw event) seen.is seen.noted.0

  pub own_speaks : MaySpeak events event (option_map (λ x. x.now) s.spoken)
  own_speaks =
      subst (λ (es : List Event). MaySpeak es event (option_map (λ x. x.now) s.spoken))
      (all_are_kept terms events clean) seen.spoken

  -- ---- it is kept

  holds_after : rule_of terms before h ≡ None → Holds m d (heard_events (before ++ h ∷ []))
  holds_after kept =
      subst (Holds m d)
      (all_are_kept terms (heard_events (before ++ h ∷ []))
      (first_after terms before h clean ∙ none_is terms before h kept)) seen.stood.holds

  pub waits_after : (b : _) → ((sent : List Sent) → session.Stands m sent
      → b ≡ not (is_empty (open_initializes sent))) → rule_of terms before h ≡ None
      → b ≡ awaits (heard_events (before ++ h ∷ []))
  waits_after b tells kept =
      tells (sent_in (heard_events (before ++ h ∷ []))) (holds_after kept).sent

  -- ---- it offends

  module _ (rule : ℕ) (is : rule_of terms before h ≡ Some rule) where
    skipped : kept_of terms (heard_events (before ++ h ∷ [])) ≡ events
    skipped =
        ap (kept_of terms) (events-push before h)
        ∙ kept_more terms [] events event
        ∙ ap (λ (o : Option ℕ). if is_some o then kept_of terms events
        else kept_of terms events ++ event ∷ []) is
        ∙ all_are_kept terms events clean

    pub holds_before : Holds m d events
    holds_before = subst (Holds m d) skipped seen.stood.holds

    -- the character by which its two texts stay apart
    pub apart_here : (tried : Option (Bor (Tried Counted))) (apart : Option ℕ)
        → s.fate ≡ Offends rule tried
        → ((kept : List Event) (e : Event) → docs.Stands d (calls kept)
        → option_map call_view s.call ≡ call_at kept e → offence d.terms kept e ≡ Some rule
        → TriesCall d.terms kept (call_at kept e) rule (made_in (option_map (λ t. t.now) tried))
        → apart ≡ apart_at d.terms kept e rule)
        → apart ≡ apart_at terms events event rule
    apart_here tried apart fate_is are =
        let kept : List Event = kept_before terms before in
        let same : kept ≡ events = all_are_kept terms events clean in
        let by = seen.stood.by in
        let has = subst (λ (f : Fate). HasFate terms before h f) fate_is seen.fate in
        are kept event
        (subst (λ (es : List Event). docs.Stands d (calls es)) (sym same) holds_before.called)
        seen.says (ap (λ (t : Terms). offence t kept event) by ∙ has.0)
        (subst (λ (t : Terms). TriesCall t kept (call_at kept event) rule
        (made_in (option_map (λ t. t.now) tried))) (sym by) has.1)
        ∙ ap (λ (t : Terms). apart_at t kept event rule) by
        ∙ ap (λ (es : List Event). apart_at terms es event rule) same
