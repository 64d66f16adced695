-- What is held once one more event was heard, and how the event was seen.
use Rattle.std.proofs.Common.{◌≡◌, Bor, ℕ, List, [], ◌∷◌, ◌++◌, Option, Some, None, sym, ap, subst, ◌∙◌}
use Rattle.std.proofs.lemmas.List.{map-append}
use Rattle.lsp_session.specs.State as session
use Rattle.lsp_docs.specs.Documents.{Terms}
use Rattle.lsp_docs.specs.State as docs
use Rattle.lsp_docs.specs.Tried.{Made}
use Rattle.lsp_docs.specs.declared.call.Took.{Took}
use Rattle.lsp_rpc.specs.declared.act.Spoken.{Spoken}
use Rattle.lsp_session.specs.Sent.{Sent}
use Rattle.lsp_docs.specs.Taken.{call_view}
use Rattle.lsp_docs.specs.declared.call.Call as code_call
use Rattle.std.specs.Prelude.{option_map}
use Rattle.lsp_types.specs.declared.side.Side.{Side}
use Rattle.lsp_replay.specs.Keeping.{IsKept, IsSound, RefusesEvent, Tries}
use Rattle.lsp_replay.specs.Standing.{CanWantMemory, Holds}
use Rattle.lsp_replay.specs.Telling.{Comes, HasFate, IsSeen, MaySpeak, Saw, ShowsFault, Stood, kept_before, rule_of, took_of}
use Rattle.lsp_replay.specs.Tries.{TriesCall}
use Rattle.lsp_types.specs.declared.fault.Fault.{Fault}
use Rattle.lsp_types.specs.declared.fault.Fault.TheVariants as own
use Rattle.lsp_replay.specs.declared.seen.Fate.{Fate}
use Rattle.lsp_replay.specs.declared.seen.Fate.TheVariants as fates
use Rattle.lsp_replay.specs.declared.seen.Flow.{Flow}
use Rattle.lsp_replay.specs.Run.{Run}
use Rattle.lsp_replay.proofs.Following.{whose_read}
use Rattle.lsp_verdict.specs.Event.{calls, call_at, Event, fault as broken_rule, message}
use Rattle.lsp_verdict.specs.Placed.{Raw, Reads}
use Rattle.lsp_verdict.specs.Given.{AreCounts, raw_view, whose_raw}
use Rattle.lsp_verdict.specs.Heard.{Heard, heard_events, notes_of}
use Rattle.lsp_verdict.specs.Offences.{IsNoted, Noted, events_of, kept_of, rule_at}
use Rattle.lsp_verdict.specs.Verdict.{offence, whose}
use Rattle.lsp_verdict.specs.declared.counts.Counts.{Counts}
use Rattle.lsp_verdict.specs.declared.raw.Raw as code
use Rattle.lsp_verdict.proofs.Offences.Steps.{events_of-push, kept-push, kept-refused}
use Rattle.lsp_verdict.proofs.OneEvent.{one_read}

pub events-push : (before : List Heard) (h : Heard)
    → heard_events (before ++ h ∷ []) ≡ heard_events before ++ h.note.event ∷ []
events-push before h = ap events_of (map-append (λ (x : Heard). x.note) before (h ∷ []))
    ∙ events_of-push (notes_of before) h.note

pub events-join : (before later : List Heard)
    → heard_events (before ++ later) ≡ heard_events before ++ heard_events later
events-join before later = ap events_of (map-append (λ (x : Heard). x.note) before later)
    ∙ map-append (λ (n : Noted). n.event) (notes_of before) (notes_of later)

module _ {raw : Raw} {terms : Terms} {m : session.State} {d : docs.State} {c : Counts}
    {before : List Heard} {h : Heard} {Stands : Type 0}
    (comes : Comes raw terms m d c before h Stands) where
  abbrev kept : List Event
  kept = kept_before terms before

  pub noted_here : IsNoted h.raw h.note
  noted_here = subst (λ (w : Raw). IsNoted w h.note) (sym comes.raw_is) comes.noted

  -- the event is the one that is read so
  pub event_is : (event : Event) → Reads raw event → event ≡ h.note.event
  event_is event reads = one_read raw event h.note.event reads comes.noted.0

  pub counted_on : (after : Counts)
      → ((events : List Event) (event : Event) → AreCounts c events → whose event ≡ whose_raw raw
      → AreCounts after (events ++ event ∷ []))
      → AreCounts after (heard_events (before ++ h ∷ []))
  counted_on after add = subst (AreCounts after) (sym (events-push before h))
      (add (heard_events before) h.note.event comes.stood.counted
      (whose_read raw h.note.event comes.noted.0))

  -- it breaks this rule, or none
  pub rule_here : (rule : Option ℕ) → offence d.terms kept h.note.event ≡ rule
      → rule_of terms before h ≡ rule
  rule_here rule is = ap (λ (t : Terms). offence t kept h.note.event) (sym comes.stood.by) ∙ is

  -- it is skipped
  pub stood_past : (rule : ℕ) (after : Counts) → rule_of terms before h ≡ Some rule
      → AreCounts after (heard_events (before ++ h ∷ []))
      → Stood terms m d after (before ++ h ∷ [])
  stood_past rule after offends counted = record {
    by = comes.stood.by;
    holds = subst (Holds m d)
        (sym (kept-refused terms (heard_events before) h.note.event rule offends)
        ∙ ap (kept_of terms) (sym (events-push before h))) comes.stood.holds;
    counted = counted;
  }

  -- what is held changed, and is still the result of the same events
  pub comes_still : (new_m : session.State) (new_d : docs.State) (after : Counts)
      → new_d.terms ≡ d.terms → Holds new_m new_d kept → after ≡ c
      → Comes raw terms new_m new_d after before h Stands
  comes_still new_m new_d after same holds counts = record {
    stood = record {
      by = same ∙ comes.stood.by;
      holds = holds;
      counted = subst (λ (w : Counts). AreCounts w (heard_events before)) (sym counts)
          comes.stood.counted;
    };
    stands = comes.stands;
    few = comes.few;
    raw_is = comes.raw_is;
    noted = comes.noted;
  }

  -- it is kept
  module _ {new_m : session.State} {new_d : docs.State} {after : Counts} {took : Took}
      (is : IsKept d.terms c new_m new_d after kept h.note.event took) where
    pub kept_rule : rule_of terms before h ≡ None
    kept_rule = rule_here None is.accepted

    pub kept_stood : new_d.terms ≡ d.terms → Stood terms new_m new_d after (before ++ h ∷ [])
    kept_stood same = record {
      by = same ∙ comes.stood.by;
      holds = subst (Holds new_m new_d)
          (sym (kept-push terms (heard_events before) h.note.event kept_rule)
          ∙ ap (kept_of terms) (sym (events-push before h))) is.holds;
      counted = subst (AreCounts after) (sym (events-push before h))
          (is.counted (heard_events before) comes.stood.counted);
    }

    pub kept_fate : HasFate terms before h (fates.Kept took)
    kept_fate = (
      kept_rule,
      is.says
          ∙ ap (λ (t : Terms). took_of t (calls kept) (call_at kept h.note.event)) comes.stood.by,
    )

  -- it is refused by this rule, or memory ran out
  module _ (fault : Fault) where
    pub refused_here : (rule : ℕ) → fault ≡ own.Rule rule
        → RefusesEvent raw d.terms kept h.note.event fault → rule_of terms before h ≡ Some rule
    refused_here rule is refuses = rule_here (Some rule)
        (subst (λ (f : Fault). RefusesEvent raw d.terms kept h.note.event f) is refuses)

    pub wants_here : fault ≡ own.Memory → RefusesEvent raw d.terms kept h.note.event fault
        → CanWantMemory terms kept h.raw
    wants_here is refuses = subst (CanWantMemory terms kept) (sym comes.raw_is)
        (subst (λ (t : Terms). CanWantMemory t kept raw) comes.stood.by
        (subst (λ (f : Fault). RefusesEvent raw d.terms kept h.note.event f) is refuses))

    pub tried_here : (rule : ℕ) (tried : Option Made) → fault ≡ own.Rule rule
        → Tries d.terms kept h.note.event fault tried
        → TriesCall terms kept (call_at kept h.note.event) rule tried
    tried_here rule tried is tries =
        subst (λ (t : Terms). TriesCall t kept (call_at kept h.note.event) rule tried) comes.stood.by
        (subst (λ (f : Fault). Tries d.terms kept h.note.event f tried) is tries)

-- so an event was seen
pub seen_so : {raw : code.Raw} {spoken : Option (Bor Spoken)} {call : Option code_call.Call}
    {terms : Terms} {m : session.State} {d : docs.State} {c : Counts} {before : List Heard}
    {h : Heard} {Stands : Type 0} (comes : Comes (raw_view raw) terms m d c before h Stands)
    {new_m : session.State} {new_d : docs.State} {after : Counts} (fate : Fate)
    → MaySpeak (kept_before terms before) h.note.event (option_map (λ s. s.now) spoken)
    → option_map call_view call ≡ call_at (kept_before terms before) h.note.event
    → Stood terms new_m new_d after (before ++ h ∷ []) → HasFate terms before h fate
    → IsSeen new_m new_d after
    (record { raw = raw; spoken = spoken; call = call; fate = fate }) terms before h
seen_so comes fate speaks says stood fated = record {
  stood = stood;
  few = comes.few;
  noted = noted_here comes;
  is = comes.raw_is;
  spoken = speaks;
  says = says;
  fate = fated;
}

-- raws that are the same
module _ {from to : code.Raw} (same : from ≡ to) {terms : Terms} {before : List Heard} {h : Heard}
    {Stands : Type 0} where
  pub comes_of : {m : session.State} {d : docs.State} {c : Counts}
      → Comes (raw_view from) terms m d c before h Stands
      → Comes (raw_view to) terms m d c before h Stands
  comes_of {m} {d} {c} =
      subst (λ (r : code.Raw). Comes (raw_view r) terms m d c before h Stands) same

  pub saw_of : {run : Run} {old new : List ℕ} {m : session.State} {d : docs.State} {c : Counts}
      {flow : Flow}
      → Saw run terms before h (ShowsFault from (heard_events before)) old new Stands m d c flow
      → Saw run terms before h (ShowsFault to (heard_events before)) old new Stands m d c flow
  saw_of {run} {old} {new} {m} {d} {c} {flow} =
      subst (λ (r : code.Raw).
      Saw run terms before h (ShowsFault r (heard_events before)) old new Stands m d c flow) same

-- ---- a fault: a content that is no message, or of the frames

module _ {raw : Raw} {terms : Terms} {m : session.State} {d : docs.State} {c : Counts}
    {before : List Heard} {h : Heard} {Stands : Type 0} (side : Side) (rule : ℕ)
    (comes : Comes raw terms m d c before h Stands) (reads : Reads raw (broken_rule side rule)) where
  is_fault : broken_rule side rule ≡ h.note.event
  is_fault = event_is comes (broken_rule side rule) reads

  pub fault_rule : rule_of terms before h ≡ Some rule
  fault_rule = ap (λ (e : Event). rule_at terms (heard_events before) e) (sym is_fault)

  pub fault_silent : (sent : Sent) → h.note.event ≡ message sent → ⊥
  fault_silent sent is = let same = is_fault ∙ is in absurd (cc same)

  pub fault_tries : (tried : Option Made) → TriesCall terms (kept_before terms before)
      (call_at (kept_before terms before) h.note.event) rule tried
  fault_tries tried = subst (λ (e : Event). TriesCall terms (kept_before terms before)
      (call_at (kept_before terms before) e) rule tried) is_fault (λ least. tt)

-- ---- an event that was read

module _ {raw : Raw} {terms : Terms} {m : session.State} {d : docs.State} {c : Counts}
    {before : List Heard} {h : Heard} {Stands : Type 0} (event : Event) (reads : Reads raw event)
    (comes : Comes raw terms m d c before h Stands) where
  pub sound_here : IsSound event → IsSound h.note.event
  sound_here = subst IsSound (event_is comes event reads)

  pub speaks_here : (s : Option Spoken) → MaySpeak (kept_before terms before) event s
      → MaySpeak (kept_before terms before) h.note.event s
  speaks_here s =
      subst (λ (e : Event). MaySpeak (kept_before terms before) e s) (event_is comes event reads)
