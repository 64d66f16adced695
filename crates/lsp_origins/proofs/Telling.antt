-- What is told of an event that offends, and the facts on it with the events that brought it.
use Rattle.std.proofs.Common.{◌≡◌, ◌<◌, ℕ, Bool, List, [], ◌++◌, Option, sym, ap, ◌∙◌, arith, ◌+◌}
use Rattle.std.proofs.Common.{◌^◌, ◌∷◌, length, Some, refl, Bor, subst, append_assoc}
use Rattle.std.proofs.lemmas.List.{length-map}
use Rattle.lsp_trail.specs.Common.{Counted, Counts, decoder_of, Editor, Event, Fate, HasFate, Heard}
use Rattle.lsp_trail.specs.Common.{heard_events, Holds, IsSeen, IsTrail, kept_of, LogEvents, no}
use Rattle.lsp_trail.specs.Common.{no_by, notes_of, offence_view, place_of, Raw, report, rest_of}
use Rattle.lsp_trail.specs.Common.{Rests, rule_of, Server, ShowsFault, Side, StandsAfter, Stood}
use Rattle.lsp_trail.specs.Common.{Terms, Tried, Who}
use Rattle.lsp_docs.specs.State as docs
use Rattle.lsp_session.specs.State as session
use Rattle.lsp_verdict.specs.Offences.{Noted}
use Rattle.lsp_verdict.specs.Offences as spec
use Rattle.lsp_verdict.specs.Verdict.{belongs_to, count_of, whose}
use Rattle.lsp_verdict.specs.declared.offence.Offence.{Offence}
use Rattle.lsp_verdict.proofs.EventCounts.{count_few}
use Rattle.lsp_verdict.proofs.ExactCounts.{capped_is}
use Rattle.lsp_verdict.proofs.Offences.Steps.{kept-refused}
use Rattle.lsp_replay.specs.declared.seen.Fate.TheVariants as fates
use Rattle.lsp_replay.specs.declared.seen.Seen.{Seen}
use Rattle.lsp_replay.proofs.Seeing.{events-push}
use Rattle.lsp_facts.specs.Fact.{Fact, detail_lines, event_line, usual_of}
use Rattle.lsp_facts.specs.EventFacts.{AreFacts}
use Rattle.lsp_origins.specs.Traced.{earlier_at, traced, AreTraced}
use Rattle.lsp_origins.specs.Explained.{place_in, TellsOf, rests_held}
use Rattle.lsp_trail.specs.declared.trail.Past.{Past}

-- ---- what is told of an event that offends

-- what the reader of a log holds of a side's bytes
pub held_rest : (e : LogEvents) (side : Side)
    → (decoder_of side e.streams).rest ≡ rest_of (rests_held e) side
held_rest e Editor = refl
held_rest e Server = refl

same_no : (r s : ℕ) (a b : Who) (m n k l : ℕ) → no r a m k ≡ no s b n l
    → (r ≡ s) × (a ≡ b) × (m ≡ n) × (k ≡ l)
same_no r s a b m n k l e = (cc e, cc e, cc e, cc e)

pub few_before : (before : List Heard) → length before + 1 < 2 ^ 64
    → length (heard_events before) + 1 < 2 ^ 64
few_before before few = omega (
  arith,
  few,
  length-map (notes_of before) (λ (n : Noted). n.event),
  length-map before (λ (x : Heard). x.note),
)

-- an offence by this rule at the last event that was counted
by_rule_of : (o : Offence) (before : List Event) (event : Event) (rule : ℕ) (late : Bool)
    → offence_view o ≡ record { no = no_by before event rule; follows = late }
    → (o.rule ≡ rule) × ((offence_view o).no ≡ no_by before event o.rule)
by_rule_of o before event rule late is =
    let named : (offence_view o).no ≡ no_by before event rule = ap (λ (x : spec.Offence). x.no) is in
    let same : o.rule ≡ rule =
    (same_no o.rule rule o.who (whose event) o.number _ o.event _ named).0 in
    (same, named ∙ ap (no_by before event) (sym same))

-- the place that an offence names is that of its event
pub placed_by : (o : Offence) (before : List Event) (event : Event)
    → length before + 1 < 2 ^ 64 → (offence_view o).no ≡ no_by before event o.rule
    → place_in o ≡ place_of before event
placed_by o before event few is =
    let by : Who = whose event in
    let parts = same_no o.rule o.rule o.who by o.number _ o.event _ is in
    λ i. record {
      event = (parts.3 ∙ sym (capped_is (length before + 1) few)) i;
      who = parts.1 i;
      number = (parts.2 ∙ sym (capped_is (count_of (belongs_to by) before + 1)
          (omega (arith, few, count_few (belongs_to by) before)))) i;
    }

-- what is known of the past stands for the events before one that offends
pub stands_before : (past : Past) (terms : Terms) (before : List Heard) (h : Heard) (rule : ℕ)
    → IsTrail terms past.trail.now (heard_events before)
    → Stood terms past.held.now.session past.held.now.docs past.held.now.counts
    (before ++ h ∷ []) → rule_of terms before h ≡ Some rule
    → StandsAfter past (heard_events before)
stands_before past terms before h rule trail stood offends = record {
  holds = subst (λ (t : Terms). Holds past.held.now.session past.held.now.docs
      (kept_of t (heard_events before))) (sym stood.by)
      (subst (Holds past.held.now.session past.held.now.docs)
      (ap (kept_of terms) (events-push before h)
      ∙ kept-refused terms (heard_events before) h.note.event rule offends) stood.holds);
  trail = subst (λ (t : Terms). IsTrail t past.trail.now (heard_events before)) (sym stood.by) trail;
}

-- what is said of such an event
pub tells_of : (terms : Terms) (before : List Heard) (h : Heard) (o : Offence) (raw : Raw)
    (Fits : Rests → Type 0) (facts : List Fact) (old mid next new : List ℕ) → h.raw ≡ raw
    → (offence_view o).no ≡ no_by (heard_events before) h.note.event o.rule
    → ((rests : Rests) → Fits rests → AreTraced (AreFacts rests (heard_events before) terms
    (kept_of terms (heard_events before)) raw h.note.event o.rule)
    (earlier_at terms (heard_events before) h.note.event)
    (traced terms (heard_events before) h.note.event o.rule) facts)
    → mid ≡ old ++ report (offence_view o).no
    → next ≡ mid ++ event_line o.event o.who o.number raw
    → new ≡ next ++ detail_lines facts (usual_of (offence_view o).no)
    → TellsOf terms before h o.rule Fits old new
tells_of terms before h o raw Fits facts old mid next new raw_is no_is are first second third =
    let v = (offence_view o).no in
    let line = event_line o.event o.who o.number raw in
    let details = detail_lines facts (usual_of v) in
    record {
      e = record { no = v; event = line; facts = facts; usually = usual_of v };
      no_is = no_is;
      explains = λ rests fits. record {
        no_is = no_is;
        event_is = ap (event_line o.event o.who o.number) (sym raw_is);
        facts_are = subst (λ (w : Raw). AreTraced (AreFacts rests (heard_events before) terms
            (kept_of terms (heard_events before)) w h.note.event o.rule)
            (earlier_at terms (heard_events before) h.note.event)
            (traced terms (heard_events before) h.note.event o.rule) facts) (sym raw_is)
            (are rests fits);
        usually_is = refl;
      };
      added = third ∙ ap (λ w. w ++ details) (second ∙ ap (λ w. w ++ line) first)
          ∙ append_assoc (old ++ report v) line details
          ∙ append_assoc old (report v) (line ++ details);
    }

-- what is told of its fate is told of what is seen of it
pub told_of : (terms : Terms) (before : List Heard) (h : Heard) (s : Seen) (rule : ℕ)
    (tried : Option (Bor (Tried Counted))) (o : Offence) (late : Bool) (m : session.State)
    (d : docs.State) (c : Counts) (old new : List ℕ) → s.fate ≡ fates.Offends rule tried
    → offence_view o ≡ record {
      no = no_by (heard_events before) h.note.event rule;
      follows = late;
    }
    → IsSeen m d c s terms before h
    → (IsSeen m d c s terms before h → HasFate terms before h (fates.Offends o.rule tried)
    → (offence_view o).no ≡ no_by (heard_events before) h.note.event o.rule
    → TellsOf terms before h o.rule (ShowsFault s.raw (heard_events before)) old new)
    → TellsOf terms before h rule (ShowsFault s.raw (heard_events before)) old new
told_of terms before h s rule tried o late m d c old new is last seen tells =
    let named = by_rule_of o (heard_events before) h.note.event rule late last in
    subst (λ r. TellsOf terms before h r (ShowsFault s.raw (heard_events before)) old new) named.0
    (tells seen (subst (λ r. HasFate terms before h (fates.Offends r tried)) (sym named.0)
    (subst (λ (f : Fate). HasFate terms before h f) is seen.fate)) named.1)

-- what is known of the past stands for all events
pub stands_at : (past : Past) (terms : Terms) (heard : List Heard)
    → IsTrail terms past.trail.now (heard_events heard)
    → Stood terms past.held.now.session past.held.now.docs past.held.now.counts heard
    → StandsAfter past (heard_events heard)
stands_at past terms heard trail stood = record {
  holds = subst (λ (t : Terms). Holds past.held.now.session past.held.now.docs
      (kept_of t (heard_events heard))) (sym stood.by) stood.holds;
  trail = subst (λ (t : Terms). IsTrail t past.trail.now (heard_events heard)) (sym stood.by) trail;
}
