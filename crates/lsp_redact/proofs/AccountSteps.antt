-- The steps of the account that writes a log with its words replaced.
use Rattle.std.proofs.Common.{◌≡◌, ℕ, List, [], ◌∷◌, ◌++◌, map}
use Rattle.std.proofs.Common.{Option, Some, None, refl, sym, ap, subst, ◌∙◌, append_assoc, append-nil}
use Rattle.std.specs.Prelude.{is_some, option_to_list}
use Rattle.std.specs.List.{cons_option, flat_map}
use Rattle.std.proofs.lemmas.Grind.{flat_map-append}
use Rattle.lsp_replay.specs.Common.{Bounds, Closes, Event, first_line, Format, Heard, heard_events}
use Rattle.lsp_replay.specs.Common.{IsEnd, no_by, Rests, rule_at, rule_of, spelling, Tail, Terms}
use Rattle.lsp_judge.specs.JudgingRun.{verdict_of}
use Rattle.lsp_log.specs.Log.{Record}
use Rattle.lsp_replay.specs.Telling.{Says}
use Rattle.lsp_replay.specs.declared.log_events.End.{End}
use Rattle.lsp_replay.specs.declared.log_events.LogEvents.{LogEvents}
use Rattle.lsp_replay.specs.declared.seen.Flow.TheVariants.{GoOn, Stop}
use Rattle.lsp_replay.proofs.AllHeard.{first_after, none_is}
use Rattle.lsp_replay.proofs.PassEnds.{Boxed}
use Rattle.lsp_replay.proofs.Seeing.{events-push}
use Rattle.lsp_verdict.specs.Placed.{Raw}
use Rattle.lsp_verdict.specs.Verdict.{Verdict}
use Rattle.lsp_verdict.specs.declared.completeness.Completeness.TheVariants.{Ignored}
use Rattle.lsp_verdict.specs.declared.outcome.Outcome.{Outcome}
use Rattle.lsp_verdict.specs.declared.outcome.Outcome.TheVariants.{Done}
use Rattle.lsp_verdict.proofs.LookBackLemmas.{each_of-snoc}
use Rattle.lsp_redact.specs.Check.{Checks}
use Rattle.lsp_redact.specs.Keeping.{Keeps}
use Rattle.lsp_redact.specs.Kept.{Kept, awaits, kept_in, kept_of}
use Rattle.lsp_redact.specs.Names.{Names, joined, names_in, names_of, no_names}
use Rattle.lsp_redact.specs.Naming.{Begins, Stands, Writes}
use Rattle.lsp_redact.specs.Records.{most_of, records_of, written}
use Rattle.lsp_redact.specs.Redacting.{AddsLast, Ends, IsFaultOf, SaysOf, apart_at, format_by, last_left}
use Rattle.lsp_redact.specs.Redacting.{left_to, log_by, names_by, names_to, redact_run, shape_of}
use Rattle.lsp_redact.specs.Redacting.{shape_to, whole_shape, with_events}
use Rattle.lsp_redact.specs.Shape as shape
use Rattle.lsp_redact.specs.Shape.{Shape}
use Rattle.lsp_redact.specs.View.{kept_view}
use Rattle.lsp_redact.specs.declared.redacting.Redacting.{Redacting}
use Rattle.lsp_redact.specs.declared.redaction.Redaction.{Redaction}
use Rattle.lsp_redact.proofs.Showing.{joined-assoc, joined-none}

-- ---- names of more events

pub names_in-append : (ks ls : List Kept) → names_in (ks ++ ls) ≡ joined (names_in ks) (names_in ls)
names_in-append [] ls = refl
names_in-append (k ∷ ks) ls =
    ap (joined (names_of k)) (names_in-append ks ls)
    ∙ sym (joined-assoc (names_of k) (names_in ks) (names_in ls))

names_in-option : (kept : Option Kept) → names_in (option_to_list kept) ≡ names_by kept
names_in-option None = refl
names_in-option (Some k) = joined-none (names_of k)

-- the names up to an event
names_to-parts : (before : List Event) (event : Event)
    → names_to before event ≡ joined (names_in (kept_in before)) (names_by (kept_of before event))
names_to-parts before event =
    names_in-append (kept_in before) (option_to_list (kept_of before event))
    ∙ ap (joined (names_in (kept_in before))) (names_in-option (kept_of before event))

-- ---- an event that is kept

cons_last : (kept : Option Kept) → cons_option kept [] ≡ option_to_list kept
cons_last None = refl
cons_last (Some k) = refl

pub kept_in-push : (before : List Event) (event : Event)
    → kept_in (before ++ event ∷ []) ≡ kept_in before ++ option_to_list (kept_of before event)
kept_in-push before event =
    each_of-snoc kept_of before event
    ∙ ap (λ (ks : List Kept). kept_in before ++ ks) (cons_last (kept_of before event))

module _ (terms : Terms) (before : List Heard) (h : Heard) where
  abbrev events : List Event
  events = heard_events before

  -- the account stands for one event more
  pub keeps_on : (old new : Redacting) → Keeps old terms before → rule_of terms before h ≡ None
      → map kept_view new.kept.items
      ≡ map kept_view old.kept.items ++ option_to_list (kept_of events h.note.event)
      → new.awaits ≡ awaits (heard_events (before ++ h ∷ []))
      → Keeps new terms (before ++ h ∷ [])
  keeps_on old new stands kept added waits = record {
    clean = first_after terms before h stands.clean ∙ none_is terms before h kept;
    kept_is = added
        ∙ ap (λ (ks : List Kept). ks ++ option_to_list (kept_of events h.note.event)) stands.kept_is
        ∙ sym (kept_in-push events h.note.event) ∙ ap kept_in (sym (events-push before h));
    awaits_is = waits;
  }

  -- nothing is said of it
  pub says_none : (limits : Bounds) (new : Redacting) (Fits : Rests → Type 0) (text : List ℕ)
      → rule_of terms before h ≡ None → Keeps new terms (before ++ h ∷ [])
      → Says (redact_run limits) terms before h Fits text text
      (Keeps new terms (before ++ h ∷ [])) GoOn
  says_none limits new Fits text kept stands = record {
    said = [];
    added = sym (append-nil text);
    is = λ rests fits. (
      Done,
      subst (λ (o : Option ℕ). SaysOf limits terms before h o [] Done) (sym kept) (refl, refl),
    );
    goes = (ap is_some kept, stands);
  }

-- ---- an event that offends

-- an event that is a fault is one by the rule that it breaks
pub fault_by : (terms : Terms) (before : List Heard) (h : Heard) (rule : ℕ)
    → rule_of terms before h ≡ Some rule → IsFaultOf rule h.note.event
fault_by terms before h rule offends = λ side own is.
    same_rule own rule
    (sym (ap (λ (e : Event). rule_at terms (heard_events before) e) is) ∙ offends)
  where
    same_rule : (a b : ℕ) → (let o : Option ℕ = Some a in o) ≡ Some b → a ≡ b
    same_rule a b h = cc

-- more is left behind what is
written_more : (most : ℕ) (left : Shape) (more : List shape.Event)
    → written most left ++ flat_map spelling (flat_map (records_of most) more)
    ≡ written most (with_events left more)
written_more most left more =
    let texts : List shape.Event → List ℕ = λ es. flat_map spelling (flat_map (records_of most) es) in
    append_assoc (first_line left.format) (texts left.events) (texts more)
    ∙ ap (λ (t : List ℕ). first_line left.format ++ t)
    (sym (flat_map-append spelling (flat_map (records_of most) left.events)
    (flat_map (records_of most) more))
    ∙ ap (λ (rs : List Record). flat_map spelling rs)
    (sym (flat_map-append (records_of most) left.events more)))

-- a log up to it is put together
pub log_to : (most : ℕ) (terms : Terms) (before : List Event) (raw : Raw) (event : Event)
    (rule : ℕ) (kept : List Kept) (format : Format) (start mid last : Redaction)
    (middle new : List ℕ) → kept ≡ kept_in before → format ≡ format_by terms.kept
    → Stands start.names no_names → start.apart ≡ apart_at terms before event rule
    → Writes start mid (names_in kept) (λ n. log_by most format n start.apart kept) middle
    → AddsLast most mid last raw rule (kept_of before event) middle new
    → new ≡ written most (shape_to terms before raw event rule)
log_to most terms before raw event rule kept format start mid last middle new are format_is fresh
    apart said adds =
    let whole : Names = names_to before event in
    let own : Names = names_by (kept_of before event) in
    let seen : Names = names_in kept in
    let parts : whole ≡ joined seen own =
    names_to-parts before event ∙ ap (λ (ks : List Kept). joined (names_in ks) own) (sym are) in
    let first : Begins (joined no_names seen) whole = (own, parts) in
    let all : Begins (joined seen own) whole =
    (no_names, parts ∙ sym (joined-none (joined seen own))) in
    let stands : Stands mid.names seen = said.shows.stands no_names fresh in
    let log : List ℕ = log_by most format whole start.apart kept in
    let due : Option ℕ = apart_at terms before event rule in
    let end : Option ℕ → List ℕ = λ a. flat_map spelling
    (flat_map (records_of most) (last_left whole a raw rule (kept_of before event))) in
    adds.shows.value seen whole stands all
    ∙ ap (λ (t : List ℕ). t ++ end mid.apart) (said.shows.value no_names whole fresh first)
    ∙ ap (λ (a : Option ℕ). log ++ end a) (said.same ∙ apart)
    ∙ ap (λ (f : Format). log_by most f whole start.apart kept ++ end due) format_is
    ∙ ap (λ (a : Option ℕ). log_by most (format_by terms.kept) whole a kept ++ end due) apart
    ∙ ap (λ (ks : List Kept). log_by most (format_by terms.kept) whole due ks ++ end due) are
    ∙ written_more most (shape_of terms whole due before)
    (last_left whole due raw rule (kept_of before event))

-- what is checked is said of it, and the run stops
pub says_last : (limits : Bounds) (terms : Terms) (before : List Heard) (h : Heard) (rule : ℕ)
    (Fits : Rests → Type 0) (Stands_on : Type 0) (outcome : Outcome) (boxed : Boxed)
    (log : List ℕ) (v : Verdict) (old new : List ℕ) → boxed.value ≡ outcome
    → rule_of terms before h ≡ Some rule
    → log ≡ left_to limits terms before h rule
    → v ≡ no_by (heard_events before) h.note.event rule
    → (said : List ℕ) × (new ≡ old ++ said) × Checks limits log v said outcome
    → Says (redact_run limits) terms before h Fits old new Stands_on (Stop boxed)
says_last limits terms before h rule Fits Stands_on outcome boxed log v old new in_box offends is given
    (said, added, checks) =
    let own : SaysOf limits terms before h (Some rule) said outcome =
    subst (λ (x : Verdict). Checks limits (left_to limits terms before h rule) x said outcome) given
    (subst (λ (w : List ℕ). Checks limits w v said outcome) is checks) in
    let due : SaysOf limits terms before h (rule_of terms before h) said outcome =
    subst (λ (o : Option ℕ). SaysOf limits terms before h o said outcome) (sym offends) own in
    record {
      said = said;
      added = added;
      is = λ rests fits. (outcome, due);
      goes = (
        ap is_some offends,
        (
          said,
          subst (λ (x : Outcome). SaysOf limits terms before h (rule_of terms before h) said x)
              (sym in_box) due,
        ),
      );
    }

-- ---- the end

-- the whole log is put together
pub whole_log : (most : ℕ) (terms : Terms) (events : List Event) (kept : List Kept)
    (format : Format) (start last : Redaction) (new : List ℕ) → kept ≡ kept_in events
    → format ≡ format_by terms.kept → Stands start.names no_names → start.apart ≡ None
    → Writes start last (names_in kept) (λ n. log_by most format n start.apart kept) new
    → new ≡ written most (whole_shape terms events)
whole_log most terms events kept format start last new are format_is fresh apart said =
    let seen : Names = names_in kept in
    let all : Begins (joined no_names seen) seen = (no_names, sym (joined-none seen)) in
    said.shows.value no_names seen fresh all
    ∙ ap (λ (f : Format). log_by most f seen start.apart kept) format_is
    ∙ ap (λ (a : Option ℕ). log_by most (format_by terms.kept) seen a kept) apart
    ∙ ap (λ (ks : List Kept). log_by most (format_by terms.kept) (names_in ks) None ks) are

-- what is checked is said of it
pub says_whole : (limits : Bounds) (terms : Terms) (heard : List Heard) (e : LogEvents) (end : End)
    (log : List ℕ) (v : Verdict) (old new : List ℕ) (outcome : Outcome)
    → log ≡ written (most_of limits) (whole_shape terms (heard_events heard))
    → ((tail : Tail) → IsEnd e end heard tail → v ≡ verdict_of Ignored terms heard tail)
    → (said : List ℕ) × (new ≡ old ++ said) × Checks limits log v said outcome
    → Closes (redact_run limits) terms heard (IsEnd e end heard) old new outcome
says_whole limits terms heard e end log v old new outcome is ends (said, added, checks) =
    let own : Checks limits (written (most_of limits) (whole_shape terms (heard_events heard))) v
    said outcome = subst (λ (w : List ℕ). Checks limits w v said outcome) is checks in
    let due : (tail : Tail) → IsEnd e end heard tail → Ends limits terms heard tail said outcome =
    λ tail fits. subst (λ (x : Verdict). Checks limits (written (most_of limits)
    (whole_shape terms (heard_events heard))) x said outcome) (ends tail fits) own in
    record {
      said = said;
      added = added;
      is = λ tail fits. ((outcome, due tail fits), (said, due tail fits));
    }
