-- The verdict where a session has to be complete: that there is one, and what it means.
use Rattle.std.proofs.Common.{◌≡◌, ◌⊎◌, ℕ, Bool, true, false, not, true≢false, List, [], ◌∷◌, Option, Some, None, inl, inr, refl, sym, ap, subst, ◌∙◌}
use Rattle.std.specs.Prelude.{option_map, unwrap_or}
use Rattle.lsp_frame.specs.Bounds.{Bounds, IsInRange}
use Rattle.lsp_frame.specs.declared.format.Format.{Format}
use Rattle.lsp_types.specs.declared.side.Side.TheVariants.{Editor, Server}
use Rattle.lsp_session.specs.Entry.{Entry}
use Rattle.lsp_session.specs.Handshake.{was_sent}
use Rattle.lsp_session.specs.Incomplete.{is_any_open, incomplete}
use Rattle.lsp_session.specs.Negotiation.{first_row}
use Rattle.lsp_session.specs.Requests.{open_requests}
use Rattle.lsp_session.specs.Sent.{is_exit}
use Rattle.lsp_log.specs.declared.fault.LogCode.{LogCode}
use Rattle.lsp_docs.specs.Documents.{terms_of}
use Rattle.lsp_log.specs.Log.{Record, IsLog}
use Rattle.lsp_verdict.specs.Complete.{IsBroughtToEnd, NamesLack, AreComplete, AreCutShort, lack_of}
use Rattle.lsp_verdict.specs.Complete.{completed, IsCompleteFinal, IsCompleteVerdict}
use Rattle.lsp_verdict.specs.Laws.{SomeCompleteVerdict, OneCompleteVerdict, CompleteMeansEnded}
use Rattle.lsp_verdict.specs.Laws.{EndedMeansComplete, LackIsNamed, CompleteMeansFault}
use Rattle.lsp_verdict.specs.Laws.{Names, HasRest107, merged}
use Rattle.lsp_verdict.specs.Event.{Event, sent_in}
use Rattle.lsp_verdict.specs.Kept.{NothingOffends, AreFrames}
use Rattle.lsp_verdict.specs.Outcome.{IsFinal, IsVerdict}
use Rattle.lsp_verdict.specs.Placed.{IsSession, joined}
use Rattle.lsp_verdict.specs.Verdict.{Verdict, Summary, yes, no, bad_log, no_next, summary}
use Rattle.lsp_verdict.specs.declared.verdict.Who.{Who}
use Rattle.lsp_verdict.specs.declared.verdict.Who.TheVariants as who
use Rattle.lsp_verdict.proofs.Below.{one_log}
use Rattle.lsp_verdict.proofs.Finding.{map_some}
use Rattle.lsp_verdict.proofs.Logs.{some_final, some_verdict, one_verdict, same_events}
use Rattle.lsp_verdict.proofs.Meanings.{are_kept, final_yes, final_no, yes_means_kept, no_names, bad_log_has, IsNo}
use Rattle.lsp_verdict.proofs.OpenAtEnd.{none_open, some_open, exit_sent, exit_found}
use Rattle.lsp_verdict.proofs.Sessions.{same_session}

-- ---- what a session lacks

abbrev lack_by : List Event → List Entry → Bool → Option Verdict
lack_by events entries exited = option_map (λ rule. no_next rule who.Editor events) (first_row ((is_any_open entries, Some 303) ∷ (not exited, Some 407) ∷ []))

abbrev Decides : List Event → Option Verdict → Type 0
Decides events lack = (IsBroughtToEnd events × (lack ≡ None)) ⊎ ((v : Verdict) × NamesLack events v × (lack ≡ Some v))

-- the session was brought to its end and nothing lacks, or what lacks is named
decides : (events : List Event) → Decides events (lack_of events)
decides events = by_open (open_requests Editor (sent_in events)) refl
  where
    by_exit : (exited : Bool) → open_requests Editor (sent_in events) ≡ [] → was_sent is_exit (sent_in events) ≡ exited → Decides events (lack_by events [] exited)
    by_exit true none is = inl (record { answered = none_open (sent_in events) none; exited = exit_sent (sent_in events) is }, refl)
    by_exit false none is = inr (no_next 407 who.Editor events, inr (none_open (sent_in events) none, λ has. true≢false (sym (exit_found (sent_in events) has) ∙ is), refl), refl)

    by_open : (entries : List Entry) → open_requests Editor (sent_in events) ≡ entries → Decides events (lack_of events)
    by_open [] is = subst (Decides events) (sym (ap (λ w. lack_by events w (was_sent is_exit (sent_in events))) is)) (by_exit (was_sent is_exit (sent_in events)) is refl)
    by_open (e ∷ es) is =
        subst (Decides events) (sym (ap (λ w. lack_by events w (was_sent is_exit (sent_in events))) is)) (inr (no_next 303 who.Editor events, inl (some_open (sent_in events) e es is, refl), refl))

none_some : {P : Type 0} (o : Option Verdict) (v : Verdict) → o ≡ None → o ≡ Some v → P
none_some o v none some = let same : None ≡ Some v = sym none ∙ some in absurd cc

pub none_ended : (events : List Event) → lack_of events ≡ None → IsBroughtToEnd events
none_ended events none = elim (decides events) [
  | inl (ended, is) ↦ ended
  | inr (v, names, is) ↦ none_some (lack_of events) v none is
]

pub some_named : (events : List Event) (v : Verdict) → lack_of events ≡ Some v → NamesLack events v
some_named events v some = elim (decides events) [
  | inl (ended, is) ↦ none_some (lack_of events) v is some
  | inr (w, names, is) ↦ (let same : w ≡ v = cc (sym is ∙ some) in subst (NamesLack events) same names)
]

pub ended_none : (events : List Event) → IsBroughtToEnd events → lack_of events ≡ None
ended_none events ended = elim (decides events) [
  | inl (again, is) ↦ is
  | inr (v, inl (unanswered, named), is) ↦ (let answer = ended.answered unanswered.0 unanswered.1 in absurd (unanswered.2 answer.0 answer.1))
  | inr (v, inr (answered, missing, named), is) ↦ absurd (missing ended.exited)
]

-- what lacks is a No
lack_no : (events : List Event) (v : Verdict) → lack_of events ≡ Some v → IsNo v
lack_no events v is =
    let rule = map_some (λ rule. no_next rule who.Editor events) (incomplete (sent_in events)) v is in
    subst IsNo rule.2 tt

-- ---- in the place of Yes

-- of nothing else
pub completed_other : (events : List Event) (v : Verdict) → ((s : Summary) → v ≡ yes s → ⊥) → completed events v ≡ v
completed_other events (yes s) is_other = absurd (is_other s refl)
completed_other events _ is_other = refl

-- and only where something lacks
pub completed_none : (events : List Event) (v : Verdict) → lack_of events ≡ None → completed events v ≡ v
completed_none events (yes s) none = ap (λ o. unwrap_or o (yes s)) none
completed_none events _ none = refl

pub completed_yes : (events : List Event) (v : Verdict) (s : Summary) → completed events v ≡ yes s → (v ≡ yes s) × (lack_of events ≡ None)
completed_yes events (yes t) s e = by_lack (lack_of events) refl e
  where
    by_lack : (o : Option Verdict) → lack_of events ≡ o → unwrap_or o (yes t) ≡ yes s → (yes t ≡ yes s) × (lack_of events ≡ None)
    by_lack None is said = (said, is)
    by_lack (Some w) is said = absurd (subst IsNo said (lack_no events w is))
completed_yes events _ s e = absurd cc

pub completed_no : (events : List Event) (v : Verdict) (rule : ℕ) (by : Who) (number event : ℕ) → completed events v ≡ no rule by number event
    → (v ≡ no rule by number event) ⊎ ((s : Summary) × (v ≡ yes s) × (lack_of events ≡ Some (no rule by number event)))
completed_no events (yes t) rule by number event e = by_lack (lack_of events) refl e
  where
    by_lack : (o : Option Verdict) → lack_of events ≡ o → unwrap_or o (yes t) ≡ no rule by number event
        → (yes t ≡ no rule by number event) ⊎ ((s : Summary) × (yes t ≡ yes s) × (lack_of events ≡ Some (no rule by number event)))
    by_lack None is said = absurd cc
    by_lack (Some w) is said = inr (t, refl, is ∙ ap Some said)
completed_no events (no r w n k) rule by number event e = inl e
completed_no events (bad_log n c) rule by number event e = absurd cc

pub completed_bad : (events : List Event) (v : Verdict) (number : ℕ) (code : LogCode) → completed events v ≡ bad_log number code → v ≡ bad_log number code
completed_bad events (yes t) number code e = by_lack (lack_of events) refl e
  where
    by_lack : (o : Option Verdict) → lack_of events ≡ o → unwrap_or o (yes t) ≡ bad_log number code → yes t ≡ bad_log number code
    by_lack None is said = said
    by_lack (Some w) is said = absurd (subst IsNo said (lack_no events w is))
completed_bad events (no r w n k) number code e = absurd cc
completed_bad events (bad_log n c) number code e = e

-- ---- records

pub some_complete_final : (limits : Bounds) (format : Format) (records : List Record) (fault : Option (ℕ × LogCode)) → (v : Verdict) × IsCompleteFinal limits format records fault v
some_complete_final limits format records fault =
    let final = some_final limits format records fault in
    (completed final.1.events final.0, record { plain = final.0; final = final.1; says = refl })

pub are_complete : (limits : Bounds) → IsInRange limits → (format : Format) (records : List Record) (fault : Option (ℕ × LogCode)) (s : Summary) → IsCompleteFinal limits format records fault (yes s) → AreComplete limits format records
are_complete limits sizes format records fault s p =
    let parts = completed_yes p.final.events p.plain s p.says in
    let kept = are_kept limits sizes format records fault s (subst (IsFinal limits format records fault) parts.0 p.final) in
    record { kept = kept.0; ended = subst IsBroughtToEnd (same_session limits records records p.final.events kept.0.events refl p.final.session kept.0.session) (none_ended p.final.events parts.1) }

pub complete_yes : (limits : Bounds) (format : Format) (records : List Record) (events : List Event) → IsSession limits records events → NothingOffends (terms_of limits format) events
    → AreFrames limits (joined Editor records) → AreFrames limits (joined Server records) → IsBroughtToEnd events → IsCompleteFinal limits format records None (yes (summary (terms_of limits format) events))
complete_yes limits format records events session clean editor server ended =
    let final = final_yes limits format records events session clean editor server in
    let same = same_session limits records records events final.events refl session final.session in
    record { plain = yes (summary (terms_of limits format) events); final = final; says = completed_none final.events (yes (summary (terms_of limits format) events)) (ended_none final.events (subst IsBroughtToEnd same ended)) }

pub complete_no : (limits : Bounds) → IsInRange limits → (format : Format) (records : List Record) (fault : Option (ℕ × LogCode)) (rule : ℕ) (by : Who) (number event : ℕ) → (p : IsCompleteFinal limits format records fault (no rule by number event))
    → (Names (terms_of limits format) p.final.events (no rule by number event) ⊎ HasRest107 limits format records fault p.final.events (no rule by number event)) ⊎ AreCutShort limits format records (no rule by number event)
complete_no limits sizes format records fault rule by number event p = by_plain (completed_no p.final.events p.plain rule by number event p.says)
  where
    by_plain : (p.plain ≡ no rule by number event) ⊎ ((s : Summary) × (p.plain ≡ yes s) × (lack_of p.final.events ≡ Some (no rule by number event)))
        → (Names (terms_of limits format) p.final.events (no rule by number event) ⊎ HasRest107 limits format records fault p.final.events (no rule by number event)) ⊎ AreCutShort limits format records (no rule by number event)
    by_plain (inl same) =
        let final : IsFinal limits format records fault (no rule by number event) = subst (IsFinal limits format records fault) same p.final in
        let events = same_session limits records records final.events p.final.events refl final.session p.final.session in
        inl (elim (final_no limits format records fault rule by number event final) [
          | inl names ↦ inl (subst (λ es. Names (terms_of limits format) es (no rule by number event)) events names)
          | inr rest ↦ inr (subst (λ es. HasRest107 limits format records fault es (no rule by number event)) events rest)
        ])
    by_plain (inr (s, same, lack)) =
        let kept = are_kept limits sizes format records fault s (subst (IsFinal limits format records fault) same p.final) in
        let events = same_session limits records records p.final.events kept.0.events refl p.final.session kept.0.session in
        inr (record { kept = kept.0; names = subst (λ es. NamesLack es (no rule by number event)) events (some_named p.final.events (no rule by number event) lack) })

-- ---- logs

-- a log's events are those of its verdict
log_events : (limits : Bounds) → IsInRange limits → (log : List ℕ) (v : Verdict) (format : Option Format) (records : List Record) (fault : Option (ℕ × LogCode)) (events : List Event) → (whole : IsVerdict limits log v) → IsLog limits log format records fault → IsSession limits records events → whole.final.events ≡ events
log_events limits sizes log v format records fault events whole is_log session =
    let same = one_log limits sizes log whole.format format whole.records records whole.fault fault whole.is_log is_log in
    same_session limits whole.records records whole.final.events events (ap merged same.1) whole.final.session session

pub some_complete_verdict : SomeCompleteVerdict
some_complete_verdict limits log =
    let whole = some_verdict limits log in
    (completed whole.1.final.events whole.0, record { plain = whole.0; whole = whole.1; says = refl })

pub one_complete_verdict : OneCompleteVerdict
one_complete_verdict limits sizes log v w p q =
    let same = one_verdict limits sizes log p.plain q.plain p.whole q.whole in
    let events = same_events limits sizes log p.plain q.plain p.whole q.whole in
    sym p.says ∙ ap (λ es. completed es p.plain) events ∙ ap (completed q.whole.final.events) same ∙ q.says

-- Yes is Yes without it, and nothing lacks
pub plain_yes : (limits : Bounds) (log : List ℕ) (s : Summary) → IsCompleteVerdict limits log (yes s) → IsVerdict limits log (yes s)
plain_yes limits log s p = subst (IsVerdict limits log) (completed_yes p.whole.final.events p.plain s p.says).0 p.whole

pub complete_means_ended : CompleteMeansEnded
complete_means_ended limits sizes log s p =
    let kept = yes_means_kept limits sizes log s (plain_yes limits log s p) in
    let events = log_events limits sizes log p.plain kept.format kept.records None kept.kept.events p.whole kept.is_log kept.kept.session in
    record { kept = kept; ended = subst IsBroughtToEnd events (none_ended p.whole.final.events (completed_yes p.whole.final.events p.plain s p.says).1) }

pub ended_means_complete : EndedMeansComplete
ended_means_complete limits log s whole ended = record { plain = yes s; whole = whole; says = completed_none whole.final.events (yes s) (ended_none whole.final.events ended) }

pub lack_is_named : LackIsNamed
lack_is_named limits sizes log rule by number event p = elim (completed_no p.whole.final.events p.plain rule by number event p.says) [
  | inl same ↦ inl (no_names limits log rule by number event (subst (IsVerdict limits log) same p.whole))
  | inr (s, same, lack) ↦
      (let kept = yes_means_kept limits sizes log s (subst (IsVerdict limits log) same p.whole) in
      let events = log_events limits sizes log p.plain kept.format kept.records None kept.kept.events p.whole kept.is_log kept.kept.session in
      inr (record { kept = kept; names = subst (λ es. NamesLack es (no rule by number event)) events (some_named p.whole.final.events (no rule by number event) lack) }))
]

pub complete_means_fault : CompleteMeansFault
complete_means_fault limits log number code p = bad_log_has limits log number code (subst (IsVerdict limits log) (completed_bad p.whole.final.events p.plain number code p.says) p.whole)
