-- The verdicts that the program can hold: each No and each bad log, and a Yes whose summary fits.
use Rattle.std.specs.Prelude.{if◌then◌else◌, map, option_map, option_to_list, unwrap_or}
use Rattle.std.specs.List.{cons_option}
use Rattle.std.specs.Option.{option_or}
use Rattle.std.proofs.Common.{◌≡◌, ℕ, Bool, true, false, List, [], ◌∷◌, ◌++◌, Option, Some, None}
use Rattle.std.proofs.Common.{ap, refl}
use Rattle.lsp_docs.specs.Documents.{Terms}
use Rattle.lsp_log.specs.declared.fault.LogCode.{LogCode}
use Rattle.lsp_replay.specs.Run.{IsJudged}
use Rattle.lsp_replay.specs.RunLaws.{CanHold}
use Rattle.lsp_session.specs.Incomplete.{incomplete}
use Rattle.lsp_verdict.specs.Complete.{completed, lack_of}
use Rattle.lsp_verdict.specs.Event.{Event, sent_in}
use Rattle.lsp_verdict.specs.Given.{verdict_view}
use Rattle.lsp_verdict.specs.LookBack.{each_from, first_from}
use Rattle.lsp_verdict.specs.Offences.{Noted, Offence, events_of, offence_at, offence_by, offences}
use Rattle.lsp_verdict.specs.Offences.{rule_at}
use Rattle.lsp_verdict.specs.Survey.{by_itself, first_ends, first_verdict, lacks_listed, rests_listed}
use Rattle.lsp_verdict.specs.Verdict.{Ending, Summary, Verdict, bad_log, bad_log_of, first_no, no}
use Rattle.lsp_verdict.specs.Verdict.{no_at, no_by, no_next, offence, refusal, rest_of, summary}
use Rattle.lsp_verdict.specs.Verdict.{verdict, whose, yes}
use Rattle.lsp_verdict.specs.declared.completeness.Completeness.{Completeness}
use Rattle.lsp_verdict.specs.declared.completeness.Completeness.TheVariants.{Ignored, Required}
use Rattle.lsp_verdict.specs.declared.outcome.Outcome.{Outcome}
use Rattle.lsp_verdict.specs.declared.outcome.Outcome.TheVariants.{Judged}
use Rattle.lsp_verdict.specs.declared.verdict.Verdict as code
use Rattle.lsp_verdict.specs.declared.verdict.Verdict.TheVariants as verdicts
use Rattle.lsp_verdict.specs.declared.verdict.Who.{Who}
use Rattle.lsp_verdict.specs.declared.verdict.Who.TheVariants as who

-- the program can hold it
abbrev pub IsGiven : Verdict → Type 0
IsGiven v = (given : code.Verdict) × (verdict_view given ≡ v)

pub some_judged : (v : Verdict) → IsGiven v → (outcome : Outcome) × IsJudged v outcome
some_judged v (given, is) = (Judged given, (given, refl, is))

pub no_given : (rule : ℕ) (by : Who) (count event : ℕ) → IsGiven (no rule by count event)
no_given rule by count event = (verdicts.No rule by count event, refl)

pub bad_given : (number : ℕ) (fault : LogCode) → IsGiven (bad_log number fault)
bad_given number fault = (verdicts.BadLog number fault, refl)

yes_given : (s : Summary) → CanHold s → IsGiven (yes s)
yes_given s (held, is) = (verdicts.Yes held, ap yes is)

-- a No at an event
no_by_given : (before : List Event) (event : Event) (rule : ℕ) → IsGiven (no_by before event rule)
no_by_given before event rule = no_given rule (whose event) _ _

-- the No of a rule that is broken is answered
pub some_no : (before : List Event) (event : Event) (o : Option ℕ) → (o ≡ None → ⊥)
    → (outcome : Outcome) × ((v : Verdict) × (option_map (no_by before event) o ≡ Some v)
    × IsJudged v outcome)
some_no before event None there = absurd (there refl)
some_no before event (Some rule) there =
    let v = no_by before event rule in
    let end = some_judged v (no_by_given before event rule) in (end.0, (v, refl, end.1))

-- ---- none or one of them

abbrev MayBeGiven : Option Verdict → Type 0
MayBeGiven None = Unit {0}
MayBeGiven (Some v) = IsGiven v

either_given : (a b : Option Verdict) → MayBeGiven a → MayBeGiven b → MayBeGiven (option_or a b)
either_given None b p q = q
either_given (Some v) b p q = p

else_given : (o : Option Verdict) (v : Verdict) → MayBeGiven o → IsGiven v → IsGiven (unwrap_or o v)
else_given None v p q = q
else_given (Some w) v p q = p

mapped_given : (f : ℕ → Verdict) → ((rule : ℕ) → IsGiven (f rule)) → (o : Option ℕ)
    → MayBeGiven (option_map f o)
mapped_given f each None = tt
mapped_given f each (Some rule) = each rule

bad_may : (fault : Option (ℕ × LogCode)) → MayBeGiven (bad_log_of fault)
bad_may None = tt
bad_may (Some flaw) = bad_given flaw.0 flaw.1

-- ---- the verdict

rest_may : (events : List Event) (editor server : Bool) → MayBeGiven (rest_of events editor server)
rest_may events false false = tt
rest_may events _ _ = no_given _ _ _ _

first_may : (terms : Terms) (before events : List Event)
    → MayBeGiven (first_from (no_at terms) before events)
first_may terms before [] = tt
first_may terms before (e ∷ events) =
    either_given (no_at terms before e) (first_from (no_at terms) (before ++ e ∷ []) events)
    (mapped_given (no_by before e) (no_by_given before e) (offence terms before e))
    (first_may terms (before ++ e ∷ []) events)

-- **the verdict on these events**
pub verdict_given : (terms : Terms) (events : List Event) (end : Ending)
    → CanHold (summary terms events) → IsGiven (verdict terms events end)
verdict_given terms events end fits =
    else_given (refusal terms events end) (yes (summary terms events))
    (either_given (first_no terms events) _ (first_may terms [] events)
    (either_given (bad_log_of end.log_fault) _ (bad_may end.log_fault)
    (rest_may events end.editor_rest end.server_rest)))
    (yes_given (summary terms events) fits)

-- whose session must be complete
pub completed_given : (events : List Event) (v : Verdict) → IsGiven v → IsGiven (completed events v)
completed_given events (yes s) given =
    else_given (lack_of events) (yes s)
    (mapped_given _ (λ rule. no_given _ _ _ _) (incomplete (sent_in events))) given
completed_given events _ given = given

-- ---- what is listed

abbrev pub AllGiven : List Verdict → Type 0
AllGiven [] = Unit {0}
AllGiven (v ∷ vs) = IsGiven v × AllGiven vs

abbrev OffencesGiven : List Offence → Type 0
OffencesGiven [] = Unit {0}
OffencesGiven (o ∷ os) = IsGiven o.no × OffencesGiven os

rests_given : (events : List Event) (editor server : Bool)
    → AllGiven (rests_listed events editor server)
rests_given events true true = (no_given _ _ _ _, (no_given _ _ _ _, tt))
rests_given events false false = tt
rests_given events _ _ = (no_given _ _ _ _, tt)

lacks_given : (completeness : Completeness) (events kept : List Event)
    → AllGiven (lacks_listed completeness events kept)
lacks_given Ignored events kept = tt
lacks_given Required events kept = by_rule (incomplete (sent_in kept))
  where
    by_rule : (o : Option ℕ)
        → AllGiven (option_to_list (option_map (λ rule. no_next rule who.Editor events) o))
    by_rule None = tt
    by_rule (Some rule) = (no_given _ _ _ _, tt)

first_given : (fault : Option (ℕ × LogCode)) (rests lacks : List Verdict) → AllGiven rests
    → AllGiven lacks → AllGiven (first_ends fault rests lacks)
first_given (Some flaw) rests lacks p q = tt
first_given None (v ∷ rests) lacks p q = p
first_given None [] lacks p q = q

-- **what is listed of the end**
pub ends_given : (completeness : Completeness) (events kept : List Event)
    (fault : Option (ℕ × LogCode)) (editor server : Bool)
    → AllGiven (first_ends fault (rests_listed events editor server)
    (lacks_listed completeness events kept))
ends_given completeness events kept fault editor server =
    first_given fault (rests_listed events editor server) (lacks_listed completeness events kept)
    (rests_given events editor server) (lacks_given completeness events kept)

offences_given : (terms : Terms) (before notes : List Noted)
    → OffencesGiven (each_from (offence_at terms) before notes)
offences_given terms before [] = tt
offences_given terms before (n ∷ notes) =
    by_rule (rule_at terms (events_of before) n.event)
    (offences_given terms (before ++ n ∷ []) notes)
  where
    by_rule : (o : Option ℕ) → OffencesGiven (each_from (offence_at terms) (before ++ n ∷ []) notes)
        → OffencesGiven (cons_option (option_map (offence_by terms before n) o)
        (each_from (offence_at terms) (before ++ n ∷ []) notes))
    by_rule None later = later
    by_rule (Some rule) later = (no_by_given (events_of before) n.event rule, later)

first_listed : (found : List Offence) (ends : List Verdict) (fault : Option (ℕ × LogCode))
    (s : Summary) → OffencesGiven found → AllGiven ends → CanHold s
    → IsGiven (first_verdict (found ++ map by_itself ends) (bad_log_of fault) s)
first_listed [] [] None s p q fits = yes_given s fits
first_listed [] [] (Some flaw) s p q fits = bad_given flaw.0 flaw.1
first_listed [] (v ∷ ends) fault s p q fits = q.0
first_listed (o ∷ found) ends fault s p q fits = p.0

-- **the first of all that is listed**
pub all_given : (terms : Terms) (notes : List Noted) (ends : List Verdict)
    (fault : Option (ℕ × LogCode)) (s : Summary) → AllGiven ends → CanHold s
    → IsGiven (first_verdict (offences terms notes ++ map by_itself ends) (bad_log_of fault) s)
all_given terms notes ends fault s given fits =
    first_listed (offences terms notes) ends fault s (offences_given terms [] notes) given fits

-- and of the end
pub end_given : (ends : List Verdict) (fault : Option (ℕ × LogCode)) (s : Summary)
    → AllGiven ends → CanHold s
    → IsGiven (first_verdict (map by_itself ends) (bad_log_of fault) s)
end_given ends fault s given fits = first_listed [] ends fault s tt given fits
