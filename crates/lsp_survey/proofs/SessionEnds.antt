-- How the session of a log ends, and the verdict where nothing was found.
use Rattle.std.specs.Prelude.{map, option_map, option_to_list}
use Rattle.std.specs.List.{cons_option}
use Rattle.std.proofs.Common.{◌≡◌, ℕ, ◌≤◌, Bool, true, false, List, [], ◌∷◌, ◌++◌, length, Option}
use Rattle.std.proofs.Common.{Some, None, refl, arith, ◌+◌, ◌<◌, ◌^◌, sym, ap, ◌∙◌}
use Rattle.lsp_replay.specs.Common.{as_given, by_itself, Completeness, Counts, decoder_of}
use Rattle.lsp_replay.specs.Common.{each_from, Event, first_end, first_no, first_verdict, Follows}
use Rattle.lsp_replay.specs.Common.{Heard, heard_events, IsEnd, kept_of, LogCode, no_next, Offence}
use Rattle.lsp_replay.specs.Common.{offence_view, report, sent_in, Stood, summary, Tail, Terms, Who}
use Rattle.lsp_replay.specs.Common.{yes}
use Rattle.lsp_session.specs.Incomplete.{incomplete}
use Rattle.lsp_session.specs.State as session
use Rattle.lsp_verdict.specs.Survey.{first_ends, lacks_listed, rests_listed}
use Rattle.lsp_verdict.specs.Verdict.{Verdict}
use Rattle.lsp_verdict.specs.declared.completeness.Completeness.TheVariants.{Ignored, Required}
use Rattle.lsp_verdict.specs.declared.verdict.Who.TheVariants as who
use Rattle.lsp_verdict.proofs.ExactCounts.{yes_exact}
use Rattle.lsp_docs.specs.State as docs
use Rattle.lsp_replay.specs.Streams as streams
use Rattle.lsp_replay.specs.declared.log_events.End.{End}
use Rattle.lsp_replay.specs.declared.log_events.End.TheVariants.{Bad, Sound}
use Rattle.lsp_replay.specs.declared.log_events.LogEvents.{LogEvents}
use Rattle.lsp_replay.proofs.AllHeard.{few_events, follows_all}
use Rattle.lsp_types.specs.declared.side.Side.TheVariants.{Editor, Server}
use Rattle.lsp_survey.specs.SessionEnds.{ends_held, ends_of, listed_by, second_end}
use Rattle.lsp_survey.specs.Reported.{IsTally, verdict_lines}
use Rattle.lsp_survey.specs.declared.offence_count.OffenceCount.{OffenceCount}

-- ---- what is listed of the end of a session

-- what is broken first, and behind it the server's 107
pub ends_are : (completeness : Completeness) (events kept : List Event) (editor server : Bool)
    → ([] ++ listed_by (first_end completeness kept editor server) events)
    ++ listed_by (second_end editor server) events
    ≡ map by_itself (first_ends None (rests_listed events editor server)
    (lacks_listed completeness events kept))
ends_are completeness events kept true true = refl
ends_are completeness events kept false true = refl
ends_are Required events kept false false = by_rule (incomplete (sent_in kept))
  where
    by_rule : (o : Option ℕ)
        → ([] ++ listed_by (option_map (λ rule. (rule, who.Editor)) o) events) ++ []
        ≡ map by_itself
        (option_to_list (option_map (λ (rule : ℕ). no_next rule who.Editor events) o))
    by_rule None = refl
    by_rule (Some rule) = refl
ends_are _ events kept _ _ = refl

-- ---- few

pub given_few : {A X : Type 0} (f : List A → A → Option X) (before xs : List A)
    → length (each_from f before xs) ≤ length xs
given_few f before [] = omega arith
given_few {X = X} f before (x ∷ xs) = by_option (f before x) (given_few f (before ++ x ∷ []) xs)
  where
    by_option : (o : Option X) → length (each_from f (before ++ x ∷ []) xs) ≤ length xs
        → length (cons_option o (each_from f (before ++ x ∷ []) xs)) ≤ length (x ∷ xs)
    by_option None h = omega (arith, h)
    by_option (Some y) h = omega (arith, h)

pub ends_few : (flaw : Option (ℕ × LogCode)) (events kept : List Event) (editor server : Bool)
    (completeness : Completeness)
    → length (first_ends flaw (rests_listed events editor server)
    (lacks_listed completeness events kept)) ≤ 2
ends_few None events kept true true completeness = omega arith
ends_few None events kept false false Required = by_rule (incomplete (sent_in kept))
  where
    by_rule : (o : Option ℕ)
        → length (option_to_list (option_map (λ (r : ℕ). no_next r who.Editor events) o)) ≤ 2
    by_rule None = omega arith
    by_rule (Some rule) = omega arith
ends_few _ events kept _ _ _ = omega arith

-- ---- the end of a log, and the verdict where nothing was found

-- what the reader of the log tells of its end is how the session ends
pub ends_fit : (completeness : Completeness) (terms : Terms) (heard : List Heard) (e : LogEvents)
    (end : End) (tail : Tail) → IsEnd e end heard tail
    → ends_held completeness terms heard e end ≡ ends_of completeness terms heard tail
ends_fit completeness terms heard e end tail fits =
    let events = heard_events heard in
    λ i. first_ends (sym fits.fault i) (rests_listed events (fits.inside Editor i)
    (fits.inside Server i)) (lacks_listed completeness events (kept_of terms events))

pub sound_end : (end : End)
    → ((number : ℕ) (fault : LogCode) → end ≡ Bad number fault → ⊥) → end ≡ Sound
sound_end Sound bad = refl
sound_end (Bad number fault) bad = absurd (bad number fault refl)

none_found : (t : OffenceCount) (found : List Offence) → None ≡ t.first → IsTally t found
    → found ≡ []
none_found t [] none tally = refl
none_found t (o ∷ found) none tally =
    let first : option_map offence_view None ≡ Some o = ap (option_map offence_view) none
    ∙ tally.first in absurd (cc first)

module _ (terms : Terms) (heard : List Heard) (m : session.State) (d : docs.State) (c : Counts)
    (stood : Stood terms m d c heard) (few : length heard < 2 ^ 63) where
  abbrev events : List Event
  events = heard_events heard

  small : length events + 1 < 2 ^ 64
  small = few_events heard few

  -- what is listed of the end of a log without a fault
  pub ends_given : (completeness : Completeness) (e : LogEvents) (editor server : Bool)
      (one two : Option (ℕ × Who)) (none first last : List Offence)
      → editor ≡ streams.ends_inside (decoder_of Editor e.streams)
      → server ≡ streams.ends_inside (decoder_of Server e.streams)
      → one ≡ first_end completeness (kept_of terms events) editor server
      → two ≡ second_end editor server → none ≡ []
      → first ≡ none ++ listed_by one events → last ≡ first ++ listed_by two events
      → last ≡ map by_itself (ends_held completeness terms heard e Sound)
  ends_given completeness e editor server one two none first last is_editor is_server one_is two_is
      empty e_one e_two =
      e_two ∙ ap (λ l. l ++ listed_by two events)
      (e_one ∙ ap (λ l. l ++ listed_by one events) empty)
      ∙ (λ i. ([] ++ listed_by (one_is i) events) ++ listed_by (two_is i) events)
      ∙ ends_are completeness events (kept_of terms events) editor server
      ∙ (λ i. map by_itself (first_ends None (rests_listed events (is_editor i) (is_server i))
      (lacks_listed completeness events (kept_of terms events))))

  -- where nothing was found, the report is that of the verdict
  pub none_said : (t : OffenceCount) (found : List Offence) (bad : Option Verdict) (v : Verdict)
      (old new : List ℕ) → None ≡ t.first → IsTally t found
      → (found ≡ [] → first_no terms events ≡ None)
      → ((events : List Event) → Follows m d c events
      → as_given (yes (summary d.terms events)) ≡ yes (summary d.terms events)
      → v ≡ first_verdict [] bad (summary d.terms events))
      → new ≡ old ++ report v
      → (new ≡ old ++ verdict_lines found bad (summary terms events))
      × (v ≡ first_verdict found bad (summary terms events))
  none_said t found bad v old new none tally clean sound said =
      let empty = none_found t found none tally in
      let own = sound events (follows_all terms heard m d c stood (clean empty))
      (yes_exact d.terms events (omega (arith, small)))
      ∙ ap (λ (x : Terms). first_verdict [] bad (summary x events)) stood.by in (
        said ∙ ap (λ w. old ++ report w) own
            ∙ ap (λ f. old ++ verdict_lines f bad (summary terms events)) (sym empty),
        own ∙ ap (λ f. first_verdict f bad (summary terms events)) (sym empty),
      )
