-- The steps of the accounts that end with the verdict on a log.
use Rattle.std.specs.Prelude.{◌&&◌, ◌||◌, is_some, not, option_map, unwrap_or}
use Rattle.std.proofs.Common.{◌≡◌, ℕ, ◌+◌, ◌<◌, ◌^◌, Bool, List, [], ◌∷◌, ◌++◌, length}
use Rattle.std.proofs.Common.{Option, Some, None, true, refl, sym, ap, ◌∙◌, arith}
use Rattle.std.proofs.Math.Bool.{and-true, or-true}
use Rattle.lsp_docs.specs.State as docs
use Rattle.lsp_replay.specs.Common.{as_given, bad_log, bad_log_of, Closes, Completeness, Counts}
use Rattle.lsp_replay.specs.Common.{decoder_of, ending, ends_inside, Event, first_end, first_no}
use Rattle.lsp_replay.specs.Common.{Follows, Heard, heard_events, is_rest, IsEnd, Lines, LogCode}
use Rattle.lsp_replay.specs.Common.{no_by, no_of, Rests, rule_of, shown_line, Side, Stood, Tail}
use Rattle.lsp_replay.specs.Common.{Terms, verdict_view, Who}
use Rattle.lsp_session.specs.State as session
use Rattle.lsp_types.specs.declared.side.Side.TheVariants.{Editor, Server}
use Rattle.lsp_judge.specs.Standing.{closed_by, end_by, ends_with}
use Rattle.lsp_judge.specs.JudgingRun.{JudgingAsked, completed_by, due_for, judging_run, said_by}
use Rattle.lsp_judge.specs.JudgingRun.{verdict_of}
use Rattle.lsp_judge.proofs.Finals.{by_end, by_log}
use Rattle.lsp_replay.specs.Telling.{Says}
use Rattle.lsp_replay.specs.declared.log_events.End.{End}
use Rattle.lsp_replay.specs.declared.log_events.LogEvents.{LogEvents}
use Rattle.lsp_replay.specs.declared.seen.Flow.TheVariants.{GoOn, Stop}
use Rattle.lsp_replay.proofs.AllHeard.{few_events, first_after, follows_all, none_is}
use Rattle.lsp_replay.proofs.PassEnds.{Boxed}
use Rattle.lsp_verdict.specs.Heard.{rest_of}
use Rattle.lsp_verdict.specs.Verdict.{Verdict, verdict}
use Rattle.lsp_verdict.specs.declared.completeness.Completeness.TheVariants.{Ignored, Required}
use Rattle.lsp_verdict.specs.declared.outcome.Outcome.TheVariants.{Judged}
use Rattle.lsp_verdict.specs.declared.verdict.Verdict as code
use Rattle.lsp_verdict.proofs.ExactCounts.{no_exact, yes_exact}
use Rattle.lsp_verdict.proofs.Offences.Offending.{no_frame_fault}

-- ---- an event

module _ {terms : Terms} {before : List Heard} {h : Heard} {Fits : Rests → Type 0}
    {old new : List ℕ} (asked : JudgingAsked) where
  -- it is kept
  pub kept_says : first_no terms (heard_events before) ≡ None → rule_of terms before h ≡ None
      → new ≡ old ++ shown_line asked.lines before h
      → Says (judging_run asked) terms before h Fits old new
      (first_no terms (heard_events (before ++ h ∷ [])) ≡ None) GoOn
  kept_says clean is added =
      let none = none_is terms before h is in
      record {
        said = shown_line asked.lines before h;
        added = added;
        is = λ rests fits. ap (said_by asked before h) (sym none);
        goes = (ap is_some none, first_after terms before h clean ∙ none);
      }

  -- it offends
  pub offence_says : {Stands : Type 0} (rule : ℕ) (given : code.Verdict) (boxed : Boxed)
      → boxed.value ≡ Judged given → rule_of terms before h ≡ Some rule
      → verdict_view given ≡ no_by (heard_events before) h.note.event rule
      → new ≡ old ++ due_for asked.form (verdict_view given)
      → Says (judging_run asked) terms before h Fits old new Stands (Stop boxed)
  offence_says rule given boxed in_box is named added =
      let some : no_of terms before h ≡ Some (verdict_view given) =
      ap (option_map (no_by (heard_events before) h.note.event)) is ∙ ap Some (sym named) in
      record {
        said = due_for asked.form (verdict_view given);
        added = added;
        is = λ rests fits. ap (said_by asked before h) (sym some);
        goes = (ap is_some some, (verdict_view given, some, (given, in_box, refl)));
      }

-- and memory may be wanted for its No
pub offence_wants : (lines : Option Lines) (terms : Terms) (before : List Heard) (h : Heard)
    (rule : ℕ) → rule_of terms before h ≡ Some rule
    → (is_some lines || is_some (no_of terms before h)) ≡ true
offence_wants lines terms before h rule is =
    ap (λ o. is_some lines || is_some (option_map (no_by (heard_events before) h.note.event) o)) is
    ∙ or-true (is_some lines)

-- ---- the end

-- of so few events what is given where a session ends is exact
end_exact : (completeness : Completeness) (terms : Terms) (events : List Event)
    (editor server : Bool) → length events + 1 < 2 ^ 64
    → as_given (end_by completeness terms events editor server)
    ≡ end_by completeness terms events editor server
end_exact completeness terms events editor server few =
    by_rule (first_end completeness events editor server)
  where
    by_rule : (o : Option (ℕ × Who))
        → as_given (ends_with terms events o) ≡ ends_with terms events o
    by_rule None = yes_exact terms events (omega (arith, few))
    by_rule (Some broken) = no_exact events broken.0 broken.1 few

bad_stays : (completeness : Completeness) (events : List Event) (number : ℕ) (code : LogCode)
    → bad_log number code ≡ completed_by completeness events (bad_log number code)
bad_stays Ignored events number code = refl
bad_stays Required events number code = refl

module _ (completeness : Completeness) (terms : Terms) (heard : List Heard) (e : LogEvents)
    (end : End) (clean : first_no terms (heard_events heard) ≡ None) (tail : Tail)
    (fits : IsEnd e end heard tail) where
  inside_is : (side : Side)
      → ends_inside (decoder_of side e.streams) ≡ is_rest (rest_of tail.rests side)
  inside_is side = fits.inside side
      ∙ ap (λ b. is_rest (rest_of tail.rests side) && not b)
      (no_frame_fault terms side [] (heard_events heard) clean)
      ∙ and-true (is_rest (rest_of tail.rests side))

  -- what is given where the log ends so is the verdict on it
  closed_is : length (heard_events heard) + 1 < 2 ^ 64
      → closed_by completeness terms (heard_events heard) e end
      ≡ verdict_of completeness terms heard tail
  closed_is few = ap closed (sym fits.fault) ∙ by_flaw tail.fault
    where
      closed : Option (ℕ × LogCode) → Verdict
      closed flaw = unwrap_or (bad_log_of flaw)
          (as_given (end_by completeness terms (heard_events heard)
          (ends_inside e.streams.editor) (ends_inside e.streams.server)))

      by_flaw : (flaw : Option (ℕ × LogCode)) → closed flaw
          ≡ completed_by completeness (heard_events heard) (verdict terms (heard_events heard)
          (ending flaw tail.rests.editor tail.rests.server))
      by_flaw None =
          end_exact completeness terms (heard_events heard) (ends_inside e.streams.editor)
          (ends_inside e.streams.server) few
          ∙ ap (λ b. end_by completeness terms (heard_events heard) b
          (ends_inside e.streams.server)) (inside_is Editor)
          ∙ ap (end_by completeness terms (heard_events heard) (is_rest tail.rests.editor))
          (inside_is Server)
          ∙ sym (by_end completeness terms (heard_events heard) (is_rest tail.rests.editor)
          (is_rest tail.rests.server) clean)
      by_flaw (Some (number, code)) =
          bad_stays completeness (heard_events heard) number code
          ∙ ap (completed_by completeness (heard_events heard)) (sym (by_log terms
          (heard_events heard) (is_rest tail.rests.editor) (is_rest tail.rests.server) number code
          clean))

module _ (completeness : Completeness) (terms : Terms) (heard : List Heard) (m : session.State)
    (d : docs.State) (c : Counts) (e : LogEvents) (end : End) (given : code.Verdict)
    (stood : Stood terms m d c heard) (few : length heard < 2 ^ 63)
    (clean : first_no terms (heard_events heard) ≡ None)
    (told : (events : List Event) → Follows m d c events
    → verdict_view given ≡ closed_by completeness d.terms events e end) where
  -- **it is the verdict, whatever end the log has that fits**
  pub ends_given : (tail : Tail) → IsEnd e end heard tail
      → verdict_view given ≡ verdict_of completeness terms heard tail
  ends_given tail fits =
      told (heard_events heard) (follows_all terms heard m d c stood clean)
      ∙ ap (λ (t : Terms). closed_by completeness t (heard_events heard) e end) stood.by
      ∙ closed_is completeness terms heard e end clean tail fits
      (few_events heard few)

  pub verdict_closes : (asked : JudgingAsked) (old new : List ℕ)
      → completeness ≡ asked.completeness
      → new ≡ old ++ due_for asked.form (verdict_view given)
      → Closes (judging_run asked) terms heard (IsEnd e end heard) old new (Judged given)
  verdict_closes asked old new wanted added = record {
    said = due_for asked.form (verdict_view given);
    added = added;
    is = λ tail fits. (
      ap (due_for asked.form) (same tail fits),
      (given, refl, same tail fits),
    );
  } where
    same : (tail : Tail) → IsEnd e end heard tail
        → verdict_view given ≡ verdict_of asked.completeness terms heard tail
    same tail fits = ends_given tail fits
        ∙ ap (λ c. verdict_of c terms heard tail) wanted
