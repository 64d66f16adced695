-- The steps of the accounts that explain a log.
use Rattle.std.specs.Prelude.{◌||◌, filter, is_some, not, option_map, unwrap_or, if◌then◌else◌}
use Rattle.std.specs.List.{cons_option}
use Rattle.std.proofs.Common.{◌≡◌, ℕ, Bool, true, false, List, [], ◌∷◌, ◌++◌, Option, Some, None, refl}
use Rattle.std.proofs.Common.{sym, ap, ◌∙◌, subst, append_assoc, append-nil}
use Rattle.std.proofs.Math.Bool.{or-true}
use Rattle.lsp_trail.specs.Common.{Breach, breach, broken, Completeness, content, Event, Heard}
use Rattle.lsp_trail.specs.Common.{heard_events, IsNoted, IsTrail, Judged, no_by, notes_of, Offence}
use Rattle.lsp_trail.specs.Common.{offence_at, offence_by, Raw, Rests, rule_at, rule_of, Says, show}
use Rattle.lsp_trail.specs.Common.{Terms, Verdict, verdict_view}
use Rattle.lsp_replay.specs.declared.seen.Flow.TheVariants.{GoOn, Stop}
use Rattle.lsp_replay.proofs.PassEnds.{Boxed}
use Rattle.lsp_replay.proofs.AllHeard.{first_after, none_is}
use Rattle.lsp_survey.specs.Lost.{WasTold, follows_at, may_lose}
use Rattle.lsp_survey.specs.Reported.{IsTally}
use Rattle.lsp_survey.proofs.SurveySteps.{kept_tally, offence_tally}
use Rattle.lsp_verdict.specs.Offences.{follows}
use Rattle.lsp_verdict.specs.declared.verdict.Verdict as code
use Rattle.lsp_explain.specs.ExplainRuns.{AllStands, FirstStands, SaysCauses, SaysFirst, all_run}
use Rattle.lsp_explain.specs.ExplainRuns.{cause_at, explain_run, first_lines, has_cause, may_keep}
use Rattle.lsp_origins.specs.Explained.{cause_lines, is_cause, TellsOf}
use Rattle.lsp_notes.specs.MessageNotes.{AreNoted}
use Rattle.lsp_notes.specs.Misfits.{AreMisfits, found_kept}
use Rattle.lsp_notes.specs.Notes.{note_lines, notes_by, noticed_by}
use Rattle.lsp_explain.specs.declared.run.FirstOffence.{FirstOffence}
use Rattle.lsp_explain.specs.declared.run_all.AllCauses.{AllCauses}

module _ (terms : Terms) (before : List Heard) (h : Heard) where
  abbrev events : List Event
  events = heard_events before

  -- ---- where memory may be wanted

  pub lost_wants : (completeness : Completeness) (rule : Option ℕ) → may_lose h.raw rule ≡ true
      → (all_run completeness).wants terms before h ≡ true
  lost_wants completeness rule lost =
      ap (λ b. b || has_cause (offence_at terms (notes_of before) h.note)) (by_raw h.raw lost)
    where
      by_raw : (raw : Raw) → may_lose raw rule ≡ true → may_keep raw ≡ true
      by_raw (broken side by) lost = absurd (cc lost)
      by_raw _ lost = refl

  -- an event that is kept is no fault of the frames
  pub kept_wants : (completeness : Completeness) → rule_of terms before h ≡ None
      → IsNoted h.raw h.note → (all_run completeness).wants terms before h ≡ true
  kept_wants completeness kept noted =
      ap (λ b. b || has_cause (offence_at terms (notes_of before) h.note))
      (by_raw h.raw noted kept)
    where
      by_raw : (raw : Raw) → IsNoted raw h.note → rule_of terms before h ≡ None
          → may_keep raw ≡ true
      by_raw (broken side rule) noted kept =
          let same = sym (ap (λ (e : Event). rule_at terms events e) noted.0) ∙ kept in absurd (cc same)
      by_raw _ noted kept = refl

  -- one that offends and follows from none is explained
  pub cause_wants : (completeness : Completeness) (rule : ℕ) (o : Offence)
      → rule_of terms before h ≡ Some rule → o ≡ offence_by terms (notes_of before) h.note rule
      → o.follows ≡ false → (all_run completeness).wants terms before h ≡ true
  cause_wants completeness rule o offends own none =
      let noted = may_keep h.raw in
      ap (λ (x : Option ℕ). noted || has_cause
      (option_map (offence_by terms (notes_of before) h.note) x)) offends
      ∙ ap (λ (x : Offence). noted || not x.follows) (sym own)
      ∙ ap (λ b. noted || not b) none ∙ or-true noted

  -- ---- `explain`

  module _ (account next : FirstOffence) (stands : FirstStands account terms before)
      (Fits : Rests → Type 0) (old : List ℕ) where
    -- an event that is kept says nothing
    pub first_kept : rule_of terms before h ≡ None
        → IsTrail terms next.trail (heard_events (before ++ h ∷ []))
        → AreMisfits next.misfits (found_kept terms (heard_events (before ++ h ∷ [])))
        → AreNoted terms next.messages (heard_events (before ++ h ∷ []))
        (heard_events (before ++ h ∷ []))
        → Says (explain_run account.completeness) terms before h Fits old old
        (FirstStands next terms (before ++ h ∷ [])) GoOn
    first_kept kept trail misfits messages = record {
      said = [];
      added = sym (append-nil old);
      is = λ rests fits. subst (λ (o : Option ℕ). SaysFirst rests terms
          (option_map (breach before h) o) []) (sym kept) refl;
      goes = (
        ap is_some kept,
        record {
          trail = trail;
          misfits = misfits;
          messages = messages;
          clean = first_after terms before h stands.clean ∙ none_is terms before h kept;
        },
      );
    }

    -- one that offends is explained
    pub first_told : (Stands : Type 0) (rule : ℕ) (given : code.Verdict) (boxed : Boxed)
        (mid new : List ℕ) → boxed.value ≡ Judged given → rule_of terms before h ≡ Some rule
        → verdict_view given ≡ no_by events h.note.event rule
        → TellsOf terms before h rule Fits old mid
        → new ≡ mid ++ note_lines (notes_by (verdict_view given)
        (noticed_by terms events (breach before h rule ∷ [])))
        → Says (explain_run account.completeness) terms before h Fits old new Stands
        (Stop boxed)
    first_told Stands rule given boxed mid new is_boxed offends verdict told noted =
        let e = told.e in
        let own = breach before h rule in
        let notes : Verdict → List ℕ = λ v. note_lines
        (notes_by v (noticed_by terms events (own ∷ []))) in
        record {
          said = first_lines terms own e;
          added = noted ∙ ap (λ w. w ++ notes (verdict_view given)) told.added
              ∙ append_assoc old (cause_lines e) (notes (verdict_view given))
              ∙ ap (λ v. old ++ (cause_lines e ++ notes v)) (verdict ∙ sym told.no_is);
          is = λ rests fits. subst (λ (o : Option ℕ). SaysFirst rests terms
              (option_map (breach before h) o) (first_lines terms own e)) (sym offends)
              (e, told.explains rests fits, refl);
          goes = (
            ap is_some offends,
            (
              no_by events h.note.event rule,
              ap (option_map (no_by events h.note.event)) offends,
              (given, is_boxed, verdict),
            ),
          );
        }

  -- ---- `explain --all`

  -- it is kept
  no_cause : rule_of terms before h ≡ None → cause_at terms before h ≡ []
  no_cause kept = ap (λ (o : Option ℕ). filter (is_cause terms)
      (cons_option (option_map (breach before h) o) [])) kept

  -- it offends, and follows or not
  by_following : (rule : ℕ) (late : Bool) → rule_of terms before h ≡ Some rule
      → late ≡ follows_at terms before h
      → cause_at terms before h ≡ (if not late then breach before h rule ∷ [] else [])
  by_following rule late offends is =
      let same : follows terms (notes_of before) h.note rule ≡ late =
      sym (is ∙ ap (λ (o : Option ℕ). unwrap_or
      (option_map (follows terms (notes_of before) h.note) o) false) offends) in
      ap (λ (o : Option ℕ). filter (is_cause terms) (cons_option (option_map (breach before h) o) []))
      offends
      ∙ ap (λ (b : Bool). if not b then breach before h rule ∷ [] else []) same

  module _ (account next : AllCauses) (stands : AllStands account terms before)
      (Fits : Rests → Type 0) (old : List ℕ) (late : Bool)
      (told : WasTold next.losses terms before h late) where
    -- of no cause nothing is said
    says_none : (Stands : Type 0) → cause_at terms before h ≡ [] → Stands
        → Says (all_run account.completeness) terms before h Fits old old Stands GoOn
    says_none Stands none on = record {
      said = [];
      added = sym (append-nil old);
      is = λ rests fits. subst (λ (bs : List Breach). SaysCauses rests terms bs []) (sym none)
          ([], tt, refl);
      goes = (refl, on);
    }

    -- an event that is kept says nothing
    pub all_kept : rule_of terms before h ≡ None → next.tally ≡ account.tally
        → IsTrail terms next.trail (heard_events (before ++ h ∷ []))
        → Says (all_run account.completeness) terms before h Fits old old
        (AllStands next terms (before ++ h ∷ [])) GoOn
    all_kept kept same trail =
        says_none (AllStands next terms (before ++ h ∷ [])) (no_cause kept) (record {
          lost = told.losses;
          tallied = kept_tally terms before h account.tally next.tally stands.tallied kept same;
          trail = trail;
        })

    -- it stands for one that offends
    offends_on : (rule : ℕ) (o : Offence) → rule_of terms before h ≡ Some rule
        → o ≡ offence_by terms (notes_of before) h.note rule
        → ((found : List Offence) → IsTally account.tally found
        → IsTally next.tally (found ++ o ∷ []))
        → IsTrail terms next.trail (heard_events (before ++ h ∷ []))
        → AllStands next terms (before ++ h ∷ [])
    offends_on rule o offends own counts trail = record {
      lost = told.losses;
      tallied = offence_tally terms before h account.tally next.tally stands.tallied rule o offends
          own counts;
      trail = trail;
    }

    -- one that follows from an earlier one says nothing
    pub all_late : (rule : ℕ) (o : Offence) → late ≡ true → rule_of terms before h ≡ Some rule
        → o ≡ offence_by terms (notes_of before) h.note rule
        → ((found : List Offence) → IsTally account.tally found
        → IsTally next.tally (found ++ o ∷ []))
        → IsTrail terms next.trail (heard_events (before ++ h ∷ []))
        → Says (all_run account.completeness) terms before h Fits old old
        (AllStands next terms (before ++ h ∷ [])) GoOn
    all_late rule o follows_is offends own counts trail =
        says_none (AllStands next terms (before ++ h ∷ []))
        (by_following rule late offends told.late_is
        ∙ ap (λ (b : Bool). if not b then breach before h rule ∷ [] else []) follows_is)
        (offends_on rule o offends own counts trail)

    -- a cause is explained
    pub all_told : (rule : ℕ) (o : Offence) (new : List ℕ) → late ≡ false
        → rule_of terms before h ≡ Some rule
        → o ≡ offence_by terms (notes_of before) h.note rule
        → ((found : List Offence) → IsTally account.tally found
        → IsTally next.tally (found ++ o ∷ []))
        → IsTrail terms next.trail (heard_events (before ++ h ∷ []))
        → TellsOf terms before h rule Fits old new
        → Says (all_run account.completeness) terms before h Fits old new
        (AllStands next terms (before ++ h ∷ [])) GoOn
    all_told rule o new follows_is offends own counts trail tells =
        let e = tells.e in
        let one : cause_at terms before h ≡ breach before h rule ∷ [] =
        by_following rule late offends told.late_is
        ∙ ap (λ (b : Bool). if not b then breach before h rule ∷ [] else []) follows_is in
        record {
          said = cause_lines e;
          added = tells.added;
          is = λ rests fits. subst (λ (bs : List Breach).
              SaysCauses rests terms bs (cause_lines e)) (sym one)
              (e ∷ [], (tells.explains rests fits, tt), sym (append-nil (cause_lines e)));
          goes = (refl, offends_on rule o offends own counts trail);
        }
