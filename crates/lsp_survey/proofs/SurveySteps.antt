-- The survey of a log whose events were all told, and the steps of the account that lists it.
use Rattle.std.proofs.Common.{ℕ, List, Option, refl, ◌≡◌, ◌<◌, ◌^◌, Bool, false, true, [], ◌∷◌}
use Rattle.std.proofs.Common.{◌++◌, length, Some, None, sym, ap, subst, ◌∙◌, append-nil}
use Rattle.std.proofs.Common.{append_assoc, arith, length-append}
use Rattle.std.specs.List.{cons_option}
use Rattle.std.specs.Prelude.{◌||◌, map, not, option_map, unwrap_or}
use Rattle.std.proofs.Math.Bool.{or-true}
use Rattle.std.proofs.lemmas.List.{length-map, map-append}
use Rattle.lsp_replay.specs.Common.{bad_log_of, Bounds, by_itself, Closes, Completeness, decoder_of}
use Rattle.lsp_replay.specs.Common.{ending, first_no, first_verdict, follows, Format, Heard}
use Rattle.lsp_replay.specs.Common.{heard_events, IsEnd, IsSurvey, IsTold, kept_of, log_terms}
use Rattle.lsp_replay.specs.Common.{no_by, Noted, notes_of, Offence, offence_at, offences, rule_of}
use Rattle.lsp_replay.specs.Common.{Summary, summary, Tail, Terms, verdict_view}
use Rattle.lsp_log.specs.Log.{Record}
use Rattle.lsp_replay.specs.LogEvents.{flaw_of}
use Rattle.lsp_replay.specs.Streams as streams
use Rattle.lsp_replay.specs.declared.log_events.End.{End}
use Rattle.lsp_replay.specs.declared.log_events.LogEvents.{LogEvents}
use Rattle.lsp_verdict.specs.Heard.{raws_of}
use Rattle.lsp_verdict.specs.Survey.{found_in}
use Rattle.lsp_verdict.specs.Verdict.{Verdict}
use Rattle.lsp_verdict.specs.Offences.{offence_by}
use Rattle.lsp_verdict.specs.declared.outcome.Outcome.TheVariants.{Judged}
use Rattle.lsp_verdict.specs.declared.verdict.Verdict as code
use Rattle.lsp_verdict.proofs.Offences.Offending.{nothing_listed}
use Rattle.lsp_verdict.proofs.Offences.Steps.{offences-push}
use Rattle.lsp_types.specs.declared.side.Side.TheVariants.{Editor, Server}
use Rattle.lsp_survey.specs.Lost.{follows_at, may_lose}
use Rattle.lsp_survey.specs.Reported.{IsTally, closing, count_line, is_every, lines_of}
use Rattle.lsp_survey.specs.Reported.{verdict_lines}
use Rattle.lsp_survey.specs.SessionEnds.{ends_held, ends_of}
use Rattle.lsp_survey.specs.SurveyRun.{event_said, has_lines, said_by, survey_run}
use Rattle.lsp_survey.specs.declared.offence_count.OffenceCount.{OffenceCount}
use Rattle.lsp_survey.specs.declared.survey.Options.{Options}
use Rattle.lsp_survey.proofs.SessionEnds.{ends_few, given_few, ends_fit}
use Rattle.lsp_survey.proofs.Reporting.{closing_is, first_none}

unfoldable pub survey_told : (completeness : Completeness) (limits : Bounds) (log : List ℕ)
    (format : Option Format) (records : List Record) (heard : List Heard) (tail : Tail)
    → IsTold limits log format records heard tail
    → IsSurvey completeness limits log (found_in completeness (log_terms limits format)
    (notes_of heard) (ending tail.fault tail.rests.editor tail.rests.server))
    (bad_log_of tail.fault) (summary (log_terms limits format) (heard_events heard))
survey_told completeness limits log format records heard tail told = record {
  format = format;
  records = records;
  log_fault = tail.fault;
  notes = notes_of heard;
  editor = tail.rests.editor;
  server = tail.rests.server;
  is_log = told.is_log;
  session = (raws_of heard, told.session.placed, told.session.noted);
  editor_rest = told.rests.editor;
  server_rest = told.rests.server;
  lists = refl;
  bad_is = refl;
  comes_to = refl;
}

-- ---- an event

module _ (terms : Terms) (before : List Heard) (h : Heard) where
  abbrev notes : List Noted
  notes = notes_of before

  -- what is found with it
  found_on : (rule : Option ℕ) → rule_of terms before h ≡ rule
      → offences terms (notes_of (before ++ h ∷ []))
      ≡ offences terms notes
      ++ cons_option (option_map (offence_by terms notes h.note) rule) []
  found_on rule is =
      ap (offences terms) (map-append (λ (x : Heard). x.note) before (h ∷ []))
      ∙ offences-push terms notes h.note
      ∙ ap (λ (o : Option ℕ). offences terms notes
      ++ cons_option (option_map (offence_by terms notes h.note) o) []) is

  -- what is said of it
  pub said_on : (options : Options) (rule : Option ℕ) → rule_of terms before h ≡ rule
      → said_by options before h (option_map (offence_by terms notes h.note) rule)
      ≡ event_said options terms before h
  said_on options rule is =
      ap (λ (o : Option ℕ). said_by options before h
      (option_map (offence_by terms notes h.note) o)) (sym is)

  -- the offence that is listed is the one that is defined
  pub offence_is : (rule : ℕ) (late : Bool) (o : Offence) → rule_of terms before h ≡ Some rule
      → late ≡ follows_at terms before h
      → o ≡ record { no = no_by (heard_events before) h.note.event rule; follows = late }
      → o ≡ offence_by terms notes h.note rule
  offence_is rule late o is late_is own =
      let same : late ≡ follows terms notes h.note rule =
      late_is ∙ ap (λ (r : Option ℕ). unwrap_or (option_map (follows terms notes h.note) r) false)
      is in
      own ∙ λ i. record {
        no = no_by (heard_events before) h.note.event rule;
        follows = same i;
      }

  -- its lines may want memory
  pub wants_on : (options : Options) (rule : Option ℕ) → rule_of terms before h ≡ rule
      → has_lines options (option_map (offence_by terms notes h.note) rule) ≡ true
      → (survey_run options).wants terms before h ≡ true
  wants_on options rule is has =
      let noted = may_lose h.raw (rule_of terms before h) in
      ap (λ (o : Option ℕ). noted || has_lines options
      (option_map (offence_by terms notes h.note) o)) is ∙ ap (λ b. noted || b) has ∙ or-true noted

  pub offence_wants : (options : Options) (rule : ℕ) (o : Offence)
      → rule_of terms before h ≡ Some rule → o ≡ offence_by terms notes h.note rule
      → (is_every options.listing || not o.follows) ≡ true
      → (survey_run options).wants terms before h ≡ true
  offence_wants options rule o is own has = wants_on options (Some rule) is
      (ap (λ (x : Offence). is_every options.listing || not x.follows) (sym own) ∙ has)

  -- the offences are counted with it
  module _ (old new : OffenceCount) (tally : IsTally old (offences terms notes)) where
    -- it is kept
    pub kept_tally : rule_of terms before h ≡ None → new ≡ old
        → IsTally new (offences terms (notes_of (before ++ h ∷ [])))
    kept_tally is same = rw same
        (subst (IsTally old) (sym (found_on None is ∙ append-nil (offences terms notes))) tally)

    -- it offends
    pub offence_tally : (rule : ℕ) (o : Offence) → rule_of terms before h ≡ Some rule
        → o ≡ offence_by terms notes h.note rule
        → ((found : List Offence) → IsTally old found → IsTally new (found ++ o ∷ []))
        → IsTally new (offences terms (notes_of (before ++ h ∷ [])))
    offence_tally rule o is own counts = subst (IsTally new)
        (ap (λ (x : Offence). offences terms notes ++ x ∷ []) own ∙ sym (found_on (Some rule) is))
        (counts (offences terms notes) tally)

-- ---- the end

-- where nothing is listed, no event offends
pub clean_by : (terms : Terms) (heard : List Heard) (ends : List Offence)
    → offences terms (notes_of heard) ++ ends ≡ [] → first_no terms (heard_events heard) ≡ None
clean_by terms heard ends none = (nothing_listed terms (notes_of heard)).0
    (first_none (offences terms (notes_of heard)) ends none)

module _ (options : Options) (terms : Terms) (heard : List Heard) (e : LogEvents) (end : End)
    (ends : List Offence)
    (are : ends ≡ map by_itself (ends_held options.completeness terms heard e end)) where
  abbrev found : List Offence
  found = offences terms (notes_of heard)

  abbrev s : Summary
  s = summary terms (heard_events heard)

  -- all that is listed can be counted
  pub few_listed : length heard < 2 ^ 63 → length (found ++ ends) < 2 ^ 64
  few_listed few =
      let events = heard_events heard in
      let kept = kept_of terms events in
      let editor = streams.ends_inside (decoder_of Editor e.streams) in
      let server = streams.ends_inside (decoder_of Server e.streams) in
      omega (
        arith,
        few,
        length-append found ends,
        ap length are,
        given_few (offence_at terms) [] (notes_of heard),
        length-map heard (λ (x : Heard). x.note),
        length-map (ends_held options.completeness terms heard e end) by_itself,
        ends_few (flaw_of end) events kept editor server options.completeness,
      )

  -- **what is said is what the run says, whatever end the log has that fits**
  pub end_closes : (given : code.Verdict) (bad : Option Verdict) (old mid next new : List ℕ)
      → bad ≡ bad_log_of (flaw_of end) → mid ≡ old ++ lines_of options.listing ends
      → (next ≡ mid ++ verdict_lines (found ++ ends) bad s)
      × (verdict_view given ≡ first_verdict (found ++ ends) bad s)
      → new ≡ next ++ count_line (found ++ ends)
      → Closes (survey_run options) terms heard (IsEnd e end heard) old new (Judged given)
  end_closes given bad old mid next new bad_is listed (first, verdict) last =
      let lines = lines_of options.listing ends in
      let own = verdict_lines (found ++ ends) bad s in
      let count = count_line (found ++ ends) in
      record {
        said = lines ++ (own ++ count);
        added = last ∙ ap (λ w. w ++ count) (first ∙ ap (λ w. w ++ own) listed)
            ∙ append_assoc (old ++ lines) own count ∙ append_assoc old lines (own ++ count);
        is = λ tail fits.
            let due = map by_itself (ends_of options.completeness terms heard tail) in
            let all : ends ≡ due =
            are ∙ ap (map by_itself) (ends_fit options.completeness terms heard e end tail fits) in
            let flaw : bad ≡ bad_log_of tail.fault = bad_is ∙ ap bad_log_of (sym fits.fault) in (
              ap (λ w. lines ++ w) (closing_is (found ++ ends) bad s)
                  ∙ ap (λ l. lines_of options.listing l ++ closing (found ++ l) bad s) all
                  ∙ ap (λ b. lines_of options.listing due ++ closing (found ++ due) b s) flaw,
              (
                given,
                refl,
                verdict ∙ ap (λ l. first_verdict (found ++ l) bad s) all
                    ∙ ap (λ b. first_verdict (found ++ due) b s) flaw,
              ),
            );
      }
