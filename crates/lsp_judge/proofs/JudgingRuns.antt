-- What `check` and `show` answer and write follows from what a pass does.
use Rattle.std.specs.Prelude.{is_some, unwrap_or}
use Rattle.std.specs.List.{cons_option, flat_map}
use Rattle.std.proofs.Common.{◌≡◌, ◌⊎◌, ℕ, List, [], ◌∷◌, ◌++◌, Option, Some, None, Result, Ok}
use Rattle.std.proofs.Common.{Err, inl, inr, refl, sym, ap, subst, ◌∙◌, append_assoc, append-nil}
use Rattle.lsp_replay.specs.Common.{Bounds, Completeness, each_from, EndsAfter, Event, first_no}
use Rattle.lsp_replay.specs.Common.{Format, Heard, heard_events, IsInRange, IsJudged, IsPassed}
use Rattle.lsp_replay.specs.Common.{IsTold, IsVerdict, IsVerdictBy, Lines, log_terms, no_of, Ports}
use Rattle.lsp_replay.specs.Common.{report, Rests, RunFault, shown_line, StopsIn, Tail, Terms, Took}
use Rattle.lsp_replay.specs.Common.{verdict_view}
use Rattle.lsp_log.specs.Log.{Record}
use Rattle.lsp_judge.specs.Checked.{IsCut, WritesVerdict}
use Rattle.lsp_judge.specs.JudgingRun.{Form, JudgingAsked, a_report, due_for, judging_run, said_by}
use Rattle.lsp_judge.specs.JudgingRun.{verdict_of}
use Rattle.lsp_judge.specs.ShownLog.{BeginsShown, IsShown, Showed}
use Rattle.lsp_judge.proofs.Told.{EndsBy, ends_verdict, told_end, told_no}
use Rattle.lsp_replay.specs.Run.{DueAt, Passes, HasSaid}
use Rattle.lsp_replay.specs.Run.{SaysAll}
use Rattle.lsp_replay.proofs.AllHeard.{first_after}
use Rattle.lsp_replay.proofs.FirstEvents.{says_more}
use Rattle.lsp_replay.proofs.JudgedRuns.{IsDueOf, judged_run}
use Rattle.lsp_replay.proofs.PassEnds.{IsQuiet, cut_whole, read_here, silent_after}
use Rattle.lsp_replay.proofs.Seeing.{events-push}
use Rattle.lsp_replay.proofs.TextRuns.{no_none}
use Rattle.lsp_verdict.specs.Runs.{Judges}
use Rattle.lsp_verdict.specs.Shown.{line_at}
use Rattle.lsp_verdict.specs.Verdict.{Verdict}
use Rattle.lsp_verdict.specs.declared.completeness.Completeness.TheVariants.{Ignored}
use Rattle.lsp_verdict.specs.declared.outcome.Outcome.{Outcome}
use Rattle.lsp_verdict.specs.declared.outcome.RunFault.TheVariants as faults
use Rattle.lsp_verdict.specs.declared.verdict.Verdict as code
use Rattle.lsp_verdict.proofs.RunsJudged.{read_map, plain_by}

-- ---- what is said before the verdict

-- the lines of these events after those
abbrev pub shown_from : Option Lines → List Event → List Event → List ℕ
shown_from None before events = []
shown_from (Some lines) before events =
    flat_map (λ shown. shown) (each_from (line_at lines) before events)

nothing_shown : (o : Option Lines) (before : List Event) → [] ≡ shown_from o before []
nothing_shown None before = refl
nothing_shown (Some lines) before = refl

one_shown : (o : Option Lines) (before hs : List Heard) (h : Heard)
    → shown_line o before h ++ shown_from o (heard_events (before ++ h ∷ [])) (heard_events hs)
    ≡ shown_from o (heard_events before) (heard_events (h ∷ hs))
one_shown None before hs h = refl
one_shown (Some lines) before hs h =
    ap (λ es. shown_line (Some lines) before h
    ++ flat_map (λ shown. shown) (each_from (line_at lines) es (heard_events hs)))
    (events-push before h)
    ∙ by_line (line_at lines (heard_events before) h.note.event)
    (each_from (line_at lines) (heard_events before ++ h.note.event ∷ []) (heard_events hs))
  where
    by_line : (o : Option (List ℕ)) (rest : List (List ℕ))
        → unwrap_or o [] ++ flat_map (λ shown. shown) rest
        ≡ flat_map (λ shown. shown) (cons_option o rest)
    by_line None rest = refl
    by_line (Some line) rest = refl

-- this is the verdict on the log, and what is written for it
pub record Gives (asked : JudgingAsked) (limits : Bounds) (log out : List ℕ) (v : Verdict) : Type 0
  where
    pub front : List Event
    pub ends : EndsBy asked.completeness limits log front v
    pub is : out ≡ shown_from asked.lines [] front ++ due_for asked.form v

module _ (asked : JudgingAsked) where
  -- no event offends at which the run does not stop
  clean_after : (terms : Terms) (rests : Rests) (before hs : List Heard) (out : List ℕ)
      → SaysAll (judging_run asked) terms rests before hs out
      → first_no terms (heard_events before) ≡ None
      → first_no terms (heard_events (before ++ hs)) ≡ None
  clean_after terms rests before [] out is clean =
      subst (λ (w : List Heard). first_no terms (heard_events w) ≡ None)
      (sym (append-nil before)) clean
  clean_after terms rests before (h ∷ hs) out (said, left, is, own, goes, later) clean =
      subst (λ (w : List Heard). first_no terms (heard_events w) ≡ None)
      (append_assoc before (h ∷ []) hs)
      (clean_after terms rests (before ++ h ∷ []) hs left later
      (first_after terms before h clean ∙ no_none (no_of terms before h) goes))

  said_shown : (terms : Terms) (rests : Rests) (before hs : List Heard) (out : List ℕ)
      → SaysAll (judging_run asked) terms rests before hs out
      → out ≡ shown_from asked.lines (heard_events before) (heard_events hs)
  said_shown terms rests before [] out is = is ∙ nothing_shown asked.lines (heard_events before)
  said_shown terms rests before (h ∷ hs) out (said, left, is, own, goes, later) =
      is ∙ ap (λ w. w ++ left)
      (own ∙ ap (said_by asked before h) (no_none (no_of terms before h) goes))
      ∙ ap (λ w. shown_line asked.lines before h ++ w)
      (said_shown terms rests (before ++ h ∷ []) hs left later)
      ∙ one_shown asked.lines before hs h

  -- ---- a log

  module _ (limits : Bounds) (log : List ℕ) (format : Option Format) (records : List Record)
      (tail : Tail) where
    abbrev terms : Terms
    terms = log_terms limits format

    -- these events were told, of which none offends, and here one does
    gives_no : (first later : List Heard) (here : Heard) (front : List ℕ) (v : Verdict)
        → IsTold limits log format records (first ++ here ∷ later) tail
        → SaysAll (judging_run asked) terms tail.rests [] first front
        → no_of terms first here ≡ Some v
        → Gives asked limits log (front ++ due_for asked.form v) v
    gives_no first later here front v told said is = record {
      front = heard_events first;
      ends = told_no limits log format records tail first later here told
          (clean_after terms tail.rests [] first front said refl) v is asked.completeness;
      is = ap (λ w. w ++ due_for asked.form v) (said_shown terms tail.rests [] first front said);
    }

    -- or the log ends
    gives_end : (heard : List Heard) (front : List ℕ) → IsTold limits log format records heard tail
        → SaysAll (judging_run asked) terms tail.rests [] heard front
        → Gives asked limits log
        (front ++ due_for asked.form (verdict_of asked.completeness terms heard tail))
        (verdict_of asked.completeness terms heard tail)
    gives_end heard front told said = record {
      front = heard_events heard;
      ends = told_end limits log format records tail heard told
          (clean_after terms tail.rests [] heard front said refl) asked.completeness;
      is = ap (λ w. w ++ due_for asked.form (verdict_of asked.completeness terms heard tail))
          (said_shown terms tail.rests [] heard front said);
    }

    -- of some verdict this begins what is written
    goes_on : (first later : List Heard) (front : List ℕ)
        → IsTold limits log format records (first ++ later) tail
        → SaysAll (judging_run asked) terms tail.rests [] first front
        → (v : Verdict) × (rest : List ℕ) × Gives asked limits log (front ++ rest) v
    goes_on first [] front told said =
        let v = verdict_of asked.completeness terms first tail in (
          v,
          due_for asked.form v,
          gives_end first front (subst (λ (w : List Heard).
              IsTold limits log format records w tail) (append-nil first) told) said,
        )
    goes_on first (h ∷ later) front told said =
        by_no (λ none. goes_on (first ++ h ∷ []) later (front ++ shown_line asked.lines first h)
        (subst (λ (w : List Heard). IsTold limits log format records w tail)
        (sym (append_assoc first (h ∷ []) later)) told)
        (says_more (judging_run asked) terms tail.rests [] first front h
        (shown_line asked.lines first h) said (sym (ap (said_by asked first h) none))
        (ap is_some none))) (no_of terms first h) refl
      where
        by_no : (no_of terms first h ≡ None → (v : Verdict) × (rest : List ℕ)
            × Gives asked limits log ((front ++ shown_line asked.lines first h) ++ rest) v)
            → (o : Option Verdict) → no_of terms first h ≡ o
            → (v : Verdict) × (rest : List ℕ) × Gives asked limits log (front ++ rest) v
        by_no on (Some v) is = (v, due_for asked.form v, gives_no first later h front v told said is)
        by_no on None is =
            let (v, rest, given) = on is in (
              v,
              shown_line asked.lines first h ++ rest,
              subst (λ out. Gives asked limits log out v)
                  (append_assoc front (shown_line asked.lines first h) rest) given,
            )

  pub gives : (limits : Bounds) (log out : List ℕ) (outcome : Outcome)
      → IsPassed (judging_run asked) limits log out outcome
      → (v : Verdict) × Gives asked limits log out v × IsJudged v outcome
  gives limits log out outcome p = by_end p.is
    where
      by_end : StopsIn (judging_run asked) (log_terms limits p.format) p.tail.rests p.heard out
          outcome
          ⊎ EndsAfter (judging_run asked) (log_terms limits p.format) p.tail p.heard out outcome
          → (v : Verdict) × Gives asked limits log out v × IsJudged v outcome
      by_end (inl s) =
          let (v, is, judged) = s.stop.ends in (
            v,
            subst (λ w. Gives asked limits log w v) (sym (s.is ∙ ap (λ w. s.front ++ w)
                (s.stop.says ∙ ap (said_by asked s.first s.here) is)))
                (gives_no limits log p.format p.records p.tail s.first s.later s.here s.front v
                (subst (λ (w : List Heard). IsTold limits log p.format p.records w p.tail) s.are
                p.told) s.said is),
            judged,
          )
      by_end (inr e) =
          let v = verdict_of asked.completeness (log_terms limits p.format) p.heard p.tail in (
            v,
            subst (λ w. Gives asked limits log w v)
                (sym (e.is ∙ ap (λ w. e.front ++ w) e.closes.0))
                (gives_end limits log p.format p.records p.tail p.heard e.front p.told e.said),
            e.closes.1,
          )

-- ---- `check`

module _ (completeness : Completeness) (form : Form) (limits : Bounds)
    (sizes : IsInRange limits) (io : Ports) where
  abbrev checks : JudgingAsked
  checks = record { completeness = completeness; lines = None; form = form }

  quiet : IsQuiet (judging_run checks)
  quiet terms rests before h said is goes =
      is ∙ ap (said_by checks before h) (no_none (no_of terms before h) goes)

  abbrev IsDue : List ℕ → Verdict → List ℕ → Type 0
  IsDue log v out = IsVerdictBy completeness limits log v × (out ≡ due_for form v)

  passed_due : (log out : List ℕ) (outcome : Outcome)
      → IsPassed (judging_run checks) limits log out outcome → IsDueOf (IsDue log) out outcome
  passed_due log out outcome p =
      let (v, g, (given, same, named)) = gives checks limits log out outcome p in (
        given,
        same,
        subst (λ (w : Verdict). IsDue log w out) (sym named)
            (ends_verdict completeness limits log g.front v g.ends, g.is),
      )

  judges : (result : Result Outcome RunFault) → Passes (judging_run checks) limits
      io.source_before io.source_after io.sink_before io.sink_after result
      → Judges limits io (IsVerdictBy completeness limits) IsDue (λ log front. Unit {0}) result
  judges = judged_run (judging_run checks) limits sizes (IsVerdictBy completeness limits) IsDue
      (λ log front. Unit {0}) (λ log v out is. is.0)
      (λ log s says. plain_by completeness limits log s says) passed_due
      (λ log front left h. tt) (λ log front left v is. tt) io

  -- after a write fault a prefix of what is due for one verdict is written
  cut_short : (result : Result Outcome RunFault) → Passes (judging_run checks) limits
      io.source_before io.source_after io.sink_before io.sink_after result
      → result ≡ Err faults.Write → IsCut completeness limits (due_for form) io
  cut_short (Ok outcome) a e = absurd (cc e)
  cut_short (Err fault) p e =
      let same : fault ≡ faults.Write = cc e in
      let (outcome, left, whole) = cut_whole (judging_run checks) quiet limits io.source_before
      io.source_after p.out (subst (λ (f : RunFault). DueAt f (judging_run checks) limits
      io.source_before io.source_after p.out) same p.due) in
      let here = passed_due whole.bytes (p.out ++ left) outcome (read_here limits _ _
      (λ log. IsPassed (judging_run checks) limits log (p.out ++ left) outcome) whole) in
      record {
        given = verdict_view here.0;
        says = read_map limits io.source_before io.source_after
            (λ log. IsPassed (judging_run checks) limits log (p.out ++ left) outcome)
            (λ log. IsVerdictBy completeness limits log (verdict_view here.0))
            (λ log q. let r = passed_due log (p.out ++ left) outcome q in
            let one : r.0 ≡ here.0 = cc (sym r.1 ∙ here.1) in
            subst (λ (w : code.Verdict). IsVerdictBy completeness limits log (verdict_view w)) one
            r.2.0) whole;
        writes = (p.out, left, sym here.2.1, p.took);
      }

  -- **what `check` answers and writes**
  pub writes_verdict : (result : Result Outcome RunFault) → Passes (judging_run checks) limits
      io.source_before io.source_after io.sink_before io.sink_after result
      → WritesVerdict completeness limits (due_for form) io result
  writes_verdict result passes =
      let j = judges result passes in
      record {
        judged = j.judged;
        verdict = j.verdict;
        written = λ v e. let (out, took, due) = j.written v e in
            subst (Took io.sink_before io.sink_after) (read_here limits _ _
            (λ log. IsDue log (verdict_view v) out) due).1 took;
        ended = j.ended;
        read_fault = silent_after (judging_run checks) quiet limits _ _ _ _ result faults.Read
            (λ e. cc) passes;
        memory = silent_after (judging_run checks) quiet limits _ _ _ _ result faults.Memory
            (λ e. cc) passes;
        write_fault = cut_short result passes;
        counts = j.counts;
      }

-- ---- `show`

module _ (lines : Lines) (limits : Bounds) (sizes : IsInRange limits) (io : Ports) where
  abbrev shows : JudgingAsked
  shows = record { completeness = Ignored; lines = Some lines; form = a_report }

  shown_of : (log out : List ℕ) (v : Verdict) → Gives shows limits log out v
      → IsShown lines limits log v out
  shown_of log out v g = (
    g.ends.0,
    g.is ∙ ap (λ es. shown_from (Some lines) [] es ++ report v) (sym g.ends.1),
  )

  -- what was said of the first events begins what is due
  said_begins : (log front left : List ℕ) → HasSaid (judging_run shows) limits log (front ++ left)
      → BeginsShown lines limits log front
  said_begins log front left h =
      let (v, rest, g) = goes_on shows limits log h.format h.records h.tail h.first h.later
      (front ++ left) h.told h.says in (
        v,
        left ++ rest,
        subst (IsShown lines limits log v) (append_assoc front left rest)
            (shown_of log ((front ++ left) ++ rest) v g),
      )

  passed_shown : (log out : List ℕ) (outcome : Outcome)
      → IsPassed (judging_run shows) limits log out outcome
      → IsDueOf (IsShown lines limits log) out outcome
  passed_shown log out outcome p =
      let (v, g, (given, same, named)) = gives shows limits log out outcome p in (
        given,
        same,
        subst (λ (w : Verdict). IsShown lines limits log w out) (sym named) (shown_of log out v g),
      )

  -- **what `show` answers and writes**
  pub showed : (result : Result Outcome RunFault) → Passes (judging_run shows) limits
      io.source_before io.source_after io.sink_before io.sink_after result
      → Showed lines limits io result
  showed = judged_run (judging_run shows) limits sizes (IsVerdict limits) (IsShown lines limits)
      (BeginsShown lines limits) (λ log v out shown. shown.0) (λ log s says. says) passed_shown
      said_begins (λ log front left v shown. (v, left, shown)) io
