-- The verdict on a log that was told to its end, and what is due where a log is shown.
use Rattle.std.proofs.Common.{◌≡◌, refl, sym, ap, ◌∙◌, ◌+◌, ◌-◌, ℕ, Bool, true, false, List, ◌∷◌}
use Rattle.std.proofs.Common.{◌++◌, length, take, Option, Some, None, arith, [], subst}
use Rattle.std.specs.Prelude.{unwrap_or, option_map}
use Rattle.std.specs.Option.{option_or}
use Rattle.std.proofs.Math.Seq.{take-length, take-append_seam}
use Rattle.std.specs.List.{AllZip}
use Rattle.lsp_verdict.specs.Shown.{show_of, kept}
use Rattle.lsp_verdict.proofs.Logs.{same_events, one_verdict, some_verdict}
use Rattle.lsp_replay.specs.Common.{as_given, bad_log_of, Bounds, completed, Completeness, Ending}
use Rattle.lsp_replay.specs.Common.{ending, Event, events_of, first_no, Format, Heard, heard_events}
use Rattle.lsp_replay.specs.Common.{IsNoted, IsTold, IsVerdict, IsVerdictBy, log_terms, LogCode}
use Rattle.lsp_replay.specs.Common.{no_by, no_next, no_of, Noted, notes_of, offence, Reads, rest_of}
use Rattle.lsp_replay.specs.Common.{rule_of, Summary, summary, Tail, Terms, Who, whose, yes}
use Rattle.lsp_verdict.specs.Verdict.{Verdict, verdict}
use Rattle.lsp_verdict.specs.Heard.{raws_of}
use Rattle.lsp_verdict.specs.Placed.{Raw}
use Rattle.lsp_verdict.specs.declared.completeness.Completeness.TheVariants.{Ignored, Required}
use Rattle.lsp_verdict.proofs.Completing.{completed_other}
use Rattle.lsp_verdict.proofs.Finding.{map_some}
use Rattle.lsp_verdict.proofs.Verdicts.{no_found}
use Rattle.lsp_log.specs.Log.{Record}
use Rattle.lsp_replay.proofs.AllHeard.{no_is}
use Rattle.lsp_replay.proofs.Seeing.{events-join}
use Rattle.lsp_judge.specs.ShownLog.{OneShown, SomeShown}
use Rattle.lsp_judge.specs.Standing.{verdict_in, IsNoAt}
use Rattle.lsp_judge.specs.declared.ruling.Ruling.{Ruling}
use Rattle.lsp_judge.specs.JudgingRun.{verdict_of}

-- ---- what is due where a log is shown

pub some_shown : SomeShown
some_shown lines limits log =
    let whole = some_verdict limits log in
    (whole.0, show_of lines whole.0 whole.1.final.events, (whole.1, refl))

pub one_shown : OneShown
one_shown lines limits sizes log v w out other (p, is) (q, at) =
    let same : v ≡ w = one_verdict limits sizes log v w p q in (
      same,
      is ∙ ap (show_of lines v) (same_events limits sizes log v w p q)
          ∙ ap (λ x. show_of lines x q.final.events) same ∙ sym at,
    )

-- ---- the events before the place of the verdict

-- an event offends: those before it
pub kept_no : (events : List Event) (e : Event) (after : List Event) (rule : ℕ)
    → kept (no_by events e rule) (events ++ e ∷ after) ≡ events
kept_no events e after rule =
    let n : length events + 1 - 1 ≡ length events = omega arith in
    ap (λ k. take k (events ++ e ∷ after)) n ∙ take-append_seam events (e ∷ after)

take_before : (events : List Event) → take (length events + 1 - 1) events ≡ events
take_before events =
    let n : length events + 1 - 1 ≡ length events = omega arith in
    ap (λ k. take k events) n ∙ take-length events

-- none does: all of them
pub kept_all : (terms : Terms) (events : List Event) (flaw : Option (ℕ × LogCode))
    (editor server : Bool) → kept (unwrap_or
    (option_or (bad_log_of flaw) (rest_of events editor server)) (yes (summary terms events)))
    events ≡ events
kept_all terms events None true server = take_before events
kept_all terms events None false true = take_before events
kept_all terms events _ _ _ = take-length events

-- ---- the No at an event that offends

-- the No at an event of this kind
pub ruled : (terms : Terms) (events : List Event) (IsSuch : Event → Type 0) (e : Event) (rule : ℕ)
    (by : Who) (r : Ruling) → IsSuch e → offence terms events e ≡ Some rule → whose e ≡ by
    → verdict_in r ≡ Some (as_given (no_next rule by events)) → IsNoAt terms events IsSuch r
ruled terms events IsSuch e rule by r such breaks is told = rw told (
  e,
  such,
  (
    no_by events e rule,
    ap (option_map (no_by events e)) breaks,
    ap (λ w. as_given (no_next rule w events)) (sym is),
  ),
)

-- ---- the verdict, and the events before its place

-- **this is the verdict on the log, and these are the events before its place**
abbrev pub EndsAt : Bounds → List ℕ → List Event → Verdict → Type 0
EndsAt limits log front v = (whole : IsVerdict limits log v) × (kept v whole.final.events ≡ front)

-- **where the session must be complete, this is the verdict on the log**, and these are the
-- events before the place of the verdict that it has else
abbrev pub EndsBy : Completeness → Bounds → List ℕ → List Event → Verdict → Type 0
EndsBy Ignored limits log front v = EndsAt limits log front v
EndsBy Required limits log front v =
    (plain : Verdict) × (ends : EndsAt limits log front plain)
    × (completed ends.0.final.events plain ≡ v)

pub ends_verdict : (completeness : Completeness) (limits : Bounds) (log : List ℕ)
    (front : List Event) (v : Verdict) → EndsBy completeness limits log front v
    → IsVerdictBy completeness limits log v
ends_verdict Ignored limits log front v ends = ends.0
ends_verdict Required limits log front v ends = record {
  plain = ends.0;
  whole = ends.1.0;
  says = ends.2;
}

-- ---- a log that was told to its end

pub read_notes : (raws : List Raw) (notes : List Noted) → AllZip IsNoted raws notes
    → AllZip Reads raws (events_of notes)
read_notes [] [] all = tt
read_notes (r ∷ raws) (n ∷ notes) all = (all.0.0, read_notes raws notes all.1)
read_notes _ _ all = absurd all

unfoldable pub told_verdict : (limits : Bounds) (log : List ℕ) (format : Option Format)
    (records : List Record) (heard : List Heard) (tail : Tail)
    → IsTold limits log format records heard tail
    → IsVerdict limits log (verdict (log_terms limits format) (heard_events heard)
    (ending tail.fault tail.rests.editor tail.rests.server))
told_verdict limits log format records heard tail told = record {
  format = format;
  records = records;
  fault = tail.fault;
  is_log = told.is_log;
  final = record {
    events = heard_events heard;
    editor = tail.rests.editor;
    server = tail.rests.server;
    session = (
      raws_of heard,
      told.session.placed,
      read_notes (raws_of heard) (notes_of heard) told.session.noted,
    );
    editor_rest = told.rests.editor;
    server_rest = told.rests.server;
    says = refl;
  };
}

module _ (limits : Bounds) (log : List ℕ) (format : Option Format) (records : List Record)
    (tail : Tail) where
  abbrev terms : Terms
  terms = log_terms limits format

  abbrev end : Ending
  end = ending tail.fault tail.rests.editor tail.rests.server

  -- the verdict on these events, of which this is the first No
  abbrev by_first : List Event → Option Verdict → Verdict
  by_first events o = unwrap_or (option_or o (option_or (bad_log_of end.log_fault)
      (rest_of events end.editor_rest end.server_rest))) (yes (summary terms events))

  -- no event offends
  module _ (heard : List Heard) (told : IsTold limits log format records heard tail)
      (clean : first_no terms (heard_events heard) ≡ None) where
    ended_at : EndsAt limits log (heard_events heard) (verdict terms (heard_events heard) end)
    unfolding told_verdict
    ended_at = (
      told_verdict limits log format records heard tail told,
      ap (λ v. kept v (heard_events heard)) (ap (by_first (heard_events heard)) clean)
          ∙ kept_all terms (heard_events heard) end.log_fault end.editor_rest end.server_rest,
    )

    pub told_end : (completeness : Completeness) → EndsBy completeness limits log
        (heard_events heard) (verdict_of completeness terms heard tail)
    unfolding told_verdict ended_at
    told_end Ignored = ended_at
    told_end Required = (verdict terms (heard_events heard) end, ended_at, refl)

  -- this one is the first that does
  module _ (first later : List Heard) (here : Heard)
      (told : IsTold limits log format records (first ++ here ∷ later) tail)
      (clean : first_no terms (heard_events first) ≡ None) (v : Verdict)
      (is : no_of terms first here ≡ Some v) where
    abbrev events : List Event
    events = heard_events (first ++ here ∷ later)

    events_are : events ≡ heard_events first ++ here.note.event ∷ heard_events later
    events_are = events-join first (here ∷ later)

    named : verdict terms events end ≡ v
    named = ap (by_first events) (ap (first_no terms) events_are
        ∙ no_found terms [] (heard_events first) (heard_events later) here.note.event v clean
        (no_is terms first here clean ∙ is))

    rule : (r : ℕ) × (rule_of terms first here ≡ Some r)
        × (no_by (heard_events first) here.note.event r ≡ v)
    rule = map_some (no_by (heard_events first) here.note.event) (rule_of terms first here) v is

    told_at : EndsAt limits log (heard_events first) v
    unfolding told_verdict
    told_at = subst (EndsAt limits log (heard_events first)) named (
      told_verdict limits log format records (first ++ here ∷ later) tail told,
      (λ i. kept ((named ∙ sym rule.2) i) (events_are i))
          ∙ kept_no (heard_events first) here.note.event (heard_events later) rule.0,
    )

    -- whether or not the session must be complete
    pub told_no : (completeness : Completeness)
        → EndsBy completeness limits log (heard_events first) v
    told_no Ignored = told_at
    told_no Required = (v, told_at, completed_other told_at.0.final.events v other)
      where
        other : (s : Summary) → v ≡ yes s → ⊥
        other s same =
            let no = rule.2 ∙ same in
            absurd (cc no)
