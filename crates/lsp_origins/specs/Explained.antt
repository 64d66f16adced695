-- What is said about a log that offends: about its first offence, and about all that is wrong
-- with it.
use Rattle.std.specs.Prelude.{◌≡◌, ℕ, List, [], ◌∷◌, ◌++◌, ◌==◌, if◌then◌else◌, Option}
use Rattle.std.specs.Prelude.{Some, Bool, not, None}
use Rattle.std.specs.List.{flat_map}
use Rattle.lsp_types.specs.declared.rules.TheConstants as rules
use Rattle.lsp_trail.specs.Common.{bad_log, Breach, breach, End, EventPlace, events_of}
use Rattle.lsp_trail.specs.Common.{first_verdict, flaw_of, Heard, heard_events, kept_of, LogEvents}
use Rattle.lsp_trail.specs.Common.{no, no_by, notes_of, Numbered, Offence, Raw, report, rest_of}
use Rattle.lsp_trail.specs.Common.{Rests, Summary, Terms, Verdict, yes}
use Rattle.lsp_verdict.specs.Offences.{follows}
use Rattle.lsp_verdict.specs.Survey.{bad_lines, found_line}
use Rattle.lsp_verdict.specs.declared.offence.Offence as code
use Rattle.lsp_facts.specs.EventFacts.{AreFacts, header_facts, side_by, flaw_facts}
use Rattle.lsp_facts.specs.Fact.{Fact, detail_lines, event_line, end_event, usual, usual_inside}
use Rattle.lsp_facts.specs.Fact.{usual_of}
use Rattle.lsp_origins.specs.Traced.{AreTraced, earlier_at, lack_traced, traced}
use Rattle.lsp_log.specs.declared.fault.LogCode.{LogCode}
use Rattle.lsp_log.specs.Reader.{shown_by}

-- ---- what is said about it

-- the place of the event of an offence, as it is given
abbrev pub place_in : code.Offence → EventPlace
place_in o = record { event = o.event; who = o.who; number = o.number }

-- the line of the event of a No
abbrev pub event_of : Verdict → Raw → List ℕ
event_of (no rule by count event) raw = event_line event by count raw
event_of _ raw = []

-- the No, the line of its event, the facts, with the events that brought it, and whose fault it
-- usually is
pub record Explained : Type 0 where
  pub no : Verdict
  pub event : List ℕ
  pub facts : List Fact
  pub usually : List ℕ

pub record Explains (rests : Rests) (terms : Terms) (b : Breach) (e : Explained) : Type 0 where
  pub no_is : e.no ≡ no_by (events_of (notes_of b.before)) b.here.note.event b.rule
  pub event_is : e.event ≡ event_of e.no b.here.raw
  pub facts_are : AreTraced
      (AreFacts rests (events_of (notes_of b.before)) terms
      (kept_of terms (events_of (notes_of b.before))) b.here.raw b.here.note.event b.rule)
      (earlier_at terms (events_of (notes_of b.before)) b.here.note.event)
      (traced terms (events_of (notes_of b.before)) b.here.note.event b.rule) e.facts
  pub usually_is : e.usually ≡ usual_of e.no

-- ---- how a session ends

-- the place of a No at which no event stands
abbrev pub end_line : Verdict → List ℕ
end_line (no rule by count event) = end_event event by
end_line _ = []

-- 107 says how the frame begins that is not whole, 303 and 407 what waits after the kept messages
abbrev pub end_facts : Rests → List Numbered → Verdict → List Fact
end_facts rests said (no rule by count event) =
    if rule == rules.STREAM_ENDS_INSIDE_FRAME
    then header_facts (rest_of rests (side_by by)) else lack_traced said
end_facts rests said _ = []

-- whose fault it is that a side's bytes end inside a frame shows in what there is of it
abbrev pub end_usually : Rests → Verdict → List ℕ
end_usually rests (no rule by count event) =
    if rule == rules.STREAM_ENDS_INSIDE_FRAME
    then usual_inside (rest_of rests (side_by by)) by else usual rule by
end_usually rests (yes s) = usual_of (yes s)
end_usually rests (bad_log at code) = usual_of (bad_log at code)

abbrev pub end_explained : Rests → List Numbered → Verdict → Explained
end_explained rests said v = record {
  no = v;
  event = end_line v;
  facts = end_facts rests said v;
  usually = end_usually rests v;
}

-- ---- the first offence: the report

abbrev pub said_of : Explained → List ℕ
said_of e = e.event ++ detail_lines e.facts e.usually

-- what is said about the fault of a log
abbrev pub flaw_lines : Option Verdict → List Fact → List ℕ
flaw_lines (Some (bad_log at code)) flaw = detail_lines flaw (usual_of (bad_log at code))
flaw_lines _ flaw = []

-- **the explanation**: where nothing offends the report, and of a bad log what is said about its
-- fault; else of the first offence the report of its No and what is said about it
abbrev pub explanation : List Offence → List Explained → Option Verdict → List Fact → Summary
    → List ℕ
explanation [] explained bad flaw s = report (first_verdict [] bad s) ++ flaw_lines bad flaw
explanation (o ∷ found) explained bad flaw s = report o.no ++ flat_map said_of explained

-- ---- all that is wrong

-- the offence follows from no earlier one
abbrev pub is_cause : Terms → Breach → Bool
is_cause terms b = not (follows terms (notes_of b.before) b.here.note b.rule)

-- the two lines of a No, and what is said about it
abbrev pub cause_lines : Explained → List ℕ
cause_lines e = report e.no ++ said_of e

-- what follows the offences: the fault of the log and what is said about it, and how many
-- offences there are; where there is none, the report
abbrev pub all_closing : List Offence → Option Verdict → List Fact → Summary → List ℕ
all_closing [] bad flaw s = report (first_verdict [] bad s) ++ flaw_lines bad flaw
all_closing (o ∷ found) bad flaw s = bad_lines bad ++ flaw_lines bad flaw ++ found_line (o ∷ found)

-- ---- as it is written

-- it is said what the event is that offends by this rule, whatever rests the log has that fit
pub record TellsOf (terms : Terms) (before : List Heard) (h : Heard) (rule : ℕ)
    (Fits : Rests → Type 0) (old new : List ℕ) : Type 0 where
  pub e : Explained
  pub no_is : e.no ≡ no_by (heard_events before) h.note.event rule
  pub explains : (rests : Rests) → Fits rests → Explains rests terms (breach before h rule) e
  pub added : new ≡ old ++ cause_lines e

-- ---- the end, as the reader of the log tells it

-- the facts on a fault of the log, which comes after so many of its bytes, where this line is
abbrev pub flaw_at : ℕ → List ℕ → Option (ℕ × LogCode) → List Fact
flaw_at place line None = []
flaw_at place line (Some (number, code)) = flaw_facts number place line

-- the bytes of both sides after their last whole frames
abbrev pub rests_held : LogEvents → Rests
rests_held e = record {
  editor = e.streams.editor.rest;
  server = e.streams.server.rest;
  editor_behind = [];
  server_behind = [];
}

-- the facts on a fault
abbrev pub flaw_held : LogEvents → End → List Fact
flaw_held e end = flaw_at e.log.place (shown_by e.log) (flaw_of end)
