-- What is said of a log up to its verdict, and for that.
use Rattle.std.specs.Prelude.{◌≡◌, ◌||◌, ℕ, List, Option, Some, None, is_some}
use Rattle.lsp_replay.specs.Common.{completed, Completeness, ending, Event, Heard, heard_events}
use Rattle.lsp_replay.specs.Common.{IsJudged, Lines, no_of, report, Run, shown_line, Tail, Terms}
use Rattle.lsp_judge.specs.Checked.{line_for}
use Rattle.lsp_judge.specs.Objects.{object_for}
use Rattle.lsp_judge.specs.declared.judging.Form as code
use Rattle.lsp_judge.specs.declared.judging.Form.TheVariants as forms
use Rattle.lsp_verdict.specs.Verdict.{Verdict, verdict}
use Rattle.lsp_verdict.specs.declared.completeness.Completeness.TheVariants.{Ignored, Required}

-- what is said for a verdict: its report; or for one of several logs a line with its name, or an
-- object with it
pub data Form : Type 0 where
  a_report : Form
  a_line : List ℕ → Form
  an_object : List ℕ → Form

abbrev pub form_view : code.Form → Form
form_view forms.Report = a_report
form_view (forms.Line name) = a_line name.now
form_view (forms.Object file) = an_object file.now

-- what is asked: whether the session must be complete; by which lines the events before the
-- verdict's place are shown, or by none; and what is said for the verdict
pub record JudgingAsked : Type 0 where
  pub completeness : Completeness
  pub lines : Option Lines
  pub form : Form

-- what is due for a verdict
abbrev pub due_for : Form → Verdict → List ℕ
due_for a_report = report
due_for (a_line name) = line_for name
due_for (an_object file) = object_for file

-- ---- an event

-- what is due for this No, else its line
abbrev pub said_by : JudgingAsked → List Heard → Heard → Option Verdict → List ℕ
said_by asked before h None = shown_line asked.lines before h
said_by asked before h (Some v) = due_for asked.form v

-- ---- the end

abbrev pub completed_by : Completeness → List Event → Verdict → Verdict
completed_by Ignored events v = v
completed_by Required events v = completed events v

-- the verdict on these events, after which the log ends so
abbrev pub verdict_of : Completeness → Terms → List Heard → Tail → Verdict
verdict_of completeness terms heard tail =
    completed_by completeness (heard_events heard) (verdict terms (heard_events heard)
    (ending tail.fault tail.rests.editor tail.rests.server))

-- ---- the run

-- **the runs `check` and `show`, which stop at the first No**; of an event that is kept they want
-- memory only where its line is shown
abbrev pub judging_run : JudgingAsked → Run
judging_run asked = record {
  says = λ terms rests before h out. out ≡ said_by asked before h (no_of terms before h);
  wants = λ terms before h. is_some asked.lines || is_some (no_of terms before h);
  stops = λ terms before h. is_some (no_of terms before h);
  ends = λ terms before h outcome.
      (v : Verdict) × (no_of terms before h ≡ Some v) × IsJudged v outcome;
  closes = λ terms heard tail out.
      out ≡ due_for asked.form (verdict_of asked.completeness terms heard tail);
  finishes = λ terms heard tail. IsJudged (verdict_of asked.completeness terms heard tail);
}

-- that of `check`, whether or not the session must be complete
abbrev pub check_run : Completeness → Run
check_run completeness =
    judging_run (record { completeness = completeness; lines = None; form = a_report })

-- that of `show`, with these lines
abbrev pub show_run : Lines → Run
show_run lines =
    judging_run (record { completeness = Ignored; lines = Some lines; form = a_report })
