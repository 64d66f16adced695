-- What is said where all that is wrong with a log is listed.
use Rattle.std.specs.Prelude.{◌≡◌, ◌||◌, List, [], ◌∷◌, ◌++◌, ℕ, map, Bool, false, Option, Some}
use Rattle.std.specs.Prelude.{None, is_some, not}
use Rattle.lsp_replay.specs.Common.{bad_log_of, by_itself, Completeness, Every, Heard, heard_events}
use Rattle.lsp_replay.specs.Common.{IsJudged, Lines, Listing, LogCode, notes_of, Offence}
use Rattle.lsp_replay.specs.Common.{offence_at, offences, rule_of, Run, shown_line, summary, Terms}
use Rattle.lsp_survey.specs.Lost.{AreLosses, may_lose}
use Rattle.lsp_survey.specs.Reported.{IsTally, closing, is_every, lines_of}
use Rattle.lsp_survey.specs.SessionEnds.{all_found, all_verdict, ends_of}
use Rattle.lsp_survey.specs.declared.survey.Options.{Options}
use Rattle.lsp_survey.specs.declared.survey.Survey.{Survey}
use Rattle.lsp_verdict.specs.Verdict.{Verdict}
use Rattle.lsp_verdict.specs.declared.completeness.Completeness.TheVariants.{Ignored}

-- what is asked of it
abbrev pub SurveyAsked : Type 0
SurveyAsked = Options

-- the lines of the offence of an event after these, as far as that is listed, else its own
abbrev pub said_by : Options → List Heard → Heard → Option Offence → List ℕ
said_by options before h None = shown_line options.lines before h
said_by options before h (Some o) = lines_of options.listing (o ∷ [])

abbrev pub event_said : Options → Terms → List Heard → Heard → List ℕ
event_said options terms before h =
    said_by options before h (offence_at terms (notes_of before) h.note)

-- there are such lines
abbrev pub has_lines : Options → Option Offence → Bool
has_lines options None = is_some options.lines
has_lines options (Some o) = is_every options.listing || not o.follows

-- the lines of the end, where this is listed of it, and what closes the report
abbrev pub end_said : Options → Terms → List Heard → Option (ℕ × LogCode) → List Verdict → List ℕ
end_said options terms heard fault ends =
    lines_of options.listing (map by_itself ends)
    ++ closing (all_found terms heard ends) (bad_log_of fault) (summary terms (heard_events heard))

-- **the runs `check --all` and `show --all`**, which stop at no event
abbrev pub survey_run : Options → Run
survey_run options = record {
  says = λ terms rests before h out. out ≡ event_said options terms before h;
  wants = λ terms before h. may_lose h.raw (rule_of terms before h)
      || has_lines options (offence_at terms (notes_of before) h.note);
  stops = λ terms before h. false;
  ends = λ terms before h outcome. ⊥;
  closes = λ terms heard tail out. out ≡ end_said options terms heard tail.fault
      (ends_of options.completeness terms heard tail);
  finishes = λ terms heard tail. IsJudged (all_verdict terms heard tail.fault
      (ends_of options.completeness terms heard tail));
}

-- that of `check --all` and `check --every`
abbrev pub report_run : Completeness → Listing → Run
report_run completeness listing =
    survey_run (record { completeness = completeness; listing = listing; lines = None })

-- that of `show --all`, with these lines
abbrev pub show_all_run : Lines → Run
show_all_run lines =
    survey_run (record { completeness = Ignored; listing = Every; lines = Some lines })

-- **the account stands for these events**
pub record SurveyStands (s : Survey) (terms : Terms) (heard : List Heard) : Type 0 where
  pub losses : AreLosses terms s.losses (notes_of heard)
  pub tally : IsTally s.tally (offences terms (notes_of heard))
