-- Laws of the runs that list offences, show all events, or write a text that is held.
use Rattle.std.specs.Prelude.{◌≡◌, ℕ, List, ◌++◌, Bool, true, false, Option, filter}
use Rattle.std.specs.List.{flat_map}
use Rattle.lsp_replay.specs.Common.{all_report, AnswersVerdict, Bounds, Completeness, Every}
use Rattle.lsp_replay.specs.Common.{HasOneOutput, IsInRange, IsPassed, IsSurvey, Lines, Listing}
use Rattle.lsp_replay.specs.Common.{Offence, offence_lines, Summary}
use Rattle.lsp_replay.specs.RunLaws.{IsAllSaid, WritesAtItsEnd}
use Rattle.lsp_survey.specs.KeptText.{AnswersKept, kept_text_run}
use Rattle.lsp_survey.specs.Reported.{is_every}
use Rattle.lsp_survey.specs.SurveyRun.{report_run, show_all_run}
use Rattle.lsp_verdict.specs.Shown.{IsText}
use Rattle.lsp_verdict.specs.Verdict.{Verdict}
use Rattle.lsp_verdict.specs.declared.completeness.Completeness.TheVariants.{Ignored}
use Rattle.lsp_verdict.specs.declared.outcome.Outcome.{Outcome}

-- ---- each log has one output

abbrev pub OneReport : Type 0
OneReport =
    (completeness : Completeness) (listing : Listing) → HasOneOutput (report_run completeness listing)

abbrev pub OneAllShown : Type 0
OneAllShown = (lines : Lines) → HasOneOutput (show_all_run lines)

abbrev pub OneKeptText : Type 0
OneKeptText = (n : ℕ) (uri : List ℕ) → HasOneOutput (kept_text_run n uri)

-- ---- what is answered, and what is written before a fault

abbrev pub ReportAnswersVerdict : Type 0
ReportAnswersVerdict = (completeness : Completeness) (listing : Listing)
    → AnswersVerdict completeness (report_run completeness listing)

abbrev pub AllShownAnswersVerdict : Type 0
AllShownAnswersVerdict = (lines : Lines) → AnswersVerdict Ignored (show_all_run lines)

abbrev pub KeptTextAtItsEnd : Type 0
KeptTextAtItsEnd = (n : ℕ) (uri : List ℕ) → WritesAtItsEnd (kept_text_run n uri)

-- ---- the report

-- these bytes are the report of all that is wrong with a log
pub record IsReported (completeness : Completeness) (limits : Bounds) (listing : Listing)
    (log out : List ℕ) : Type 0 where
  pub found : List Offence
  pub bad : Option Verdict
  pub s : Summary
  pub survey : IsSurvey completeness limits log found bad s
  pub written : out ≡ all_report (is_every listing) found bad s

-- **What `check --all` writes is the report of all that is wrong with the log**, and nothing else.
abbrev pub ReportsSurvey : Type 0
ReportsSurvey = (completeness : Completeness) (listing : Listing) (limits : Bounds)
    (log out : List ℕ) (ended : Option Outcome)
    → IsAllSaid (report_run completeness listing) limits log out ended
    → IsReported completeness limits listing log out

-- ---- the text after a message

-- **What `text --all` writes of a log is the answer on it**, and so it ends.
abbrev pub KeptTextIsOfSurvey : Type 0
KeptTextIsOfSurvey = (n : ℕ) (uri : List ℕ) (limits : Bounds) (log out : List ℕ) (outcome : Outcome)
    → IsPassed (kept_text_run n uri) limits log out outcome
    → IsText (AnswersKept n uri limits) log out outcome

-- ---- all events

-- a piece of what is shown: the line of an event that is kept, or an offence
pub data Piece : Type 0 where
  kept_line : List ℕ → Piece
  offending : Offence → Piece

abbrev pub piece_bytes : Piece → List ℕ
piece_bytes (kept_line line) = line
piece_bytes (offending o) = offence_lines o

abbrev pub bytes_of : List Piece → List ℕ
bytes_of pieces = flat_map piece_bytes pieces

abbrev pub is_offending : Piece → Bool
is_offending (kept_line line) = false
is_offending (offending o) = true

-- these bytes show kept events and offences, and the others these offences alone
abbrev pub LeavesOutLines : List ℕ → List ℕ → Type 0
LeavesOutLines out other =
    (pieces : List Piece) × (last : List ℕ) × (out ≡ bytes_of pieces ++ last)
    × (other ≡ bytes_of (filter is_offending pieces) ++ last)

-- **Without the lines of the kept events, it is the report of every offence.**
abbrev pub ShowsReport : Type 0
ShowsReport = (lines : Lines) (limits : Bounds) → IsInRange limits
    → (log out other : List ℕ) (ended finished : Option Outcome)
    → IsAllSaid (show_all_run lines) limits log out ended
    → IsAllSaid (report_run Ignored Every) limits log other finished → LeavesOutLines out other
