-- Laws of the runs that explain a log, or write one of two texts that differ.
use Rattle.std.specs.Prelude.{◌≡◌, List, [], ◌∷◌, ◌++◌, map, ℕ, Option, false}
use Rattle.std.specs.List.{flat_map}
use Rattle.lsp_trail.specs.Common.{Breach, Completeness, Heard, heard_events, IsPassed, Offence}
use Rattle.lsp_trail.specs.Common.{Outcome, report, Rests, Summary, Terms, Verdict, yes}
use Rattle.lsp_frame.specs.Bounds.{Bounds, IsInRange}
use Rattle.lsp_facts.specs.Fact.{Fact}
use Rattle.lsp_log.specs.declared.fault.LogCode.{LogCode}
use Rattle.lsp_replay.specs.RunLaws.{AnswersVerdict, HasOneOutput, IsAllSaid, WritesAtItsEnd}
use Rattle.lsp_verdict.specs.Complete.{IsVerdictBy}
use Rattle.lsp_verdict.specs.Shown.{IsText}
use Rattle.lsp_verdict.specs.Survey.{IsSurvey, shown_of}
use Rattle.lsp_explain.specs.Compared.{AnswersCompared, compared_run}
use Rattle.lsp_explain.specs.ExplainRuns.{all_run, end_explanation, end_verdict, explain_run}
use Rattle.lsp_explain.specs.ExplainRuns.{first_lines}
use Rattle.lsp_origins.specs.Explained.{Explained, all_closing, cause_lines}
use Rattle.lsp_notes.specs.Notes.{note_lines, notes_by, noticed_by}
use Rattle.lsp_facts.specs.declared.two_texts.ComparedText.{ComparedText}
use Rattle.lsp_explain.specs.NotedRun.{noted_run}

-- ---- each log has one output

abbrev pub OneExplanation : Type 0
OneExplanation = (completeness : Completeness) → HasOneOutput (explain_run completeness)

abbrev pub OneExplanationOfAll : Type 0
OneExplanationOfAll = (completeness : Completeness) → HasOneOutput (all_run completeness)

abbrev pub OneNotedExplanation : Type 0
OneNotedExplanation = (completeness : Completeness) → HasOneOutput (noted_run completeness)

abbrev pub OneComparedText : Type 0
OneComparedText = (which : ComparedText) → HasOneOutput (compared_run which)

-- ---- what is answered, and what is written before a fault

abbrev pub ExplanationAnswersVerdict : Type 0
ExplanationAnswersVerdict =
    (completeness : Completeness) → AnswersVerdict completeness (explain_run completeness)

abbrev pub AllAnswersVerdict : Type 0
AllAnswersVerdict =
    (completeness : Completeness) → AnswersVerdict completeness (all_run completeness)

abbrev pub NotedAnswersVerdict : Type 0
NotedAnswersVerdict =
    (completeness : Completeness) → AnswersVerdict completeness (noted_run completeness)

abbrev pub ExplanationAtItsEnd : Type 0
ExplanationAtItsEnd = (completeness : Completeness) → WritesAtItsEnd (explain_run completeness)

abbrev pub ComparedAtItsEnd : Type 0
ComparedAtItsEnd = (which : ComparedText) → WritesAtItsEnd (compared_run which)

-- ---- the report

-- **An explanation begins with the report**: of the No at an event that offends, and else of the
-- verdict at the end of the log.
pub record BeginsWithReport : Type 0 where
  pub event : (terms : Terms) (b : Breach) (e : Explained)
      → (said : List ℕ) × (first_lines terms b e ≡ report e.no ++ said)
  pub end : (terms : Terms) (heard : List Heard) (rests : Rests) (fault : Option (ℕ × LogCode))
      (flaw : List Fact) (ends : List Verdict)
      → (said : List ℕ) × (end_explanation terms heard rests fault flaw ends
      ≡ report (end_verdict terms heard fault ends) ++ said)

-- **Of Yes it is the report and the notes** on all events.
abbrev pub YesIsReport : Type 0
YesIsReport = (terms : Terms) (heard : List Heard) (rests : Rests) (fault : Option (ℕ × LogCode))
    (flaw : List Fact) (t : Summary) → end_verdict terms heard fault [] ≡ yes t
    → end_explanation terms heard rests fault flaw []
    ≡ report (yes t) ++ note_lines (notes_by (yes t) (noticed_by terms (heard_events heard) []))

-- ---- one of two texts

-- **What `explain --by-messages` and `--in-editor` write of a log is the answer on it**, and so
-- they end.
abbrev pub ComparedTextIsOfSurvey : Type 0
ComparedTextIsOfSurvey =
    (which : ComparedText) (limits : Bounds) (log out : List ℕ) (outcome : Outcome)
    → IsPassed (compared_run which) limits log out outcome
    → IsText (AnswersCompared which limits) log out outcome

-- ---- all that is wrong

-- **this is explained of a log**, which has this survey: just the offences that follow from none,
-- in order; and then comes what closes it
pub record AreExplained (completeness : Completeness) (limits : Bounds) (log out : List ℕ) : Type 0
  where
    pub found : List Offence
    pub bad : Option Verdict
    pub s : Summary
    pub survey : IsSurvey completeness limits log found bad s
    pub explained : List Explained
    pub flaw : List Fact
    pub written : out ≡ flat_map cause_lines explained ++ all_closing found bad flaw s
    pub are : map (λ (e : Explained). e.no) explained
        ≡ map (λ (o : Offence). o.no) (shown_of false found)

-- **What `explain --all` writes explains just the offences that `check --all` lists.**
abbrev pub CausesAreExplained : Type 0
CausesAreExplained =
    (completeness : Completeness) (limits : Bounds) (log out : List ℕ) (ended : Option Outcome)
    → IsAllSaid (all_run completeness) limits log out ended
    → AreExplained completeness limits log out

-- **The first that is explained is the verdict on the log.**
abbrev pub FirstIsVerdict : Type 0
FirstIsVerdict = (completeness : Completeness) (limits : Bounds) → IsInRange limits
    → (log out : List ℕ) (a : AreExplained completeness limits log out) (e : Explained)
    (others : List Explained) (v : Verdict) → a.explained ≡ e ∷ others
    → IsVerdictBy completeness limits log v → v ≡ e.no
