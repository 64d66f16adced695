-- What `explain --all --notes` says: of each event what `explain --all` says, and the notes that
-- are found at it.
use Rattle.std.specs.Prelude.{◌≡◌, ℕ, List, [], ◌∷◌, ◌++◌, length, true, false, ◌+◌}
use Rattle.lsp_trail.specs.Common.{Completeness, Heard, IsPassed, Outcome, Run, Tail, Terms}
use Rattle.lsp_trail.specs.Common.{Verdict}
use Rattle.lsp_facts.specs.Fact.{Fact, fact_lines}
use Rattle.lsp_frame.specs.Bounds.{Bounds}
use Rattle.lsp_survey.specs.SessionEnds.{all_verdict, ends_of}
use Rattle.lsp_explain.specs.ExplainRuns.{AllStands, all_run}
use Rattle.lsp_notes.specs.Notes.{count_line}
use Rattle.lsp_explain.specs.declared.run_noted.NotedCauses.{NotedCauses}
use Rattle.lsp_notes.specs.AllNotes.{AreAlong, AreNotes, end_notes, notes_at, noticed_along}

-- ---- the run

-- this is said of an event, or of the end: what `explain --all` says of it, and these lines
abbrev pub SaysMore : (List ℕ → Type 0) → List ℕ → List ℕ → Type 0
SaysMore Says more out = (said : List ℕ) × Says said × (out ≡ said ++ more)

-- the verdict where a log ends so
abbrev pub noted_verdict : Completeness → Terms → List Heard → Tail → Verdict
noted_verdict completeness terms heard tail =
    all_verdict terms heard tail.fault (ends_of completeness terms heard tail)

-- **the run `explain --all --notes`**
abbrev pub noted_run : Completeness → Run
noted_run completeness = record {
  says = λ terms rests before h out.
      SaysMore (λ said. (all_run completeness).says terms rests before h said)
      (fact_lines (notes_at terms before h)) out;
  wants = λ terms before h. true;
  stops = λ terms before h. false;
  ends = λ terms before h outcome. ⊥;
  closes = λ terms heard tail out.
      SaysMore (λ said. (all_run completeness).closes terms heard tail said)
      (end_notes (noted_verdict completeness terms heard tail) (noticed_along terms heard)) out;
  finishes = (all_run completeness).finishes;
}

-- ---- laws

-- lines that are no notes, and the notes behind them
abbrev pub Passage : Type 0
Passage = List ℕ × List Fact

abbrev pub HaveNotes : List Passage → Type 0
HaveNotes [] = Unit {0}
HaveNotes (p ∷ ps) = AreNotes p.1 × HaveNotes ps

-- passages without their notes, and with them
abbrev pub plain_of : List Passage → List ℕ
plain_of [] = []
plain_of (p ∷ ps) = p.0 ++ plain_of ps

abbrev pub noted_of : List Passage → List ℕ
noted_of [] = []
noted_of (p ∷ ps) = (p.0 ++ fact_lines p.1) ++ noted_of ps

-- how many notes they have
abbrev pub number_of : List Passage → ℕ
number_of [] = 0
number_of (p ∷ ps) = length p.1 + number_of ps

-- **Without its notes and their number, it is what `explain --all` writes of the log**, which ends
-- so too.
abbrev pub NotesAreBeside : Type 0
NotesAreBeside =
    (completeness : Completeness) (limits : Bounds) (log out : List ℕ) (outcome : Outcome)
    → IsPassed (noted_run completeness) limits log out outcome
    → (passages : List Passage) × HaveNotes passages
    × IsPassed (all_run completeness) limits log (plain_of passages) outcome
    × (out ≡ noted_of passages ++ count_line (number_of passages))

-- ---- what its account holds

-- **the account of `explain --all --notes` stands for these events**
pub record NotedStands (a : NotedCauses) (terms : Terms) (heard : List Heard) : Type 0 where
  pub causes : AllStands a.causes terms heard
  pub notes : AreAlong terms a.notes heard heard
