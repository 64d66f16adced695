-- A run of which what it says of each event, and at the end, is written as JSON.
use Rattle.std.specs.Prelude.{◌≡◌, ℕ, List, [], false, Result}
use Rattle.lsp_docs.specs.Documents.{Terms}
use Rattle.lsp_frame.specs.Bounds.{Bounds}
use Rattle.lsp_json.specs.Rows.{json_lines}
use Rattle.lsp_replay.specs.Run.{PassesOn, Run}
use Rattle.lsp_replay.specs.declared.form.Form.{Form}
use Rattle.lsp_replay.specs.declared.form.Form.TheVariants as forms
use Rattle.lsp_verdict.specs.Heard.{Heard, Rests}
use Rattle.lsp_verdict.specs.Runs.{Ports}
use Rattle.lsp_verdict.specs.declared.outcome.Outcome.{Outcome}
use Rattle.lsp_verdict.specs.declared.outcome.RunFault.{RunFault}

-- this is the JSON of something of which that holds
abbrev pub IsJson : (List ℕ → Type 0) → List ℕ → Type 0
IsJson Said out = (said : List ℕ) × Said said × (out ≡ json_lines said)

-- **the run in JSON**: it wants memory, stops and ends where the run does
abbrev pub json_run : Run → Run
json_run run = record {
  says = λ terms rests before h out. IsJson (run.says terms rests before h) out;
  wants = run.wants;
  stops = run.stops;
  ends = run.ends;
  closes = λ terms heard tail out. IsJson (run.closes terms heard tail) out;
  finishes = run.finishes;
}

-- the run in a form
abbrev pub run_in : Form → Run → Run
run_in forms.Lines run = run
run_in forms.Json run = json_run run

-- where the run wants no memory, it says nothing
abbrev pub IsQuiet : Run → Type 0
IsQuiet run = (terms : Terms) (rests : Rests) (before : List Heard) (h : Heard) (said : List ℕ)
    → run.wants terms before h ≡ false → run.says terms rests before h said → said ≡ []

-- **this is what a run writes as JSON, and how it ends**, on this input and into this output
abbrev pub WritesJson : Run → Bounds → Ports → Result Outcome RunFault → Type 0
WritesJson run = PassesOn (json_run run)
