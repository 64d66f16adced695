-- What `check --json` answers and writes for one of several logs.
use Rattle.std.specs.Prelude.{◌==◌, ℕ, List, ◌∷◌, ◌++◌, Result}
use Rattle.std.specs.List.{after_first}
use Rattle.lsp_replay.specs.Common.{Bounds, Completeness, Ports, report, RunFault}
use Rattle.lsp_json.specs.Rows.{file_json}
use Rattle.lsp_judge.specs.Checked.{WritesVerdict, first_line, line_remark}
use Rattle.lsp_verdict.specs.Verdict.{Verdict}
use Rattle.lsp_verdict.specs.declared.outcome.Outcome.{Outcome}

-- the bytes behind the first LF
abbrev pub other_lines : List ℕ → List ℕ
other_lines bytes = after_first (λ byte. byte == 10) bytes

-- a report with a remark behind its first line
abbrev pub remarked : List ℕ → List ℕ → List ℕ
remarked lines remark = first_line lines ++ remark ++ 10 ∷ other_lines lines

-- **the object of a log**: that of its line, with the name of the file first; a No and a bad log
-- have their text too
abbrev pub object_for : List ℕ → Verdict → List ℕ
object_for file v = file_json file (remarked (report v) (line_remark v))

abbrev pub CheckedObject : Completeness → Bounds → List ℕ → Ports → Result Outcome RunFault → Type 0
CheckedObject completeness limits file io result =
    WritesVerdict completeness limits (object_for file) io result
