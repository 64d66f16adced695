-- Where `check` and `show` want no memory, they say nothing.
use Rattle.std.specs.Prelude.{◌||◌, is_some}
use Rattle.std.proofs.Common.{◌≡◌, true, false, List, [], Option, Some, None, refl, ◌∙◌}
use Rattle.lsp_judge.specs.JudgingRun.{JudgingAsked, judging_run, said_by}
use Rattle.lsp_replay.specs.JsonRun.{IsQuiet}
use Rattle.lsp_replay.specs.Common.{Heard, Lines, no_of, shown_line}
use Rattle.lsp_verdict.specs.Verdict.{Verdict}

nothing_shown : (lines : Option Lines) (before : List Heard) (h : Heard)
    → (is_some lines || false) ≡ false → shown_line lines before h ≡ []
nothing_shown None before h wants = refl
nothing_shown (Some lines) before h wants = absurd (cc wants)

nothing_said : (asked : JudgingAsked) (before : List Heard) (h : Heard) (no : Option Verdict)
    → (is_some asked.lines || is_some no) ≡ false → said_by asked before h no ≡ []
nothing_said asked before h None wants = nothing_shown asked.lines before h wants
nothing_said asked before h (Some v) wants = by_lines asked.lines wants
  where
    by_lines : (lines : Option Lines) → (is_some lines || true) ≡ false
        → said_by asked before h (Some v) ≡ []
    by_lines None wants = absurd (cc wants)
    by_lines (Some lines) wants = absurd (cc wants)

pub judging_quiet : (asked : JudgingAsked) → IsQuiet (judging_run asked)
judging_quiet asked terms rests before h said wants is =
    is ∙ nothing_said asked before h (no_of terms before h) wants
