-- What a run answers, and what it has written before a fault.
use Rattle.std.proofs.Common.{◌≡◌, ℕ, List, sym, subst}
use Rattle.lsp_frame.specs.Bounds.{Bounds, IsInRange}
use Rattle.lsp_replay.specs.Run.{IsPassed, Run}
use Rattle.lsp_replay.specs.RunLaws.{AnswersBy, AnswersVerdict, WritesAtItsEnd}
use Rattle.lsp_replay.proofs.PassEnds.{IsQuiet, cut_whole, silent}
use Rattle.lsp_verdict.specs.Complete.{IsVerdictBy}
use Rattle.lsp_verdict.specs.Given.{verdict_view}
use Rattle.lsp_verdict.specs.Outcome.{IsVerdict}
use Rattle.lsp_verdict.specs.declared.completeness.Completeness.{Completeness}
use Rattle.lsp_verdict.specs.declared.outcome.Outcome.{Outcome}
use Rattle.lsp_verdict.specs.declared.outcome.Outcome.TheVariants.{Judged}
use Rattle.lsp_verdict.specs.declared.verdict.Summary.{Summary}
use Rattle.lsp_verdict.specs.declared.verdict.Verdict as code
use Rattle.lsp_verdict.specs.declared.verdict.Verdict.TheVariants.{Yes}
use Rattle.lsp_verdict.proofs.Logs.Ends.{yes_at_end}
use Rattle.lsp_verdict.proofs.RunsJudged.{plain_by, read_map}

-- where what is answered is the verdict, Yes is met at the end of the log
pub answers_verdict : (completeness : Completeness) (run : Run)
    → ((limits : Bounds) → IsInRange limits → (log out : List ℕ) (outcome : Outcome)
    → IsPassed run limits log out outcome → AnswersBy completeness limits log outcome)
    → AnswersVerdict completeness run
answers_verdict completeness run by = record {
  verdict = by;
  ended = λ limits sizes start now old new s a. yes_at_end limits sizes start now _
      (read_map limits start now (λ log. IsPassed run limits log a.out (Judged (Yes s)))
      (λ log. IsVerdict limits log (verdict_view (Yes s)))
      (λ log p. yes_is limits log s (by limits sizes log a.out (Judged (Yes s)) p)) a.due);
} where
  yes_is : (limits : Bounds) (log : List ℕ) (s : Summary)
      → AnswersBy completeness limits log (Judged (Yes s))
      → IsVerdict limits log (verdict_view (Yes s))
  yes_is limits log s (given, same, is) =
      let yes_given : given ≡ Yes s = cc (sym same) in
      plain_by completeness limits log _
      (subst (λ (v : code.Verdict). IsVerdictBy completeness limits log (verdict_view v))
      yes_given is)

-- a run that says nothing before it stops
pub writes_at_its_end : (run : Run) → IsQuiet run → WritesAtItsEnd run
writes_at_its_end run quiet = record {
  silent = λ limits start now old new fault never p.
      silent run quiet limits start now old new fault never p;
  cut = λ limits start now old new p. cut_whole run quiet limits start now p.out p.due;
}
