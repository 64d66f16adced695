-- What `check` answers.
use Rattle.std.proofs.Common.{◌≡◌, List, ℕ, Option, Result}
use Rattle.lsp_replay.specs.Common.{bad_log, Bounds, Completeness, Event, Format, IsInRange}
use Rattle.lsp_replay.specs.Common.{IsVerdictBy, log_terms, LogCode, no, Ports, report, RunFault}
use Rattle.lsp_replay.specs.Common.{summary, verdict_view, Who, yes}
use Rattle.lsp_verdict.proofs.RunsJudged.{read_map}
use Rattle.lsp_verdict.specs.Laws.{HasFault}
use Rattle.lsp_verdict.specs.Verdict.{Verdict}
use Rattle.lsp_verdict.specs.declared.completeness.Completeness.TheVariants.{Ignored, Required}
use Rattle.lsp_verdict.specs.declared.outcome.Outcome.{Outcome}
use Rattle.lsp_verdict.specs.declared.verdict.Summary as code_summary
use Rattle.lsp_verdict.specs.declared.verdict.Verdict.TheVariants as verdicts
use Rattle.lsp_verdict.proofs.Completing.{complete_means_ended, complete_means_fault, lack_is_named}
use Rattle.lsp_verdict.proofs.Meanings.{yes_means_kept, no_names, bad_log_has}
use Rattle.lsp_judge.specs.Answered.{IsClean}
use Rattle.lsp_judge.specs.Checked.{Checked, YesMeans, NoMeans, EndsAsDue, WritesVerdict}
use Rattle.lsp_judge.proofs.Answering.{clean_yes, clean_complete}

-- ---- what the verdict means

yes_means : (completeness : Completeness) (limits : Bounds) → IsInRange limits → (log : List ℕ)
    (s : code_summary.Summary) → IsVerdictBy completeness limits log (verdict_view (verdicts.Yes s))
    → YesMeans completeness limits log
yes_means Ignored limits sizes log s says = yes_means_kept limits sizes log _ says
yes_means Required limits sizes log s says = complete_means_ended limits sizes log _ says

no_means : (completeness : Completeness) (limits : Bounds) → IsInRange limits → (log : List ℕ)
    (rule number event : ℕ) (who : Who)
    → IsVerdictBy completeness limits log (no rule who number event)
    → NoMeans completeness limits log (no rule who number event)
no_means Ignored limits sizes log rule number event who says =
    no_names limits log rule who number event says
no_means Required limits sizes log rule number event who says =
    lack_is_named limits sizes log rule who number event says

bad_log_means : (completeness : Completeness) (limits : Bounds) (log : List ℕ) (number : ℕ)
    (fault : LogCode) → IsVerdictBy completeness limits log (bad_log number fault)
    → HasFault limits log number fault
bad_log_means Ignored limits log number fault says = bad_log_has limits log number fault says
bad_log_means Required limits log number fault says =
    complete_means_fault limits log number fault says

kept_means : (completeness : Completeness) (limits : Bounds) → IsInRange limits → (given : Verdict)
    (log : List ℕ) → IsVerdictBy completeness limits log given
    → (format : Option Format) (events : List Event) → IsClean limits log format events
    → EndsAsDue completeness events → given ≡ yes (summary (log_terms limits format) events)
kept_means Ignored limits sizes given log says format events clean ends =
    clean_yes limits sizes given log says format events clean
kept_means Required limits sizes given log says format events clean ends =
    clean_complete limits sizes given log says format events clean ends

-- ---- what a report means

pub checked : (completeness : Completeness) (limits : Bounds) (io : Ports)
    (result : Result Outcome RunFault) → IsInRange limits
    → WritesVerdict completeness limits report io result → Checked completeness limits io result
checked completeness limits io result sizes w = record {
  writes = w;
  yes = λ s e. read_map _ _ _ _ _ (λ log. yes_means completeness limits sizes log s)
      (w.verdict (verdicts.Yes s) e);
  no = λ rule number event who e. read_map _ _ _ _ _
      (λ log. no_means completeness limits sizes log rule number event who)
      (w.verdict (verdicts.No rule who number event) e);
  bad_log = λ number fault e. read_map _ _ _ _ _
      (λ log. bad_log_means completeness limits log number fault)
      (w.verdict (verdicts.BadLog number fault) e);
  kept = λ v e. read_map _ _ _ _ _ (kept_means completeness limits sizes (verdict_view v))
      (w.verdict v e);
}
