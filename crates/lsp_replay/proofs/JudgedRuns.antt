-- What a run that judges a log answers and writes follows from what a pass does.
use Rattle.std.proofs.Common.{◌≡◌, ℕ, List, ◌++◌, Result, Ok, Err, sym, subst, ◌∙◌}
use Rattle.lsp_frame.specs.Bounds.{Bounds, IsInRange}
use Rattle.lsp_replay.specs.Run.{AllPassed, Passes, HasSaid, IsPassed, Run}
use Rattle.lsp_replay.proofs.PassEnds.{part_begins, read_here}
use Rattle.lsp_verdict.specs.Given.{verdict_view}
use Rattle.lsp_verdict.specs.Outcome.{IsVerdict}
use Rattle.lsp_verdict.specs.Runs.{Ports, OfRead, Judges}
use Rattle.lsp_verdict.specs.Verdict.{Summary, Verdict, yes}
use Rattle.lsp_verdict.specs.declared.outcome.Outcome.{Outcome}
use Rattle.lsp_verdict.specs.declared.outcome.Outcome.TheVariants.{Judged}
use Rattle.lsp_verdict.specs.declared.outcome.RunFault.{RunFault}
use Rattle.lsp_verdict.specs.declared.verdict.Verdict as code
use Rattle.lsp_verdict.proofs.RunsJudged.{read_map, judged_not, judges}

-- a verdict is answered, and this is due for it
abbrev pub IsDueOf : (Verdict → List ℕ → Type 0) → List ℕ → Outcome → Type 0
IsDueOf Due out outcome =
    (given : code.Verdict) × (outcome ≡ Judged given) × Due (verdict_view given) out

-- which verdict is right for a log, what is due for both, and what begins that
module _ (run : Run) (limits : Bounds) (sizes : IsInRange limits)
    (IsRight : List ℕ → Verdict → Type 0) (IsDue : List ℕ → Verdict → List ℕ → Type 0)
    (Begins : List ℕ → List ℕ → Type 0)
    (right : (log : List ℕ) (v : Verdict) (out : List ℕ) → IsDue log v out → IsRight log v)
    (plain : (log : List ℕ) (s : Summary) → IsRight log (yes s) → IsVerdict limits log (yes s))
    (passed : (log out : List ℕ) (outcome : Outcome) → IsPassed run limits log out outcome
    → IsDueOf (IsDue log) out outcome)
    (said : (log front left : List ℕ) → HasSaid run limits log (front ++ left) → Begins log front)
    (whole : (log front left : List ℕ) (v : Verdict) → IsDue log v (front ++ left)
    → Begins log front) (io : Ports) where
  all_judged : (outcome : Outcome) → AllPassed run limits io.source_before io.source_after
      io.sink_before io.sink_after outcome → Judges limits io IsRight IsDue Begins (Ok outcome)
  all_judged outcome a =
      let own = passed a.due.bytes a.out outcome (read_here limits io.source_before io.source_after
      (λ log. IsPassed run limits log a.out outcome) a.due) in
      let due : OfRead limits io.source_before io.source_after
      (λ log. IsDue log (verdict_view own.0) a.out) =
      read_map limits io.source_before io.source_after
      (λ log. IsPassed run limits log a.out outcome)
      (λ log. IsDue log (verdict_view own.0) a.out)
      (λ log p. let r = passed log a.out outcome p in
      let same : r.0 ≡ own.0 = cc (sym r.1 ∙ own.1) in
      subst (λ (v : code.Verdict). IsDue log (verdict_view v) a.out) same r.2) a.due in
      subst (λ (o : Outcome). Judges limits io IsRight IsDue Begins (Ok o)) (sym own.1)
      (judges limits sizes io IsRight IsDue Begins own.0
      (read_map limits io.source_before io.source_after
      (λ log. IsDue log (verdict_view own.0) a.out) (λ log. IsRight log (verdict_view own.0))
      (λ log is. right log (verdict_view own.0) a.out is) due) (a.out, a.wrote.took, due) plain
      a.failures a.wrote.failures)

  passed_begins : (log front left : List ℕ) (outcome : Outcome)
      → IsPassed run limits log (front ++ left) outcome → Begins log front
  passed_begins log front left outcome p =
      let r = passed log (front ++ left) outcome p in whole log front left (verdict_view r.0) r.2

  -- **the run judges the log**
  pub judged_run : (result : Result Outcome RunFault) → Passes run limits io.source_before
      io.source_after io.sink_before io.sink_after result
      → Judges limits io IsRight IsDue Begins result
  judged_run (Ok outcome) a = all_judged outcome a
  judged_run (Err fault) p =
      judged_not limits io IsRight IsDue Begins fault (
        p.out,
        p.took,
        part_begins run limits io.source_before io.source_after io.sink_before io.sink_after fault p
            Begins said passed_begins,
      ) p.source p.sink
