use Rattle.std.proofs.Common.{[], List, ℕ, Bool, true, false, ap, append-nil, refl, string_bytes}
use Rattle.std.proofs.Common.{subst, sym, if◌then◌else◌}
use Rattle.lsp_replay.specs.Common.{Bounds, verdict_view}
use Rattle.lsp_verdict.specs.Verdict.{Verdict}
use Rattle.lsp_verdict.specs.declared.outcome.Outcome.{Outcome}
use Rattle.lsp_redact.specs.Check.{Checks, EndsIf, IsShown}
use Rattle.lsp_redact.proofs.check.put_checked.Goals as goal

-- a log is checked that shows a verdict or does not
checked : (limits : Bounds) (log : List ℕ) (v : Verdict) (shown : Bool) (outcome : Outcome)
    → IsShown limits log v shown → EndsIf shown v outcome
    → Checks limits log v (if shown then log else []) outcome
checked limits log v shown outcome (own, judged, is) ends = record {
  own = own;
  judged = judged;
  says = ap (λ (b : Bool). if b then log else []) is;
  ends = subst (λ (b : Bool). EndsIf b v outcome) is ends;
}

pub returns-then-not-shown : goal.returns-then-not-shown
returns-then-not-shown c = (
  [],
  sym (append-nil (string_bytes c.args.text.now)),
  checked c.args.limits c.args.log.now (verdict_view c.args.verdict) false _
      (rw c.if-not-shown.true at c.in_ok-shown.ensures) refl,
)

pub returns : goal.returns
returns c = (
  c.args.log.now,
  c.in_ok-push_str.ensures.bytes,
  checked c.args.limits c.args.log.now (verdict_view c.args.verdict) true c.outcome_of.result
      (rw c.if-not-shown.false at c.in_ok-shown.ensures) c.outcome_of.ensures,
)
