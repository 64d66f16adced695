use Rattle.std.proofs.Common.{◌≡◌, ap, ◌∙◌, map, max, string_bytes}
use Rattle.lsp_replay.specs.Common.{heard_events, Terms, verdict_view}
use Rattle.lsp_judge.proofs.JudgingSteps.{ends_given}
use Rattle.lsp_verdict.specs.declared.completeness.Completeness.TheVariants.{Ignored}
use Rattle.lsp_redact.specs.Records.{most_of, written}
use Rattle.lsp_redact.specs.Redacting.{format_by, whole_shape}
use Rattle.lsp_redact.specs.View.{kept_view}
use Rattle.lsp_redact.proofs.AccountSteps.{says_whole, whole_log}
use Rattle.lsp_redact.proofs.redacting.RedactingAccount.end.Goals as goal

pub returns : goal.returns
returns c = record {
  closes = λ terms heard stands stood few.
      let events = heard_events heard in
      let log : string_bytes c.in_ok-left.left
      ≡ written (most_of c.args.self.now.limits) (whole_shape terms events) =
      whole_log (max c.most_of-most.result 1) terms events
      (map kept_view c.args.self.now.kept.items) c.format_of.result c.new-redaction.result
      c.said.new.redaction (string_bytes c.in_ok-left.left)
      stands.kept_is (c.format_of.ensures ∙ ap (λ (t : Terms). format_by t.kept) stood.by)
      c.new-redaction.ensures.names c.new-redaction.ensures.apart c.in_ok-left.ensures
      ∙ ap (λ n. written n (whole_shape terms events)) c.most_of-most.ensures in
      says_whole c.args.self.now.limits terms heard c.args.log.now c.args.end
      c.as_str.result.now (verdict_view c.in_ok-verdict.verdict) (string_bytes c.args.text.now)
      (string_bytes c.put_checked.new.text) c.in_ok-outcome.outcome (c.as_str.ensures.value ∙ log)
      (ends_given Ignored terms heard _ _ _ c.args.log.now c.args.end c.in_ok-verdict.verdict stood
      few stands.clean c.in_ok-verdict.ensures)
      c.in_ok-outcome.ensures;
}
