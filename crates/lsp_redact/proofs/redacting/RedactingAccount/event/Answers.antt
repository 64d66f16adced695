use Rattle.std.proofs.Common.{ap, refl, subst, ◌∙◌, string_bytes}
use Rattle.lsp_replay.specs.Telling.{ShowsFault}
use Rattle.lsp_replay.specs.declared.seen.Fate.{Fate}
use Rattle.lsp_replay.proofs.AllHeard.{kept_seen}
use Rattle.lsp_replay.proofs.Wanting.{on_err}
use Rattle.lsp_replay.specs.Common.{HasFate, heard_events, Offence, verdict_view}
use Rattle.lsp_redact.proofs.AccountKeeps.{apart_here}
use Rattle.lsp_redact.proofs.AccountSteps.{says_last, says_none}
use Rattle.lsp_redact.proofs.redacting.RedactingAccount.event.Goals as goal

pub returns-in_default : goal.returns-in_default
returns-in_default c = record {
  asked = c.keep.ensures.limits;
  memory = tt;
  says = λ terms before h stands seen.
      let rule = kept_seen terms before h c.args.seen.now.fate c.in_default.not-Offends seen.fate in
      says_none terms before h c.args.self.now.limits c.keep.new.self
      (ShowsFault c.args.seen.now.raw (heard_events before)) (string_bytes c.args.text.now) rule
      (c.in_ok-keep.ensures.keeps terms before h stands seen rule);
}

pub returns-in_err-keep-clause-memory : goal.returns-in_err-keep-clause-memory
returns-in_err-keep-clause-memory c =
    on_err c.from_residual.result (λ terms before h stands seen. refl)

pub returns-in_err-apart-clause-memory : goal.returns-in_err-apart-clause-memory
returns-in_err-apart-clause-memory c =
    on_err c.from_residual-in_err-apart.result (λ terms before h stands seen. refl)

pub returns-in_err-left-clause-memory : goal.returns-in_err-left-clause-memory
returns-in_err-left-clause-memory c =
    on_err c.from_residual-in_err-left.result (λ terms before h stands seen. refl)

pub returns-in_err-outcome-clause-memory : goal.returns-in_err-outcome-clause-memory
returns-in_err-outcome-clause-memory c =
    on_err c.from_residual-in_err-outcome.result (λ terms before h stands seen. refl)

pub returns-in_err-boxed-clause-memory : goal.returns-in_err-boxed-clause-memory
returns-in_err-boxed-clause-memory c =
    on_err c.from_residual-in_err-boxed.result (λ terms before h stands seen. refl)

pub returns : goal.returns
returns c = record {
  asked = refl;
  memory = tt;
  says = λ terms before h stands seen.
      let rule = c.in-Offends.rule in
      let has = subst (λ (f : Fate). HasFate terms before h f) c.in-Offends.is seen.fate in
      let apart = c.new-redaction.ensures.apart
      ∙ apart_here terms before h _ _ _ c.args.seen.now seen stands.clean rule has.0
      c.in-Offends.tried c.in_ok-apart.apart c.in-Offends.is c.in_ok-apart.ensures in
      says_last c.args.self.now.limits terms before h rule
      (ShowsFault c.args.seen.now.raw (heard_events before)) _ c.in_ok-outcome.outcome
      c.in_ok-boxed.boxed c.as_str.result.now (verdict_view c.verdict-verdict.result)
      (string_bytes c.args.text.now) (string_bytes c.put_checked.new.text)
      c.in_ok-boxed.ensures.ok has.0 (c.as_str.ensures.value
      ∙ c.in_ok-left.ensures terms before h stands seen has.0 c.new-redaction.ensures.names apart)
      (c.verdict-verdict.ensures ∙ ap (λ (o : Offence). o.no)
      (c.last_offence.ensures before h seen.stood.counted seen.few seen.is seen.noted))
      c.in_ok-outcome.ensures;
}
