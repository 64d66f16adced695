use Rattle.std.specs.Prelude.{◌||◌, is_some}
use Rattle.std.proofs.Common.{◌∙◌, ap}
use Rattle.lsp_judge.proofs.JudgingSteps.{kept_says, offence_says, offence_wants}
use Rattle.lsp_replay.specs.Common.{no_of, Offence}
use Rattle.lsp_replay.proofs.Wanting.{on_err}
use Rattle.lsp_replay.proofs.AllHeard.{kept_seen}
use Rattle.lsp_judge.proofs.judging.JudgingAccount.event.Goals as goal

pub returns-in-Offends-clause-says : goal.returns-in-Offends-clause-says
returns-in-Offends-clause-says c = λ terms before h clean seen.
    let own = rw c.in-Offends.is at seen.fate in
    offence_says _ c.in-Offends.rule _ c.in_ok-boxed.boxed c.in_ok-boxed.ensures.ok own.0
    (c.verdict-verdict.ensures ∙ ap (λ (o : Offence). o.no)
    (c.last_offence.ensures before h seen.stood.counted seen.few seen.is seen.noted))
    c.in_ok-say.ensures

pub returns-in_err-say-clause-memory : goal.returns-in_err-say-clause-memory
returns-in_err-say-clause-memory c = on_err c.from_residual.result (λ terms before h clean seen.
    let own = rw c.in-Offends.is at seen.fate in
    offence_wants c.args.self.now.lines terms before h c.in-Offends.rule own.0)

pub returns-in_err-boxed-clause-memory : goal.returns-in_err-boxed-clause-memory
returns-in_err-boxed-clause-memory c =
    on_err c.from_residual-in_err-boxed.result (λ terms before h clean seen.
    let own = rw c.in-Offends.is at seen.fate in
    offence_wants c.args.self.now.lines terms before h c.in-Offends.rule own.0)

pub returns-in_err-push_kept_line-clause-memory : goal.returns-in_err-push_kept_line-clause-memory
returns-in_err-push_kept_line-clause-memory c =
    on_err c.from_residual-in_err-push_kept_line.result (λ terms before h clean seen.
    ap (λ b. b || is_some (no_of terms before h)) c.in_err-push_kept_line.ensures.memory)

pub returns-clause-says : goal.returns-clause-says
returns-clause-says c = λ terms before h clean seen.
    let rule = kept_seen terms before h c.args.seen.now.fate c.in_default.not-Offends seen.fate in
    kept_says _ clean rule (c.in_ok-push_kept_line.ensures.shown terms before h seen rule)
