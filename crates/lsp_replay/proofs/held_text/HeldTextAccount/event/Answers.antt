use Rattle.std.specs.Prelude.{is_some, option_map}
use Rattle.std.proofs.Common.{◌∙◌, ap, sym}
use Rattle.std.proofs.lemmas.Result.{IfOk-weaker}
use Rattle.lsp_replay.specs.TextAnswers.{TextAsked, text_at, text_behind}
use Rattle.lsp_replay.proofs.TextRuns.{held_at, missing_at, no_refusal, none_at, still_to_come}
use Rattle.lsp_replay.proofs.TextRuns.{says_answer, says_none, some_at}
use Rattle.lsp_replay.proofs.Wanting.{on_err}
use Rattle.lsp_verdict.specs.Given.{verdict_view}
use Rattle.lsp_replay.specs.declared.held_text.HeldText.{HeldText}
use Rattle.lsp_replay.proofs.held_text.HeldTextAccount.event.Goals as goal

-- what is asked of the account
abbrev asked_by : HeldText → TextAsked
asked_by account = record { number = account.number; uri = account.uri.now; skips = account.skips }

pub returns-in-Some-clause-says : goal.returns-in-Some-clause-says
returns-in-Some-clause-says c = IfOk-weaker c.stop.result _ _ (λ flow stops terms before h few seen.
    let asked = asked_by c.args.self.now in
    says_answer (text_at asked) text_behind flow stops (missing_at asked terms before h _ _
    (sym (c.refusal.ensures terms before h seen) ∙ ap (option_map verdict_view) c.in-Some.is)
    c.missing.ensures)) c.stop.ensures

pub returns-in-Some-clause-memory : goal.returns-in-Some-clause-memory
returns-in-Some-clause-memory c = on_err c.stop.result (λ terms before h few seen.
    let asked = asked_by c.args.self.now in
    ap is_some (missing_at asked terms before h _ _
    (sym (c.refusal.ensures terms before h seen) ∙ ap (option_map verdict_view) c.in-Some.is)
    c.missing.ensures))

pub returns-then-held-self-clause-says : goal.returns-then-held-self-clause-says
returns-then-held-self-clause-says c = λ terms before h few seen.
    let asked = asked_by c.args.self.now in
    let none = no_refusal asked terms before h c.refusal.result c.in_default.not-Some
    (c.refusal.ensures terms before h seen) in
    let other = c.if-held-self.true in
    says_none (text_at asked) text_behind
    (none_at asked terms before h seen.stood seen.few few none other)
    (still_to_come asked terms before h seen.stood seen.few few none other)

pub returns-in_err-held-clause-memory : goal.returns-in_err-held-clause-memory
returns-in_err-held-clause-memory c = on_err c.from_residual.result (λ terms before h few seen.
    let asked = asked_by c.args.self.now in
    let none = no_refusal asked terms before h c.refusal.result c.in_default.not-Some
    (c.refusal.ensures terms before h seen) in
    some_at asked terms before h seen.stood seen.few few none c.if-held-self.false)

pub returns-clause-memory : goal.returns-clause-memory
returns-clause-memory c = on_err c.stop-2.result (λ terms before h few seen.
    let asked = asked_by c.args.self.now in
    let none = no_refusal asked terms before h c.refusal.result c.in_default.not-Some
    (c.refusal.ensures terms before h seen) in
    some_at asked terms before h seen.stood seen.few few none c.if-held-self.false)

pub returns-clause-says : goal.returns-clause-says
returns-clause-says c = IfOk-weaker c.stop-2.result _ _ (λ flow stops terms before h few seen.
    let asked = asked_by c.args.self.now in
    let none = no_refusal asked terms before h c.refusal.result c.in_default.not-Some
    (c.refusal.ensures terms before h seen) in
    says_answer (text_at asked) text_behind flow stops (held_at asked terms before h seen.stood
    seen.few few none _ c.if-held-self.false c.in_ok-held.ensures)) c.stop-2.ensures
