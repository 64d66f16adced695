use Rattle.std.proofs.Common.{Bor, Option, subst}
use Rattle.std.specs.Prelude.{option_map}
use Rattle.std.proofs.lemmas.Result.{err_from_is_err_and}
use Rattle.lsp_rpc.specs.declared.act.Spoken.{Spoken}
use Rattle.lsp_verdict.specs.Event.{sent_in}
use Rattle.lsp_verdict.specs.Given.{raw_view}
use Rattle.lsp_verdict.specs.Placed.{Reads}
use Rattle.lsp_verdict.specs.declared.raw.Raw.{Raw}
use Rattle.lsp_replay.specs.Telling.{MaySpeak}
use Rattle.lsp_replay.proofs.Hearing.{said_admitted, said_refused, silent, unsaid}
use Rattle.lsp_replay.proofs.events.admit.Goals as goal

pub returns-in_err-admit-clause-rule : goal.returns-in_err-admit-clause-rule
returns-in_err-admit-clause-rule c =
    let p = err_from_is_err_and c.from_residual.result c.from_residual.ensures.1 in
    let at = c.in-Content in
    rw p.1 (λ events event stands sound read.
    rw p.2 (said_refused at.side at.content.now c.in-Some.spoken.now events event _
    (subst (λ (r : Raw). Reads (raw_view r) event) at.is read.reads)
    (subst (λ (o : Option (Bor Spoken)). MaySpeak events event
    (option_map (λ (s : Bor Spoken). s.now) o)) c.in-Some.is read.spoken)
    (c.in_err-admit.ensures.rule (sent_in events) stands)))

pub returns-in_ok-admit-clause-ok : goal.returns-in_ok-admit-clause-ok
returns-in_ok-admit-clause-ok c = λ events event stands sound read.
    let at = c.in-Content in
    said_admitted at.side at.content.now c.in-Some.spoken.now events c.admit.new.self event
    (subst (λ (r : Raw). Reads (raw_view r) event) at.is read.reads)
    (subst (λ (o : Option (Bor Spoken)). MaySpeak events event
    (option_map (λ (s : Bor Spoken). s.now) o)) c.in-Some.is read.spoken)
    (c.in_ok-admit.ensures.accepted (sent_in events) stands)
    (c.in_ok-admit.ensures.admitted (sent_in events) stands)

pub returns-in_default : goal.returns-in_default
returns-in_default c = record {
  ok = λ events event stands sound read.
      unsaid c.args.session.now events stands event
      (silent c.args.read.now.raw c.in_default.not-Content event read.reads) sound;
  rule = tt;
  content = tt;
  err = tt;
}
