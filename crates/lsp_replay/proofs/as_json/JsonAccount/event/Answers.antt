use Rattle.std.proofs.Common.{subst, sym}
use Rattle.lsp_replay.proofs.JsonSteps.{json_says, json_wants, some_rests}
use Rattle.lsp_replay.proofs.Wanting.{on_err}
use Rattle.lsp_replay.specs.JsonRun.{IsQuiet}
use Rattle.lsp_verdict.specs.Heard.{heard_events}
use Rattle.lsp_replay.proofs.as_json.JsonAccount.event.Goals as goal

pub returns-in_err-flow-clause-asked : goal.returns-in_err-flow-clause-asked
returns-in_err-flow-clause-asked g c = c.in_err-flow.ensures.asked

pub returns-in_err-flow-clause-memory : goal.returns-in_err-flow-clause-memory
returns-in_err-flow-clause-memory g c = on_err c.from_residual.result (λ terms before h stands seen.
    c.in_err-flow.ensures.memory terms before h stands.0 seen)

pub returns-in_err-push_objects-clause-asked : goal.returns-in_err-push_objects-clause-asked
returns-in_err-push_objects-clause-asked g c = c.in_ok-flow.ensures.asked

pub returns-in_err-push_objects-clause-memory : goal.returns-in_err-push_objects-clause-memory
returns-in_err-push_objects-clause-memory g c =
    on_err c.from_residual-in_err-push_objects.result (λ terms before h stands seen.
    let rests = some_rests c.args.seen.now.raw (heard_events before) in
    json_wants c.clear.ensures.bytes c.as_str.ensures.value stands.1 rests.0 rests.1
    (c.in_ok-flow.ensures.says terms before h stands.0 seen)
    c.in_err-push_objects.ensures.memory)

pub returns : goal.returns
returns g c = record {
  asked = c.in_ok-flow.ensures.asked;
  memory = tt;
  says = λ terms before h stands seen.
      json_says c.clear.ensures.bytes c.as_str.ensures.value c.in_ok-push_objects.ensures.ok
      (subst (λ (asked : g.A.Account.Asked). IsQuiet (g.A.Account.run asked))
      (sym c.in_ok-flow.ensures.asked) stands.1)
      (c.in_ok-flow.ensures.says terms before h stands.0 seen);
}
