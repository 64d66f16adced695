use Rattle.lsp_verdict.specs.Event.{sent_in}
use Rattle.lsp_replay.proofs.Apart.{heard}
use Rattle.lsp_replay.proofs.events.read_into.Goals as goal

pub returns-clause-ok : goal.returns-clause-ok
returns-clause-ok c = λ events stands.
    heard c.wanted_results.result c.args.side c.args.content.now c.hear_into.new.spoken events
    (λ out. c.wanted_results.ensures out (sent_in events) stands) c.in_ok-hear_into.ensures.ok
