use Rattle.std.proofs.Common.{ap, refl}
use Rattle.lsp_log.specs.Reader.{State}
use Rattle.lsp_verdict.proofs.Entries.{at_start}
use Rattle.lsp_replay.proofs.log_events.LogEvents.new.Goals as goal

pub returns-clause-idle : goal.returns-clause-idle
returns-clause-idle c = λ start. record {
  same = ap (λ (r : State). r.limits) c.new.ensures.value;
  goes_on = refl;
  at = at_start _ c.args.limits start c.new.ensures.value c.new.ensures.stands;
  stands = c.new-2.ensures;
}
