use Rattle.std.proofs.Common.{ap, map, refl, subst}
use Rattle.lsp_frame.specs.Bounds.{Bounds}
use Rattle.lsp_replay.specs.Run.{Passes}
use Rattle.lsp_redact.specs.Redacting.{redact_run}
use Rattle.lsp_redact.specs.View.{kept_view}
use Rattle.lsp_redact.proofs.run.run_redact.Goals as goal

pub pass-requires : goal.pass-requires
pass-requires g c = record {
  begins = λ terms. record {
    clean = refl;
    kept_is = ap (map kept_view) c.new-account.ensures.kept;
    awaits_is = c.new-account.ensures.awaits;
  };
}

pub returns : goal.returns
returns g c = record {
  passes = subst (λ (b : Bounds). Passes (redact_run b) c.args.limits
      (g.R.Source.told c.args.reader.now) (g.R.Source.told c.pass.new.reader)
      (g.W.Sink.told c.args.writer.now) (g.W.Sink.told c.pass.new.writer) c.pass.result)
      c.new-account.ensures.limits c.pass.ensures.passes;
}
