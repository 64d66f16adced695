use Rattle.std.proofs.lemmas.Result.{err_from_is_err_and}
use Rattle.lsp_extract.proofs.Seeking.Logs.{none_passed, not_found}
use Rattle.lsp_extract.proofs.event.run_event.Goals as goal

pub returns-in_err-events : goal.returns-in_err-events
returns-in_err-events g c =
    let p = err_from_is_err_and c.from_residual.result c.from_residual.ensures.1 in
    rw (p.1, p.2) (record { gives = not_found _ _ _ _ _ _ c.in_err-events.ensures.err })

pub returns : goal.returns
returns g c = record {
  gives = c.write_nth.ensures c.args.limits _ c.args.number
      (none_passed _ _ _ _ _ c.in_ok-events.ensures.ok);
}
