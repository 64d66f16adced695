use Rattle.std.proofs.lemmas.Result.{err_from_is_err_and}
use Rattle.lsp_extract.proofs.Framing.Endings.{ran, closing_cut}
use Rattle.lsp_extract.proofs.frames.run_frames.Goals as goal

pub returns-in_err-outcome : goal.returns-in_err-outcome
returns-in_err-outcome g c =
    let p = err_from_is_err_and c.from_residual.result c.from_residual.ensures.1 in
    rw (p.1, p.2) (record { framed = c.in_err-outcome.ensures })

pub returns-in_err-write_closing : goal.returns-in_err-write_closing
returns-in_err-write_closing g c =
    let from = c.from_residual-in_err-write_closing in
    let p = err_from_is_err_and from.result from.ensures.1 in
    rw (p.1, p.2) (record {
      framed = closing_cut _ _ _ _ _ _ _ c.in_ok-outcome.outcome _ c.in_ok-outcome.ensures
          c.in_err-write_closing.ensures;
    })

pub returns : goal.returns
returns g c = record {
  framed = ran _ _ _ _ _ _ _ _ c.in_ok-outcome.ensures c.in_ok-write_closing.ensures;
}
