use Rattle.std.proofs.Common.{refl, ap, Err}
use Rattle.std.proofs.lemmas.Result.{err_from_is_err_and}
use Rattle.lsp_frame.specs.declared.decoder.FrameFault.{FrameFault}
use Rattle.lsp_frame.proofs.Steps.{given_again}
use Rattle.lsp_frame.proofs.decoder.Decoder.next.Goals as goal

pub returns-in_err-advance : goal.returns-in_err-advance
returns-in_err-advance c =
    let p = err_from_is_err_and c.from_residual.result c.from_residual.ensures.1 in
    let fault = c.in_err-advance.field-0.0 in
    rw (p.1, p.2) ((refl, λ d. tt, c.in_err-advance.ensures), record { lends = tt; kept_fault = λ rule is. ap (λ (f : FrameFault). Err f) (given_again _ _ rule fault c.in_err-advance.ensures.step is) })
