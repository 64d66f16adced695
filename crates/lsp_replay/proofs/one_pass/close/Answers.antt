use Rattle.std.proofs.Common.{◌++◌, ◌∙◌, ap, subst}
use Rattle.std.proofs.lemmas.Result.{err_from_is_err_and}
use Rattle.lsp_frame.specs.Sink.{Stopped, Wrote}
use Rattle.lsp_replay.proofs.one_pass.close.Goals as goal

pub returns : goal.returns
returns g c = λ terms heard stands stood few.
    let told = c.in_ok-outcome.ensures.closes terms heard stands stood few in
    let is = c.as_str.ensures.value ∙ told.added ∙ ap (λ w. w ++ told.said) c.clear.ensures.bytes in (
      told.said,
      told.is,
      subst (Wrote (g.W.Sink.told c.args.writer.now) (g.W.Sink.told c.put_text.new.writer)) is
          c.in_ok-put_text.ensures.writes,
      λ e. c.in_ok-put_text.ensures.quiet (is ∙ e),
    )

pub returns-in_err-put_text : goal.returns-in_err-put_text
returns-in_err-put_text g c =
    let from = c.from_residual-in_err-put_text in
    let p = err_from_is_err_and from.result from.ensures.1 in
    rw (p.1, p.2) (λ terms heard stands stood few.
    let told = c.in_ok-outcome.ensures.closes terms heard stands stood few in
    let is = c.as_str.ensures.value ∙ told.added ∙ ap (λ w. w ++ told.said) c.clear.ensures.bytes in (
      c.in_ok-outcome.outcome,
      told.said,
      told.is,
      subst (Stopped (g.W.Sink.told c.args.writer.now) (g.W.Sink.told c.put_text.new.writer)) is
          c.in_err-put_text.ensures.writes,
      λ e. c.in_err-put_text.ensures.some (is ∙ e),
    ))
