use Rattle.std.proofs.Common.{◌++◌, ◌∙◌, ap, subst}
use Rattle.lsp_frame.specs.Sink.{Stopped, Wrote}
use Rattle.std.proofs.lemmas.Result.{err_from_is_err_and}
use Rattle.lsp_replay.proofs.one_pass.tell.Goals as goal

pub returns-clause-steps : goal.returns-clause-steps
returns-clause-steps g c = λ terms before h comes.
    let saw = c.in_ok-flow.ensures.saw terms before h comes in
    let is = c.as_str.ensures.value ∙ saw.says.added
    ∙ ap (λ w. w ++ saw.says.said) c.clear.ensures.bytes in (
      saw.says.said,
      record { stood = saw.stood; is = saw.says.is; goes = saw.says.goes },
      subst (Wrote (g.W.Sink.told c.args.writer.now) (g.W.Sink.told c.put_text.new.writer)) is
          c.in_ok-put_text.ensures.writes,
      λ e. c.in_ok-put_text.ensures.quiet (is ∙ e),
    )

pub returns-in_err-put_text-clause-steps : goal.returns-in_err-put_text-clause-steps
returns-in_err-put_text-clause-steps g c =
    let from = c.from_residual-in_err-put_text in
    let p = err_from_is_err_and from.result from.ensures.1 in
    rw (p.1, p.2) (λ terms before h comes.
    let saw = c.in_ok-flow.ensures.saw terms before h comes in
    let is = c.as_str.ensures.value ∙ saw.says.added
    ∙ ap (λ w. w ++ saw.says.said) c.clear.ensures.bytes in (
      c.in_ok-flow.flow,
      saw.says.said,
      record { stood = saw.stood; is = saw.says.is; goes = saw.says.goes },
      subst (Stopped (g.W.Sink.told c.args.writer.now) (g.W.Sink.told c.put_text.new.writer)) is
          c.in_err-put_text.ensures.writes,
      λ e. c.in_err-put_text.ensures.some (is ∙ e),
    ))
