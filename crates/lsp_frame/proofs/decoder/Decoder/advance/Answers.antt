use Rattle.std.proofs.Common.{arith, ◌∙◌, Ok, Err, None}
use Rattle.std.proofs.lemmas.Result.{err_from_is_err_and}
use Rattle.lsp_frame.proofs.Steps.{next_of, frame_next, unfinished_next}
use Rattle.lsp_frame.proofs.decoder.Decoder.advance.Goals as goal

pub returns-in_err-size : goal.returns-in_err-size
returns-in_err-size c =
    let p = err_from_is_err_and c.from_residual.result c.from_residual.ensures.1 in
    rw (p.1, p.2) (next_of _ _ (Err c.in_err-size.field-0.0.rule) c.in_err-size.ensures)

pub returns-in_default : goal.returns-in_default
returns-in_default c = next_of _ _ (Ok None) (rw c.in_default.is at c.in_ok-size.ensures)

pub returns-then-self-size : goal.returns-then-self-size
returns-then-self-size c =
    let ahead = rw c.in-Some.is at c.in_ok-size.ensures in
    rw (← c.self.view_is) (unfinished_next c.self.inside.limits c.self.inside.buffer.items c.self.inside.start c.self.inside.end c.in-Some.size c.self.inside.fault c.args.self.now (c.self.view_is ∙ ahead.0) ahead.1 (omega (arith, c.self.invariant.1, c.self.inside.buffer.ok.0)) ahead.2 (omega arith))

pub returns : goal.returns
returns c =
    let ahead = rw c.in-Some.is at c.in_ok-size.ensures in
    frame_next c.self.inside.limits c.self.inside.buffer.items c.self.inside.start c.self.inside.end c.in-Some.size c.self.inside.fault c.args.self.now (c.self.view_is ∙ ahead.0) ahead.1 c.self.invariant.0 (omega (arith, c.self.invariant.1, c.self.inside.buffer.ok.0)) ahead.2 (omega arith)
