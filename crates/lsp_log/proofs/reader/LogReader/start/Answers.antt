use Rattle.std.proofs.Common.{refl}
use Rattle.std.proofs.lemmas.Result.{err_from_is_err_and}
use Rattle.lsp_log.specs.Reader.{State}
use Rattle.lsp_log.proofs.Finding.{start_fails, start_done}
use Rattle.lsp_log.proofs.reader.LogReader.start.Goals as goal

pub returns-in_err-format-clause-answer : goal.returns-in_err-format-clause-answer
returns-in_err-format-clause-answer g c =
    let p = err_from_is_err_and c.from_residual.result c.from_residual.ensures.1 in
    let i = c.self.inside in
    let state : State = record { limits = i.limits; tape = i.tape; progress = i.progress; format = i.format; given = i.given; place = i.place } in
    rw (p.1, p.2) (start_fails c.args.self.now state c.first_line.new.tape _ _ _ c.self.view_is c.in-FirstLine.is c.self.invariant c.in_err-format.ensures.short c.in_err-format.ensures.answer)

pub returns-clause-answer : goal.returns-clause-answer
returns-clause-answer g c =
    let i = c.self.inside in
    let state : State = record { limits = i.limits; tape = i.tape; progress = i.progress; format = i.format; given = i.given; place = i.place } in
    (start_done c.args.self.now state c.first_line.new.tape c.in_ok-format.format c.passed-self-inside.result _ _ c.self.view_is c.in-FirstLine.is c.passed-self-inside.ensures c.in_ok-format.ensures.answer, refl, refl)
