use Rattle.lsp_log.specs.Reader.{State}
use Rattle.lsp_log.proofs.Finding.{find_done}
use Rattle.lsp_log.proofs.reader.LogReader.find.Goals as goal

pub returns-clause-answer : goal.returns-clause-answer
returns-clause-answer g c =
    let i = c.self.inside in
    let state : State = record { limits = i.limits; tape = i.tape; progress = i.progress; format = i.format; given = i.given; place = i.place } in
    find_done c.args.self.now c.start.new.self state c.record.new.tape _ _ _ c.record.result c.self.view_is c.in_ok-start.ensures.answer c.record.ensures.short c.record.ensures.answer
