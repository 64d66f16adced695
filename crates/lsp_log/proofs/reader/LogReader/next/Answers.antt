use Rattle.lsp_log.specs.Reader.{State}
use Rattle.lsp_log.proofs.Finding.{less_ahead, near, tells_record, tells_end, gives_record, gives_end}
use Rattle.lsp_log.proofs.reader.LogReader.next.Goals as goal

pub returns-in-Ok-clause-less : goal.returns-in-Ok-clause-less
returns-in-Ok-clause-less g c =
    let i = c.self-2.inside in
    let state : State = record { limits = i.limits; tape = i.tape; progress = i.progress; format = i.format; given = i.given; place = i.place } in
    less_ahead c.args.self.now c.find.new.self state i.given i.place _ _ _ c.self-2.view_is c.in-Ok.ensures.answer

pub returns-in-Ok-clause-near : goal.returns-in-Ok-clause-near
returns-in-Ok-clause-near g c =
    let i = c.self-2.inside in
    let state : State = record { limits = i.limits; tape = i.tape; progress = i.progress; format = i.format; given = i.given; place = i.place } in
    near c.args.self.now c.find.new.self state _ _ _ c.self-2.view_is c.in-Ok.ensures.answer

pub returns-in-Ok-clause-format : goal.returns-in-Ok-clause-format
returns-in-Ok-clause-format g c =
    let i = c.self-2.inside in
    let state : State = record { limits = i.limits; tape = i.tape; progress = i.progress; format = i.format; given = i.given; place = i.place } in
    tells_record c.args.self.now c.find.new.self state _ _ _ c.self-2.view_is c.in-Ok.ensures.answer

pub returns-in-Ok-clause-gives : goal.returns-in-Ok-clause-gives
returns-in-Ok-clause-gives g c free =
    let i = c.self-2.inside in
    let state : State = record { limits = i.limits; tape = i.tape; progress = i.progress; format = i.format; given = i.given; place = i.place } in
    gives_record c.args.self.now c.find.new.self state _ c.passed-self-inside.result _ _ _ c.self-2.view_is c.saturating_add-self-inside.ensures c.passed-self-inside.ensures free c.in-Ok.ensures.answer

pub returns-in-Err-clause-format : goal.returns-in-Err-clause-format
returns-in-Err-clause-format g c =
    let i = c.self-2.inside in
    let state : State = record { limits = i.limits; tape = i.tape; progress = i.progress; format = i.format; given = i.given; place = i.place } in
    tells_end c.args.self.now c.find.new.self state _ _ _ c.in-Err.stop c.end-end.result _ c.self-2.view_is c.none_of-in-Err.ensures c.in-Err.ensures.answer c.end-end.ensures

pub returns-in-Err-clause-gives : goal.returns-in-Err-clause-gives
returns-in-Err-clause-gives g c free =
    let i = c.self-2.inside in
    let state : State = record { limits = i.limits; tape = i.tape; progress = i.progress; format = i.format; given = i.given; place = i.place } in
    gives_end c.args.self.now c.find.new.self state _ _ _ c.in-Err.stop c.end-end.result _ c.self-2.view_is c.none_of-in-Err.ensures free c.in-Err.ensures.answer c.end-end.ensures
