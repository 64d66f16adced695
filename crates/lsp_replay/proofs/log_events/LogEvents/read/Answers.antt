use Rattle.std.proofs.Common.{refl, ◌∙◌}
use Rattle.lsp_replay.specs.declared.log_events.End.TheVariants.{Bad, Sound}
use Rattle.lsp_verdict.proofs.Entries.{bad_found, bad_next, end_next, memory_broke, read_broke}
use Rattle.lsp_verdict.proofs.Entries.{record_next}
use Rattle.lsp_replay.proofs.Pulling.{bad_end, ended_at, sound_end}
use Rattle.lsp_replay.proofs.log_events.LogEvents.read.Goals as goal

pub returns-in-Ok-Some-clause-answer : goal.returns-in-Ok-Some-clause-answer
returns-in-Ok-Some-clause-answer g c = λ limits start records given h.
    let next = c.in-Ok-Some.ensures in
    let is = c.in-Ok-Some.field-0-is in
    let got = rw is at (next.gives h.at.unread h.at.bytes records h.at.stands) in
    record {
      same = next.limits ∙ h.same;
      goes_on = h.goes_on;
      at = record_next _ _ start _ _ records h.at next.limits c.in-Ok-Some.record
          (rw is at next.keeps) next.format got;
      stands = h.stands;
    }

pub returns-in-Ok-None-clause-answer : goal.returns-in-Ok-None-clause-answer
returns-in-Ok-None-clause-answer g c = λ limits start records given h.
    let next = c.in-Ok-None.ensures in
    let got = rw c.in-Ok-None.field-0-is at
    (next.gives h.at.unread h.at.bytes records h.at.stands) in
    let ends = end_next _ _ start _ _ records h.at next.limits got in
    ended_at limits start _ records given _ Sound (next.limits ∙ h.same) refl h.stands
    (sound_end _ limits _ start _ records h.same ends.0 ends.1)

pub returns-in-Err-Bad-clause-answer : goal.returns-in-Err-Bad-clause-answer
returns-in-Err-Bad-clause-answer g c = λ limits start records given h.
    let next = c.in-Err-Bad.ensures in
    let number = c.in-Err-Bad.number in
    let code = c.in-Err-Bad.code in
    let got = rw c.in-Err-Bad.field-0-is at
    (next.gives h.at.unread h.at.bytes records h.at.stands) in
    ended_at limits start _ records given _ (Bad number code) (next.limits ∙ h.same) refl h.stands
    (bad_end _ limits _ start _ records number code h.same
    (bad_next _ _ start _ _ records h.at next.limits number code got)
    (bad_found _ _ start _ _ records h.at next.limits number code got))

pub returns-in-Err-Read-clause-answer : goal.returns-in-Err-Read-clause-answer
returns-in-Err-Read-clause-answer g c = λ limits start records given h.
    let next = c.in-Err-Read.ensures in
    let got = rw c.in-Err-Read.field-0-is at
    (next.gives h.at.unread h.at.bytes records h.at.stands) in
    rw h.same at (read_broke _ _ start _ _ records h.at next.limits got)

pub returns-in-Err-Memory-clause-answer : goal.returns-in-Err-Memory-clause-answer
returns-in-Err-Memory-clause-answer g c = λ limits start records given h.
    let next = c.in-Err-Memory.ensures in
    let got = rw c.in-Err-Memory.field-0-is at
    (next.gives h.at.unread h.at.bytes records h.at.stands) in
    rw h.same at (memory_broke _ _ start _ _ records h.at next.limits got)
