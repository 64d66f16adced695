use Rattle.std.proofs.Common.{◌≡◌, arith, length}
use Rattle.lsp_frame.proofs.Telling.{given_ok, put_items, put_onto}
use Rattle.lsp_request.proofs.Appended.{first_kept}
use Rattle.lsp_request.proofs.input.pull_fresh.Goals as goal

pub returns-clause-gave : goal.returns-clause-gave
returns-clause-gave g c =
    let old = c.args.buffer.now in
    let start = c.len-start.result in
    let room = c.min.result in
    let after = c.resize.new.self in
    let answer = c.pull-answer in
    let start_is : length old.items ≡ start = omega (arith, old.ok.0, c.len-start.ensures) in
    let resized = given_ok _ _ after.items _ _ c.unwrap.ensures c.resize.ensures.items in
    let len = given_ok _ _ after.len _ _ c.unwrap.ensures c.resize.ensures.len in
    let full : length answer.new.buffer ≡ room = omega (arith, answer.auto.buffer) in
    let items = put_items answer.result old.items _ after.items c.deref_mut.result.now
    answer.new.buffer _ _ start _ after.len room _ start_is c.deref_mut.ensures.value resized full
    (omega (arith, len)) c.unwrap_or.ensures c.truncate.ensures.items answer.ensures.count in
    put_onto answer.result _ _ old.items answer.new.buffer _ room c.args.most full
    (omega (arith, c.min.ensures)) answer.ensures.count answer.ensures.gave items

pub returns-clause-first : goal.returns-clause-first
returns-clause-first g c =
    let old = c.args.buffer.now in
    let start = c.len-start.result in
    let room = c.min.result in
    let after = c.resize.new.self in
    let answer = c.pull-answer in
    let start_is : length old.items ≡ start = omega (arith, old.ok.0, c.len-start.ensures) in
    let resized = given_ok _ _ after.items _ _ c.unwrap.ensures c.resize.ensures.items in
    let len = given_ok _ _ after.len _ _ c.unwrap.ensures c.resize.ensures.len in
    let full : length answer.new.buffer ≡ room = omega (arith, answer.auto.buffer) in
    let items = put_items answer.result old.items _ after.items c.deref_mut.result.now
    answer.new.buffer _ _ start _ after.len room _ start_is c.deref_mut.ensures.value resized full
    (omega (arith, len)) c.unwrap_or.ensures c.truncate.ensures.items answer.ensures.count in
    first_kept answer.result old.items _ _ _ answer.new.buffer answer.ensures.first items
