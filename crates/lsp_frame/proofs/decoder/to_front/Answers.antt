use Rattle.std.proofs.Common.{◌≡◌, ◌-◌, ◌++◌, ◌∙◌, length, take, drop, ap, arith, append_assoc, length-take}
use Rattle.std.proofs.lemmas.List.{take_at}
use Rattle.lsp_frame.proofs.Steps.{drop_take, front_stays, moved_down}
use Rattle.lsp_frame.proofs.decoder.to_front.Goals as goal

pub returns-then-rest-start-clause-front : goal.returns-then-rest-start-clause-front
returns-then-rest-start-clause-front c =
    let n = c.args.end - c.args.start in
    let front = c.split_at_mut-front.result.0.now in
    let back = c.split_at_mut-front.result.1.now in
    let copied = c.copy_from_slice.new.self in
    let len : length copied ≡ n = omega (arith, c.copy_from_slice.ensures.len, length-take n front, c.split_at_mut-front.ensures.front_len, c.if-rest-start.true) in
    ap (take n) (append_assoc copied (drop n front) back)
    ∙ take_at copied (drop n front ++ back) n len
    ∙ c.copy_from_slice.ensures.after
    ∙ ap (take n) c.split_at_mut-front.ensures.back
    ∙ drop_take c.args.start c.args.end c.args.buffer.now

pub returns-else-rest-start-clause-front : goal.returns-else-rest-start-clause-front
returns-else-rest-start-clause-front c = rw c.copy_within.ensures.after (moved_down c.args.buffer.now c.args.start c.args.end c.requires.0 c.requires.1)

pub returns-then-start-eq0-clause-front : goal.returns-then-start-eq0-clause-front
returns-then-start-eq0-clause-front c = front_stays c.args.buffer.now c.args.start c.args.end c.if-start-eq0.true
