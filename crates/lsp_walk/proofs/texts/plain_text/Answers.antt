use Rattle.std.proofs.Common.{◌≡◌, ◌+◌, ◌-◌, take, drop, get_or, sym, subst, arith}
use Rattle.std.specs.List.{prefix_len}
use Rattle.json.specs.Run.{is_plain}
use Rattle.lsp_walk.specs.Walk.{IsText}
use Rattle.lsp_walk.proofs.Strings.{plain_text}
use Rattle.lsp_walk.proofs.texts.plain_text.Goals as goal

pub returns : goal.returns
returns c =
    let d = c.args.text.now in
    let stop = c.plain_end-stop.result in
    let bytes = c.as_bytes-bytes.ensures.value in
    let is : stop ≡ c.args.from + prefix_len is_plain (drop c.args.from d) =
    rw (← bytes) c.plain_end-stop.ensures.value in
    let mark : get_or d stop 0 ≡ 34 = rw (← bytes) (grind arith) in
    let same : c.range.result.now ≡ take (stop - c.args.from) (drop c.args.from d) = grind arith in
    subst (IsText d c.args.from (stop + 1)) (sym same)
    (plain_text d c.args.from stop c.requires.0 is mark)
