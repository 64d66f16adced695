use Rattle.std.proofs.Common.{◌≡◌, get_or, string_bytes, arith}
use Rattle.lsp_walk.proofs.Strings.{after_quote}
use Rattle.lsp_walk.proofs.Walking.{string_value}
use Rattle.lsp_walk.proofs.walk.string_copy.Goals as goal

pub text_copy-requires : goal.text_copy-requires
text_copy-requires c = after_quote c.args.text.now c.args.from c.utf8.text
    (rw (← c.as_bytes-bytes.ensures.value) (grind arith))

pub returns : goal.returns
returns c =
    let d = c.args.text.now in
    let bytes = c.as_bytes-bytes.ensures.value in
    let first : get_or d c.args.from 0 ≡ 34 = rw (← bytes) (grind arith) in
    let end = c.in_ok-end.ensures in
    string_value d c.args.from c.in_ok-copy.close c.in_ok-end.end (string_bytes c.in_ok-copy.copy)
    first c.in_ok-copy.ensures
    (rw (← bytes) end.same) (rw (← bytes) end.ended) end.forward (rw (← bytes) end.within)
