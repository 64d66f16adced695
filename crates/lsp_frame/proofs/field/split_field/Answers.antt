use Rattle.std.proofs.Common.{arith}
use Rattle.lsp_frame.proofs.Fields.{no_colon, no_return, no_feed, field_found}
use Rattle.lsp_frame.proofs.field.split_field.Goals as goal

pub returns-in_err-rest : goal.returns-in_err-rest
returns-in_err-rest c =
    rw c.from_residual.ensures (no_colon c.args.bytes.now _ _ c.token_len.ensures.value c.split_at.ensures.back c.in_err-rest.ensures)

pub returns-in_err-rest-2 : goal.returns-in_err-rest-2
returns-in_err-rest-2 c =
    rw c.from_residual-in_err-rest-2.ensures (no_return c.args.bytes.now _ _ _ _ _ c.token_len.ensures.value c.split_at.ensures.back c.in_ok-rest.ensures c.text_len.ensures.value c.split_at-2.ensures.back c.in_err-rest-2.ensures)

pub returns-in_err-rest-3 : goal.returns-in_err-rest-3
returns-in_err-rest-3 c =
    rw c.from_residual-in_err-rest-3.ensures (no_feed c.args.bytes.now _ _ _ _ _ _ c.token_len.ensures.value c.split_at.ensures.back c.in_ok-rest.ensures c.text_len.ensures.value c.split_at-2.ensures.back c.in_ok-rest-2.ensures c.in_err-rest-3.ensures)

pub returns : goal.returns
returns c =
    field_found c.args.bytes.now _ _ _ _ _ _ _ _ _ c.token_len.ensures.value c.split_at.ensures.front c.split_at.ensures.back (grind arith) c.in_ok-rest.ensures c.text_len.ensures.value c.split_at-2.ensures.front c.split_at-2.ensures.back c.in_ok-rest-2.ensures c.in_ok-rest-3.ensures
