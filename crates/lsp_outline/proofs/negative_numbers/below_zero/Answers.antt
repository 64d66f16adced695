use Rattle.std.proofs.Common.{true, arith}
use Rattle.serde_json.specs.Data.{negative}
use Rattle.fast_float.specs.Text.{with_sign}
use Rattle.lsp_outline.proofs.Negatives.{negative_read, signed_numeral}
use Rattle.lsp_outline.proofs.negative_numbers.below_zero.Goals as goal

pub returns : goal.returns
returns c =
    let n = c.in_ok-n.n in
    let h = c.in_ok-n.ensures in (
      negative (with_sign true n),
      signed_numeral c.args.numeral.now n h.0.0 h.1 (omega arith) (omega arith),
      negative_read n (omega arith) (omega arith),
    )
