use Rattle.serde_json.specs.Data.{number}
use Rattle.lsp_outline.proofs.Negatives.{integer_passed}
use Rattle.lsp_walk.proofs.Walking.{natural_value, numeral_kind}
use Rattle.lsp_outline.proofs.negative_numbers.negative_at.Goals as goal

pub returns : goal.returns
returns c =
    let d = c.args.bytes.now in
    let from = c.args.from in
    let r = c.in_ok-n in
    let numeral = c.in_ok-end.ensures in
    let read = r.ensures in (
      number read.0,
      λ depth. natural_value depth d from c.in_ok-end.end read.0 numeral read.1
          (numeral_kind d from c.in_ok-end.end numeral),
      integer_passed (number read.0) _ read.2,
    )
