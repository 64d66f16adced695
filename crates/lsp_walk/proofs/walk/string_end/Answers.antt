use Rattle.lsp_walk.proofs.Walking.{string_value}
use Rattle.lsp_walk.proofs.walk.string_end.Goals as goal

pub returns : goal.returns
returns c =
    let text = c.in_ok-close.ensures in
    let end = c.in_ok-end.ensures in (
      text.0,
      string_value c.args.bytes.now c.args.from c.in_ok-close.close c.in_ok-end.end text.0
          c.requires text.1 end.same end.ended end.forward end.within,
    )
