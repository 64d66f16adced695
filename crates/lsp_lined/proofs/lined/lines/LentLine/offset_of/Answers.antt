use Rattle.lsp_lined.proofs.LentPlaces.{near_in, plain_in, offset_in}
use Rattle.lsp_lined.proofs.lined.lines.LentLine.offset_of.Goals as goal

pub returns-then-self : goal.returns-then-self
returns-then-self c = plain_in c.args.encoding c.args.self.now c.args.column c.min.result c.requires c.if-self-len.false c.if-self.true c.min.ensures

pub split_at-requires : goal.split_at-requires
split_at-requires c = (near_in c.args.self.now c.requires c.if-self-len.false).boundary

pub returns : goal.returns
returns c =
    offset_in c.args.encoding c.args.self.now c.split_at.result.0.now c.args.column
    c.in_ok-offset.offset c.requires c.if-self-len.false c.split_at.ensures.front
    c.in_ok-offset.ensures
