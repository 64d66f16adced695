use Rattle.lsp_lined.proofs.Backs.{rest_same}
use Rattle.lsp_lined.proofs.block.BlockPart.same_back.Goals as goal

pub returns-clause-same : goal.returns-clause-same
returns-clause-same c =
    (rest_same c.args.self.now c.as_str.result.now c.split_at.result.1.now c.args.other.now
    c.args.from c.same_back.result c.requires c.as_str.ensures c.split_at.ensures.back
    c.same_back.ensures).same

pub returns-clause-within : goal.returns-clause-within
returns-clause-within c =
    (rest_same c.args.self.now c.as_str.result.now c.split_at.result.1.now c.args.other.now
    c.args.from c.same_back.result c.requires c.as_str.ensures c.split_at.ensures.back
    c.same_back.ensures).within
