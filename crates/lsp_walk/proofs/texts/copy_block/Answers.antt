use Rattle.std.proofs.Common.{◌+◌, arith}
use Rattle.std.proofs.lemmas.Simd.{length-chunk, take_more_put_chunk}
use Rattle.std.specs.Simd.Lanes.{chunk}
use Rattle.lsp_walk.proofs.texts.copy_block.Goals as goal

pub returns-clause-written : goal.returns-clause-written
returns-clause-written c =
    let long = length-chunk c.args.at 64 c.args.bytes.now (omega arith) in
    take_more_put_chunk c.args.len c.args.room.now (chunk c.args.at 64 c.args.bytes.now)
    (c.args.len + 64) (omega (arith, long)) (omega arith)
