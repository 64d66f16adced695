use Rattle.std.proofs.Common.{refl, arith}
use Rattle.lsp_walk.proofs.Walking.{colon_passed}
use Rattle.lsp_walk.proofs.walk.colon_end.Goals as goal

pub returns-then-byte_at-eq58-clause-passed : goal.returns-then-byte_at-eq58-clause-passed
returns-then-byte_at-eq58-clause-passed c =
    colon_passed c.args.bytes.now c.args.from c.args.from c.spaces_end.result refl
    (grind arith) c.spaces_end.ensures.same

pub returns-clause-passed : goal.returns-clause-passed
returns-clause-passed c =
    colon_passed c.args.bytes.now c.args.from c.spaces_end-colon.result c.spaces_end-2.result
    c.spaces_end-colon.ensures.same (grind arith) c.spaces_end-2.ensures.same
