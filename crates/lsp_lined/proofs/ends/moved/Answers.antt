use Rattle.std.proofs.Common.{arith}
use Rattle.lsp_lined.proofs.MovedPlaces.{moved_behind, moved_before}
use Rattle.lsp_lined.proofs.ends.moved.Goals as goal

pub overflow_sub-result : goal.overflow_sub-result
overflow_sub-result c = let h = c.requires c.if-place-from.true in omega (arith, h.0)

pub overflow_add-result : goal.overflow_add-result
overflow_add-result c = let h = c.requires c.if-place-from.true in record { fits = h.1 }

pub returns-then-place-from : goal.returns-then-place-from
returns-then-place-from c = moved_behind c.args.from c.args.removed c.args.inserted c.args.place c.if-place-from.true

pub returns-else-place-from : goal.returns-else-place-from
returns-else-place-from c = moved_before c.args.from c.args.removed c.args.inserted c.args.place c.if-place-from.false
