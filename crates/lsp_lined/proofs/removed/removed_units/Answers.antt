use Rattle.lsp_lined.proofs.Removals.{none_removed, inserted_within}
use Rattle.lsp_lined.proofs.removed.removed_units.Goals as goal

pub overflow_sub-new : goal.overflow_sub-new
overflow_sub-new c =
    inserted_within c.args.old c.args.new c.requires.0 c.args.inserted.now c.utf8.inserted
    c.requires.1

pub returns-then-new-inserted : goal.returns-then-new-inserted
returns-then-new-inserted c =
    λ removed is. none_removed c.args.encoding c.args.old c.args.new removed c.args.inserted.now
    c.utf8.inserted is c.if-new-inserted.true
