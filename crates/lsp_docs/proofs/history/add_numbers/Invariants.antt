use Rattle.std.proofs.Common.{◌≡◌, ◌++◌, take, map}
use Rattle.lsp_docs.proofs.history.add_numbers.Given as goal

abbrev pub invariant-loop-revision : goal.invariant-loop-revision
invariant-loop-revision g l =
    l.numbers.items ≡ l.fn.numbers.items ++ map (λ r. r.version) (take l.revision-index l.revisions)
