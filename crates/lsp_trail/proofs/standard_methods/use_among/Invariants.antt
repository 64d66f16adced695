use Rattle.std.proofs.Common.{◌≡◌, length, map}
use Rattle.lsp_trail.specs.StandardMethods.{use_among}
use Rattle.lsp_trail.proofs.standard_methods.use_among.Given as goal

abbrev pub invariant-loop-rows : goal.invariant-loop-rows
invariant-loop-rows l =
    use_among (map (λ row. (row.0.now, row.1)) l.rows) l.name
    ≡ use_among (map (λ row. (row.0.now, row.1)) l.initial.rows) l.name

abbrev pub decreases-loop-rows : goal.decreases-loop-rows
decreases-loop-rows l = length l.rows
