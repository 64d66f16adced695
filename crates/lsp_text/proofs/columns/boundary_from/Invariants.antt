use Rattle.std.proofs.Common.{◌≢◌, ℕ, length, ◌-◌}
use Rattle.lsp_types.specs.declared.position.Encoding.{Encoding}
use Rattle.lsp_types.specs.declared.position.Encoding.TheVariants.{Utf8}
use Rattle.lsp_text.specs.Offsets.{IsPassed}
use Rattle.lsp_text.proofs.columns.boundary_from.Given as goal

abbrev pub invariant-loop-at : goal.invariant-loop-at
invariant-loop-at l = (enc : Encoding) (column left : ℕ) → enc ≢ Utf8
    → IsPassed enc l.bytes column l.place left → IsPassed enc l.bytes column l.at left

abbrev pub decreases-loop-at : goal.decreases-loop-at
decreases-loop-at l = length l.bytes - l.at
