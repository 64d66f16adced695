use Rattle.std.proofs.Common.{◌≡◌, ℕ, ◌<◌, length, Some}
use Rattle.std.specs.Prelude.{slice_get}
use Rattle.lsp_types.proofs.ordered.order.number.Given as goal

abbrev pub invariant-loop-slot : goal.invariant-loop-slot
invariant-loop-slot l = (length l.slot_of.items ≡ length l.fn.slot_of.items)
    × ((t p : ℕ) → t < l.slot → slice_get l.slots t ≡ Some (Some p)
    → slice_get l.slot_of.items p ≡ Some t)
