-- Numbers in order.
use Rattle.std.specs.Prelude.{◌≡◌, ℕ, ◌+◌, ◌<◌, List, length, slice_index}

-- they are 1, 2, 3 and so on
abbrev pub AreNumbered : List ℕ → Type 0
AreNumbered numbers = (k : ℕ) → k < length numbers → slice_index numbers k ≡ k + 1
