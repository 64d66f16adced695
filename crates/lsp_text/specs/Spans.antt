-- The bytes between two places of a text.
use Rattle.std.specs.Prelude.{◌≤◌, ◌-◌, ℕ, List, take, drop}
use Rattle.std.specs.Str.{IsCharBoundary}

-- a text may replace these bytes
pub record CanReplace (bs : List ℕ) (from to : ℕ) : Type 0 where
  pub order : from ≤ to
  pub first : IsCharBoundary bs from
  pub second : IsCharBoundary bs to

-- the bytes from one place up to another
abbrev pub bytes_between : List ℕ → ℕ → ℕ → List ℕ
bytes_between bs from to = take (to - from) (drop from bs)
