-- Positions and ranges, and what is kept of their numbers.
use Rattle.std.specs.Prelude.{◌≡◌, ℕ, ◌<◌, List, Some, codes}
use Rattle.serde_json.specs.Data.{Data}
use Rattle.serde_json.specs.Find.{get}
use Rattle.lsp_walk.specs.Walk.{IsValue}

-- an object with two members, of whose values this is kept
pub record KeepsBoth {A : Type 0} (keeps : Data → A → Type 0) (first second : List ℕ) (x : Data)
    (kept : A × A) : Type 0 where
  pub one : Data
  pub two : Data
  pub has_one : get first x ≡ Some one
  pub has_two : get second x ≡ Some two
  pub keeps_one : keeps one kept.0
  pub keeps_two : keeps two kept.1

-- of a position, its line and its character
abbrev pub KeepsPosition : {A : Type 0} → (Data → A → Type 0) → Data → A × A → Type 0
KeepsPosition keeps = KeepsBoth keeps (codes "line") (codes "character")

-- of a range, its start and its end
abbrev pub KeepsRange : {A : Type 0} → (Data → A → Type 0) → Data → (A × A) × (A × A) → Type 0
KeepsRange keeps = KeepsBoth (KeepsPosition keeps) (codes "start") (codes "end")

-- a value of which this is kept, where more than so many levels may nest
abbrev pub StandsKept : {A : Type 0} → ℕ → (Data → A → Type 0) → List ℕ → ℕ → A × ℕ → Type 0
StandsKept levels keeps d from r = (depth : ℕ) → levels < depth
    → (x : Data) × IsValue depth d from r.1 x × keeps x r.0
