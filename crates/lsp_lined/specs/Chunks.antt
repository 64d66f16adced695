-- What always holds of a chunk.
use Rattle.std.specs.Prelude.{◌≡◌, ℕ, List, Bool, true, false}
use Rattle.lsp_lined.specs.Sums.{sums_of}
use Rattle.lsp_lined.specs.Parts.{joined, AreKept, IsReplacedIn}
use Rattle.lsp_lined.specs.declared.sums.Sums.{Sums}

-- it has a part, its parts are parts of its text, and its sums are counted
pub record IsChunk (ps : List (List ℕ)) (s : Sums) : Type 0 where
  pub kept : AreKept ps
  pub sums : s ≡ sums_of (joined ps)

-- one of the parts took a text in place of some bytes, or none of them changed
abbrev pub TakesOr : List (List ℕ) → Sums → ℕ → ℕ → List ℕ → List (List ℕ) → Sums → Bool → Type 0
TakesOr ps s from to text new t true = IsReplacedIn ps from to text new t
TakesOr ps s from to text new t false = (new ≡ ps) × (t ≡ s)
