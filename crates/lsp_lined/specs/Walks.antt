-- What sees the bytes of a text one after another.
use Rattle.std.specs.Prelude.{◌≡◌, ◌++◌, ℕ, false, List, []}
use Rattle.lsp_lined.specs.Ends.{joins}

-- Bytes that it saw one after another, it saw together, and it stops at the first bytes of more or
-- after it saw others
pub record IsInOrder {V : Type 0} (sees stops : V → List ℕ → V → Type 0) : Type 0 where
  pub none : (a : V) → sees a [] a
  pub both : (a b c : V) (p q : List ℕ) → joins p q ≡ false → sees a p b → sees b q c
      → sees a (p ++ q) c
  pub early : (a b : V) (p q : List ℕ) → joins p q ≡ false → stops a p b → stops a (p ++ q) b
  pub later : (a b c : V) (p q : List ℕ) → joins p q ≡ false → sees a p b → stops b q c
      → stops a (p ++ q) c
