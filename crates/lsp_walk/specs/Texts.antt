-- Parts of the text of a string, as they are written.
use Rattle.std.specs.Prelude.{◌≡◌, ℕ, ◌≤◌, List, ◌++◌, length, take, drop, Option, None, Some}
use Rattle.std.specs.Str.{IsUtf8}
use Rattle.lsp_walk.specs.Walk.{IsRun}

-- the byte, and 0 where there is none
abbrev pub one_byte : Option ℕ → ℕ
one_byte None = 0
one_byte (Some x) = x

-- inside a string, this text is between the places; where what stands at the first place makes
-- UTF-8 behind some bytes, the text and what stands at the second place do so behind them, too
pub record IsPart (d : List ℕ) (from end : ℕ) (s : List ℕ) : Type 0 where
  pub run : IsRun d from end s
  pub utf8 : (front : List ℕ) → IsUtf8 (front ++ drop from d) → IsUtf8 (front ++ s ++ drop end d)

-- the text between the places was written behind the first bytes of a room
pub record WritesPart (d : List ℕ) (from end : ℕ) (before : List ℕ) (len : ℕ) (after : List ℕ)
    (count : ℕ) : Type 0 where
  pub text : List ℕ
  pub part : IsPart d from end text
  pub written : take count after ≡ take len before ++ text
  pub within : count ≤ length after
