-- What a source or a sink reports about itself.
use Rattle.std.specs.Prelude.{◌≡◌, ℕ, ◌+◌, ◌-◌, ◌^◌, ◌≤◌, ◌++◌, min, List, length, Option, MatchResult, Result}
use Rattle.std.specs.Io.KnownBytes.{Consumes, Appends, Keeps}

-- bytes: those that a source has still to give, or that a sink has taken, where they are known;
-- count: how many bytes it has given or taken; failures: how many calls have failed. No number is
-- told past the greatest `u64`
pub record Told : Type 0 where
  pub bytes : Option (List ℕ)
  pub count : ℕ
  pub failures : ℕ

-- the number rises by this many, as far as a `u64` can count
abbrev pub Raises : ℕ → ℕ → ℕ → Type 0
Raises old new more = min new (2 ^ 64 - 1) ≡ min (old + more) (2 ^ 64 - 1)

-- the source gave these bytes
pub record Gave (old new : Told) (piece : List ℕ) : Type 0 where
  pub bytes : Consumes old.bytes new.bytes piece
  pub count : Raises old.count new.count (length piece)

-- the sink took these bytes
pub record Took (old new : Told) (piece : List ℕ) : Type 0 where
  pub bytes : Appends old.bytes new.bytes piece
  pub count : Raises old.count new.count (length piece)

-- no byte was given or taken
pub record KeepsBytes (old new : Told) : Type 0 where
  pub bytes : Keeps old.bytes new.bytes
  pub count : new.count ≡ old.count

-- one more, unless it is the greatest `u64`
abbrev pub after_failure : ℕ → ℕ
after_failure n = min (n + 1) (2 ^ 64 - 1)

-- the count rises where the call failed, and nowhere else
abbrev pub CountsFailure : {X E : Type 0} → ℕ → ℕ → Result X E → Type 0
CountsFailure old new r = MatchResult r (λ _. new ≡ old) (λ _. new ≡ after_failure old)

-- the source gave a piece of n bytes, at most this many, and it was appended to the bytes
pub record GaveOnto (before after : Told) (old new : List ℕ) (most n : ℕ) : Type 0 where
  pub piece : List ℕ
  pub gave : Gave before after piece
  pub items : new ≡ old ++ piece
  pub count : length piece ≡ n
  pub within : n ≤ most
