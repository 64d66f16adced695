-- Where memory is wanted for a record.
use Rattle.std.specs.Prelude.{◌≡◌, ◌<◌, ℕ, List, ◌∷◌, ◌++◌, map, length, true}
use Rattle.std.specs.List.{flat_map}
use Rattle.lsp_frame.specs.Bounds.{Bounds}
use Rattle.lsp_log.specs.Log.{Head, head_line, in_range, lengths_of, with_feed}

-- the bytes are the first of the parts of these lengths, each with its LF, and the next part is not
-- empty
pub record AwaitsPart (lengths bytes : List ℕ) : Type 0 where
  pub parts : List (List ℕ)
  pub next : ℕ
  pub others : List ℕ
  pub are : lengths ≡ map length parts ++ next ∷ others
  pub some : 0 < next
  pub whole : bytes ≡ flat_map with_feed parts

-- the bytes are a record's first line, whose numbers are in their ranges, and the first of its
-- parts, and the next part is not empty
pub record AwaitsRecord (limits : Bounds) (bytes : List ℕ) : Type 0 where
  pub head : Head
  pub range : in_range limits head ≡ true
  pub parts : List ℕ
  pub whole : bytes ≡ with_feed (head_line head) ++ parts
  pub awaits : AwaitsPart (lengths_of head) parts
