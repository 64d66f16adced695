-- Keys that are texts.
use Rattle.std.specs.Prelude.{ℕ, List, Bool, string_bytes, String}
use Rattle.std.specs.Global.{Global}
use Rattle.std.specs.Str.{bytes_eq}

-- the key has these bytes
abbrev pub is_text : List ℕ → String Global → Bool
is_text text key = bytes_eq text (string_bytes key)
