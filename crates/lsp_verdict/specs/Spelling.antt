-- URIs that differ in their spelling alone.
use Rattle.std.specs.Prelude.{ℕ, List, [], ◌∷◌, Bool, ◌==◌, if◌then◌else◌}
use Rattle.std.specs.Char.{to_ascii_lowercase}
use Rattle.std.specs.List.{flat_map}
use Rattle.std.specs.Str.{bytes_eq}
use Rattle.percent_encoding.specs.Percent.{percent_decode}

-- a byte, of a letter the small one; a slash is left out
abbrev pub folded_byte : ℕ → List ℕ
folded_byte b = if b == 47 then [] else to_ascii_lowercase b ∷ []

-- what URIs have in common that differ in the case of ASCII letters, in percent-encoding (RFC 3986,
-- section 2.1) and in slashes alone
abbrev pub folded : List ℕ → List ℕ
folded uri = flat_map folded_byte (percent_decode uri)

-- **two URIs differ in these alone**, or not at all
abbrev pub is_alike : List ℕ → List ℕ → Bool
is_alike uri other = bytes_eq (folded uri) (folded other)
