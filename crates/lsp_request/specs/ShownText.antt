-- How a text is shown, so that no terminal takes a part of it for a command.
use Rattle.std.specs.Prelude.{ℕ, ◌/◌, ◌%◌, Bool, ◌&&◌, ◌||◌, ◌==◌, not, nat_le, nat_lt, List, [], ◌∷◌, ◌++◌}
use Rattle.std.specs.Prelude.{codes, encode_utf8, flat_map, if◌then◌else◌}
use Rattle.std.specs.Char.{digit_char}
use Rattle.std.specs.Str.{chars}

-- a control character: U+0000 to U+001F, and U+007F to U+009F
abbrev pub is_control : ℕ → Bool
is_control c = nat_lt c 32 || (nat_le 127 c && nat_lt c 160)

-- LF is shown as it is
abbrev pub is_escaped : ℕ → Bool
is_escaped c = is_control c && not (c == 10)

-- the escape of JSON text for a character below U+0100
abbrev pub escape_of : ℕ → List ℕ
escape_of c = codes "\\u00" ++ digit_char (c / 16) ∷ digit_char (c % 16) ∷ []

abbrev pub shown_char : ℕ → List ℕ
shown_char c = if is_escaped c then escape_of c else encode_utf8 c

-- **a text as it is shown**: each control character but LF is an escape
abbrev pub shown_text : List ℕ → List ℕ
shown_text text = flat_map shown_char (chars text)
