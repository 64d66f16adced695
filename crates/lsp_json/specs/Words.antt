-- The words of a line.
use Rattle.std.specs.Prelude.{ℕ, suc, Bool, false, ◌==◌, List, [], ◌∷◌, Option, Some, None, if◌then◌else◌}
use Rattle.std.specs.List.{onto_first}
use Rattle.lsp_json.specs.declared.words.Place.{Place}
use Rattle.lsp_json.specs.declared.words.Place.TheVariants.{Outside, Inside, Escaped}

abbrev pub Words : Type 0
Words = List (List ℕ)

-- where the byte behind this one stands
abbrev pub place_after : Place → ℕ → Place
place_after Outside byte = if byte == 34 then Inside else Outside
place_after Inside byte = if byte == 34 then Outside else if byte == 92 then Escaped else Inside
place_after Escaped byte = Inside

-- a space outside of JSON texts ends a word
abbrev pub ends_word : Place → ℕ → Bool
ends_word Outside byte = byte == 32
ends_word _ byte = false

abbrev pub words_from : Place → List ℕ → Words
words_from place [] = [] ∷ []
words_from place (byte ∷ bytes) =
    if ends_word place byte then [] ∷ words_from Outside bytes
    else onto_first byte (words_from (place_after place byte) bytes)

-- **the words of a line**: there is a space between each two, and a JSON text is one word
abbrev pub words_in : List ℕ → Words
words_in line = words_from Outside line

-- how many bytes the first word has
abbrev pub word_len : Place → List ℕ → ℕ
word_len place [] = 0
word_len place (byte ∷ bytes) =
    if ends_word place byte then 0 else suc (word_len (place_after place byte) bytes)

-- the words of what is left of a line
abbrev pub words_left : Option (List ℕ) → Words
words_left None = []
words_left (Some left) = words_in left
