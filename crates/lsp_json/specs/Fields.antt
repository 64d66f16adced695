-- The fields of a row: which words of a line they take.
use Rattle.std.specs.Prelude.{ℕ, suc, Bool, true, false, ◌&&◌, ◌||◌, ◌==◌, not, List, [], ◌∷◌, length}
use Rattle.std.specs.Prelude.{Option, take, drop, get_or, map, codes, if◌then◌else◌}
use Rattle.std.specs.Borrow.{Bor}
use Rattle.std.specs.List.{after_first, before_first}
use Rattle.std.specs.Str.{bytes_eq}
use Rattle.lsp_json.specs.Words.{Words, words_in, words_left}
use Rattle.lsp_json.specs.declared.field.Field as code
use Rattle.lsp_json.specs.declared.field.Field.TheVariants.{Literal, Labelled, One, Many, Whether, Event}

-- what the words of a line are, at a place of a row: a word that is left out; a word that has a key
-- and is always the same; a word under a key; words in an array under a key; a word that may be
-- missing; and an event
pub data Field : Type 0 where
  literal : List ℕ → Field
  labelled : List ℕ → List ℕ → Field
  one : List ℕ → Field
  many : List ℕ → Field
  whether : List ℕ → Field
  an_event : Field

abbrev pub field_view : code.Field → Field
field_view (Literal word) = literal word.now
field_view (Labelled key word) = labelled key.now word.now
field_view (One key) = one key.now
field_view (Many key) = many key.now
field_view (Whether word) = whether word.now
field_view Event = an_event

abbrev pub word_view : Bor (List ℕ) → List ℕ
word_view word = word.now

-- ---- the pattern of a row: a field is a word of it

abbrev pub is_equals_sign : ℕ → Bool
is_equals_sign byte = byte == 61

-- a word without an equals sign
abbrev pub literal_field : List ℕ → Field
literal_field word = if bytes_eq word (codes "@") then an_event else literal word

-- what stands before an equals sign, and behind it
abbrev pub labelled_field : List ℕ → List ℕ → Field
labelled_field key shape =
    if bytes_eq shape (codes "*") then one key
    else if bytes_eq shape (codes "..") then many key
    else if bytes_eq shape (codes "?") then whether key
    else labelled key shape

abbrev pub field_by : List ℕ → List ℕ → Field
field_by key shape =
    if length shape == 0 then literal_field key else labelled_field key shape

-- the field that a word of a pattern stands for
abbrev pub field_of : List ℕ → Field
field_of word = field_by (before_first is_equals_sign word) (after_first is_equals_sign word)

-- **the fields of a pattern**
abbrev pub fields_of : List ℕ → List Field
fields_of pattern = map field_of (words_in pattern)

abbrev pub fields_left : Option (List ℕ) → List Field
fields_left left = map field_of (words_left left)

-- ---- the words of a field

abbrev pub is_none : Words → Bool
is_none [] = true
is_none (word ∷ words) = false

-- how many words there are before `and` or `event`
abbrev pub items_before : Words → ℕ
items_before [] = 0
items_before (word ∷ words) =
    if bytes_eq word (codes "and") || bytes_eq word (codes "event") then 0
    else suc (items_before words)

-- how many words a field takes, where so many are left
abbrev pub size : Field → Words → ℕ
size (many key) words = items_before words
size an_event words = 4
size _ words = 1

-- the words that it takes, and those behind them
abbrev pub own : Field → Words → Words
own field words = take (size field words) words

abbrev pub behind : Field → Words → Words
behind field words = drop (size field words) words

-- whether they are as they must be
abbrev pub suits : Field → Words → Bool
suits (literal word) words = bytes_eq (get_or words 0 []) word
suits (labelled key word) words = bytes_eq (get_or words 0 []) word
suits (one key) words = not (is_none words)
suits (many key) words = true
suits (whether word) words = is_none words || bytes_eq (get_or words 0 []) word
suits an_event words = (length words == 4) && bytes_eq (get_or words 0 []) (codes "event")

-- **whether these fields take all of these words**
abbrev pub fit : List Field → Words → Bool
fit [] words = is_none words
fit (field ∷ fields) words =
    suits field (own field words) && fit fields (behind field words)
