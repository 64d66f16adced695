-- The members that the words of a row become.
use Rattle.std.specs.Prelude.{ℕ, Bool, true, false, ◌||◌, ◌==◌, not, List, [], ◌∷◌, ◌++◌}
use Rattle.std.specs.Prelude.{flat_map, get_or, codes, if◌then◌else◌}
use Rattle.std.specs.Char.{is_ascii_digit}
use Rattle.std.specs.Str.{bytes_eq}
use Rattle.json.specs.Print.{quoted}
use Rattle.lsp_json.specs.Fields.{Field, literal, labelled, one, many, whether, an_event}
use Rattle.lsp_json.specs.Fields.{behind, is_none, own}
use Rattle.lsp_json.specs.Words.{Words}

-- a key, and the JSON text of its value
abbrev pub Member : Type 0
Member = List ℕ × List ℕ

-- a key in quotes, with the comma before it and the colon behind it
abbrev pub key : List ℕ → List ℕ
key name = codes ",\"" ++ name ++ codes "\":"

abbrev pub member : Member → List ℕ
member m = key m.0 ++ m.1

-- it begins as a number or as JSON text
abbrev pub is_json : List ℕ → Bool
is_json [] = false
is_json (first ∷ []) = (first == 34) || is_ascii_digit first
is_json (first ∷ next ∷ bytes) =
    (first == 34) || (if first == 45 then is_ascii_digit next else is_ascii_digit first)

-- **a word as JSON**: a number or JSON text as it is, null for `-` and `end`, and any other word in
-- quotes
abbrev pub json_of : List ℕ → List ℕ
json_of word =
    if is_json word || bytes_eq word (codes "null") then word
    else if bytes_eq word (codes "-") || bytes_eq word (codes "end") then codes "null"
    else quoted word

abbrev pub flag : Bool → List ℕ
flag true = codes "true"
flag false = codes "false"

abbrev pub other_item : List ℕ → List ℕ
other_item word = 44 ∷ json_of word

abbrev pub items : Words → List ℕ
items [] = []
items (word ∷ words) = json_of word ++ flat_map other_item words

abbrev pub array : Words → List ℕ
array words = 91 ∷ items words ++ 93 ∷ []

-- the number of an event, whose it is, and its number among theirs
abbrev pub event_members : Words → List Member
event_members words =
    (codes "event", json_of (get_or words 1 [])) ∷ (codes "side", json_of (get_or words 2 []))
    ∷ (codes "number", json_of (get_or words 3 [])) ∷ []

-- the members that the words of a field become
abbrev pub members : Field → Words → List Member
members (literal word) words = []
members (labelled key word) words = (key, quoted word) ∷ []
members (one key) words = (key, json_of (get_or words 0 [])) ∷ []
members (many key) words = (key, array words) ∷ []
members (whether word) words = (word, flag (not (is_none words))) ∷ []
members an_event words = event_members words

-- **the members that the words of these fields become**
abbrev pub members_of : List Field → Words → List Member
members_of [] words = []
members_of (field ∷ fields) words =
    members field (own field words) ++ members_of fields (behind field words)
