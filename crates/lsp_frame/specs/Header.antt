-- The header part of a frame: what its fields are, and what they say about the content.
use Rattle.std.specs.Prelude.{◌≡◌, ◌⊎◌, ℕ, ◌-◌, ◌<◌, List, [], ◌∷◌, ◌++◌, length, take, drop, map, filter, Bool, true, false, not, ◌||◌, ◌&&◌, ◌==◌, nat_le, Result, Ok, Err, codes, if◌then◌else◌}
use Rattle.std.specs.List.{flat_map, list_any, list_all, prefix_len, suffix_len, slice_split, AllPass, AllByRecursion}
use Rattle.std.specs.Char.{is_ascii_digit, is_ascii_alphanumeric, to_ascii_lowercase}
use Rattle.std.specs.Str.{bytes_eq}
use Rattle.std.specs.Str.Parse.{digits_value}
use Rattle.lsp_frame.specs.Bounds.{Bounds}
use Rattle.lsp_types.specs.declared.rules.TheConstants as rules

-- CR LF
abbrev pub line_end : List ℕ
line_end = 13 ∷ 10 ∷ []

-- CR LF CR LF
abbrev pub blank_line : List ℕ
blank_line = 13 ∷ 10 ∷ 13 ∷ 10 ∷ []

-- a letter, a digit, or one of ! # $ % & ' * + - . ^ _ ` | ~
abbrev pub is_token : ℕ → Bool
is_token b = is_ascii_alphanumeric b || list_any (λ c. c == b) (codes "!#$%&'*+-.^_`|~")

-- a visible character, a space or a tab
abbrev pub is_text : ℕ → Bool
is_text b = b == 9 || (nat_le 32 b && nat_le b 126)

-- a space or a tab
abbrev pub is_blank : ℕ → Bool
is_blank b = b == 32 || b == 9

pub record Field : Type 0 where
  pub name : List ℕ
  pub value : List ℕ

pub record IsField (f : Field) : Type 0 where
  pub named : 0 < length f.name
  pub token : AllPass is_token f.name
  pub text : AllPass is_text f.value

-- the name, a colon, the value, CR LF
abbrev pub line : Field → List ℕ
line f = f.name ++ 58 ∷ (f.value ++ line_end)

-- the header part has these fields: a line for each, and CR LF
pub record Spells (header : List ℕ) (fields : List Field) : Type 0 where
  pub lines : header ≡ flat_map line fields ++ line_end
  pub each : AllByRecursion IsField fields

-- without the spaces and tabs at its two ends
abbrev pub trimmed : List ℕ → List ℕ
trimmed v = let rest = drop (prefix_len is_blank v) v in take (length rest - suffix_len is_blank rest) rest

-- the word in lower case, written in any case
abbrev pub is_word : List ℕ → List ℕ → Bool
is_word bytes word = bytes_eq (map to_ascii_lowercase bytes) word

abbrev pub is_content_length : Field → Bool
is_content_length f = is_word f.name (codes "content-length")

abbrev pub is_content_type : Field → Bool
is_content_type f = is_word f.name (codes "content-type")

-- what stands as a length
abbrev pub lengths : List Field → List (List ℕ)
lengths fields = map (λ f. trimmed f.value) (filter is_content_length fields)

-- 1 to 10 decimal digits
abbrev pub is_number : List ℕ → Bool
is_number v = nat_le 1 (length v) && nat_le (length v) 10 && list_all is_ascii_digit v

-- the length of the content that one value gives, or its fault
abbrev pub length_of : Bounds → List ℕ → Result ℕ ℕ
length_of limits v =
    if is_number v then (if nat_le (digits_value 10 v) limits.content
    then Ok (digits_value 10 v) else Err rules.CONTENT_TOO_LONG)
    else Err rules.BAD_CONTENT_LENGTH

-- the length of the content that the values give, or the least fault
abbrev pub content_length : Bounds → List (List ℕ) → Result ℕ ℕ
content_length limits [] = Err rules.NOT_ONE_CONTENT_LENGTH
content_length limits (v ∷ []) = length_of limits v
content_length limits (v ∷ w ∷ vs) = Err rules.NOT_ONE_CONTENT_LENGTH

-- inside double quotes
abbrev pub quoted : List ℕ → List ℕ
quoted word = 34 ∷ (word ++ 34 ∷ [])

-- utf-8 or utf8, bare or inside double quotes
abbrev pub is_utf8_name : List ℕ → Bool
is_utf8_name name = is_word name (codes "utf-8") || is_word name (codes "utf8")
    || is_word name (quoted (codes "utf-8")) || is_word name (quoted (codes "utf8"))

-- a part that begins with charset= continues with a name of UTF-8
abbrev pub fits_charset : List ℕ → Bool
fits_charset part = not (is_word (take 8 part) (codes "charset=")) || is_utf8_name (drop 8 part)

-- a value cut at each semicolon, the parts without the spaces and tabs at their ends
abbrev pub parts : List ℕ → List (List ℕ)
parts value = map trimmed (slice_split (λ b. b == 59) value)

-- no `Content-Type` names a charset other than UTF-8
abbrev pub fits_charsets : List Field → Bool
fits_charsets fields = list_all (λ f. list_all fits_charset (parts f.value)) (filter is_content_type fields)

abbrev pub length_and_charset : Bool → Result ℕ ℕ → Result ℕ ℕ
length_and_charset true said = said
length_and_charset false (Ok n) = Err rules.CHARSET_NOT_UTF_8
length_and_charset false (Err rule) = Err rule

-- the length of the content that the fields give, or the least fault
abbrev pub said_by : Bounds → List Field → Result ℕ ℕ
said_by limits fields = length_and_charset (fits_charsets fields) (content_length limits (lengths fields))

-- the header part says that the content has this length, or has this fault and no lesser one
abbrev pub Says : Bounds → List ℕ → Result ℕ ℕ → Type 0
Says limits header said = ((fields : List Field) × Spells header fields × (said_by limits fields ≡ said))
    ⊎ (((fields : List Field) → Spells header fields → ⊥) × (said ≡ Err rules.BAD_HEADER_LINE))
