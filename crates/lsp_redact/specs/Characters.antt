-- What a character is shown by: another of its kind, which has as many units in each encoding.
use Rattle.std.specs.Prelude.{ℕ, List, [], ◌∷◌, map, Bool, true, false, ◌==◌, ◌&&◌, nat_le, nat_lt}
use Rattle.std.specs.Prelude.{if◌then◌else◌, Option, Some, None, chars, encode_utf8_all}
use Rattle.lsp_replay.specs.Common.{compared, LineEnds}
use Rattle.lsp_facts.specs.TwoTexts.{TwoTexts}
use Rattle.lsp_redact.specs.Shape as shape
use Rattle.lsp_redact.specs.Shape.{Character, mark, of_kind}
use Rattle.lsp_redact.specs.declared.characters.Kind.{Kind}
use Rattle.lsp_redact.specs.declared.characters.Kind.TheVariants.{Small, Capital, Digit, Other}
use Rattle.lsp_redact.specs.declared.characters.Kind.TheVariants.{TwoBytes, ThreeBytes, FourBytes}

-- ---- kinds

abbrev pub lies : ℕ → ℕ → ℕ → Bool
lies first last c = nat_le first c && nat_le c last

-- small letters, capitals and digits of ASCII, and all else there
abbrev pub ascii_kind : ℕ → Kind
ascii_kind c =
    if lies 97 122 c then Small
    else (if lies 65 90 c then Capital else (if lies 48 57 c then Digit else Other))

-- beyond ASCII, how many bytes of UTF-8 the character has
abbrev pub kind_of : ℕ → Kind
kind_of c =
    if nat_lt c 0x80 then ascii_kind c
    else (if nat_lt c 0x800 then TwoBytes
    else (if nat_lt c 0x1_0000 then ThreeBytes else FourBytes))

-- ---- what is left of a character

abbrev pub is_apart : Option ℕ → ℕ → Bool
is_apart None c = false
is_apart (Some other) c = other == c

abbrev pub left_of : Kind → Bool → ℕ → Character
left_of Other is_apart c = mark c
left_of kind is_apart c = of_kind kind is_apart

-- **what is left of a character**, where this one must stay apart from the others
abbrev pub character_of : Option ℕ → ℕ → Character
character_of apart c = left_of (kind_of c) (is_apart apart c) c

-- **what is left of a text**
abbrev pub text_of : Option ℕ → List ℕ → shape.Text
text_of apart text = map (character_of apart) text

-- of the bytes of a text
abbrev pub bytes_left : Option ℕ → List ℕ → shape.Text
bytes_left apart bytes = text_of apart (chars bytes)

-- ---- what is written of it

-- what a kind is shown by, and what the character of it that must stay apart is shown by: x and y,
-- X and Y, 0 and 1, é and è, 一 and 二, 😀 and 😁
abbrev pub shown_by : Kind → Option (ℕ × ℕ)
shown_by Small = Some (120, 121)
shown_by Capital = Some (88, 89)
shown_by Digit = Some (48, 49)
shown_by TwoBytes = Some (0xE9, 0xE8)
shown_by ThreeBytes = Some (0x4E00, 0x4E8C)
shown_by FourBytes = Some (0x1_F600, 0x1_F601)
shown_by Other = None

abbrev pub one_of : Option (ℕ × ℕ) → Bool → ℕ
one_of None is_apart = 32
one_of (Some pair) false = pair.0
one_of (Some pair) true = pair.1

-- a mark as it is; a letter, a digit and what is beyond ASCII are none
abbrev pub mark_by : Kind → ℕ → ℕ
mark_by Other c = c
mark_by _ c = 32

-- **what is written of a character**
abbrev pub written_character : Character → ℕ
written_character (of_kind kind is_apart) = one_of (shown_by kind) is_apart
written_character (mark c) = mark_by (kind_of c) c

-- **of a text, as bytes**
abbrev pub written_text : shape.Text → List ℕ
written_text text = encode_utf8_all (map written_character text)

-- of the bytes of a text that is read
abbrev pub shown_bytes : Option ℕ → List ℕ → List ℕ
shown_bytes apart bytes = written_text (bytes_left apart bytes)

-- ---- the character by which two texts stay apart

-- the character of the second text where it first differs from the first, unless it ends there
abbrev pub first_other : List ℕ → List ℕ → Option ℕ
first_other text [] = None
first_other [] (c ∷ other) = Some c
first_other (d ∷ text) (c ∷ other) = if d == c then first_other text other else Some c

-- that of the editor's own text, as the two are compared
abbrev pub apart_in : LineEnds → TwoTexts → Option ℕ
apart_in ends texts = first_other (compared ends texts.by_messages) (compared ends texts.in_editor)
