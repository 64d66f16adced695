-- What is held of each document after calls, and the terms on which it is held.
use Rattle.std.specs.Prelude.{ℕ, ℤ, int_lt, Bool, List, [], ◌∷◌, ◌++◌, if◌then◌else◌, Option, Some}
use Rattle.std.specs.Prelude.{None, Result, Ok, Err}
use Rattle.std.specs.List.{list_any}
use Rattle.std.specs.Option.{option_or}
use Rattle.std.specs.Ordering.{int_eq}
use Rattle.std.specs.Str.{bytes_eq}
use Rattle.lsp_types.specs.declared.line_ends.LineEnds.{LineEnds}
use Rattle.lsp_frame.specs.Bounds.{Bounds}
use Rattle.lsp_frame.specs.declared.format.Format.{Format}
use Rattle.lsp_frame.specs.declared.format.Format.TheVariants.{One, Two}
use Rattle.lsp_text.specs.Edits.{applied}
use Rattle.lsp_docs.specs.Calls.{Text, Bytes, Call, opens, changes, is_close}

-- ---- terms, which a log's format and the limits give

-- the greatest length of a text in bytes of UTF-8, how many versions that an opening held before
-- the present one are kept, and whether texts are compared with their line ends
pub record Terms : Type 0 where
  pub limit : ℕ
  pub kept : ℕ
  pub line_ends : LineEnds

-- how many versions a format keeps
abbrev pub kept_of : Format → ℕ
kept_of One = 0
kept_of Two = 16

abbrev pub terms_of : Bounds → Format → Terms
terms_of b format = record { limit = b.document; kept = kept_of format; line_ends = b.line_ends }

-- ---- what is held of each document, read off the calls that were made

-- a text at a version
pub record Version : Type 0 where
  pub number : ℤ
  pub text : Text

abbrev pub versioned : ℤ → Text → Version
versioned number text = record { number = number; text = text }

abbrev pub is_after : ℤ → Version → Bool
is_after number v = int_lt number v.number

abbrev pub is_before : ℤ → Version → Bool
is_before number v = int_lt v.number number

abbrev pub is_at : ℤ → Version → Bool
is_at number v = int_eq v.number number

-- a call that opens this URI, and with what
abbrev pub opening : Bytes → Call → Option Version
opening uri (opens u number text) = if bytes_eq uri u then Some (versioned number text) else None
opening uri _ = None

-- the text that changes made, or the old one where a rule refused them
abbrev pub text_or : Text → Result Text ℕ → Text
text_or old (Ok t) = t
text_or old (Err rule) = old

-- a document after a call: where the call changes it, at the new version, with the new text
abbrev pub revised : Terms → Bytes → Version → Call → Version
revised terms uri v (changes enc kind u number cs) =
    if bytes_eq uri u then versioned number (text_or v.text (applied terms.limit enc v.text cs))
    else v
revised terms uri v _ = v

abbrev pub revised_by : Terms → Bytes → Version → List Call → Version
revised_by terms uri v [] = v
revised_by terms uri v (c ∷ cs) = revised_by terms uri (revised terms uri v c) cs

-- the version and text of an opening after these calls, unless one of them closes it
abbrev pub held_since : Terms → Bytes → List Call → Option Version → Option Version
held_since terms uri after None = None
held_since terms uri after (Some v) =
    if list_any (is_close uri) after then None else Some (revised_by terms uri v after)

-- what is held of this URI after the calls: its opening that no close follows, with all later
-- changes
abbrev pub held : Terms → Bytes → List Call → Option Version
held terms uri [] = None
held terms uri (c ∷ after) =
    option_or (held_since terms uri after (opening uri c)) (held terms uri after)

-- an open document
pub record Held : Type 0 where
  pub uri : Bytes
  pub version : Version

abbrev pub as_held : Bytes → Option Version → List Held
as_held uri None = []
as_held uri (Some v) = record { uri = uri; version = v } ∷ []

abbrev pub held_entry : Terms → Call → List Call → List Held
held_entry terms (opens uri number t) after =
    as_held uri (held_since terms uri after (Some (versioned number t)))
held_entry terms _ after = []

-- the open documents, in the order in which they were opened
abbrev pub documents : Terms → List Call → List Held
documents terms [] = []
documents terms (c ∷ after) = held_entry terms c after ++ documents terms after
