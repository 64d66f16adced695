-- What the bytes of a log are as records.
use Rattle.std.specs.Prelude.{◌≡◌, ◌⊎◌, ◌==◌, ◌&&◌, ℕ, ℤ, pos, negsuc, ◌+◌, ◌^◌, ◌<◌, ◌≤◌, nat_lt, nat_le, List, [], ◌∷◌, ◌++◌, length, take, drop, Bool, true, false, if◌then◌else◌, Option, Some, None, codes, decimal, IsUtf8, IsTrue, slice_index}
use Rattle.std.specs.Fmt.{signed_decimal}
use Rattle.std.specs.List.{flat_map, list_any, AllByRecursion}
use Rattle.lsp_types.specs.declared.side.Side.{Side}
use Rattle.lsp_types.specs.declared.side.Side.TheVariants.{Editor, Server}
use Rattle.lsp_log.specs.declared.fault.LogCode.{LogCode}
use Rattle.lsp_log.specs.declared.fault.LogCode.TheVariants.{L1, L2, L3, L4, L5, L6}
use Rattle.lsp_frame.specs.Bounds.{Bounds}
use Rattle.lsp_frame.specs.declared.format.Format.{Format}
use Rattle.lsp_frame.specs.declared.format.Format.TheVariants.{One, Two}

-- what the editor wrote or read; or a version, a URI and a text that it showed
pub data Record : Type 0 where
  chunk : Side → List ℕ → Record
  shown : ℤ → List ℕ → List ℕ → Record

-- the parts of a record's first line
pub data Head : Type 0 where
  chunk_head : Side → ℕ → Head
  shown_head : ℤ → ℕ → ℕ → Head

abbrev pub letter : Side → List ℕ
letter Editor = codes "E "
letter Server = codes "S "

-- the first line of a record, without its LF
abbrev pub head_line : Head → List ℕ
head_line (chunk_head side n) = letter side ++ decimal n
head_line (shown_head v a b) = codes "T " ++ signed_decimal v ++ codes " " ++ decimal a ++ codes " " ++ decimal b

-- numbers of at most 64 digits, as far as `decimal` goes
abbrev pub has_decimal : ℕ → Bool
has_decimal n = nat_lt n (10 ^ 64)

abbrev pub has_signed : ℤ → Bool
has_signed (pos n) = has_decimal n
has_signed (negsuc n) = has_decimal (n + 1)

abbrev pub is_writable : Head → Bool
is_writable (chunk_head side n) = has_decimal n
is_writable (shown_head v a b) = has_signed v && (has_decimal a && has_decimal b)

abbrev pub head_of : Record → Head
head_of (chunk side b) = chunk_head side (length b)
head_of (shown v uri text) = shown_head v (length uri) (length text)

-- the parts after the first line
abbrev pub parts_of : Record → List (List ℕ)
parts_of (chunk side b) = b ∷ []
parts_of (shown v uri text) = uri ∷ text ∷ []

abbrev pub with_feed : List ℕ → List ℕ
with_feed part = part ++ 10 ∷ []

-- the one spelling of a record
abbrev pub spelling : Record → List ℕ
spelling r = with_feed (head_line (head_of r)) ++ flat_map with_feed (parts_of r)

abbrev pub is_within : ℕ → ℕ → ℕ → Bool
is_within low high n = nat_le low n && nat_le n high

abbrev pub is_i32 : ℤ → Bool
is_i32 (pos n) = nat_lt n (2 ^ 31)
is_i32 (negsuc n) = nat_lt n (2 ^ 31)

-- each number is in its range
abbrev pub in_range : Bounds → Head → Bool
in_range limits (chunk_head side n) = is_within 1 limits.chunk n
in_range limits (shown_head v a b) = is_i32 v && is_within 1 8192 a && is_within 0 limits.document b

abbrev pub IsText : Record → Type 0
IsText (chunk side b) = Unit {0}
IsText (shown v uri text) = IsUtf8 uri × IsUtf8 text

-- the record is within the limits
pub record Fits (limits : Bounds) (r : Record) : Type 0 where
  pub range : IsTrue (in_range limits (head_of r))
  pub text : IsText r

-- why there is no record at some place: its first line has none of the forms, a number is out of
-- range, bytes are missing, another byte is where a LF belongs, a text is not UTF-8
pub data Flaw : Type 0 where
  bad_line : Flaw
  bad_number : Flaw
  cut_short : Flaw
  bad_end : Flaw
  not_utf8 : Flaw

abbrev pub holds_feed : List ℕ → Bool
holds_feed line = list_any (λ b. b == 10) line

-- the lengths of the parts after the first line
abbrev pub lengths_of : Head → List ℕ
lengths_of (chunk_head side n) = n ∷ []
lengths_of (shown_head v a b) = a ∷ b ∷ []

-- what is wrong where parts of these lengths should stand, each with its LF
abbrev pub parts_flaw : List ℕ → List ℕ → Option Flaw
parts_flaw [] bytes = None
parts_flaw (n ∷ ns) bytes =
    if nat_le (length bytes) n then Some cut_short
    else (if slice_index bytes n == 10 then parts_flaw ns (drop (n + 1) bytes) else Some bad_end)

-- the bytes begin with a line of at most 63 bytes and its LF
pub record HasLine (bytes line after : List ℕ) : Type 0 where
  pub whole : bytes ≡ with_feed line ++ after
  pub short : length line < 64
  pub one : holds_feed line ≡ false

-- the bytes begin with a head whose numbers are in their ranges
pub record HasHead (limits : Bounds) (bytes : List ℕ) (head : Head) (after : List ℕ) : Type 0 where
  pub line : HasLine bytes (head_line head) after
  pub range : in_range limits head ≡ true

-- the bytes begin with no record, for this reason
abbrev pub Breaks : Bounds → List ℕ → Flaw → Type 0
Breaks limits bytes bad_line =
    ((64 ≤ length bytes) × (holds_feed (take 64 bytes) ≡ false))
    ⊎ ((line : List ℕ) × (after : List ℕ) × HasLine bytes line after × ((head : Head) → is_writable head ≡ true → line ≡ head_line head → ⊥))
Breaks limits bytes bad_number = (head : Head) × (after : List ℕ) × HasLine bytes (head_line head) after × (is_writable head ≡ true) × (in_range limits head ≡ false)
Breaks limits bytes cut_short =
    ((0 < length bytes) × (length bytes < 64) × (holds_feed bytes ≡ false))
    ⊎ ((head : Head) × (after : List ℕ) × HasHead limits bytes head after × (parts_flaw (lengths_of head) after ≡ Some cut_short))
Breaks limits bytes bad_end = (head : Head) × (after : List ℕ) × HasHead limits bytes head after × (parts_flaw (lengths_of head) after ≡ Some bad_end)
Breaks limits bytes not_utf8 =
    (r : Record) × (after : List ℕ) × (bytes ≡ spelling r ++ after) × (in_range limits (head_of r) ≡ true) × (IsText r → ⊥)

-- nothing is left, or no record stands there
abbrev pub EndsWith : Bounds → List ℕ → Option Flaw → Type 0
EndsWith limits rest None = rest ≡ []
EndsWith limits rest (Some flaw) = Breaks limits rest flaw

-- the records end since bytes are missing
abbrev pub wants_bytes : Option Flaw → Bool
wants_bytes None = true
wants_bytes (Some cut_short) = true
wants_bytes (Some flaw) = false

-- the code of what ends the records; where the log was cut, L6 stands for an end without a fault
-- and for bytes that are missing
abbrev pub code_of : Option Flaw → Bool → Option LogCode
code_of None false = None
code_of None true = Some L6
code_of (Some bad_line) cut = Some L2
code_of (Some bad_number) cut = Some L3
code_of (Some cut_short) false = Some L4
code_of (Some cut_short) true = Some L6
code_of (Some bad_end) cut = Some L4
code_of (Some not_utf8) cut = Some L5

-- the first line of a log of this format
abbrev pub first_line : Format → List ℕ
first_line One = codes "lsp-session 1" ++ 10 ∷ []
first_line Two = codes "lsp-session 2" ++ 10 ∷ []

-- the bytes begin with the first line of no format
abbrev pub NoFirstLine : List ℕ → Type 0
NoFirstLine bytes = (format : Format) (rest : List ℕ) → bytes ≡ first_line format ++ rest → ⊥

-- a log of this format has these records, and then the rest
pub record BeginsLog (limits : Bounds) (format : Format) (log : List ℕ) (rs : List Record) (rest : List ℕ) : Type 0 where
  pub whole : take limits.log log ≡ first_line format ++ flat_map spelling rs ++ rest
  pub fits : AllByRecursion (Fits limits) rs

-- the log has the first line of this format, these records, and then an end
pub record HasRecords (limits : Bounds) (format : Format) (log : List ℕ) (rs : List Record) (fault : Option LogCode) : Type 0 where
  pub rest : List ℕ
  pub flaw : Option Flaw
  pub begins : BeginsLog limits format log rs rest
  pub ends : EndsWith limits rest flaw
  pub code : code_of flaw (nat_lt limits.log (length log)) ≡ fault

abbrev pub at_record : ℕ → Option LogCode → Option (ℕ × LogCode)
at_record number None = None
at_record number (Some code) = Some (number, code)

-- the format of a log, its records, and its fault with the number of its record; a log that begins
-- with no first line has no format and no record
abbrev pub IsLog : Bounds → List ℕ → Option Format → List Record → Option (ℕ × LogCode) → Type 0
IsLog limits log (Some format) rs fault = (code : Option LogCode) × HasRecords limits format log rs code × (fault ≡ at_record (length rs + 1) code)
IsLog limits log None rs fault = (rs ≡ []) × (fault ≡ Some (0, L1)) × NoFirstLine (take limits.log log)
