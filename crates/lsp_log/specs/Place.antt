-- Where the records of a log end, and what stands there.
use Rattle.std.specs.Prelude.{◌≡◌, ◌==◌, ℕ, List, [], ◌∷◌, ◌++◌, length, take, drop, if◌then◌else◌, Option, Some, None}
use Rattle.std.specs.List.{flat_map}
use Rattle.lsp_frame.specs.Bounds.{Bounds}
use Rattle.lsp_frame.specs.declared.format.Format.{Format}
use Rattle.lsp_log.specs.declared.fault.LogCode.{LogCode}
use Rattle.lsp_log.specs.Log.{Record, first_line, spelling, IsLog}

-- how many bytes the first line and these records have; none were read where there is no first line
abbrev pub place_of : Option Format → List Record → ℕ
place_of None records = 0
place_of (Some format) records = length (first_line format ++ flat_map spelling records)

-- up to the first LF, which is included
abbrev pub line_of : List ℕ → List ℕ
line_of [] = []
line_of (b ∷ bytes) = if b == 10 then b ∷ [] else b ∷ line_of bytes

-- how many bytes are looked at: as many as a first line has where it is missing, and else as many
-- as a record's first line has at most
abbrev pub shown_bytes : Option Format → ℕ
shown_bytes None = 14
shown_bytes (Some format) = 64

-- the line that the bytes begin with, as far as these go
abbrev pub shown_line : Option Format → List ℕ → List ℕ
shown_line format bytes = line_of (take (shown_bytes format) bytes)

-- what follows these records
abbrev pub found_behind : Bounds → Option Format → List Record → List ℕ → List ℕ
found_behind limits format records log = shown_line format (drop (place_of format records) (take limits.log log))

-- the log has a fault, which lies after this many bytes, and this line is there
pub record IsFaultAt (limits : Bounds) (log : List ℕ) (place : ℕ) (line : List ℕ) : Type 0 where
  pub format : Option Format
  pub records : List Record
  pub fault : ℕ × LogCode
  pub is_log : IsLog limits log format records (Some fault)
  pub place_is : place ≡ place_of format records
  pub line_is : line ≡ found_behind limits format records log
