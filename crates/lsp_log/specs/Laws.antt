-- Laws of logs.
use Rattle.std.specs.Prelude.{◌≡◌, ◌≤◌, ℕ, List, ◌++◌, length, Option, Some, None}
use Rattle.std.specs.List.{flat_map, AllByRecursion}
use Rattle.lsp_frame.specs.Bounds.{Bounds, IsInRange}
use Rattle.lsp_frame.specs.declared.format.Format.{Format}
use Rattle.lsp_log.specs.declared.fault.LogCode.{LogCode}
use Rattle.lsp_log.specs.Log.{Record, Fits, spelling, first_line, BeginsLog, IsLog}
use Rattle.lsp_log.specs.Place.{place_of, found_behind, IsFaultAt}

-- **Bytes are the log of one format and one list of records, with one fault or none.**
abbrev pub OneLog : Type 0
OneLog = (limits : Bounds) → IsInRange limits → (bytes : List ℕ) (p q : Option Format) (rs us : List Record) (f g : Option (ℕ × LogCode)) → IsLog limits bytes p rs f → IsLog limits bytes q us g → (p ≡ q) × (rs ≡ us) × (f ≡ g)

-- **All bytes are a log.**
abbrev pub SomeLog : Type 0
SomeLog = (limits : Bounds) (bytes : List ℕ) → (format : Option Format) × (records : List Record) × (fault : Option (ℕ × LogCode)) × IsLog limits bytes format records fault

-- **Records that a log begins with are the first of its records, and their format is its format.**
abbrev pub RecordsComeFirst : Type 0
RecordsComeFirst =
    (limits : Bounds) → IsInRange limits → (bytes rest : List ℕ) (format : Format) (whole : Option Format) (rs us : List Record) (f : Option (ℕ × LogCode)) → BeginsLog limits format bytes rs rest → IsLog limits bytes whole us f
    → (whole ≡ Some format) × (others : List Record) × (us ≡ rs ++ others)

-- **What is written of records within the limits, after the first line of a format, is the log of
-- this format and these records.**
abbrev pub WrittenIsRead : Type 0
WrittenIsRead = (limits : Bounds) (format : Format) (rs : List Record) → AllByRecursion (Fits limits) rs → length (first_line format ++ flat_map spelling rs) ≤ limits.log → IsLog limits (first_line format ++ flat_map spelling rs) (Some format) rs None

-- **The fault of a log lies at one place, where one line stands.**
abbrev pub OnePlace : Type 0
OnePlace = (limits : Bounds) → IsInRange limits → (bytes : List ℕ) (format : Option Format) (records : List Record) (fault : ℕ × LogCode) → IsLog limits bytes format records (Some fault)
    → IsFaultAt limits bytes (place_of format records) (found_behind limits format records bytes)
    × ((place : ℕ) (line : List ℕ) → IsFaultAt limits bytes place line → (place ≡ place_of format records) × (line ≡ found_behind limits format records bytes))
