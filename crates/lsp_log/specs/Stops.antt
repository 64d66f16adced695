-- Why a tape begins with no record, as the code says it.
use Rattle.std.specs.Prelude.{◌≡◌, ℕ, ℤ, ◌<◌, ◌≤◌, List, [], ◌∷◌, ◌++◌, length, take, Option, Some, None, Bool, true, false, Result, Ok, Err, IsUtf8, string_bytes, String, Vec}
use Rattle.std.specs.List.{flat_map}
use Rattle.std.specs.Global.{Global}
use Rattle.lsp_frame.specs.Bounds.{Bounds}
use Rattle.lsp_frame.specs.Told.{Told}
use Rattle.lsp_frame.specs.declared.format.Format.{Format}
use Rattle.lsp_log.specs.Log as log
use Rattle.lsp_log.specs.Log.{Flaw, bad_line, bad_number, cut_short, bad_end, not_utf8, EndsWith, Fits, spelling, parts_flaw, parts_of, lengths_of, wants_bytes, with_feed, first_line, NoFirstLine, head_of, in_range, HasHead, IsText}
use Rattle.lsp_log.specs.Place.{line_of}
use Rattle.lsp_log.specs.Tape.{Held, Pulled, IsOver, ReadFailed, FailsShort, Taken}
use Rattle.lsp_log.specs.Room.{AwaitsPart, AwaitsRecord}
use Rattle.lsp_log.specs.Records.{record_view}
use Rattle.lsp_log.specs.declared.record.Record.{Record}
use Rattle.lsp_log.specs.declared.stop.Stop.{Stop}
use Rattle.lsp_log.specs.declared.stop.Stop.TheVariants.{FirstLine, Nothing, Form, Number, Short, End, Text, Read, Memory}

abbrev pub TextAnswer : List ℕ → Result (String Global) Stop → Type 0
TextAnswer bytes (Ok text) = string_bytes text ≡ bytes
TextAnswer bytes (Err Text) = IsUtf8 bytes → ⊥
TextAnswer bytes (Err stop) = ⊥

-- the bytes begin with the first line of no format, and where they are fewer than its 14, no more
-- can be read
pub record LacksFirst (old new : Held) (before after : Told) : Type 0 where
  pub piece : List ℕ
  pub pulled : Pulled old.left new.left before after piece
  pub none : NoFirstLine (old.rest ++ piece)
  pub over : length (old.rest ++ piece) < 14 → IsOver new.left after
  pub held : new.rest ≡ old.rest ++ piece

abbrev pub FirstAnswer : Held → Held → Told → Told → Result Format Stop → Type 0
FirstAnswer old new before after (Ok format) = Taken old new before after (first_line format)
FirstAnswer old new before after (Err FirstLine) = LacksFirst old new before after
FirstAnswer old new before after (Err Read) = FailsShort old before after 14
FirstAnswer old new before after (Err stop) = ⊥

-- this holds of the bytes read; where bytes are wanted, no more can be read
pub record Ends (P : List ℕ → Option Flaw → Type 0) (old new : Held) (before after : Told) (flaw : Option Flaw) : Type 0 where
  pub piece : List ℕ
  pub pulled : Pulled old.left new.left before after piece
  pub holds : P (old.rest ++ piece) flaw
  pub over : wants_bytes flaw ≡ true → IsOver new.left after

-- memory was refused after bytes of which this holds, and no others were given
pub record Refused (M : List ℕ → Type 0) (old new : Held) (before after : Told) : Type 0 where
  pub front : List ℕ
  pub awaits : M front
  pub taken : Taken old new before after front

-- what the bytes read say about each stop: P where there is no record, M where memory was refused
abbrev pub StopAnswer : (List ℕ → Option Flaw → Type 0) → (List ℕ → Type 0) → Held → Held → Told → Told → Stop → Type 0
StopAnswer P M old new before after FirstLine = ⊥
StopAnswer P M old new before after Nothing = Ends P old new before after None
StopAnswer P M old new before after Form = Ends P old new before after (Some bad_line)
StopAnswer P M old new before after Number = Ends P old new before after (Some bad_number)
StopAnswer P M old new before after Short = Ends P old new before after (Some cut_short)
StopAnswer P M old new before after End = Ends P old new before after (Some bad_end)
StopAnswer P M old new before after Text = Ends P old new before after (Some not_utf8)
StopAnswer P M old new before after Read = ReadFailed old.left before after
StopAnswer P M old new before after Memory = Refused M old new before after

-- the log has its fault in a record's parts
abbrev pub is_flaw : Stop → Bool
is_flaw Short = true
is_flaw End = true
is_flaw Text = true
is_flaw stop = false

-- the tape again holds these bytes, where the log has its fault at this stop
abbrev pub put_back_at : Stop → List ℕ → Held → Held
put_back_at Short line tape = record tape { rest = line }
put_back_at End line tape = record tape { rest = line }
put_back_at Text line tape = record tape { rest = line }
put_back_at stop line tape = tape

-- of these bytes, which end the records for this reason, the first line is held, whatever may
-- follow
abbrev pub HoldsLine : List ℕ → List ℕ → Option Flaw → Type 0
HoldsLine held bytes flaw = (more : List ℕ) → (wants_bytes flaw ≡ true → more ≡ []) → line_of (take 64 held) ≡ line_of (take 64 (bytes ++ more))

-- of these bytes at most 64 come after those that show a wrong line end after a part of one of
-- these lengths
abbrev pub LittlePast : List ℕ → List ℕ → Type 0
LittlePast lengths bytes = (front after : List ℕ) → bytes ≡ front ++ after → parts_flaw lengths front ≡ Some bad_end → length after ≤ 64

-- of these bytes, which end the records for this reason, at most 64 come after those that show it
abbrev pub ReadsFew : Bounds → List ℕ → Option Flaw → Type 0
ReadsFew limits bytes (Some bad_line) = length bytes ≤ 64
ReadsFew limits bytes (Some bad_number) = length bytes ≤ 64
ReadsFew limits bytes (Some bad_end) = (head : log.Head) × (after : List ℕ) × HasHead limits bytes head after × LittlePast (lengths_of head) after
ReadsFew limits bytes (Some not_utf8) = (r : log.Record) × (after : List ℕ) × (bytes ≡ spelling r ++ after) × (in_range limits (head_of r) ≡ true) × (length after ≤ 64)
ReadsFew limits bytes flaw = Unit {0}

-- parts of these lengths don't stand there
abbrev pub PartsLack : List ℕ → List ℕ → Option Flaw → Type 0
PartsLack lengths bytes (Some cut_short) = parts_flaw lengths bytes ≡ Some cut_short
PartsLack lengths bytes (Some bad_end) = (parts_flaw lengths bytes ≡ Some bad_end) × LittlePast lengths bytes
PartsLack lengths bytes flaw = ⊥

-- two parts, one after the other
pub record TwoParts (old new : Held) (before after : Told) (first second : ℕ) (front back : List ℕ) : Type 0 where
  pub taken : Taken old new before after (with_feed front ++ with_feed back)
  pub front_len : length front ≡ first
  pub back_len : length back ≡ second

-- the parts after a head are flawed
abbrev pub PartsBreak : log.Head → List ℕ → Option Flaw → Type 0
PartsBreak head bytes (Some not_utf8) = (r : log.Record) × (after : List ℕ) × (head_of r ≡ head) × (bytes ≡ flat_map with_feed (parts_of r) ++ after) × (IsText r → ⊥) × (length after ≤ 64)
PartsBreak head bytes flaw = PartsLack (lengths_of head) bytes flaw

-- the parts of a record with this head
pub record HasParts (old new : Held) (before after : Told) (head : log.Head) (r : log.Record) : Type 0 where
  pub taken : Taken old new before after (flat_map with_feed (parts_of r))
  pub heads : head_of r ≡ head
  pub text : IsText r

abbrev pub PartsAnswer : Held → Held → Told → Told → log.Head → Result Record Stop → Type 0
PartsAnswer old new before after head (Ok r) = HasParts old new before after head (record_view r)
PartsAnswer old new before after head (Err stop) = StopAnswer (PartsBreak head) (AwaitsPart (lengths_of head)) old new before after stop

-- two parts, or why the parts of a snapshot with these lengths don't stand there
abbrev pub TwoPartsAnswer : Held → Held → Told → Told → ℕ → ℕ → Result (Vec ℕ Global × Vec ℕ Global) Stop → Type 0
TwoPartsAnswer old new before after first second (Ok parts) = TwoParts old new before after first second (parts.0).items (parts.1).items
TwoPartsAnswer old new before after first second (Err stop) =
    (version : ℤ) → StopAnswer (PartsBreak (log.shown_head version first second)) (AwaitsPart (first ∷ second ∷ [])) old new before after stop

pub record Found (limits : Bounds) (old new : Held) (before after : Told) (r : log.Record) : Type 0 where
  pub taken : Taken old new before after (spelling r)
  pub fits : Fits limits r

-- the records end so, the line is held that stands there, and little more was read
abbrev pub EndsAt : Bounds → List ℕ → List ℕ → Option Flaw → Type 0
EndsAt limits held bytes flaw = EndsWith limits bytes flaw × HoldsLine held bytes flaw × ReadsFew limits bytes flaw

-- a record, or why there is none
abbrev pub FoundAnswer : Bounds → Held → Held → Told → Told → Result Record Stop → Type 0
FoundAnswer limits old new before after (Ok r) = Found limits old new before after (record_view r)
FoundAnswer limits old new before after (Err stop) = StopAnswer (EndsAt limits new.rest) (AwaitsRecord limits) old new before after stop
