-- What a tape holds, and what it takes of its reader.
use Rattle.std.specs.Prelude.{◌≡◌, ◌==◌, ℕ, ◌+◌, ◌<◌, ◌≤◌, List, [], ◌∷◌, ◌++◌, length, take, drop, Option, Some, None, Bool, true, false, Result, Ok, Err, slice_index}
use Rattle.std.specs.Prelude.{Vec}
use Rattle.std.specs.Io.KnownBytes.{IsAtEnd}
use Rattle.std.specs.Global.{Global}
use Rattle.lsp_frame.specs.Told.{Told, Gave, KeepsBytes, after_failure}
use Rattle.lsp_log.specs.Log.{HasLine, holds_feed, with_feed}
use Rattle.lsp_log.specs.declared.stop.Stop.{Stop}
use Rattle.lsp_log.specs.declared.stop.Stop.TheVariants.{Short, End, Read, Memory}

-- the bytes that were read and not given, and how many more may be read
pub record Held : Type 0 where
  pub rest : List ℕ
  pub left : ℕ

-- the reader gave these bytes, and didn't fail
pub record Pulled (left_old left_new : ℕ) (before after : Told) (piece : List ℕ) : Type 0 where
  pub read : Gave before after piece
  pub left : left_new + length piece ≡ left_old
  pub failures : after.failures ≡ before.failures

-- no more can be read: the reader is at its end, or all that may be read was
abbrev pub IsOver : ℕ → Told → Type 0
IsOver left after = 0 < left → IsAtEnd after.bytes

-- the reader failed after it gave some bytes, no more than may be read
pub record ReadFailed (left : ℕ) (before after : Told) : Type 0 where
  pub piece : List ℕ
  pub read : Gave before after piece
  pub within : length piece ≤ left
  pub failures : after.failures ≡ after_failure before.failures

abbrev pub PullAnswer : {E : Type 0} → ℕ → ℕ → Told → Told → List ℕ → Result ℕ E → Type 0
PullAnswer left_old left_new before after buffer (Ok n) = Pulled left_old left_new before after (take n buffer) × (n ≡ 0 → 0 < length buffer → IsOver left_new after)
PullAnswer left_old left_new before after buffer (Err e) = KeepsBytes before after × (after.failures ≡ after_failure before.failures)

-- the reader failed, and with the bytes that it gave before there are fewer than this many
pub record FailsShort (old : Held) (before after : Told) (count : ℕ) : Type 0 where
  pub failed : ReadFailed old.left before after
  pub fewer : length (old.rest ++ failed.piece) < count

-- the tape reads some bytes after those that it holds
pub record Filled (old new : Held) (before after : Told) (piece : List ℕ) : Type 0 where
  pub pulled : Pulled old.left new.left before after piece
  pub rest : new.rest ≡ old.rest ++ piece

abbrev pub FillAnswer : {E : Type 0} → Held → Held → Told → Told → Result ℕ E → Type 0
FillAnswer old new before after (Ok n) = (piece : List ℕ) × Filled old new before after piece × (length piece ≡ n) × (n ≡ 0 → length old.rest < 64 → IsOver new.left after)
FillAnswer old new before after (Err e) = KeepsBytes before after × (after.failures ≡ after_failure before.failures)

abbrev pub ReachAnswer : {E X : Type 0} → Held → Held → Told → Told → ℕ → Result X E → Type 0
ReachAnswer old new before after count (Ok x) = (piece : List ℕ) × Filled old new before after piece × (length new.rest < count → IsOver new.left after)
ReachAnswer old new before after count (Err e) = FailsShort old before after count

abbrev pub LineAnswer : {E : Type 0} → Held → Held → Told → Told → Result (Option ℕ) E → Type 0
LineAnswer old new before after (Ok (Some at)) = (piece : List ℕ) × Filled old new before after piece × (at < length new.rest) × HasLine new.rest (take at new.rest) (drop (at + 1) new.rest)
LineAnswer old new before after (Ok None) = (piece : List ℕ) × Filled old new before after piece × (holds_feed new.rest ≡ false) × (length new.rest < 64 → IsOver new.left after)
LineAnswer old new before after (Err e) = ReadFailed old.left before after

-- the bytes grew by a piece that the reader gave
pub record Grown (left_old left_new : ℕ) (before after : Told) (old new : List ℕ) : Type 0 where
  pub piece : List ℕ
  pub pulled : Pulled left_old left_new before after piece
  pub items : new ≡ old ++ piece

abbrev pub UpAnswer : {X E : Type 0} → ℕ → ℕ → Told → Told → List ℕ → List ℕ → ℕ → Result X E → Type 0
UpAnswer left_old left_new before after old new len (Ok x) =
    Grown left_old left_new before after old new × (length new < len → IsOver left_new after)
UpAnswer left_old left_new before after old new len (Err e) = ReadFailed left_old before after

-- the bytes held and those read are these, and what the tape holds now
pub record Taken (old new : Held) (before after : Told) (given : List ℕ) : Type 0 where
  pub piece : List ℕ
  pub pulled : Pulled old.left new.left before after piece
  pub whole : old.rest ++ piece ≡ given ++ new.rest

-- this many bytes are wanted, and there are less
pub record Wants (old new : Held) (before after : Told) (len : ℕ) : Type 0 where
  pub piece : List ℕ
  pub pulled : Pulled old.left new.left before after piece
  pub less : length (old.rest ++ piece) ≤ len
  pub over : IsOver new.left after

-- there is no LF at that place, and at most 64 bytes from there on were read
pub record Misses (old new : Held) (before after : Told) (len : ℕ) : Type 0 where
  pub piece : List ℕ
  pub pulled : Pulled old.left new.left before after piece
  pub more : len < length (old.rest ++ piece)
  pub near : length (old.rest ++ piece) ≤ len + 64
  pub other : (slice_index (old.rest ++ piece) len == 10) ≡ false

abbrev pub TakeAnswer : Held → Held → Told → Told → ℕ → Result (Vec ℕ Global) Stop → Type 0
TakeAnswer old new before after len (Ok bytes) = Taken old new before after bytes.items × (length bytes.items ≡ len)
TakeAnswer old new before after len (Err Short) = Wants old new before after len
TakeAnswer old new before after len (Err Read) = ReadFailed old.left before after
TakeAnswer old new before after len (Err Memory) = Taken old new before after [] × (0 < len)
TakeAnswer old new before after len (Err stop) = ⊥

abbrev pub PartAnswer : Held → Held → Told → Told → ℕ → Result (Vec ℕ Global) Stop → Type 0
PartAnswer old new before after len (Ok bytes) = Taken old new before after (with_feed bytes.items) × (length bytes.items ≡ len)
PartAnswer old new before after len (Err Short) = Wants old new before after len
PartAnswer old new before after len (Err End) = Misses old new before after len
PartAnswer old new before after len (Err Read) = ReadFailed old.left before after
PartAnswer old new before after len (Err Memory) = Taken old new before after [] × (0 < len)
PartAnswer old new before after len (Err stop) = ⊥

-- one byte past all that may be read was there; or nothing was read, and where nothing more may be
-- read the reader is at its end
abbrev pub IsCutAt : ℕ → Told → Told → Bool → Type 0
IsCutAt left before after true = (left ≡ 0) × (byte : ℕ) × Gave before after (byte ∷ []) × (after.failures ≡ before.failures)
IsCutAt left before after false = Gave before after [] × (IsOver left before → IsAtEnd after.bytes) × (after.failures ≡ before.failures)

abbrev pub CutAnswer : {E : Type 0} → ℕ → Told → Told → Result Bool E → Type 0
CutAnswer left before after (Ok cut) = IsCutAt left before after cut
CutAnswer left before after (Err e) = (left ≡ 0) × ReadFailed 0 before after
