-- For which records, and which events of them, the streams of both sides stand.
use Rattle.std.specs.Prelude.{◌≡◌, ◌⊎◌, ℕ, ◌+◌, ◌<◌, ◌≤◌, List, [], ◌∷◌, ◌++◌, length, map, string_bytes}
use Rattle.std.specs.Prelude.{Bool, false, if◌then◌else◌, Option, Some, None, IsSome, IfSome, Ok, Err}
use Rattle.lsp_frame.specs.Bounds.{Bounds, IsInRange}
use Rattle.lsp_frame.specs.Buffer.{last_of}
use Rattle.lsp_frame.specs.Decoder as decoder
use Rattle.lsp_frame.specs.Frame.{Begins, IsStream}
use Rattle.lsp_log.specs.Log.{Record, chunk}
use Rattle.lsp_session.specs.Sent.{same_side}
use Rattle.lsp_replay.specs.declared.streams.Due.{Due}
use Rattle.lsp_replay.specs.declared.streams.Due.TheVariants as due
use Rattle.lsp_replay.specs.declared.streams.Snapshot.{Snapshot}
use Rattle.lsp_replay.specs.declared.streams.PendingEvents.{PendingEvents}
use Rattle.lsp_replay.specs.declared.streams.PendingEvents.TheVariants as turn
use Rattle.lsp_types.specs.declared.side.Side.{Side}
use Rattle.lsp_types.specs.declared.side.Side.TheVariants.{Editor, Server}
use Rattle.lsp_verdict.specs.Given.{raw_view}
use Rattle.lsp_verdict.specs.Outcome.{is_rest}
use Rattle.lsp_verdict.specs.Placed.{Raw, content, broken, show, new_fault, Placed, joined}
use Rattle.lsp_verdict.specs.declared.raw.Raw as code
use Rattle.lsp_verdict.specs.declared.raw.Raw.TheVariants as lent

-- ---- what is held

-- the decoder of each side, the snapshot pushed last, and which events of the last record are still
-- to be given
pub record State : Type 0 where
  pub editor : decoder.State
  pub server : decoder.State
  pub snapshot : Option Snapshot
  pub turn : Option PendingEvents

abbrev pub of_side : Side → decoder.State → decoder.State → decoder.State
of_side Editor editor server = editor
of_side Server editor server = server

abbrev pub decoder_of : Side → State → decoder.State
decoder_of side s = of_side side s.editor s.server

-- a side's decoder is this one
abbrev pub put : Side → decoder.State → State → State
put side d s = record s {
  editor = of_side side d s.editor;
  server = of_side side s.server d;
}

-- where a snapshot is to be given, it is held
abbrev pub FitsTurn : Option PendingEvents → Option Snapshot → Type 0
FitsTurn (Some turn.Snapshot) snapshot = IsSome snapshot
FitsTurn turn snapshot = Unit {0}

-- ---- an event

-- the snapshot that is held
abbrev pub shown : Option Snapshot → List Raw
shown None = []
shown (Some s) = show s.version (string_bytes s.uri) (string_bytes s.text) ∷ []

-- what is lent of the event is held
abbrev pub IsHeld : State → Due → Type 0
IsHeld s (due.Content side len) = len ≤ length (decoder_of side s).kept
IsHeld s (due.Broken side rule) = Unit {0}
IsHeld s due.Snapshot = IsSome s.snapshot

-- it is this event
abbrev pub IsRaw : State → Due → Raw → Type 0
IsRaw s (due.Content side len) raw = raw ≡ content side (last_of (decoder_of side s).kept len)
IsRaw s (due.Broken side rule) raw = raw ≡ broken side rule
IsRaw s due.Snapshot raw = shown s.snapshot ≡ raw ∷ []

-- with a content, and with a fault of the frames, the bytes of its side after the last whole frame
-- are lent
abbrev pub LendsRest : State → code.Raw → Type 0
LendsRest s (lent.Content side bytes behind) = behind.now ≡ (decoder_of side s).rest
LendsRest s (lent.Broken side rule rest) = rest.now ≡ (decoder_of side s).rest
LendsRest s (lent.Snapshot version uri text) = Unit {0}

-- ---- one step

abbrev pub StepsBy : Option ℕ → Side → decoder.State → decoder.State → Option Due → Type 0
StepsBy (Some rule) side old new next = (next ≡ None) × (new ≡ old)
StepsBy None side old new None = decoder.Next old new (Ok None)
StepsBy None side old new (Some (due.Content by len)) =
    (by ≡ side) × (len ≤ length new.kept) × decoder.Next old new (Ok (Some (last_of new.kept len)))
StepsBy None side old new (Some (due.Broken by rule)) =
    (by ≡ side) × decoder.Next old new (Err rule)
StepsBy None side old new (Some due.Snapshot) = ⊥

-- the decoder of a side skipped its next event, of which there is none after a fault that it gave
abbrev pub StepsSide : Side → decoder.State → decoder.State → Option Due → Type 0
StepsSide side old new next = StepsBy old.fault side old new next

abbrev pub StepsAt : Option PendingEvents → State → State → Option Due → Type 0
StepsAt None old new next = (next ≡ None) × (new ≡ record old { snapshot = None })
StepsAt (Some (turn.Bytes side)) old new next =
    StepsSide side (decoder_of side old) (decoder_of side new) next
    × (new ≡ put side (decoder_of side new) old)
StepsAt (Some turn.Snapshot) old new next =
    (next ≡ Some due.Snapshot) × (new ≡ record old { turn = None }) × IsSome new.snapshot

-- the next event was skipped, or there is none
abbrev pub Steps : State → State → Option Due → Type 0
Steps old new next = StepsAt old.turn old new next

-- ---- records

-- **a side's decoder has still to give these events of these bytes**: contents, and after them a
-- fault that it did not give
pub record IsDue (side : Side) (d : decoder.State) (bytes : List ℕ) (due : List Raw) : Type 0 where
  pub given : List (List ℕ)
  pub left : List (List ℕ)
  pub rest : List ℕ
  pub breaks : Option ℕ
  pub stands : decoder.StandsFor d bytes given
  pub stream : IsStream d.limits bytes (given ++ left) rest breaks
  pub are : due ≡ map (content side) left ++ new_fault side d.fault breaks

-- ---- the last record

-- a frame ended in these bytes, and the decoder holds those of them that follow it
abbrev pub EndsIn : decoder.State → List ℕ → Type 0
EndsIn d bytes = (front : List ℕ) × (bytes ≡ front ++ d.rest) × (0 < length front)

-- it holds all of them, behind bytes that begin with no frame; or a frame ended in them
abbrev pub HoldsLast : decoder.State → List ℕ → Type 0
HoldsLast d bytes =
    ((front : List ℕ) × (d.rest ≡ front ++ bytes)
    × ((content after : List ℕ) → Begins d.limits front content after → ⊥))
    ⊎ EndsIn d bytes

-- the last record has these bytes of this side
abbrev pub IsLastOf : Side → List Record → List ℕ → Type 0
IsLastOf side records bytes = (before : List Record) × (records ≡ before ++ chunk side bytes ∷ [])

-- a side whose bytes the last record has holds them, as long as its frames have no fault
abbrev pub HoldsLastOf : Side → decoder.State → List Record → Type 0
HoldsLastOf side d records = d.fault ≡ None
    → (bytes : List ℕ) × IsLastOf side records bytes × HoldsLast d bytes

abbrev pub HoldsRecord : Option PendingEvents → State → List Record → Type 0
HoldsRecord (Some (turn.Bytes side)) s records = HoldsLastOf side (decoder_of side s) records
HoldsRecord t s records = Unit {0}

-- **a content that was given last ended in the last record**, and what of that follows it is held
abbrev pub EndsInLast : State → List Record → Raw → Type 0
EndsInLast s records (content side bytes) = ((decoder_of side s).fault ≡ None)
    × ((last : List ℕ) × IsLastOf side records last × EndsIn (decoder_of side s) last)
EndsInLast s records _ = Unit {0}

-- ---- what is due

-- of the events that are due, those of a side
abbrev pub due_of : Side → Option PendingEvents → List Raw → List Raw
due_of side (Some (turn.Bytes by)) due = if same_side side by then due else []
due_of side turn due = []

-- what is due of no side is the snapshot, or nothing
abbrev pub ShowsDue : Option PendingEvents → Option Snapshot → List Raw → Type 0
ShowsDue None snapshot due = due ≡ []
ShowsDue (Some (turn.Bytes side)) snapshot due = Unit {0}
ShowsDue (Some turn.Snapshot) snapshot due = due ≡ shown snapshot

-- **the streams took these records, gave these events of them, and have still to give those that
-- are due**
pub record Stands (limits : Bounds) (s : State) (records : List Record)
    (given due : List Raw) : Type 0 where
  pub range : IsInRange limits
  pub placed : Placed limits records (given ++ due)
  pub own : (side : Side) → (decoder_of side s).limits ≡ limits
  pub sides : (side : Side)
      → IsDue side (decoder_of side s) (joined side records) (due_of side s.turn due)
  pub shows : ShowsDue s.turn s.snapshot due
  pub holds : HoldsRecord s.turn s records

-- ---- the next event

-- all events of the records were given, or one more of those due
abbrev pub Gives : Bounds → State → List Record → List Raw → List Raw → Option code.Raw → Type 0
Gives limits new records given due None = (due ≡ []) × Stands limits new records given []
Gives limits new records given due (Some raw) =
    (later : List Raw) × (due ≡ raw_view raw ∷ later)
    × Stands limits new records (given ++ raw_view raw ∷ []) later

abbrev pub unbroken : Option ℕ → ℕ
unbroken None = 1
unbroken (Some rule) = 0

abbrev pub unshown : Option PendingEvents → ℕ
unshown (Some turn.Snapshot) = 1
unshown turn = 0

-- a bound on the events that a side may still give
abbrev pub left_of : decoder.State → ℕ
left_of d = length d.rest + unbroken d.fault

-- and on those of all
abbrev pub left_in : State → ℕ
left_in s = left_of s.editor + left_of s.server + unshown s.turn

-- one more event was given, or there is none; an event leaves fewer to give
pub record NextIs (old new : State) (result : Option code.Raw) : Type 0 where
  pub gives : (limits : Bounds) (records : List Record) (given due : List Raw)
      → Stands limits old records given due → Gives limits new records given due result
  pub less : IfSome result (λ raw. left_in new < left_in old)

-- ---- the end

abbrev pub ends_at : Option ℕ → List ℕ → Bool
ends_at None rest = is_rest rest
ends_at (Some rule) rest = false

-- bytes are left that are not a whole frame and have no fault
abbrev pub ends_inside : decoder.State → Bool
ends_inside d = ends_at d.fault d.rest
