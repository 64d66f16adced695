-- The events of a log with what they were before their contents were read, and what its sides have
-- after their frames.
use Rattle.std.specs.Prelude.{◌≡◌, ◌-◌, ℕ, List, [], ◌∷◌, length, map, drop, nat_le, slice_get}
use Rattle.std.specs.Prelude.{if◌then◌else◌, Option, unwrap_or}
use Rattle.std.specs.List.{AllZip}
use Rattle.lsp_frame.specs.Bounds.{Bounds}
use Rattle.lsp_frame.specs.Frame.{Begins, IsStream}
use Rattle.lsp_session.specs.Sent.{same_side}
use Rattle.lsp_types.specs.declared.side.Side.{Side}
use Rattle.lsp_types.specs.declared.side.Side.TheVariants.{Editor, Server}
use Rattle.lsp_log.specs.Log.{Record, chunk, shown}
use Rattle.lsp_verdict.specs.Event.{Event}
use Rattle.lsp_verdict.specs.Offences.{IsNoted, Noted, events_of}
use Rattle.lsp_verdict.specs.Outcome.{HasRest}
use Rattle.lsp_verdict.specs.Placed.{Placed, Raw, joined}
use Rattle.lsp_verdict.specs.Verdict.{count_of, is_of}

-- an event, and what it was before its content was read
pub record Heard : Type 0 where
  pub raw : Raw
  pub note : Noted

abbrev pub raws_of : List Heard → List Raw
raws_of heard = map (λ (h : Heard). h.raw) heard

abbrev pub notes_of : List Heard → List Noted
notes_of heard = map (λ (h : Heard). h.note) heard

abbrev pub heard_events : List Heard → List Event
heard_events heard = events_of (notes_of heard)

-- the records are a session of these events
pub record IsHeardSession (limits : Bounds) (records : List Record) (heard : List Heard) : Type 0
  where
    pub placed : Placed limits records (raws_of heard)
    pub noted : AllZip IsNoted (raws_of heard) (notes_of heard)

-- ---- what comes after frames

-- of the record in which a side's n-th byte is, the bytes after it
abbrev pub after_byte : Side → ℕ → List Record → List ℕ
after_byte side n [] = []
after_byte side n (chunk by bytes ∷ records) =
    if same_side side by then (if nat_le n (length bytes) then drop n bytes
    else after_byte side (n - length bytes) records) else after_byte side n records
after_byte side n (shown number uri text ∷ records) = after_byte side n records

-- behind each of the frames of these contents, with which a side's last bytes begin, the bytes at
-- hand: those of the record in which it ends
abbrev pub AreBehind : Bounds → Side → List Record → List ℕ → List (List ℕ) → List (List ℕ) → Type 0
AreBehind limits side records bytes [] behind = behind ≡ []
AreBehind limits side records bytes (content ∷ contents) behind =
    (after : List ℕ) × Begins limits bytes content after
    × ((later : List (List ℕ))
    × (behind ≡ after_byte side (length (joined side records) - length after) records ∷ later)
    × AreBehind limits side records after contents later)

abbrev pub HasBehind : Bounds → Side → List Record → List (List ℕ) → Type 0
HasBehind limits side records behind =
    (contents : List (List ℕ)) × (rest : List ℕ) × (fault : Option ℕ)
    × IsStream limits (joined side records) contents rest fault
    × AreBehind limits side records (joined side records) contents behind

-- the bytes of each side after its last whole frame, and the bytes at hand behind each frame
pub record Rests : Type 0 where
  pub editor : List ℕ
  pub server : List ℕ
  pub editor_behind : List (List ℕ)
  pub server_behind : List (List ℕ)

abbrev pub rest_of : Rests → Side → List ℕ
rest_of rests Editor = rests.editor
rest_of rests Server = rests.server

abbrev pub behind_of : Rests → Side → List (List ℕ)
behind_of rests Editor = rests.editor_behind
behind_of rests Server = rests.server_behind

-- **the bytes at hand behind a content of a side** that comes after these events
abbrev pub behind_at : Rests → List Event → Side → List ℕ
behind_at rests before side =
    unwrap_or (slice_get (behind_of rests side) (count_of (is_of side) before)) []

-- of these records
pub record AreRests (limits : Bounds) (records : List Record) (rests : Rests) : Type 0 where
  pub editor : HasRest limits (joined Editor records) rests.editor
  pub server : HasRest limits (joined Server records) rests.server
  pub editor_behind : HasBehind limits Editor records rests.editor_behind
  pub server_behind : HasBehind limits Server records rests.server_behind
