-- Which events left a document as it is: the messages that set its versions, the equal snapshot of
-- the greatest version, and the snapshots that wait.
use Rattle.std.specs.Prelude.{ℕ, ℤ, int_lt, ◌+◌, ◌-◌, List, [], ◌∷◌, ◌++◌, length, filter}
use Rattle.std.specs.Prelude.{slice_get, Bool, true, false, not, if◌then◌else◌, Option, Some, None}
use Rattle.std.specs.Prelude.{is_some, option_map, ◌≡◌, unwrap_or, string_bytes, String}
use Rattle.std.specs.List.{filter_map, find, fold}
use Rattle.std.specs.Ordering.{int_eq}
use Rattle.std.specs.Str.{bytes_eq}
use Rattle.std.specs.Global.{Global}
use Rattle.std.specs.Map.{lookup}
use Rattle.std.specs.Option.{option_or}
use Rattle.std.specs.declared.vec.Vec.{Vec}
use Rattle.lsp_replay.specs.Common.{capped, each_of, Equal, Event, Missed, Terms, Waits}
use Rattle.lsp_replay.specs.declared.heard.EventPlace.{EventPlace}
use Rattle.lsp_uris.specs.Held.{held_by}
use Rattle.lsp_trail.specs.History.{KeptCall, is_closing, kept_calls, last_ones, since_last}
use Rattle.lsp_trail.specs.History.{with_room}
use Rattle.lsp_trail.specs.declared.mark.VersionEvent.{VersionEvent}
use Rattle.lsp_trail.specs.declared.step.Step.{Step}
use Rattle.lsp_trail.specs.declared.step.Step.TheVariants.{Reaches, Closes, Shows}
use Rattle.lsp_trail.specs.declared.mark.Mark.{Mark}

-- ---- what was done to a document

abbrev pub is_about : List ℕ → KeptCall → Bool
is_about uri k = bytes_eq k.on.uri uri

abbrev pub closes : KeptCall → Bool
closes k = is_closing k.step

-- **what these do to the document of this URI since it was closed last**
abbrev pub standing : List ℕ → List KeptCall → List KeptCall
standing uri calls = since_last closes (filter (is_about uri) calls)

-- **the same of the kept ones of these events**, in order
abbrev pub steps : Terms → List ℕ → List Event → List KeptCall
steps terms uri events = standing uri (kept_calls terms events)

-- ---- the messages that set its versions

-- the version to which the document comes
abbrev pub reached : Step → Option ℤ
reached (Reaches number first) = Some number
reached _ = None

-- how many versions these brought, as far as 64 bits count them
abbrev pub rank_after : List KeptCall → ℕ
rank_after done = capped (length (filter_map (λ (k : KeptCall). reached k.step) done))

-- the event of this place, which is about the version of this rank
abbrev pub at_version : ℕ → EventPlace → ℤ → VersionEvent
at_version rank p number = record { place = p; version = number; rank = rank }

-- the message that this is which sets a version, after these of its opening
abbrev pub setter_at : List KeptCall → KeptCall → Option VersionEvent
setter_at before k =
    option_map (at_version (rank_after (before ++ k ∷ [])) k.on.place) (reached k.step)

-- **the messages that set the versions of the standing opening**, in order
abbrev pub setters : List KeptCall → List VersionEvent
setters done = each_of setter_at done

-- **the event that opened the document**, the first of them
abbrev pub opened : List KeptCall → Option EventPlace
opened done = option_map (λ (s : VersionEvent). s.place) (slice_get (setters done) 0)

-- how many of the last ones are looked at: those of the held version and of the 16 versions before
-- it that may be kept, and of 15 before the oldest of these, whose text may be the one that differs
abbrev pub most_setters : ℕ
most_setters = 32

abbrev pub recent : List KeptCall → List VersionEvent
recent done = last_ones most_setters (setters done)

abbrev pub is_set_to : ℤ → VersionEvent → Bool
is_set_to number setter = int_eq setter.version number

abbrev pub rank_by : ℕ → Option VersionEvent → ℕ
rank_by rank None = rank
rank_by rank (Some setter) = setter.rank

-- which version of its opening this is by one of these messages; 0 where none of them set it
abbrev pub rank_of : ℤ → List VersionEvent → ℕ
rank_of number done = rank_by 0 (find (is_set_to number) done)

-- the last of these messages
abbrev pub last_setter : List VersionEvent → Option VersionEvent
last_setter done = slice_get done (length done - 1)

-- the rank of the version that the last of these messages set, or this one where there is none
abbrev pub rank_or : ℕ → List VersionEvent → ℕ
rank_or rank done = rank_by rank (last_setter done)

-- ---- the snapshots that wait

-- the version is not below this one
abbrev pub is_within : ℤ → Option ℤ → Bool
is_within number None = false
is_within number (Some own) = not (int_lt own number)

-- the document comes to this version or passes it
abbrev pub ends_waiting : ℤ → KeptCall → Bool
ends_waiting number k = is_within number (reached k.step)

-- the place of a snapshot of this version that is still to come
abbrev pub waiting_by : ℤ → EventPlace → Step → Option EventPlace
waiting_by number p (Shows own Waits) = if int_eq own number then Some p else None
waiting_by number p _ = None

abbrev pub waiting_at : ℤ → KeptCall → Option EventPlace
waiting_at number k = waiting_by number k.on.place k.step

-- **the snapshots that wait for this version**, by their places
abbrev pub waiting_for : ℤ → List KeptCall → List EventPlace
waiting_for number done = filter_map (waiting_at number) (since_last (ends_waiting number) done)

-- ---- the equal snapshot of the greatest version

-- the last of these snapshots of this version
abbrev pub last_shown : ℤ → ℕ → List EventPlace → Option VersionEvent
last_shown number rank places =
    option_map (λ (p : EventPlace). at_version rank p number)
    (slice_get places (length places - 1))

-- the snapshot that is found equal by this, after these: one of a version that is held or kept, or
-- the last of those that waited for the version to which the document comes
abbrev pub found_by : List KeptCall → KeptCall → Step → Option VersionEvent
found_by before k (Reaches number first) =
    last_shown number (rank_after (before ++ k ∷ [])) (waiting_for number before)
found_by before k (Shows number Equal) =
    Some (at_version (rank_of number (recent before)) k.on.place number)
found_by before k _ = None

abbrev pub found_at : List KeptCall → KeptCall → Option VersionEvent
found_at before k = found_by before k k.step

-- of two snapshots that of the greater version, the later one where these are equal
abbrev pub newer : VersionEvent → VersionEvent → VersionEvent
newer earlier later = if int_lt later.version earlier.version then earlier else later

abbrev pub newer_of : Option VersionEvent → Option VersionEvent → Option VersionEvent
newer_of None later = later
newer_of (Some earlier) None = Some earlier
newer_of (Some earlier) (Some later) = Some (newer earlier later)

-- **the snapshot of the greatest version that was found equal in the standing opening**
abbrev pub agreed : List KeptCall → Option VersionEvent
agreed done = fold (λ best s. newer_of best (Some s)) None (each_of found_at done)

-- ---- all of it

-- what is marked of a document
pub record Marked : Type 0 where
  pub setters : List VersionEvent
  pub rank : ℕ
  pub opened : Option EventPlace
  pub agreed : Option VersionEvent
  pub waiting : ℤ → List EventPlace

abbrev pub marked : List KeptCall → Marked
marked done = record {
  setters = recent done;
  rank = rank_after done;
  opened = opened done;
  agreed = agreed done;
  waiting = λ number. waiting_for number done;
}

abbrev pub unmarked : Marked
unmarked = record {
  setters = [];
  rank = 0;
  opened = None;
  agreed = None;
  waiting = λ number. [];
}

-- those of a greater version than this wait on
abbrev pub above : ℤ → (ℤ → List EventPlace) → ℤ → List EventPlace
above own waiting number = if int_lt own number then waiting number else []

abbrev pub next_rank : ℕ → ℕ
next_rank rank = capped (rank + 1)

-- after one more step, by the event of this place
abbrev pub stepped : EventPlace → Step → Marked → Marked
stepped p (Reaches own first) m = record {
  setters = with_room most_setters m.setters ++ at_version (next_rank m.rank) p own ∷ [];
  rank = next_rank m.rank;
  opened = option_or m.opened (Some p);
  agreed = newer_of m.agreed (last_shown own (next_rank m.rank) (m.waiting own));
  waiting = above own m.waiting;
}
stepped p Closes m = unmarked
stepped p (Shows own Equal) m = record {
  setters = m.setters;
  rank = m.rank;
  opened = m.opened;
  agreed = newer_of m.agreed (Some (at_version (rank_of own m.setters) p own));
  waiting = m.waiting;
}
stepped p (Shows own Waits) m = record {
  setters = m.setters;
  rank = m.rank;
  opened = m.opened;
  agreed = m.agreed;
  waiting = λ number. m.waiting number ++ (if int_eq own number then p ∷ [] else []);
}
stepped p (Shows own Missed) m = m

-- a snapshot is found equal by this step
abbrev pub finds_equal : Step → Marked → Bool
finds_equal (Reaches own first) m = is_some (last_shown own (next_rank m.rank) (m.waiting own))
finds_equal (Shows own Equal) m = true
finds_equal _ m = false

-- ---- the marks of documents, by URI

-- the places of the snapshots of a version
abbrev pub places_in : Option (Vec EventPlace Global) → List EventPlace
places_in None = []
places_in (Some v) = v.items

abbrev pub waiting_in : List (ℤ × Vec EventPlace Global) → ℤ → List EventPlace
waiting_in es number = places_in (lookup (int_eq number) es)

abbrev pub mark_view : Mark → Marked
mark_view m = record {
  setters = m.setters.items;
  rank = m.rank;
  opened = m.opened;
  agreed = m.agreed;
  waiting = waiting_in m.waiting.entries;
}

-- the least version is reached by this one
abbrev pub is_first_reached : ℤ → List (ℤ × Vec EventPlace Global) → Bool
is_first_reached number [] = false
is_first_reached number (e ∷ es) = not (int_lt number e.0)

abbrev pub rest_of : List (ℤ × Vec EventPlace Global) → List (ℤ × Vec EventPlace Global)
rest_of [] = []
rest_of (e ∷ es) = es

-- what is marked of this URI
abbrev pub marked_in : List (String Global × Mark) → List ℕ → Marked
marked_in es uri = unwrap_or (held_by mark_view es uri) unmarked

-- at this place there is what the map holds under the URI
abbrev pub IsAt : {X : Type 0} → List (String Global × X) → List ℕ → ℕ → Type 0
IsAt {X} es uri at =
    (key : String Global) × (x : X) × (slice_get es at ≡ Some (key, x))
    × (string_bytes key ≡ uri) × (lookup (λ k. bytes_eq uri (string_bytes k)) es ≡ Some x)

-- one more step of the URI, by the event of this place, and all others are as they were
abbrev pub StepsOn : List ℕ → EventPlace → Step → List (String Global × Mark)
    → List (String Global × Mark) → Type 0
StepsOn uri p step old new =
    (u : List ℕ) → marked_in new u
    ≡ (if bytes_eq uri u then stepped p step (marked_in old u) else marked_in old u)

-- **what is marked of each document is what these kept calls left of it**
abbrev pub MarkedBy : List (String Global × Mark) → List KeptCall → Type 0
MarkedBy es calls = (uri : List ℕ) → marked_in es uri ≡ marked (standing uri calls)

abbrev pub AreMarks : Terms → List (String Global × Mark) → List Event → Type 0
AreMarks terms es events = MarkedBy es (kept_calls terms events)
