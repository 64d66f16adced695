-- Which snapshots were not compared when they were shown.
use Rattle.std.specs.Prelude.{◌≡◌, ℤ, int_lt, Bool, List, Option, Some, None, if◌then◌else◌, String}
use Rattle.std.specs.Prelude.{option_and_then, string_bytes}
use Rattle.std.specs.Global.{Global}
use Rattle.std.specs.Str.{bytes_eq, chars}
use Rattle.lsp_docs.specs.Calls.{Text}
use Rattle.lsp_replay.specs.Common.{Bytes, Call, call_at, calls, closes, Equal, Event, Match, shows}
use Rattle.lsp_replay.specs.Common.{Terms, took_by, Version, versioned}
use Rattle.lsp_docs.specs.declared.call.Took.{Took}
use Rattle.lsp_docs.specs.declared.call.Took.TheVariants as took
use Rattle.lsp_replay.specs.declared.heard.EventPlace.{EventPlace}
use Rattle.lsp_uris.specs.Held.{held_by}
use Rattle.lsp_trail.specs.History.{each_kept, last_that}
use Rattle.lsp_trail.specs.declared.uncompared.ShownText as code

-- a snapshot: the place of its event, and the text that it has of a version
pub record ShownText : Type 0 where
  pub place : EventPlace
  pub version : Version

abbrev pub shown_text : EventPlace → ℤ → Text → ShownText
shown_text p number text = record { place = p; version = versioned number text }

-- ---- what is left of the events

-- the last snapshot of the document of this URI that was not compared, if there is one
pub record LeftOf : Type 0 where
  pub uri : Bytes
  pub shown : Option ShownText

abbrev pub left_of : Bytes → Option ShownText → LeftOf
left_of uri shown = record { uri = uri; shown = shown }

-- one that is answered so
abbrev pub left_shown : Bytes → ShownText → Match → Option LeftOf
left_shown uri s Equal = None
left_shown uri s _ = Some (left_of uri (Some s))

-- what a call leaves that says this; one that closes the document leaves no snapshot
abbrev pub left_by : EventPlace → Call → Took → Option LeftOf
left_by p (closes uri) said = Some (left_of uri None)
left_by p (shows uri number text) (took.Shown answer) =
    left_shown uri (shown_text p number text) answer
left_by p _ _ = None

abbrev pub event_left : Terms → EventPlace → List Event → Event → Option LeftOf
event_left terms p before event =
    option_and_then (λ call. left_by p call (took_by terms (calls before) call))
    (call_at before event)

-- what the kept events leave, in order
abbrev pub all_left : Terms → List Event → List LeftOf
all_left terms events = each_kept (event_left terms) terms events

abbrev pub is_left_of : Bytes → LeftOf → Bool
is_left_of uri l = bytes_eq l.uri uri

abbrev pub last_left : Bytes → List LeftOf → Option ShownText
last_left uri all = option_and_then (λ (l : LeftOf). l.shown) (last_that (is_left_of uri) all)

-- **the last snapshot of a document since it was closed last that was not compared when it was
-- shown**: it waited for its version, or that was skipped before
abbrev pub uncompared : Terms → List Event → Bytes → Option ShownText
uncompared terms events uri = last_left uri (all_left terms events)

-- it, if it is of a version after this one
abbrev pub if_later : ℤ → Option ShownText → Option ShownText
if_later number None = None
if_later number (Some s) = if int_lt number s.version.number then Some s else None

-- ---- as they are held

abbrev pub shown_view : code.ShownText → ShownText
shown_view s = shown_text s.place s.version (chars (string_bytes s.text))

abbrev pub uncompared_in : List (String Global × code.ShownText) → Bytes → Option ShownText
uncompared_in es uri = held_by shown_view es uri

-- **of each document the last one of these events is held**
abbrev pub AreUncompared : Terms → List (String Global × code.ShownText) → List Event → Type 0
AreUncompared terms es events = (uri : Bytes) → uncompared_in es uri ≡ uncompared terms events uri

-- what is left of a document where this is left
abbrev pub left_on : Option LeftOf → Bytes → Option ShownText → Option ShownText
left_on None uri was = was
left_on (Some l) uri was = if bytes_eq l.uri uri then l.shown else was

abbrev pub LeavesOn : Option LeftOf → List (String Global × code.ShownText)
    → List (String Global × code.ShownText) → Type 0
LeavesOn left old new =
    (uri : Bytes) → uncompared_in new uri ≡ left_on left uri (uncompared_in old uri)
