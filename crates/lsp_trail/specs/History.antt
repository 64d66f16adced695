-- What the kept events of a session do, each with its place.
use Rattle.std.specs.Prelude.{◌≡◌, ◌++◌, ℕ, ◌-◌, Bool, List, Option, drop, length, map, nat_lt, not}
use Rattle.std.specs.Prelude.{reverse, if◌then◌else◌, Some, None, true, false, is_some}
use Rattle.std.specs.Prelude.{option_and_then, option_map}
use Rattle.std.specs.List.{find, take_while, filter_map}
use Rattle.lsp_replay.specs.Common.{Call, call_at, calls, changes, closes, each_of, Event, kept_of}
use Rattle.lsp_replay.specs.Common.{opens, place_of, rule_at, shows, Terms, took_by, uri_of}
use Rattle.lsp_docs.specs.declared.call.Took.{Took}
use Rattle.lsp_docs.specs.declared.call.Took.TheVariants as took
use Rattle.lsp_replay.specs.declared.heard.EventPlace.{EventPlace}
use Rattle.lsp_trail.specs.declared.step.Step.{Step}
use Rattle.lsp_trail.specs.declared.step.Step.TheVariants.{Reaches, Closes, Shows}

-- ---- the last ones of a list

abbrev pub last_ones : {A : Type 0} → ℕ → List A → List A
last_ones n xs = drop (length xs - n) xs

-- all of these, or all but the first, so that there is room for one more
abbrev pub with_room : {A : Type 0} → ℕ → List A → List A
with_room most xs = if nat_lt (length xs) most then xs else drop 1 xs

-- **these more are held of a list**, of which so many stay, the last ones
abbrev pub HoldsLast : {A B : Type 0} → (A → B) → ℕ → List B → List A → List A → Type 0
HoldsLast {A} {B} view most more old new =
    (all : List B) → map view old ≡ last_ones most all
    → map view new ≡ last_ones most (all ++ more)

-- the last one that passes
abbrev pub last_that : {A : Type 0} → (A → Bool) → List A → Option A
last_that p xs = find p (reverse xs)

-- those behind the last one that passes
abbrev pub since_last : {A : Type 0} → (A → Bool) → List A → List A
since_last p xs = reverse (take_while (λ x. not (p x)) (reverse xs))

-- ---- kept events

-- what `f` makes of an event by its place and the kept events before it, if the event is kept
abbrev pub kept_as : {X : Type 0} → (EventPlace → List Event → Event → Option X) → Terms
    → List Event → Event → Option X
kept_as f terms before event =
    if is_some (rule_at terms before event) then None
    else f (place_of before event) (kept_of terms before) event

abbrev pub each_kept : {X : Type 0} → (EventPlace → List Event → Event → Option X) → Terms
    → List Event → List X
each_kept f terms events = each_of (kept_as f terms) events

-- ---- documents

-- the document of this URI, and the place of an event about it
pub record OnDocument : Type 0 where
  pub uri : List ℕ
  pub place : EventPlace

abbrev pub on_document : List ℕ → EventPlace → OnDocument
on_document uri p = record { uri = uri; place = p }

-- such an event that is kept, and what it does to the document
pub record KeptCall : Type 0 where
  pub on : OnDocument
  pub step : Step

abbrev pub kept_call : List ℕ → EventPlace → Step → KeptCall
kept_call uri p step = record { on = on_document uri p; step = step }

-- what a call does that says this; one that saves a document leaves it as it is
abbrev pub step_of : Call → Took → Option Step
step_of (opens uri number text) said = Some (Reaches number true)
step_of (changes enc kind uri number edits) said = Some (Reaches number false)
step_of (closes uri) said = Some Closes
step_of (shows uri number text) (took.Shown answer) = Some (Shows number answer)
step_of _ _ = None

abbrev pub call_kept : EventPlace → Call → Took → Option KeptCall
call_kept p call said = option_map (kept_call (uri_of call) p) (step_of call said)

abbrev pub event_kept : Terms → EventPlace → List Event → Event → Option KeptCall
event_kept terms p before event =
    option_and_then (λ call. call_kept p call (took_by terms (calls before) call))
    (call_at before event)

-- **what the kept events do to documents**, in order
abbrev pub kept_calls : Terms → List Event → List KeptCall
kept_calls terms events = each_kept (event_kept terms) terms events

-- ---- those of one kind

abbrev pub is_opening : Step → Bool
is_opening (Reaches number first) = first
is_opening _ = false

abbrev pub is_change : Step → Bool
is_change (Reaches number first) = not first
is_change _ = false

abbrev pub is_closing : Step → Bool
is_closing Closes = true
is_closing _ = false

abbrev pub is_showing : Step → Bool
is_showing (Shows number answer) = true
is_showing _ = false

-- those that do a thing of this kind
abbrev pub doing : (Step → Bool) → List KeptCall → List OnDocument
doing kind calls =
    filter_map (λ (k : KeptCall). if kind k.step then Some k.on else None) calls
