-- The last message that changed a document, with its changes.
use Rattle.std.specs.Prelude.{◌≡◌, ◌&&◌, ℕ, List, [], ◌∷◌, ◌==◌, Bool, true, false, Option, Some}
use Rattle.std.specs.Prelude.{None, option_and_then, option_map, if◌then◌else◌, nat_lt, not}
use Rattle.std.specs.List.{last_or}
use Rattle.std.specs.Str.{bytes_eq}
use Rattle.lsp_replay.specs.Common.{Call, call_at, Change, changes, Edit, edits_of, Event, Position}
use Rattle.lsp_replay.specs.Common.{Span, Terms}
use Rattle.std.specs.declared.vec.Vec.{Vec}
use Rattle.std.specs.Global.{Global}
use Rattle.lsp_replay.specs.declared.heard.EventPlace.{EventPlace}
use Rattle.lsp_trail.specs.History.{each_kept}
use Rattle.lsp_trail.specs.SentEdits.{edits_size}
use Rattle.lsp_trail.specs.declared.last_change.LastChange as code

-- ---- messages that change documents

-- the event of this place, and the changes that it has, where they are small enough
pub record SentChange : Type 0 where
  pub place : EventPlace
  pub edits : Option (List Edit)

abbrev pub sent_change : EventPlace → Option (List Edit) → SentChange
sent_change p edits = record { place = p; edits = edits }

-- how large those of a message may be together
abbrev pub most_edits_size : ℕ
most_edits_size = 65536

abbrev pub are_small : List Edit → Bool
are_small edits = not (nat_lt most_edits_size (edits_size edits))

abbrev pub held_edits : List Edit → Option (List Edit)
held_edits edits = if are_small edits then Some edits else None

abbrev pub edits_said : Call → Option (List Edit)
edits_said (changes enc kind uri number edits) = Some edits
edits_said _ = None

abbrev pub change_by : EventPlace → Call → Option SentChange
change_by p call = option_map (λ edits. sent_change p (held_edits edits)) (edits_said call)

abbrev pub event_change : EventPlace → List Event → Event → Option SentChange
event_change p before event = option_and_then (change_by p) (call_at before event)

-- the messages that are kept and change documents, in order
abbrev pub sent_changes : Terms → List Event → List SentChange
sent_changes terms events = each_kept event_change terms events

-- **the last message that is kept and changes a document**
abbrev pub last_change : Terms → List Event → Option SentChange
last_change terms events = last_or None (sent_changes terms events)

-- ---- the same changes

abbrev pub same_position : Position → Position → Bool
same_position p q = p.line == q.line && p.column == q.column

abbrev pub same_span : Option Span → Option Span → Bool
same_span None None = true
same_span (Some a) (Some b) = same_position a.first b.first && same_position a.second b.second
same_span _ _ = false

-- they replace the same range by the same text; what `rangeLength` says is not compared
abbrev pub same_edit : Edit → Edit → Bool
same_edit a b = same_span a.span b.span && bytes_eq b.text a.text

abbrev pub same_edits : List Edit → List Edit → Bool
same_edits [] [] = true
same_edits (x ∷ xs) (y ∷ ys) = same_edit x y && same_edits xs ys
same_edits _ _ = false

-- these changes, where there are any
abbrev pub are_edits : List Edit → Option (List Edit) → Bool
are_edits edits None = false
are_edits edits (Some own) = same_edits edits own

-- **this message is the event of this place, and has these changes**
abbrev pub has_changes : EventPlace → List Edit → Option SentChange → Bool
has_changes p edits None = false
has_changes p edits (Some s) = s.place.event == p.event && are_edits edits s.edits

-- ---- as it is held

-- these changes, if they are those of the message
abbrev pub held_view : Bool → Vec Change Global → Option (List Edit)
held_view are_held held = if are_held then Some (edits_of held.items) else None

abbrev pub last_view : code.LastChange → Option SentChange
last_view l = option_map (λ p. sent_change p (held_view l.are_held l.changes)) l.place

-- **the last one of these events is held**
abbrev pub IsLastChange : Terms → code.LastChange → List Event → Type 0
IsLastChange terms l events = last_view l ≡ last_change terms events
