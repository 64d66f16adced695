-- By which events requests were asked and answered, and which event led to the phase of a session.
use Rattle.std.specs.Prelude.{ℕ, List, [], ◌∷◌, ◌++◌, length, map, Bool, true, ◌==◌, nat_le}
use Rattle.std.specs.Prelude.{if◌then◌else◌, Option, Some, None, option_map}
use Rattle.std.specs.List.{filter_map}
use Rattle.lsp_replay.specs.Common.{answered_from, asked_from, each_of, Event, Ident, last_or}
use Rattle.lsp_replay.specs.Common.{Message, Phase, phase, same_id, Sent, sent_of, Side, Terms}
use Rattle.lsp_rpc.specs.Ident.{number, text}
use Rattle.lsp_session.specs.Requests.{names}
use Rattle.lsp_session.specs.declared.phase.Phase.TheVariants.{Fresh, Waiting, Answered, Ready}
use Rattle.lsp_session.specs.declared.phase.Phase.TheVariants.{Stopping, Exited}
use Rattle.lsp_trail.specs.History.{each_kept, last_ones, last_that}
use Rattle.lsp_replay.specs.declared.heard.EventPlace.{EventPlace}

-- ---- the kept messages

-- a message, and the place of its event
pub record Numbered : Type 0 where
  pub place : EventPlace
  pub sent : Sent

abbrev pub numbered_as : EventPlace → Sent → Numbered
numbered_as p m = record { place = p; sent = m }

-- the message that a kept event is
abbrev pub message_kept : EventPlace → List Event → Event → Option Numbered
message_kept p before event = option_map (numbered_as p) (sent_of event)

-- **the messages that are kept**, with the places of their events
abbrev pub numbered : Terms → List Event → List Numbered
numbered terms events = each_kept message_kept terms events

abbrev pub sents : List Numbered → List Sent
sents said = map (λ (m : Numbered). m.sent) said

-- ---- requests

-- what a message, the event of this place, is for this side's request with this id: it sends it,
-- or answers it
abbrev pub asks : Side → Ident → EventPlace → Side → Message → Option (Option EventPlace)
asks side id p sender message =
    if names (asked_from side sender message) id then Some (Some p)
    else (if names (answered_from side sender message) id then Some None else None)

abbrev pub asks_by : Side → Ident → Numbered → Option (Option EventPlace)
asks_by side id m = asks side id m.place m.sent.side m.sent.message

-- **the event that asked this side's open request with this id**
abbrev pub asked : Side → Ident → List Numbered → Option EventPlace
asked side id said = last_or None (filter_map (asks_by side id) said)

-- ---- answers

-- an answer to a request of this id, by the event of this place
pub record Reply : Type 0 where
  pub id : Ident
  pub place : EventPlace

abbrev pub replied : EventPlace → Ident → Reply
replied p id = record { id = id; place = p }

-- a longer id is not looked for
abbrev pub is_short : Ident → Bool
is_short (number n) = true
is_short (text bytes) = nat_le (length bytes) 128

abbrev pub reply_of : EventPlace → Option Ident → Option Reply
reply_of p None = None
reply_of p (Some id) = if is_short id then Some (replied p id) else None

abbrev pub reply_by : Side → Numbered → Option Reply
reply_by side m = reply_of m.place (answered_from side m.sent.side m.sent.message)

-- the answers to this side's requests of a short id
abbrev pub replies : Side → List Numbered → List Reply
replies side said = filter_map (reply_by side) said

-- how many of them are looked at
abbrev pub most_replies : ℕ
most_replies = 1024

abbrev pub is_reply_to : Ident → Reply → Bool
is_reply_to id reply = same_id id reply.id

-- the event of the last of these that has this id
abbrev pub last_reply : Ident → List Reply → Option EventPlace
last_reply id given = option_map (λ (r : Reply). r.place) (last_that (is_reply_to id) given)

-- **the event that answered this side's request with this id last**, where it is one of the last
-- answers and the id is short
abbrev pub answered : Side → Ident → List Numbered → Option EventPlace
answered side id said = last_reply id (last_ones most_replies (replies side said))

-- ---- the phase

abbrev pub phase_number : Phase → ℕ
phase_number Fresh = 0
phase_number Waiting = 1
phase_number Answered = 2
phase_number Ready = 3
phase_number Stopping = 4
phase_number Exited = 5

abbrev pub same_phase : Phase → Phase → Bool
same_phase a b = phase_number a == phase_number b

-- the message of this place leads from one phase to the other, where they are two
abbrev pub leads : EventPlace → Phase → Phase → Option (Option EventPlace)
leads p before after = if same_phase before after then None else Some (Some p)

abbrev pub leads_by : List Numbered → Numbered → Option (Option EventPlace)
leads_by before m = leads m.place (phase (sents before)) (phase (sents (before ++ m ∷ [])))

-- **the event that led to the phase**; none where it is that of the start
abbrev pub since : List Numbered → Option EventPlace
since said = last_or None (each_of leads_by said)
