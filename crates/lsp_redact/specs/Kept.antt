-- **What is kept of an event: what the rules read.**
use Rattle.std.specs.Prelude.{ℕ, ℤ, List, Bool, true, false, not, Option, Some, None}
use Rattle.lsp_rpc.specs.Act.{Picked}
use Rattle.lsp_replay.specs.Common.{Act, each_of, Event, Ident, is_empty, Message, open_initializes}
use Rattle.lsp_replay.specs.Common.{picked_at, sent_in, Side}
use Rattle.lsp_rpc.specs.Message as spoken
use Rattle.lsp_verdict.specs.Event as events

-- of an answer: what a result picks that comes while an `initialize` is open, or the code of an
-- error; nothing of any other result
pub data Reply : Type 0 where
  picks : Picked → Reply
  nothing : Reply
  failed : ℤ → Reply

-- of a message, apart from what it means: its kind, its id, its method
pub data Head : Type 0 where
  request : Ident → List ℕ → Head
  notification : List ℕ → Head
  response : Option Ident → Reply → Head

-- of an event that is no fault: of a message also its side and what it means there, which says all
-- that is read of its params; a snapshot as it is
pub data Kept : Type 0 where
  message : Side → Head → Act → Kept
  snapshot : List ℕ → ℤ → List ℕ → Kept

abbrev pub picks_of : Option Picked → Reply
picks_of None = nothing
picks_of (Some picked) = picks picked

-- of a result, where an `initialize` is open or not
abbrev pub reply_of : Bool → spoken.Reply → Reply
reply_of true (spoken.result value) = picks_of (picked_at value)
reply_of false (spoken.result value) = nothing
reply_of awaited (spoken.error code) = failed code

abbrev pub head_of : Bool → Message → Head
head_of awaited (spoken.request id method params) = request id method
head_of awaited (spoken.notification method params) = notification method
head_of awaited (spoken.response id reply) = response id (reply_of awaited reply)

-- an `initialize` is open after these events
abbrev pub awaits : List Event → Bool
awaits before = not (is_empty (open_initializes (sent_in before)))

-- **what is kept of an event after these**; of a fault nothing
abbrev pub kept_of : List Event → Event → Option Kept
kept_of before (events.message m) = Some (message m.side (head_of (awaits before) m.message) m.act)
kept_of before (events.fault side rule) = None
kept_of before (events.snapshot uri number text) = Some (snapshot uri number text)

-- what is kept of events
abbrev pub kept_in : List Event → List Kept
kept_in events = each_of kept_of events
