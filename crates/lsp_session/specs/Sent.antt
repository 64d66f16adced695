-- A message of a session, as the definitions see it.
use Rattle.std.specs.Prelude.{ℕ, List, Bool, true, false, ◌&&◌, if◌then◌else◌, Option, Some, None}
use Rattle.lsp_rpc.specs.Ident.{Ident}
use Rattle.lsp_rpc.specs.Message.{Message, request, notification, response}
use Rattle.lsp_rpc.specs.Act.{Act, Offer, initialize, initialized, shutdown, exit, cancel}
use Rattle.lsp_types.specs.declared.side.Side.{Side}
use Rattle.lsp_types.specs.declared.side.Side.TheVariants.{Editor, Server}

-- a message, with the side that sends it and what it means there
pub record Sent : Type 0 where
  pub side : Side
  pub message : Message
  pub act : Act

abbrev pub same_side : Side → Side → Bool
same_side Editor Editor = true
same_side Server Server = true
same_side _ _ = false

abbrev pub other_side : Side → Side
other_side Editor = Server
other_side Server = Editor

-- ---- what a message is

abbrev pub is_response : Message → Bool
is_response (response id reply) = true
is_response _ = false

-- the id and the method of a request
abbrev pub request_of : Message → Option (Ident × List ℕ)
request_of (request id method params) = Some (id, method)
request_of _ = None

-- the id in a response
abbrev pub response_id : Message → Option Ident
response_id (response id reply) = id
response_id _ = None

-- ---- what it means

abbrev pub is_initialize : Act → Bool
is_initialize (initialize offer) = true
is_initialize _ = false

abbrev pub is_initialized : Act → Bool
is_initialized initialized = true
is_initialized _ = false

abbrev pub is_shutdown : Act → Bool
is_shutdown shutdown = true
is_shutdown _ = false

abbrev pub is_exit : Act → Bool
is_exit exit = true
is_exit _ = false

abbrev pub offer_of : Act → Option Offer
offer_of (initialize offer) = Some offer
offer_of _ = None

abbrev pub cancel_of : Act → Option Ident
cancel_of (cancel id) = Some id
cancel_of _ = None

-- the id in a notification that cancels
abbrev pub notified_cancel : Message → Act → Option Ident
notified_cancel (notification method params) act = cancel_of act
notified_cancel _ act = None

-- ---- what it does to the requests of a side

-- the request of this side that it is
abbrev pub request_by : Side → Sent → Option (Ident × List ℕ)
request_by side m = if same_side side m.side then request_of m.message else None

abbrev pub answered_from : Side → Side → Message → Option Ident
answered_from side sender message = if same_side side sender then None else response_id message

-- the id of this side's request that it answers
abbrev pub answered_id : Side → Sent → Option Ident
answered_id side m = answered_from side m.side m.message

-- the id of this side's request that it cancels
abbrev pub cancelled_id : Side → Sent → Option Ident
cancelled_id side m = if same_side side m.side then notified_cancel m.message m.act else None

-- the editor sends this act
abbrev pub sends : (Act → Bool) → Sent → Bool
sends test m = same_side Editor m.side && test m.act
