-- A message apart from what its params and its result hold.
use Rattle.std.specs.Prelude.{◌≡◌, ◌⊎◌, None}
use Rattle.serde_json.specs.Data.{null}
use Rattle.lsp_rpc.specs.Message.{Message, request, notification, response, result, error}

-- the message without its params, and without the value that it answers
abbrev pub outline : Message → Message
outline (request id method params) = request id method None
outline (notification method params) = notification method None
outline (response id (result value)) = response id (result null)
outline (response id (error code)) = response id (error code)

-- the message without the value that it answers
abbrev pub without_result : Message → Message
without_result (request id method params) = request id method params
without_result (notification method params) = notification method params
without_result (response id (result value)) = response id (result null)
without_result (response id (error code)) = response id (error code)

-- the message without its params
abbrev pub without_params : Message → Message
without_params (request id method params) = request id method None
without_params (notification method params) = notification method None
without_params (response id reply) = response id reply

-- the whole message, or its outline
abbrev pub IsOrIsOutline : Message → Message → Type 0
IsOrIsOutline message whole = (message ≡ whole) ⊎ (message ≡ outline whole)
