-- What stands for a content that is no message, or whose params do not have the shape that its
-- method asks for.
use Rattle.std.specs.Prelude.{◌==◌, ℕ, List, [], if◌then◌else◌, codes, Option, Some, None}
use Rattle.std.specs.Prelude.{option_and_then}
use Rattle.serde_json.specs.Data.{Data, null, object}
use Rattle.serde_json.specs.Read.{read}
use Rattle.serde_json.specs.Written.{compact_text}
use Rattle.lsp_replay.specs.Common.{Message, message_in, notification, parts_of, request, response}
use Rattle.lsp_replay.specs.Common.{Text}
use Rattle.lsp_types.specs.declared.rules.TheConstants as rules
use Rattle.lsp_redact.specs.Messages.{call_members, natural}
use Rattle.lsp_redact.specs.Names.{known_methods, place_in, written_method}
use Rattle.lsp_redact.specs.Shape.{Name, Refused, bare_notification, bare_request, breaks, known}
use Rattle.lsp_redact.specs.Shape.{no_call}

-- ---- what is left of it

-- a method whose params are read is one that the rules know
abbrev pub bare_method : Text → Name
bare_method method = known (place_in known_methods method)

-- of a call whose params are bad its method
abbrev pub bare_of : Message → Refused
bare_of (request id method params) = bare_request (bare_method method)
bare_of (notification method params) = bare_notification (bare_method method)
bare_of (response id reply) = no_call

abbrev pub bare_if : Option Message → Refused
bare_if None = no_call
bare_if (Some called) = bare_of called

-- the message that a content is
abbrev pub spoken : List ℕ → Option Message
spoken content = option_and_then (λ d. message_in (parts_of d)) (read content)

-- **what is left of a content that breaks this rule of 201 to 209**
abbrev pub left_of : List ℕ → ℕ → Refused
left_of content rule =
    if rule == rules.BAD_METHOD_PARAMS then bare_if (spoken content) else breaks rule

-- ---- what is written of it

-- a content that breaks this rule of 201 to 208, and no lesser one
abbrev pub broken_content : ℕ → List ℕ
broken_content rule =
    if rule == rules.MESSAGE_NOT_OBJECT then codes "[]"
    else (if rule == rules.BAD_JSONRPC_VERSION then codes "{}"
    else (if rule == rules.METHOD_NOT_STRING then codes "{\"jsonrpc\":\"2.0\",\"method\":null}"
    else (if rule == rules.BAD_ID then codes "{\"id\":[],\"jsonrpc\":\"2.0\"}"
    else (if rule == rules.BAD_PARAMS
    then codes "{\"jsonrpc\":\"2.0\",\"method\":\"\",\"params\":0}"
    else (if rule == rules.NOT_A_MESSAGE then codes "{\"jsonrpc\":\"2.0\"}"
    else (if rule == rules.BAD_ERROR_OBJECT
    then codes "{\"error\":null,\"id\":0,\"jsonrpc\":\"2.0\"}"
    else []))))))

-- a call of a method without params; a request has the id 0
abbrev pub bare_data : Refused → Data
bare_data (bare_request method) =
    object (call_members (Some (natural 0)) (written_method method) None)
bare_data (bare_notification method) = object (call_members None (written_method method) None)
bare_data _ = null

-- **what is written of a content that is refused**
abbrev pub refused_text : Refused → List ℕ
refused_text (breaks rule) = broken_content rule
refused_text left = compact_text (bare_data left)
