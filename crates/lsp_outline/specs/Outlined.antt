-- What the members of a message leave whose result is skipped.
use Rattle.std.specs.Prelude.{◌≡◌, ◌⊎◌, ℕ, ℤ, List, true, false, Bool, if◌then◌else◌, Option, Some}
use Rattle.std.specs.Prelude.{None, is_some, option_map, option_and_then, string_bytes, codes}
use Rattle.serde_json.specs.Data.{Data, Members, null, object, string}
use Rattle.serde_json.specs.Find.{get_member}
use Rattle.lsp_rpc.specs.Act.{Act}
use Rattle.lsp_rpc.specs.Ident.{Ident, id_view}
use Rattle.lsp_rpc.specs.Message.{Message, request, notification, response, result, error}
use Rattle.lsp_rpc.specs.Methods.{meaning}
use Rattle.lsp_rpc.specs.Outline.{outline, without_params}
use Rattle.lsp_rpc.specs.Params.{act_at}
use Rattle.lsp_rpc.specs.Reading.{IsMessage, code_of}
use Rattle.lsp_rpc.specs.Shape.{as_id, is_null, unless_null, is_structure_or_null}
use Rattle.lsp_rpc.specs.Shape.{holds_unless_absent}
use Rattle.lsp_rpc.specs.declared.methods.Method.{Method}
use Rattle.lsp_outline.specs.Told.{act_told, meant_by}
use Rattle.lsp_outline.specs.declared.message.MessageParts.{MessageParts}
use Rattle.lsp_outline.specs.declared.outline.Results.{Results}
use Rattle.lsp_outline.specs.declared.outline.Results.TheVariants.{LeftOut}
use Rattle.lsp_outline.specs.declared.params.Told.{Told}
use Rattle.lsp_types.specs.declared.side.Side.{Side}

-- the string of this text, once it was there
abbrev pub once : Bool → List ℕ → Option Data
once there text = if there then Some (string text) else None

-- the id that a value is; null stands for none
abbrev pub id_in : Data → Option (Option Ident)
id_in d = if is_null d then Some None else option_map Some (as_id d)

-- what the params were read to mean, they mean
abbrev pub Tells : Members → Option Told → Type 0
Tells ms told = meant_by told (get_member (codes "params") ms) ≡ act_told told

-- what the members leave
pub record AreOutlined (ms : Members) (parts : MessageParts) : Type 0 where
  pub version : get_member (codes "jsonrpc") ms ≡ once parts.has_version (codes "2.0")
  pub method : get_member (codes "method") ms
      ≡ option_map (λ s. string (string_bytes s)) parts.method
  pub id : option_map id_in (get_member (codes "id") ms)
      ≡ option_map Some (option_map (λ id. option_map id_view id) parts.id)
  pub params : holds_unless_absent is_structure_or_null (get_member (codes "params") ms) ≡ true
  pub told : Tells ms parts.told
  pub result : is_some (get_member (codes "result") ms) ≡ parts.has_result
  pub error : option_map code_of (get_member (codes "error") ms) ≡ option_map Some parts.error

-- the call of this method and id without params; `Some None` is a null id, which no call has
abbrev pub call_in : List ℕ → Option (Option Ident) → Option Message
call_in method None = Some (notification method None)
call_in method (Some id) = option_map (λ own. request own method None) id

-- the response without the value of its result, which has just one of a result and an error
abbrev pub response_in : Option Ident → Bool → Option ℤ → Option Message
response_in id true None = Some (response id (result null))
response_in id false (Some code) = Some (response id (error code))
response_in _ _ _ = None

-- the message has these params; null stands for none
abbrev pub HasParams : Message → Option Data → Type 0
HasParams (request id method params) own = params ≡ option_and_then unless_null own
HasParams (notification method params) own = params ≡ option_and_then unless_null own
HasParams (response id reply) own = Unit {0}

-- this is left of the message that the members make, and this was its params read to mean
pub record IsLeft (ms : Members) (left : Message) (told : Option Told) : Type 0 where
  pub whole : Message
  pub is : IsMessage (object ms) whole
  pub rest : left ≡ outline whole
  pub params : HasParams whole (get_member (codes "params") ms)
  pub tells : Tells ms told

-- the params among the members mean this by the method
abbrev pub Means : Members → Method → Act → Type 0
Means ms method act =
    meaning method (option_and_then unless_null (get_member (codes "params") ms)) ≡ Some act

-- the members make a message that means this on its side, and this is left of it
pub record SaysSo (results : Results) (side : Side) (ms : Members) (left : Message) (act : Act)
    : Type 0 where
  pub whole : Message
  pub is : IsMessage (object ms) whole
  pub means : act_at side whole ≡ Some act
  pub rest : (left ≡ without_params whole) ⊎ ((results ≡ LeftOut) × (left ≡ outline whole))

-- whether the message has a result, whose value is left out of its outline
abbrev pub lacks_result : Message → Bool
lacks_result (response id (result value)) = true
lacks_result _ = false
