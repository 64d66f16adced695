-- Which message a content is, and the least rule that it breaks (JSON-RPC 2.0, sections 4 and 5).
use Rattle.std.specs.Prelude.{◌≡◌, ◌⊎◌, IsUtf8, ℕ, ℤ, List, [], ◌∷◌, Bool, not, ◌&&◌, ◌||◌, if◌then◌else◌, Option, Some, None, is_some, is_none, option_map, option_and_then, codes}
use Rattle.serde_json.specs.Data.{Data}
use Rattle.serde_json.specs.Read.{read}
use Rattle.serde_json.specs.Find.{as_str}
use Rattle.lsp_types.specs.declared.fault.Fault.{Fault}
use Rattle.lsp_types.specs.declared.fault.Fault.TheVariants.{Rule, Memory}
use Rattle.lsp_rpc.specs.Ident.{Ident}
use Rattle.lsp_rpc.specs.Message.{Message, request, notification, response, Reply, result, error}
use Rattle.lsp_rpc.specs.Shape.{member, is_object, is_string, unless_null, is_structure_or_null, is_text, is_id, is_id_or_null, as_id, as_integer, holds_of, holds_unless_absent}
use Rattle.lsp_types.specs.declared.rules.TheConstants as rules

-- the members that a message is made of; `None` is a member that is missing
pub record Parts : Type 0 where
  pub version : Option Data
  pub method : Option Data
  pub id : Option Data
  pub params : Option Data
  pub result : Option Data
  pub error : Option Data

abbrev pub parts_of : Data → Parts
parts_of d = record {
  version = member (codes "jsonrpc") d;
  method = member (codes "method") d;
  id = member (codes "id") d;
  params = member (codes "params") d;
  result = member (codes "result") d;
  error = member (codes "error") d;
}

-- ---- the rules, each by what keeps it

abbrev pub version_is_2 : Parts → Bool
version_is_2 p = holds_of (is_text (codes "2.0")) p.version

abbrev pub method_is_string : Parts → Bool
method_is_string p = holds_unless_absent is_string p.method

abbrev pub id_is_good : Parts → Bool
id_is_good p = holds_unless_absent (if is_some p.method then is_id else is_id_or_null) p.id

abbrev pub params_are_good : Parts → Bool
params_are_good p = is_none p.method || holds_unless_absent is_structure_or_null p.params

abbrev pub either : Option Data → Option Data → Bool
either a b = if is_some a then is_none b else is_some b

-- an id, and either a result or an error
abbrev pub is_response : Parts → Bool
is_response p = is_some p.id && either p.result p.error

-- the code of an error object, which has a message too
abbrev pub code_of : Data → Option ℤ
code_of e = if holds_of is_string (member (codes "message") e) then option_and_then as_integer (member (codes "code") e) else None

abbrev pub is_error : Data → Bool
is_error e = is_some (code_of e)

abbrev pub error_is_good : Parts → Bool
error_is_good p = is_some p.method || holds_unless_absent is_error p.error

-- the rules, each with whether it is broken
abbrev pub rules_on : Parts → List (ℕ × Bool)
rules_on p =
    (rules.BAD_JSONRPC_VERSION, not (version_is_2 p))
    ∷ (rules.METHOD_NOT_STRING, not (method_is_string p))
    ∷ (rules.BAD_ID, not (id_is_good p))
    ∷ (rules.BAD_PARAMS, not (params_are_good p))
    ∷ (rules.NOT_A_MESSAGE, not (is_some p.method || is_response p))
    ∷ (rules.BAD_ERROR_OBJECT, not (error_is_good p))
    ∷ []

abbrev pub least_broken : List (ℕ × Bool) → Option ℕ
least_broken [] = None
least_broken (rule ∷ rules) = if rule.1 then Some rule.0 else least_broken rules

-- the least rule that the value breaks
abbrev pub broken_rule : Data → Option ℕ
broken_rule d = least_broken ((rules.MESSAGE_NOT_OBJECT, not (is_object d)) ∷ rules_on (parts_of d))

-- ---- the message

-- a call with an id is a request
abbrev pub call : List ℕ → Option Ident → Option Data → Message
call method (Some id) params = request id method params
call method None params = notification method params

abbrev pub reply_in : Option Data → Option Data → Option Reply
reply_in (Some value) e = Some (result value)
reply_in None e = option_map error (option_and_then code_of e)

-- what the parts make, where they keep the rules
abbrev pub message_in : Parts → Option Message
message_in p =
    if is_some p.method
    then option_map (λ method. call method (option_and_then as_id p.id) (option_and_then unless_null p.params)) (option_and_then as_str p.method)
    else option_map (response (option_and_then as_id p.id)) (reply_in p.result p.error)

-- the value is this message
pub record IsMessage (d : Data) (message : Message) : Type 0 where
  pub keeps_rules : broken_rule d ≡ None
  pub made : message_in (parts_of d) ≡ Some message

-- ---- contents

-- the content is JSON text of this value
abbrev pub IsJson : List ℕ → Data → Type 0
IsJson content d = IsUtf8 content × (read content ≡ Some d)

-- the content is this message
abbrev pub Reads : List ℕ → Message → Type 0
Reads content message = (d : Data) × IsJson content d × IsMessage d message

-- the least rule that the content breaks
abbrev pub BreaksRule : List ℕ → ℕ → Type 0
BreaksRule content rule =
    ((d : Data) × IsJson content d × (broken_rule d ≡ Some rule))
    ⊎ ((rule ≡ rules.CONTENT_NOT_JSON) × ((d : Data) → IsJson content d → ⊥))

-- why there is no message, unless memory ran out
abbrev pub IsRefusal : List ℕ → Fault → Type 0
IsRefusal content (Rule rule) = BreaksRule content rule
IsRefusal content Memory = Unit {0}
