-- What the program's messages and acts are, apart from where their parts lie in memory.
use Rattle.std.specs.Prelude.{List, map, option_map, string_bytes, String}
use Rattle.serde_json.specs.View.{view}
use Rattle.lsp_rpc.specs.Ident.{id_view}
use Rattle.lsp_rpc.specs.Message.{Message, request, notification, response, Reply, result, error}
use Rattle.lsp_rpc.specs.Act.{Text, Act, Offer, Picked, Change, initialize, initialized, shutdown, exit, did_open, did_change, did_close, did_save, cancel, progress, early, register, other}
use Rattle.lsp_rpc.specs.declared.message.Answer as answer
use Rattle.lsp_rpc.specs.declared.message.Answer.TheVariants as answers
use Rattle.lsp_rpc.specs.declared.message.Message as message
use Rattle.lsp_rpc.specs.declared.message.Message.TheVariants as messages
use Rattle.lsp_rpc.specs.Reading.{Parts}
use Rattle.lsp_rpc.specs.declared.parts.Parts as parts
use Rattle.lsp_rpc.specs.declared.act.Act as act
use Rattle.lsp_rpc.specs.declared.act.Act.TheVariants as acts
use Rattle.lsp_rpc.specs.declared.act.Offer as offer
use Rattle.lsp_types.specs.declared.change.Change as change
use Rattle.lsp_rpc.specs.declared.act.Picked as picked
use Rattle.std.specs.Cow.{cow_value}
use Rattle.std.specs.declared.alloc.Global.{Global}
use Rattle.std.specs.declared.borrow.Cow.{Cow}
use Rattle.serde_json.specs.Data.{Data}
use Rattle.serde_json.specs.declared.value.Value.{Value}

abbrev pub parts_view : parts.Parts → Parts
parts_view p = record {
  version = option_map view p.version;
  method = option_map view p.method;
  id = option_map view p.id;
  params = option_map view p.params;
  result = option_map view p.result;
  error = option_map view p.error;
}

-- a value that is lent or owned
abbrev pub lent_view : Cow Value → Data
lent_view c = view (cow_value c)

abbrev pub answer_view : answer.Answer → Reply
answer_view (answers.Result v) = result (view v)
answer_view (answers.Error code) = error code

abbrev pub message_view : message.Message → Message
message_view (messages.Request id method params) = request (id_view id) (string_bytes method) (option_map view params)
message_view (messages.Notification method params) = notification (string_bytes method) (option_map view params)
message_view (messages.Response id answer) = response (option_map id_view id) (answer_view answer)

abbrev pub texts_view : List (String Global) → List Text
texts_view texts = map (λ s. string_bytes s) texts

abbrev pub offer_view : offer.Offer → Offer
offer_view o = record { encodings = option_map (λ v. texts_view v.items) o.encodings; token = option_map id_view o.token }

abbrev pub picked_view : picked.Picked → Picked
picked_view p = record { encoding = string_bytes p.encoding; kind = p.kind }

abbrev pub change_view : change.Change → Change
change_view c = record { span = c.span; range_length = c.range_length; text = string_bytes c.text }

abbrev pub changes_view : List change.Change → List Change
changes_view cs = map change_view cs

abbrev pub act_view : act.Act → Act
act_view (acts.Initialize o) = initialize (offer_view o)
act_view acts.Initialized = initialized
act_view acts.Shutdown = shutdown
act_view acts.Exit = exit
act_view (acts.DidOpen uri version text) = did_open (string_bytes uri) version (string_bytes text)
act_view (acts.DidChange uri version changes) = did_change (string_bytes uri) version (changes_view changes.items)
act_view (acts.DidClose uri) = did_close (string_bytes uri)
act_view (acts.DidSave uri text) = did_save (string_bytes uri) (option_map string_bytes text)
act_view (acts.Cancel id) = cancel (id_view id)
act_view (acts.Progress token) = progress (id_view token)
act_view acts.Early = early
act_view (acts.Register methods) = register (texts_view methods.items)
act_view acts.Other = other
