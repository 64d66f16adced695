-- A message of the program, and a result that answers an `initialize`, as the definitions see them.
use Rattle.serde_json.specs.View.{view}
use Rattle.serde_json.specs.declared.value.Value.{Value}
use Rattle.lsp_rpc.specs.View.{act_view, message_view, offer_view}
use Rattle.lsp_rpc.specs.declared.act.Act.{Act}
use Rattle.lsp_rpc.specs.declared.act.Offer.{Offer}
use Rattle.lsp_rpc.specs.declared.message.Message.{Message}
use Rattle.lsp_types.specs.declared.side.Side.{Side}
use Rattle.lsp_session.specs.Handshake.{Settled}
use Rattle.lsp_session.specs.Sent.{Sent}

abbrev pub sent : Side → Message → Act → Sent
sent side message act = record { side = side; message = message_view message; act = act_view act }

abbrev pub settled_view : Offer → Value → Settled
settled_view offer value = record { offer = offer_view offer; value = view value }
