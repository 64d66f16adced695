-- An open `initialize`, apart from where its texts lie in memory.
use Rattle.std.specs.Prelude.{List, [], ◌∷◌, Option, Some, None}
use Rattle.lsp_rpc.specs.Ident.{Ident, id_view}
use Rattle.lsp_rpc.specs.Act.{Offer}
use Rattle.lsp_rpc.specs.View.{offer_view}
use Rattle.lsp_session.specs.declared.handshake.OpenInitialize as open_initialize

-- an `initialize` request: its id and what it offers
pub record Initialize : Type 0 where
  pub id : Ident
  pub offer : Offer

abbrev pub initialize_view : open_initialize.OpenInitialize → Initialize
initialize_view i = record { id = id_view i.id; offer = offer_view i.offer }

abbrev pub initializes_view : Option open_initialize.OpenInitialize → List Initialize
initializes_view None = []
initializes_view (Some i) = initialize_view i ∷ []
