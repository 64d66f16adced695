-- The derived `==` of ids is that of the definitions.
use Rattle.std.proofs.Common.{◌≡◌, refl}
use Rattle.lsp_rpc.specs.Ident.{same_id, id_view}
use Rattle.lsp_rpc.specs.declared.message.Id.{Id}
use Rattle.lsp_rpc.specs.declared.message.Id.TheVariants.{Number, Text}
use Rattle.lsp_rpc.specs.contracts.message.IdPartialEq.TheImpl.{eq-value}

pub eq_is_same_id : (a b : Id) → (eq-value).it a b ≡ same_id (id_view a) (id_view b)
eq_is_same_id (Number a) (Number b) = refl
eq_is_same_id (Number a) (Text t) = refl
eq_is_same_id (Text s) (Number b) = refl
eq_is_same_id (Text s) (Text t) = refl
