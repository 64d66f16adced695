-- What a map holds under the id of a request, or under a URI.
use Rattle.std.specs.Prelude.{List, Option, ℕ, option_map, string_bytes, String, Bool, is_some}
use Rattle.std.specs.Map.{lookup}
use Rattle.std.specs.Global.{Global}
use Rattle.std.specs.Str.{bytes_eq}
use Rattle.lsp_rpc.specs.Ident.{Ident, id_view, same_id}
use Rattle.lsp_rpc.specs.declared.message.Id.{Id}

-- ---- maps by the ids of requests

-- what is held of an id
abbrev pub asked_in : {X : Type 0} → List (Id × X) → Ident → Option X
asked_in es id = lookup (λ key. same_id id (id_view key)) es

-- ---- what a map holds under a URI

-- what the value under the URI is seen as
abbrev pub held_by : {D R : Type 0} → (D → R) → List (String Global × D) → List ℕ → Option R
held_by view es uri = option_map view (lookup (λ key. bytes_eq uri (string_bytes key)) es)

-- the map has this URI
abbrev pub has_uri : {X : Type 0} → List (String Global × X) → List ℕ → Bool
has_uri es uri = is_some (held_by (λ x. x) es uri)
