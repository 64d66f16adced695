-- The open requests of one side, in the order in which they were asked.
use Rattle.std.specs.Prelude.{◌≡◌, ℕ, List, [], ◌∷◌, map, Bool, true, false, ◌||◌, if◌then◌else◌}
use Rattle.std.specs.Prelude.{Option, Some, None, string_bytes}
use Rattle.lsp_rpc.specs.Ident.{Ident, same_id, id_view}
use Rattle.lsp_rpc.specs.declared.message.Id.{Id}
use Rattle.lsp_session.specs.declared.pending.OpenRequest.{OpenRequest}
use Rattle.lsp_types.specs.declared.rules.TheConstants as rules

-- an open request, apart from where its texts lie in memory
pub record Entry : Type 0 where
  pub id : Ident
  pub method : List ℕ
  pub cancelled : Bool

abbrev pub request_view : OpenRequest → Entry
request_view r = record {
  id = id_view r.id;
  method = string_bytes r.method;
  cancelled = r.cancelled;
}

-- the entries of the requests that are kept by their ids
abbrev pub entries_in : List (Id × OpenRequest) → List Entry
entries_in kept = map (λ e. request_view e.1) kept

-- each request is kept by its own id
abbrev pub AllNamed : List (Id × OpenRequest) → Type 0
AllNamed [] = Unit {0}
AllNamed (e ∷ kept) = (id_view e.1.id ≡ id_view e.0) × AllNamed kept

-- a request as it is asked
abbrev pub new_entry : Ident → List ℕ → Entry
new_entry id method = record { id = id; method = method; cancelled = false }

abbrev pub has_id : Ident → List Entry → Bool
has_id id [] = false
has_id id (e ∷ es) = same_id id e.id || has_id id es

-- no id stands twice
abbrev pub IdsDiffer : List Entry → Type 0
IdsDiffer [] = Unit {0}
IdsDiffer (e ∷ es) = (has_id e.id es ≡ false) × IdsDiffer es

-- the entry with this id
abbrev pub entry_of : Ident → List Entry → Option Entry
entry_of id [] = None
entry_of id (e ∷ es) = if same_id id e.id then Some e else entry_of id es

-- without the entries of this id
abbrev pub without : Ident → List Entry → List Entry
without id [] = []
without id (e ∷ es) = if same_id id e.id then without id es else e ∷ without id es

abbrev pub marked : Ident → Entry → Entry
marked id e = if same_id id e.id then record e { cancelled = true } else e

-- with the entries of this id marked as cancelled
abbrev pub cancel : Ident → List Entry → List Entry
cancel id es = map (marked id) es

-- a request has an id that is not open
abbrev pub ask_rule : Ident → List Entry → Option ℕ
ask_rule id es = if has_id id es then Some rules.ID_ALREADY_OPEN else None
