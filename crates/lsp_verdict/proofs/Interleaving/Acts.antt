-- What a message can mean on its side.
use Rattle.std.proofs.lemmas.Bool.{not-true}
use Rattle.std.proofs.Common.{◌≡◌, ℕ, Bool, true, false, not, List, [], ◌∷◌, Option, Some, None, is_none, refl, sym, ap, subst, true≢false}
use Rattle.std.specs.Prelude.{if◌then◌else◌, option_map, option_and_then}
use Rattle.std.specs.Str.{bytes_eq}
use Rattle.std.proofs.lemmas.Option.{same_Some}
use Rattle.serde_json.specs.Data.{Data}
use Rattle.lsp_rpc.specs.Act.{Act, cancel, progress, early, initialize, other, register, shutdown}
use Rattle.lsp_rpc.specs.Message.{Message, request, notification, response}
use Rattle.lsp_rpc.specs.Params.{Row, act_at, act_by, cancel_at, editor_requests, initialize_at, progress_at, register_at, server_notifications, server_requests}
use Rattle.lsp_types.specs.declared.position.Encoding.{Encoding}
use Rattle.lsp_types.specs.declared.side.Side.TheVariants.{Server}
use Rattle.lsp_types.specs.declared.change.SyncKind.{SyncKind}
use Rattle.lsp_session.specs.Sent.{is_exit}
use Rattle.lsp_verdict.specs.Event.{call_of}

-- what passes for each answer of a row, and for each answer of the rows
abbrev Keeps : (Act → Bool) → (Option Data → Option Act) → Type 0
Keeps test answer = (params : Option Data) (act : Act) → answer params ≡ Some act → test act ≡ true

abbrev AllKeep : (Act → Bool) → List Row → Type 0
AllKeep test [] = Unit {0}
AllKeep test (row ∷ rows) = Keeps test row.act × AllKeep test rows

by_rows : (test : Act → Bool) (rows : List Row) → AllKeep test rows → test other ≡ true → (method : List ℕ) → Keeps test (act_by rows method)
by_rows test [] keep plain method params act e = subst (λ a. test a ≡ true) (same_Some _ _ e) plain
by_rows test (row ∷ rows) keep plain method params act e = by_method (bytes_eq method row.method) (by_rows test rows keep.1 plain method params act) e
  where
    by_method : (b : Bool) → (act_by rows method params ≡ Some act → test act ≡ true) → (if b then row.act params else act_by rows method params) ≡ Some act → test act ≡ true
    by_method true next h = keep.0 params act h
    by_method false next h = next h

mapped : {X : Type 0} (test : Act → Bool) (f : X → Act) → ((x : X) → test (f x) ≡ true) → (o : Option X) (act : Act) → option_map f o ≡ Some act → test act ≡ true
mapped test f each None act e = cc
mapped test f each (Some x) act e = subst (λ a. test a ≡ true) (same_Some _ _ e) (each x)

-- a row whose params are read, and one whose params aren't
read_row : (test : Act → Bool) (shape : Data → Option Act) → ((d : Data) (act : Act) → shape d ≡ Some act → test act ≡ true) → Keeps test (option_and_then shape)
read_row test shape each None act e = cc
read_row test shape each (Some d) act e = each d act e

plain_row : (test : Act → Bool) (means : Act) → test means ≡ true → Keeps test (λ params. Some means)
plain_row test means each params act e = subst (λ a. test a ≡ true) (same_Some _ _ e) each

-- ---- the editor's requests

abbrev stays : Act → Bool
stays act = not (is_exit act)

requests_stay : AllKeep stays editor_requests
requests_stay = (
  read_row stays initialize_at (λ d act e. mapped stays initialize (λ offer. refl) _ act e),
  (plain_row stays shutdown refl, tt),
)

-- a request doesn't exit
pub request_stays : (method : List ℕ) (params : Option Data) (act : Act) → act_by editor_requests method params ≡ Some act → is_exit act ≡ false
request_stays method params act e = not-true (is_exit act) (by_rows stays editor_requests requests_stay refl method params act e)

-- ---- the server's messages

module _ (enc : Encoding) (kind : SyncKind) where
  abbrev calls_nothing : Act → Bool
  calls_nothing act = is_none (call_of enc kind act)

  requests_call_nothing : AllKeep calls_nothing server_requests
  requests_call_nothing = (
    plain_row calls_nothing early refl,
    (read_row calls_nothing register_at (λ d act e. mapped calls_nothing register (λ methods. refl) _ act e), tt),
  )

  notifications_call_nothing : AllKeep calls_nothing server_notifications
  notifications_call_nothing =
      let plain = plain_row calls_nothing early refl in (
        read_row calls_nothing cancel_at (λ d act e. mapped calls_nothing cancel (λ id. refl) _ act e),
        (read_row calls_nothing progress_at (λ d act e. mapped calls_nothing progress (λ id. refl) _ act e), (plain, (plain, (plain, tt)))),
      )

  none : {X : Type 0} (o : Option X) → is_none o ≡ true → o ≡ None
  none None h = refl
  none (Some x) h = absurd (true≢false (sym h))

  -- no message of the server's says anything of documents
  pub server_calls_nothing : (message : Message) (act : Act) → act_at Server message ≡ Some act → call_of enc kind act ≡ None
  server_calls_nothing (request id method params) act e = none (call_of enc kind act) (by_rows calls_nothing server_requests requests_call_nothing refl method params act e)
  server_calls_nothing (notification method params) act e = none (call_of enc kind act) (by_rows calls_nothing server_notifications notifications_call_nothing refl method params act e)
  server_calls_nothing (response id reply) act e = ap (call_of enc kind) (sym (same_Some _ _ e))
