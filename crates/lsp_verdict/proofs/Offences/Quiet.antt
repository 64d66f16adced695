-- A message that says something of a document leaves what a session keeps: such a message is a
-- notification.
use Rattle.std.specs.Prelude.{if◌then◌else◌, option_map, option_and_then}
use Rattle.std.specs.Option.{option_or}
use Rattle.std.specs.Str.{bytes_eq}
use Rattle.std.proofs.Common.{◌≡◌, ℕ, Bool, true, false, List, [], ◌∷◌, ◌++◌, Option, Some, None, refl, sym, ap, subst, ◌∙◌}
use Rattle.serde_json.specs.Data.{Data}
use Rattle.std.proofs.Math.Bool.{or-false}
use Rattle.lsp_rpc.specs.Act.{Act, Offer, initialize, initialized, shutdown, exit, did_open, did_change, did_close, did_save, cancel, progress, early, register, other}
use Rattle.lsp_rpc.specs.Message.{Message, request, notification, response}
use Rattle.lsp_rpc.specs.Params.{Row, act_by, requests, act_at, initialize_at, register_at}
use Rattle.lsp_types.specs.declared.position.Encoding.{Encoding}
use Rattle.lsp_types.specs.declared.change.SyncKind.{SyncKind}
use Rattle.lsp_types.specs.declared.side.Side.{Side}
use Rattle.lsp_types.specs.declared.side.Side.TheVariants.{Editor, Server}
use Rattle.lsp_session.specs.Handshake.{settled_at}
use Rattle.lsp_session.specs.Laws.{sent_by}
use Rattle.lsp_session.specs.Sent.{Sent, cancel_of, is_initialized, is_shutdown, is_exit}
use Rattle.lsp_session.specs.State.{State, agreed_in, next, state_of}
use Rattle.lsp_session.specs.declared.negotiation.Agreed.{Agreed}
use Rattle.lsp_session.proofs.Steps.{option_or-none, state_of-push}
use Rattle.lsp_docs.specs.Calls.{Call}
use Rattle.lsp_verdict.specs.Event.{call_of}

-- ---- which messages say something of a document

-- the act says nothing of a document
abbrev pub IsPlain : Act → Type 0
IsPlain act = (enc : Encoding) (kind : SyncKind) → call_of enc kind act ≡ None

plain_initialize : (o : Option Offer) (act : Act) → option_map initialize o ≡ Some act → IsPlain act
plain_initialize None act e = absurd cc
plain_initialize (Some offer) act e = let same : initialize offer ≡ act = cc e in subst IsPlain same (λ enc kind. refl)

plain_register : (o : Option (List (List ℕ))) (act : Act) → option_map register o ≡ Some act → IsPlain act
plain_register None act e = absurd cc
plain_register (Some methods) act e = let same : register methods ≡ act = cc e in subst IsPlain same (λ enc kind. refl)

plain_params : (shape : Data → Option Act) → ((d : Data) (act : Act) → shape d ≡ Some act → IsPlain act) → (params : Option Data) (act : Act) → option_and_then shape params ≡ Some act → IsPlain act
plain_params shape each None act e = absurd cc
plain_params shape each (Some d) act e = each d act e

-- each of these rows
abbrev ArePlain : List Row → Type 0
ArePlain [] = Unit {0}
ArePlain (row ∷ rows) = ((params : Option Data) (act : Act) → row.act params ≡ Some act → IsPlain act) × ArePlain rows

plain_by : (rows : List Row) → ArePlain rows → (method : List ℕ) (params : Option Data) (act : Act) → act_by rows method params ≡ Some act → IsPlain act
plain_by [] all method params act e = let same : other ≡ act = cc e in subst IsPlain same (λ enc kind. refl)
plain_by (row ∷ rows) all method params act e = by_test (λ f. plain_by rows all.1 method params act f) (bytes_eq method row.method) e
  where
    by_test : (act_by rows method params ≡ Some act → IsPlain act) → (b : Bool) → (if b then row.act params else act_by rows method params) ≡ Some act → IsPlain act
    by_test others true f = all.0 params act f
    by_test others false f = others f

same_plain : (known act : Act) → IsPlain known → Some known ≡ Some act → IsPlain act
same_plain known act plain e = let same : known ≡ act = cc e in subst IsPlain same plain

plain_requests : (side : Side) → ArePlain (requests side)
plain_requests Editor = (plain_params initialize_at (λ d act e. plain_initialize _ act e), ((λ params act e. same_plain shutdown act (λ enc kind. refl) e), tt))
plain_requests Server = ((λ params act e. same_plain early act (λ enc kind. refl) e), (plain_params register_at (λ d act e. plain_register _ act e), tt))

-- a message that says something of a document is a notification
pub record IsNotified (m : Message) : Type 0 where
  pub method : List ℕ
  pub params : Option Data
  pub is : m ≡ notification method params

some_none : {X : Type 0} (call : Call) → None ≡ Some call → X
some_none call e = absurd cc

pub is_notified : (side : Side) (m : Message) (act : Act) (enc : Encoding) (kind : SyncKind) (call : Call) → act_at side m ≡ Some act → call_of enc kind act ≡ Some call → IsNotified m
is_notified side (notification method params) act enc kind call means says = record { method = method; params = params; is = refl }
is_notified side (request id method params) act enc kind call means says =
    some_none call (sym (plain_by (requests side) (plain_requests side) method params act means enc kind) ∙ says)
is_notified side (response id reply) act enc kind call means says = some_none call (sym (same_plain other act (λ e k. refl) means enc kind) ∙ says)

-- ---- what a session keeps behind it

-- the act is none that a session keeps anything of
pub record IsQuiet (act : Act) : Type 0 where
  pub no_cancel : cancel_of act ≡ None
  pub no_initialized : is_initialized act ≡ false
  pub no_shutdown : is_shutdown act ≡ false
  pub no_exit : is_exit act ≡ false

keeps_none : (offer : Option Offer) (agreed : Option (Option Agreed)) → option_or agreed (agreed_in (settled_at offer None)) ≡ agreed
keeps_none None agreed = option_or-none agreed
keeps_none (Some offer) agreed = option_or-none agreed

quiet_next : (s : State) (side : Side) (act : Act) (method : List ℕ) (params : Option Data) → IsQuiet act → next s (sent_by side act (notification method params)) ≡ s
quiet_next s Editor act method params q =
    rw (q.no_cancel, q.no_initialized, q.no_shutdown, q.no_exit, or-false s.initialized, or-false s.shutdown, or-false s.exit, keeps_none _ s.agreed) refl
quiet_next s Server act method params q =
    rw (q.no_cancel, or-false s.initialized, or-false s.shutdown, or-false s.exit, keeps_none _ s.agreed) refl

quiet_act : (act : Act) (enc : Encoding) (kind : SyncKind) (call : Call) → call_of enc kind act ≡ Some call → IsQuiet act
quiet_act (did_open uri number text) enc kind call says = record { no_cancel = refl; no_initialized = refl; no_shutdown = refl; no_exit = refl }
quiet_act (did_change uri number edits) enc kind call says = record { no_cancel = refl; no_initialized = refl; no_shutdown = refl; no_exit = refl }
quiet_act (did_close uri) enc kind call says = record { no_cancel = refl; no_initialized = refl; no_shutdown = refl; no_exit = refl }
quiet_act (did_save uri text) enc kind call says = record { no_cancel = refl; no_initialized = refl; no_shutdown = refl; no_exit = refl }
quiet_act _ enc kind call says = some_none call says

-- **what a session keeps is as before** behind a message that says something of a document
pub leaves_session : (before : List Sent) (side : Side) (m : Message) (act : Act) (enc : Encoding) (kind : SyncKind) (call : Call) → act_at side m ≡ Some act → call_of enc kind act ≡ Some call
    → state_of (before ++ sent_by side act m ∷ []) ≡ state_of before
leaves_session before side m act enc kind call means says =
    let told = is_notified side m act enc kind call means says in
    ap (λ (x : Message). state_of (before ++ sent_by side act x ∷ [])) told.is
    ∙ sym (state_of-push before (sent_by side act (notification told.method told.params)))
    ∙ quiet_next (state_of before) side act told.method told.params (quiet_act act enc kind call says)
