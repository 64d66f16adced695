-- What a session keeps, and when it stands for a list of messages.
use Rattle.std.specs.Prelude.{◌≡◌, ℕ, List, [], ◌∷◌, ◌++◌, Bool, ◌||◌, if◌then◌else◌, Option, Some}
use Rattle.std.specs.Prelude.{None, option_map}
use Rattle.std.specs.Option.{option_or}
use Rattle.lsp_rpc.specs.Ident.{Ident, same_id}
use Rattle.lsp_types.specs.declared.side.Side.{Side}
use Rattle.lsp_types.specs.declared.side.Side.TheVariants.{Editor, Server}
use Rattle.lsp_session.specs.Entry as entry
use Rattle.lsp_session.specs.Entry.{Entry, new_entry, without}
use Rattle.lsp_session.specs.Handshake.{Settled, first_settled, initialize_by, open_initializes}
use Rattle.lsp_session.specs.Handshake.{settled_among, was_sent}
use Rattle.lsp_session.specs.Negotiation.{agreed_at}
use Rattle.lsp_session.specs.OpenInitialize.{Initialize}
use Rattle.lsp_session.specs.Requests.{open_requests}
use Rattle.lsp_session.specs.Sent.{Sent, answered_id, cancelled_id, is_exit, is_initialized}
use Rattle.lsp_session.specs.Sent.{is_shutdown, request_by, sends}
use Rattle.lsp_session.specs.declared.negotiation.Agreed.{Agreed}

-- `agreed` is what the first result that answers an `initialize` agrees on, if that is anything
pub record State : Type 0 where
  pub editor : List Entry
  pub server : List Entry
  pub initializes : List Initialize
  pub agreed : Option (Option Agreed)
  pub initialized : Bool
  pub shutdown : Bool
  pub exit : Bool

abbrev pub agreed_in : Option Settled → Option (Option Agreed)
agreed_in settled = option_map (λ s. agreed_at s.value) settled

-- what a session keeps after these messages
abbrev pub state_of : List Sent → State
state_of before = record {
  editor = open_requests Editor before;
  server = open_requests Server before;
  initializes = open_initializes before;
  agreed = agreed_in (first_settled before);
  initialized = was_sent is_initialized before;
  shutdown = was_sent is_shutdown before;
  exit = was_sent is_exit before;
}

-- the session keeps what these messages leave
abbrev pub Stands : State → List Sent → Type 0
Stands state before = state ≡ state_of before

-- ---- one message more

abbrev pub closed : Option Ident → List Entry → List Entry
closed None es = es
closed (Some id) es = without id es

abbrev pub marked : Option Ident → List Entry → List Entry
marked None es = es
marked (Some id) es = entry.cancel id es

abbrev pub pushed : Option (Ident × List ℕ) → List Entry → List Entry
pushed None es = es
pushed (Some asked) es = es ++ new_entry asked.0 asked.1 ∷ []

abbrev pub open_next : Side → Sent → List Entry → List Entry
open_next side m es = pushed (request_by side m)
    (marked (cancelled_id side m) (closed (answered_id side m) es))

abbrev pub without_initialize : Ident → List Initialize → List Initialize
without_initialize id [] = []
without_initialize id (i ∷ rest) =
    if same_id id i.id then without_initialize id rest else i ∷ without_initialize id rest

abbrev pub closed_initializes : Option Ident → List Initialize → List Initialize
closed_initializes None unanswered = unanswered
closed_initializes (Some id) unanswered = without_initialize id unanswered

abbrev pub pushed_initialize : Option Initialize → List Initialize → List Initialize
pushed_initialize None unanswered = unanswered
pushed_initialize (Some i) unanswered = unanswered ++ i ∷ []

abbrev pub initializes_next : Sent → List Initialize → List Initialize
initializes_next m unanswered =
    pushed_initialize (initialize_by m) (closed_initializes (answered_id Editor m) unanswered)

-- the state after a request, a cancel or an answer, apart from what else it means
abbrev pub next_open : State → Sent → State
next_open s m = record s {
  editor = open_next Editor m s.editor;
  server = open_next Server m s.server;
  initializes = initializes_next m s.initializes;
}

abbrev pub next : State → Sent → State
next s m = record {
  editor = open_next Editor m s.editor;
  server = open_next Server m s.server;
  initializes = initializes_next m s.initializes;
  agreed = option_or s.agreed (agreed_in (settled_among s.initializes m.side m.message));
  initialized = s.initialized || sends is_initialized m;
  shutdown = s.shutdown || sends is_shutdown m;
  exit = s.exit || sends is_exit m;
}

-- the state after the server answers the editor's request of this id
abbrev pub after_answer : State → Ident → State
after_answer s id = record s {
  editor = without id s.editor;
  initializes = without_initialize id s.initializes;
}
