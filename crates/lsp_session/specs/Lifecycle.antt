-- Who may send what, and when. (LSP 3.17, "Server lifecycle".)
use Rattle.std.specs.Prelude.{ℕ, List, [], ◌∷◌, Bool, true, false, not, ◌&&◌, if◌then◌else◌, Option}
use Rattle.std.specs.Prelude.{Some, None}
use Rattle.std.specs.List.{list_any}
use Rattle.lsp_rpc.specs.Ident.{Ident, same_id}
use Rattle.lsp_rpc.specs.Act.{Act, early, progress}
use Rattle.lsp_types.specs.declared.side.Side.{Side}
use Rattle.lsp_types.specs.declared.side.Side.TheVariants.{Editor, Server}
use Rattle.lsp_session.specs.Handshake.{is_done, is_fresh, is_waiting, open_initializes, was_sent}
use Rattle.lsp_session.specs.OpenInitialize.{Initialize}
use Rattle.lsp_session.specs.Sent.{Sent, is_exit, is_initialize, is_initialized, is_response}
use Rattle.lsp_session.specs.Sent.{is_shutdown, same_side}
use Rattle.lsp_types.specs.declared.rules.TheConstants as rules

-- ---- the table

-- what comes before the message
pub data Before : Type 0 where
  always : Before
  fresh : Before
  waiting : Before
  done : Before
  -- done, and the editor sent no `initialized`
  not_initialized : Before
  -- done, and the editor sent `shutdown`
  shutting_down : Before
  -- the editor sent `exit`
  exited : Before

-- what the message is; a call is a request or a notification
pub data Kind : Type 0 where
  any_message : Kind
  any_call : Kind
  an_initialize : Kind
  an_initialized : Kind
  an_exit : Kind
  -- a message that may come before the answer to `initialize`
  an_early_call : Kind
  -- `$/progress` with the token of the open `initialize`
  its_progress : Kind

pub record Row : Type 0 where
  pub sender : Side
  pub before : Before
  pub kind : Kind
  pub answer : Option ℕ

abbrev pub row : Side → Before → Kind → Option ℕ → Row
row sender before kind answer = record {
  sender = sender;
  before = before;
  kind = kind;
  answer = answer;
}

abbrev pub allowed : Option ℕ
allowed = None

-- the first row that fits decides; a message that fits none is allowed
abbrev pub table : List Row
table =
    row Editor exited any_message (Some rules.EDITOR_AFTER_EXIT)
    ∷ row Editor always an_exit allowed
    ∷ row Editor fresh an_initialize allowed
    ∷ row Editor fresh any_call (Some rules.EDITOR_BEFORE_INITIALIZE)
    ∷ row Editor waiting any_call (Some rules.EDITOR_WHILE_INITIALIZE_OPEN)
    ∷ row Editor shutting_down any_call (Some rules.EDITOR_AFTER_SHUTDOWN)
    ∷ row Editor done an_initialize (Some rules.INITIALIZE_AGAIN)
    ∷ row Editor not_initialized an_initialized allowed
    ∷ row Editor not_initialized any_call (Some rules.INITIALIZED_NOT_FIRST)
    ∷ row Editor done an_initialized (Some rules.INITIALIZE_AGAIN)
    ∷ row Editor done any_call allowed
    ∷ row Server fresh any_call (Some rules.SERVER_BEFORE_INITIALIZE)
    ∷ row Server waiting an_early_call allowed
    ∷ row Server waiting its_progress allowed
    ∷ row Server waiting any_call (Some rules.SERVER_WHILE_INITIALIZE_OPEN)
    ∷ row Server done any_call allowed
    ∷ []

-- ---- what its words mean

abbrev pub holds : List Sent → Before → Bool
holds before always = true
holds before fresh = is_fresh before
holds before waiting = is_waiting before
holds before done = is_done before
holds before not_initialized = is_done before && not (was_sent is_initialized before)
holds before shutting_down = is_done before && was_sent is_shutdown before
holds before exited = was_sent is_exit before

abbrev pub is_early : Act → Bool
is_early early = true
is_early _ = false

abbrev pub has_token : Option Ident → Ident → Bool
has_token None token = false
has_token (Some own) token = same_id own token

-- progress with the token of one of these; under none, no progress is
abbrev pub reports_on : List Initialize → Act → Bool
reports_on unanswered (progress token) = list_any (λ i. has_token i.offer.token token) unanswered
reports_on unanswered _ = false

abbrev pub is_call : Sent → Bool
is_call m = not (is_response m.message)

abbrev pub is_kind : List Initialize → Sent → Kind → Bool
is_kind unanswered m any_message = true
is_kind unanswered m any_call = is_call m
is_kind unanswered m an_initialize = is_call m && is_initialize m.act
is_kind unanswered m an_initialized = is_call m && is_initialized m.act
is_kind unanswered m an_exit = is_call m && is_exit m.act
is_kind unanswered m an_early_call = is_call m && is_early m.act
is_kind unanswered m its_progress = is_call m && reports_on unanswered m.act

abbrev pub fits : List Sent → Sent → Row → Bool
fits before m row = same_side row.sender m.side &&
    (is_kind (open_initializes before) m row.kind && holds before row.before)

abbrev pub first_answer : (Row → Bool) → List Row → Option ℕ
first_answer test [] = allowed
first_answer test (row ∷ rows) = if test row then row.answer else first_answer test rows

-- the rule of the table that the message breaks
abbrev pub lifecycle_rule : List Sent → Sent → Option ℕ
lifecycle_rule before m = first_answer (fits before m) table
