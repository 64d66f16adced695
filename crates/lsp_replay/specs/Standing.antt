-- For which events the parts that hear them stand, and what the next one makes of them.
use Rattle.std.specs.Prelude.{◌≡◌, ◌⊎◌, List, [], ◌∷◌, ◌++◌, Option, Some, None}
use Rattle.lsp_rpc.specs.Message as rpc
use Rattle.lsp_rpc.specs.Outline.{without_params}
use Rattle.lsp_session.specs.Handshake.{open_initializes}
use Rattle.lsp_session.specs.State as session
use Rattle.lsp_docs.specs.declared.call.Took.{Took}
use Rattle.lsp_docs.specs.declared.call.Took.TheVariants.{Done}
use Rattle.lsp_docs.specs.declared.snapshot.Match.TheVariants.{Waits}
use Rattle.lsp_docs.specs.Calls.{Call}
use Rattle.lsp_docs.specs.State as docs
use Rattle.lsp_docs.specs.Stored.{answer_of}
use Rattle.lsp_docs.specs.Documents.{held, Terms}
use Rattle.lsp_docs.specs.Snapshots.{kept}
use Rattle.lsp_docs.specs.Taken.{IsTook, MayLackMemory}
use Rattle.lsp_verdict.specs.declared.counts.Counts.{Counts}
use Rattle.lsp_verdict.specs.Event.{calls, Event, sent_in}
use Rattle.lsp_verdict.specs.Placed.{Raw, content, broken, show, Reads}
use Rattle.lsp_verdict.specs.Given.{AreCounts}
use Rattle.lsp_verdict.specs.Verdict.{offence, first_no}
use Rattle.lsp_types.specs.declared.fault.Fault.{Fault}
use Rattle.lsp_types.specs.declared.fault.Fault.TheVariants as faults

-- ---- what is held

-- the messages and the calls that the layers below stand for are those of the events
pub record Holds (messages : session.State) (documents : docs.State)
    (events : List Event) : Type 0 where
  pub sent : session.Stands messages (sent_in events)
  pub called : docs.Stands documents (calls events)

-- none of these events offends, and what is held is their result
pub record Follows (messages : session.State) (documents : docs.State) (counts : Counts)
    (events : List Event) : Type 0 where
  pub clean : first_no documents.terms events ≡ None
  pub holds : Holds messages documents events
  pub counted : AreCounts counts events

-- ---- a call

-- what is said about a document is accepted, and says this; where nothing is, what is held stays
abbrev pub TakesCall : docs.State → docs.State → Option Call → Took → Type 0
TakesCall old new None took = (new ≡ old) × (took ≡ Done)
TakesCall old new (Some call) took = docs.Accepts old new call × IsTook old call took

-- something is said about a document, which is refused
abbrev pub RefusesCall : docs.State → Option Call → Fault → Type 0
RefusesCall old None why = ⊥
RefusesCall old (Some call) why = docs.Refuses old call why

-- memory may be refused
abbrev pub MayLackFor : docs.State → Option Call → Type 0
MayLackFor old None = ⊥
MayLackFor old (Some call) = MayLackMemory old call

-- ---- a content

-- after these events the message is the whole one without its params; or no `initialize` is open,
-- and the value of its result, which nothing then reads, may be left out
abbrev pub HasValue : List Event → rpc.Message → rpc.Message → Type 0
HasValue events said whole =
    (open_initializes (sent_in events) ≡ []) ⊎ (said ≡ without_params whole)

-- ---- an event

-- **the next event is kept**: it doesn't offend after these events, what is held is their
-- result with it, and it is counted
pub record Keeps (raw : Raw) (terms : Terms) (before : Counts) (messages : session.State)
    (documents : docs.State) (after : Counts) (events : List Event) : Type 0 where
  pub event : Event
  pub reads : Reads raw event
  pub accepted : offence terms events event ≡ None
  pub holds : Holds messages documents (events ++ event ∷ [])
  -- also where more events were counted, which were refused
  pub counted : (all : List Event) → AreCounts before all → AreCounts after (all ++ event ∷ [])

-- it is kept, after whatever events have this result
abbrev pub Takes : Raw → Terms → Counts → session.State → docs.State → session.State → docs.State
    → Counts → Type 0
Takes raw terms before old_messages old_documents messages documents after =
    (events : List Event) → Holds old_messages old_documents events
    → Keeps raw terms before messages documents after events

-- memory may run out while an event is heard after these: a content is read, and a snapshot may
-- have to wait; a fault of the frames wants none
abbrev pub CanWantMemory : Terms → List Event → Raw → Type 0
CanWantMemory terms events (content side bytes) = Unit {0}
CanWantMemory terms events (broken side rule) = ⊥
CanWantMemory terms events (show number uri text) =
    answer_of number (kept terms uri (calls events)) (held terms uri (calls events)) ≡ Waits

-- **the next event offends the rule of this fault**, after these events, unless memory ran out
abbrev pub RefusesFor : Raw → Terms → List Event → Fault → Type 0
RefusesFor raw terms events (faults.Rule rule) =
    (event : Event) × Reads raw event × (offence terms events event ≡ Some rule)
RefusesFor raw terms events faults.Memory = CanWantMemory terms events raw
