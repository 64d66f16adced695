-- What is read of an event, and how it is kept or refused.
use Rattle.std.specs.Prelude.{◌≡◌, ℕ, List, [], ◌∷◌, ◌++◌, Option, Some, None, option_map, unwrap_or}
use Rattle.lsp_docs.specs.Documents.{Terms}
use Rattle.lsp_docs.specs.State as docs
use Rattle.lsp_docs.specs.Tried.{Made}
use Rattle.lsp_docs.specs.declared.call.Took.{Took}
use Rattle.lsp_rpc.specs.declared.act.Spoken.{Spoken}
use Rattle.lsp_session.specs.Negotiation.{encoding, sync_kind}
use Rattle.lsp_session.specs.Rules.{rule_after}
use Rattle.lsp_session.specs.State as session
use Rattle.lsp_types.specs.declared.change.SyncKind.TheVariants.{Nothing}
use Rattle.lsp_types.specs.declared.position.Encoding.TheVariants.{Utf16}
use Rattle.lsp_types.specs.declared.side.Side.{Side}
use Rattle.lsp_verdict.specs.declared.counts.Counts.{Counts}
use Rattle.lsp_verdict.specs.Event.{Event, call_at, calls, fault, message, sent_in}
use Rattle.lsp_verdict.specs.Given.{AreCounts, raw_view}
use Rattle.lsp_verdict.specs.Placed.{Raw, Reads, ReadsAs}
use Rattle.lsp_verdict.specs.Verdict.{offence}
use Rattle.lsp_replay.specs.Standing.{CanWantMemory, Holds}
use Rattle.lsp_replay.specs.Telling.{IsSpoken, MaySpeak, took_of}
use Rattle.lsp_replay.specs.Tries.{TriesCall}
use Rattle.lsp_replay.specs.declared.events.ReadEvent.{ReadEvent}
use Rattle.lsp_types.specs.declared.fault.Fault.{Fault}
use Rattle.lsp_types.specs.declared.fault.Fault.TheVariants as faults

-- ---- reading

-- after these events the content of the side is a message, of which this is left
abbrev pub IsMessageOf : List Event → Side → List ℕ → Spoken → Type 0
IsMessageOf events side bytes s =
    (event : Event) × ReadsAs side bytes event × IsSpoken events event side s

-- after these events the event was read so, under what they agreed: of a message this is left
pub record IsRead (events : List Event) (event : Event) (read : ReadEvent) : Type 0 where
  pub reads : Reads (raw_view read.raw) event
  pub spoken : MaySpeak events event (option_map (λ s. s.now) read.spoken)
  pub encoding : read.encoding ≡ unwrap_or (encoding (sent_in events)) Utf16
  pub kind : read.kind ≡ unwrap_or (sync_kind (sent_in events)) Nothing

-- the event doesn't offend by itself
abbrev pub IsSound : Event → Type 0
IsSound (fault side rule) = ⊥
IsSound _ = Unit {0}

-- ---- keeping

-- the least rule that the event offends as a message, 301 to 504
abbrev pub message_rule : List Event → Event → Option ℕ
message_rule before (message m) = rule_after (sent_in before) m
message_rule before _ = None

-- the event is admitted after these
abbrev pub IsAdmitted : session.State → List Event → Event → Type 0
IsAdmitted messages events event =
    (message_rule events event ≡ None) × session.Stands messages (sent_in (events ++ event ∷ []))

-- **the event is kept** after these: it doesn't offend, what is held is their result with it, it is
-- counted, and this is what its call says
pub record IsKept (terms : Terms) (before : Counts) (messages : session.State)
    (documents : docs.State) (after : Counts) (events : List Event) (event : Event) (took : Took)
    : Type 0 where
  pub accepted : offence terms events event ≡ None
  pub holds : Holds messages documents (events ++ event ∷ [])
  pub counted : (all : List Event) → AreCounts before all → AreCounts after (all ++ event ∷ [])
  pub says : took ≡ took_of terms (calls events) (call_at events event)

-- it offends the rule of this fault, unless memory ran out
abbrev pub RefusesEvent : Raw → Terms → List Event → Event → Fault → Type 0
RefusesEvent raw terms events event (faults.Rule rule) = offence terms events event ≡ Some rule
RefusesEvent raw terms events event faults.Memory = CanWantMemory terms events raw

-- this was tried of what it says about a document, unless memory ran out
abbrev pub Tries : Terms → List Event → Event → Fault → Option Made → Type 0
Tries terms events event (faults.Rule rule) tried =
    TriesCall terms events (call_at events event) rule tried
Tries terms events event faults.Memory tried = Unit {0}
