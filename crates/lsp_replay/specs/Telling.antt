-- What an account is told, and what it owes.
use Rattle.std.specs.Prelude.{◌≡◌, ℕ, ◌+◌, ◌<◌, ◌^◌, List, [], ◌∷◌, ◌++◌, length, true, false}
use Rattle.std.specs.Prelude.{Option, Some, None, IsSome, option_map}
use Rattle.lsp_docs.specs.Calls.{Call}
use Rattle.lsp_docs.specs.Documents.{Terms}
use Rattle.lsp_docs.specs.State as docs
use Rattle.lsp_docs.specs.Taken.{call_view, took_by}
use Rattle.lsp_docs.specs.declared.call.Took.{Took}
use Rattle.lsp_docs.specs.declared.call.Took.TheVariants.{Done}
use Rattle.lsp_frame.specs.Front.{header_front}
use Rattle.lsp_log.specs.Reader.{shown_by}
use Rattle.lsp_rpc.specs.Outline.{outline}
use Rattle.lsp_rpc.specs.View.{act_view, message_view}
use Rattle.lsp_rpc.specs.declared.act.Spoken.{Spoken}
use Rattle.lsp_session.specs.Sent.{Sent}
use Rattle.lsp_session.specs.State as session
use Rattle.lsp_types.specs.declared.side.Side.{Side}
use Rattle.lsp_replay.specs.LogEvents.{flaw_of}
use Rattle.lsp_replay.specs.Run.{ClosesSo, Run, Tail}
use Rattle.lsp_replay.specs.Standing.{HasValue, Holds}
use Rattle.lsp_replay.specs.Streams as streams
use Rattle.lsp_replay.specs.Streams.{decoder_of}
use Rattle.lsp_replay.specs.Tries.{TriesCall, made_in}
use Rattle.lsp_replay.specs.declared.log_events.End.{End}
use Rattle.lsp_replay.specs.declared.log_events.LogEvents.{LogEvents}
use Rattle.lsp_replay.specs.declared.seen.Fate.{Fate}
use Rattle.lsp_replay.specs.declared.seen.Fate.TheVariants as fates
use Rattle.lsp_replay.specs.declared.seen.Flow.{Flow}
use Rattle.lsp_replay.specs.declared.seen.Flow.TheVariants.{GoOn, Stop}
use Rattle.lsp_replay.specs.declared.seen.Seen.{Seen}
use Rattle.lsp_verdict.specs.Event.{call_at, calls, Event, message}
use Rattle.lsp_verdict.specs.Given.{AreCounts, raw_view}
use Rattle.lsp_verdict.specs.Heard.{Heard, Rests, behind_at, heard_events, rest_of}
use Rattle.lsp_verdict.specs.Offences.{IsNoted, has_broken, kept_of, rule_at}
use Rattle.lsp_verdict.specs.Outcome.{is_rest}
use Rattle.lsp_verdict.specs.Placed.{Raw}
use Rattle.lsp_verdict.specs.Survey.{ends_inside}
use Rattle.lsp_verdict.specs.Verdict.{Verdict, no_by}
use Rattle.lsp_verdict.specs.declared.counts.Counts.{Counts}
use Rattle.lsp_verdict.specs.declared.outcome.Outcome.{Outcome}
use Rattle.lsp_verdict.specs.declared.raw.Raw as code
use Rattle.lsp_verdict.specs.declared.raw.Raw.TheVariants as lent

-- ---- what is held

-- what is held is the result of those of these events that are kept; all are counted
pub record Stood (terms : Terms) (messages : session.State) (documents : docs.State)
    (counts : Counts) (heard : List Heard) : Type 0 where
  pub by : documents.terms ≡ terms
  pub holds : Holds messages documents (kept_of terms (heard_events heard))
  pub counted : AreCounts counts (heard_events heard)

-- ---- an event

-- the kept ones of these
abbrev pub kept_before : Terms → List Heard → List Event
kept_before terms before = kept_of terms (heard_events before)

-- the least rule that an event breaks after the kept ones of these
abbrev pub rule_of : Terms → List Heard → Heard → Option ℕ
rule_of terms before h = rule_at terms (heard_events before) h.note.event

-- the No at it, where it offends
abbrev pub no_of : Terms → List Heard → Heard → Option Verdict
no_of terms before h = option_map (no_by (heard_events before) h.note.event) (rule_of terms before h)

-- the event is this message of a side, without its params; the value of its result may be left out
-- where nothing reads it after these kept events
pub record IsSpoken (kept_events : List Event) (event : Event) (side : Side) (s : Spoken) : Type 0
  where
    pub sent : Sent
    pub is : event ≡ message sent
    pub by : sent.side ≡ side
    pub says : outline sent.message ≡ outline (message_view s.message)
    pub means : sent.act ≡ act_view s.act
    pub has_value : HasValue kept_events (message_view s.message) sent.message

-- the event is a message, which is this one, or none
abbrev pub MaySpeak : List Event → Event → Option Spoken → Type 0
MaySpeak kept_events event None = (sent : Sent) → event ≡ message sent → ⊥
MaySpeak kept_events event (Some s) = (side : Side) × IsSpoken kept_events event side s

-- what the call of an event says, where it is one
abbrev pub took_of : Terms → List Call → Option Call → Took
took_of terms before None = Done
took_of terms before (Some call) = took_by terms before call

-- what became of an event after these
abbrev pub HasFate : Terms → List Heard → Heard → Fate → Type 0
HasFate terms before h (fates.Kept took) = (rule_of terms before h ≡ None)
    × (took ≡ took_of terms (calls (kept_before terms before))
    (call_at (kept_before terms before) h.note.event))
HasFate terms before h (fates.Offends rule tried) = (rule_of terms before h ≡ Some rule)
    × TriesCall terms (kept_before terms before) (call_at (kept_before terms before) h.note.event)
    rule (made_in (option_map (λ t. t.now) tried))

-- **this was seen of an event after these**
pub record IsSeen (messages : session.State) (documents : docs.State) (counts : Counts) (s : Seen)
    (terms : Terms) (before : List Heard) (h : Heard) : Type 0 where
  pub stood : Stood terms messages documents counts (before ++ h ∷ [])
  pub few : length before + 1 < 2 ^ 64
  pub noted : IsNoted h.raw h.note
  pub is : h.raw ≡ raw_view s.raw
  pub spoken : MaySpeak (kept_before terms before) h.note.event (option_map (λ s. s.now) s.spoken)
  pub says : option_map call_view s.call ≡ call_at (kept_before terms before) h.note.event
  pub fate : HasFate terms before h s.fate

-- after these events the bytes that are lent with a content are those at hand behind it; and those
-- that are lent with a fault of the frames show the header part that has it
abbrev pub ShowsFault : code.Raw → List Event → Rests → Type 0
ShowsFault (lent.Content side bytes behind) before rests = behind.now ≡ behind_at rests before side
ShowsFault (lent.Broken side rule rest) before rests =
    header_front rest.now ≡ header_front (rest_of rests side)
ShowsFault (lent.Snapshot version uri text) before rests = Unit {0}

-- **one more event comes after these**, which were told
pub record Comes (raw : Raw) (terms : Terms) (messages : session.State) (documents : docs.State)
    (counts : Counts) (before : List Heard) (h : Heard) (Stands : Type 0) : Type 0 where
  pub stood : Stood terms messages documents counts before
  pub stands : Stands
  pub few : length before + 1 < 2 ^ 64
  pub raw_is : h.raw ≡ raw
  pub noted : IsNoted raw h.note

-- the run stops so, or the account goes on
abbrev pub Goes : Run → Terms → List Heard → Heard → Type 0 → Flow → Type 0
Goes run terms before h Stands GoOn = (run.stops terms before h ≡ false) × Stands
Goes run terms before h Stands (Stop boxed) =
    (run.stops terms before h ≡ true) × run.ends terms before h boxed.value

-- **what the run says of the event is said**, whatever rests the log has that fit
pub record Says (run : Run) (terms : Terms) (before : List Heard) (h : Heard)
    (Fits : Rests → Type 0) (old new : List ℕ) (Stands : Type 0) (flow : Flow) : Type 0 where
  pub said : List ℕ
  pub added : new ≡ old ++ said
  pub is : (rests : Rests) → Fits rests → run.says terms rests before h said
  pub goes : Goes run terms before h Stands flow

-- it was heard, and what the run says of it is said
pub record Saw (run : Run) (terms : Terms) (before : List Heard) (h : Heard)
    (Fits : Rests → Type 0) (old new : List ℕ) (Stands : Type 0) (messages : session.State)
    (documents : docs.State) (counts : Counts) (flow : Flow) : Type 0 where
  pub stood : Stood terms messages documents counts (before ++ h ∷ [])
  pub says : Says run terms before h Fits old new Stands flow

-- it was heard, and this is due for it
pub record DueOf (run : Run) (terms : Terms) (before : List Heard) (h : Heard)
    (Fits : Rests → Type 0) (Stands : Type 0) (messages : session.State)
    (documents : docs.State) (counts : Counts) (flow : Flow) (said : List ℕ) : Type 0 where
  pub stood : Stood terms messages documents counts (before ++ h ∷ [])
  pub is : (rests : Rests) → Fits rests → run.says terms rests before h said
  pub goes : Goes run terms before h Stands flow

-- ---- the end

-- **so a log ends after these events**: its reader holds this of it
pub record IsEnd (e : LogEvents) (end : End) (heard : List Heard) (tail : Tail) : Type 0 where
  pub fault : tail.fault ≡ flaw_of end
  pub lies : IsSome tail.fault → (e.log.place ≡ tail.place) × (shown_by e.log ≡ tail.line)
  pub rests : (side : Side) → has_broken side (heard_events heard) ≡ false
      → (decoder_of side e.streams).rest ≡ rest_of tail.rests side
  pub inside : (side : Side) → streams.ends_inside (decoder_of side e.streams)
      ≡ ends_inside side (heard_events heard) (is_rest (rest_of tail.rests side))

-- **what the run says at the end is said**, whatever end the log has that fits
pub record Closes (run : Run) (terms : Terms) (heard : List Heard) (Fits : Tail → Type 0)
    (old new : List ℕ) (outcome : Outcome) : Type 0 where
  pub said : List ℕ
  pub added : new ≡ old ++ said
  pub is : (tail : Tail) → Fits tail → ClosesSo run terms heard tail said outcome

-- this is due at the end
abbrev pub DueAtEnd : Run → Terms → List Heard → LogEvents → End → Outcome → List ℕ → Type 0
DueAtEnd run terms heard e end outcome said =
    (tail : Tail) → IsEnd e end heard tail → ClosesSo run terms heard tail said outcome
