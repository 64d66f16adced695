-- What a run over one raw stream writes, frame by frame, and how it ends.
use Rattle.std.specs.Prelude.{◌≡◌, ◌⊎◌, ℕ, ◌+◌, List, [], ◌∷◌, ◌++◌, length, Option, Some, None}
use Rattle.std.specs.Prelude.{codes, decimal, take, Bool, true, false, nat_lt, Result, ◌≤◌, Ok, Err}
use Rattle.lsp_frame.specs.Sink.{Wrote}
use Rattle.lsp_replay.specs.Common.{Bounds, BreaksRule, Canonical, canonical, Frames, Gave}
use Rattle.lsp_replay.specs.Common.{IsStream, Kinds, Lengths, Message, Misses, Mode, OfRead, Ports}
use Rattle.lsp_replay.specs.Common.{ports, Rule, RunFault, sink_failures_after, StandsFor, State}
use Rattle.lsp_replay.specs.Common.{Stopped, Stream, StreamFault, Told, Took, TooLong, words_of}
use Rattle.lsp_frame.specs.declared.decoder.Missing.{Missing}
use Rattle.lsp_frame.specs.Decoder.{EndsWith}
use Rattle.lsp_rpc.specs.Reading.{Reads}
use Rattle.lsp_verdict.specs.declared.outcome.Outcome.{Outcome}
use Rattle.lsp_verdict.specs.declared.outcome.Outcome.TheVariants.{Done}
use Rattle.lsp_verdict.specs.Report.{stream_report}
use Rattle.lsp_verdict.specs.declared.outcome.RunFault.TheVariants as faults
use Rattle.lsp_types.specs.declared.rules.TheConstants as rules
use Rattle.lsp_extract.specs.Written.{WritesDue}

-- ---- what a mode writes for each frame

-- the number of the frame, a space, how many bytes its content has, and an end
abbrev pub numbers : ℕ → ℕ → List ℕ → List ℕ
numbers frame len end = decimal frame ++ (codes " " ++ decimal len ++ end)

abbrev pub length_line : ℕ → List ℕ → List ℕ
length_line frame content = numbers frame (length content) (codes "\n")

abbrev pub kind_line : ℕ → List ℕ → List ℕ → List ℕ
kind_line frame content words = numbers frame (length content) (codes " ") ++ (words ++ codes "\n")

-- the mode writes this part for the frame of this number and content
abbrev pub IsPart : Mode → ℕ → List ℕ → List ℕ → Type 0
IsPart Lengths frame content part = part ≡ length_line frame content
IsPart Canonical frame content part = part ≡ canonical content
IsPart Kinds frame content part =
    (message : Message) × Reads content message
    × (part ≡ kind_line frame content (words_of message))

-- the mode has no part for the content, which breaks this rule
abbrev pub Refuses : Mode → List ℕ → ℕ → Type 0
Refuses Kinds content rule = BreaksRule content rule
Refuses _ content rule = ⊥

-- a fault has the number of the frame after those before it
abbrev pub outcome_at : ℕ → Option StreamFault → Outcome
outcome_at frame None = Done
outcome_at frame (Some fault) = Stream frame fault

-- the parts of contents, the first of which has this number, up to the first content that has none;
-- after them all comes the fault
abbrev pub RunsThrough : Mode → ℕ → List (List ℕ) → Option StreamFault → List ℕ → Outcome → Type 0
RunsThrough mode frame [] fault parts outcome = (parts ≡ []) × (outcome ≡ outcome_at frame fault)
RunsThrough mode frame (content ∷ contents) fault parts outcome =
    ((part : List ℕ) × (others : List ℕ) × IsPart mode frame content part
    × RunsThrough mode (frame + 1) contents fault others outcome × (parts ≡ part ++ others))
    ⊎ ((rule : ℕ) × Refuses mode content rule × (parts ≡ []) × (outcome ≡ Stream frame (Rule rule)))

-- ---- a stream

-- the fault of a stream: that of its frames; else that it continues after the limit; else that
-- bytes are left
abbrev pub fault_of : Option ℕ → Bool → List ℕ → Option StreamFault
fault_of (Some rule) longer rest = Some (Rule rule)
fault_of None true rest = Some TooLong
fault_of None false (byte ∷ rest) = Some (Rule rules.STREAM_ENDS_INSIDE_FRAME)
fault_of None false [] = None

-- the parts of a stream, and how it ends; no more than its first bytes, as many as the limit, are
-- read
pub record HasParts (limits : Bounds) (mode : Mode) (stream parts : List ℕ)
    (outcome : Outcome) : Type 0 where
  pub contents : List (List ℕ)
  pub rest : List ℕ
  pub fault : Option ℕ
  pub is_stream : IsStream limits (take limits.log stream) contents rest fault
  pub runs_through : RunsThrough mode 1 contents
      (fault_of fault (nat_lt limits.log (length stream)) rest) parts outcome

-- what comes after the parts
abbrev pub closing : Mode → Outcome → List ℕ
closing mode Done = []
closing Lengths (Stream frame fault) = stream_report frame fault
closing Kinds (Stream frame fault) = stream_report frame fault
closing _ _ = []

-- all that is due for a stream, and how it ends
abbrev pub IsRun : Bounds → Mode → List ℕ → List ℕ → Outcome → Type 0
IsRun limits mode stream out outcome =
    (parts : List ℕ) × HasParts limits mode stream parts outcome
    × (out ≡ parts ++ closing mode outcome)

-- what is due for a stream begins with these bytes
abbrev pub BeginsRun : Bounds → Mode → List ℕ → List ℕ → Type 0
BeginsRun limits mode stream written =
    (out : List ℕ) (outcome : Outcome) → IsRun limits mode stream out outcome
    → (left : List ℕ) × (out ≡ written ++ left)

-- **what `frames` answers and writes in a mode**; all was well only where the end of the stream was
-- met
abbrev pub RunsFrames : Mode → Bounds → Ports → Result Outcome RunFault → Type 0
RunsFrames mode limits io result =
    WritesDue limits io Done (IsRun limits mode) (BeginsRun limits mode) result

-- ---- the steps of a run: one frame

-- the part is written, or the content has none, and after a fault a prefix of the part is written
abbrev pub WritesPart : Mode → ℕ → List ℕ → Told → Told → Result (Option ℕ) RunFault → Type 0
WritesPart mode frame content old new (Ok None) =
    (part : List ℕ) × IsPart mode frame content part × Wrote old new part
WritesPart mode frame content old new (Ok (Some rule)) = Refuses mode content rule × (new ≡ old)
WritesPart mode frame content old new (Err faults.Write) =
    (part : List ℕ) × IsPart mode frame content part × Stopped old new part
WritesPart mode frame content old new (Err faults.Memory) = new ≡ old
WritesPart mode frame content old new (Err faults.Read) = ⊥

-- ---- the whole frames that a decoder holds

-- each of the contents, the first of which has this number, has a part
abbrev pub AreParts : Mode → ℕ → List (List ℕ) → List ℕ → Type 0
AreParts mode frame [] parts = parts ≡ []
AreParts mode frame (content ∷ contents) parts =
    (part : List ℕ) × (others : List ℕ) × IsPart mode frame content part
    × AreParts mode (frame + 1) contents others × (parts ≡ part ++ others)

-- the parts of all contents up to the end are written
pub record FoundAll (d : State) (mode : Mode) (old new : Told) (given : ℕ)
    (bytes before : List ℕ) : Type 0 where
  pub contents : List (List ℕ)
  pub parts : List ℕ
  pub stands : StandsFor d bytes contents
  pub are_parts : AreParts mode 1 contents (before ++ parts)
  pub wrote : Wrote old new parts
  pub count : given ≡ length contents
  pub ends : EndsWith d bytes contents None

-- the contents found end before a fault of the frames, or before a content that the mode refuses
abbrev pub StopsAt : State → Mode → List ℕ → List (List ℕ) → ℕ → Type 0
StopsAt d mode bytes contents rule =
    EndsWith d bytes contents (Some rule)
    ⊎ ((content : List ℕ) × (after : List ℕ)
    × Frames d.limits bytes (contents ++ content ∷ []) after × Refuses mode content rule)

-- the parts of all contents up to a fault are written
pub record FoundFault (d : State) (mode : Mode) (old new : Told) (given : ℕ) (bytes before : List ℕ)
    (rule : ℕ) : Type 0 where
  pub contents : List (List ℕ)
  pub parts : List ℕ
  pub are_parts : AreParts mode 1 contents (before ++ parts)
  pub wrote : Wrote old new parts
  pub count : given ≡ length contents
  pub stops : StopsAt d mode bytes contents rule

-- what is written begins the parts of the contents found
pub record FoundBroken (d : State) (mode : Mode) (old new : Told) (bytes before : List ℕ)
    (fault : RunFault) : Type 0 where
  pub contents : List (List ℕ)
  pub rest : List ℕ
  pub written : List ℕ
  pub left : List ℕ
  pub frames : Frames d.limits bytes contents rest
  pub are_parts : AreParts mode 1 contents (before ++ (written ++ left))
  pub wrote : Took old new written
  pub sink : new.failures ≡ sink_failures_after fault old.failures

abbrev pub Finds : State → Mode → Told → Told → ℕ → List ℕ → List ℕ → Result (Option ℕ) RunFault
    → Type 0
Finds d mode old new given bytes before (Ok None) = FoundAll d mode old new given bytes before
Finds d mode old new given bytes before (Ok (Some rule)) =
    FoundFault d mode old new given bytes before rule
Finds d mode old new given bytes before (Err faults.Write) =
    FoundBroken d mode old new bytes before faults.Write
Finds d mode old new given bytes before (Err faults.Memory) =
    FoundBroken d mode old new bytes before faults.Memory
Finds d mode old new given bytes before (Err faults.Read) = ⊥

-- ---- the parts of a whole stream

-- the parts are written, and the outcome is known
pub record WroteParts (limits : Bounds) (mode : Mode) (before after sink_before sink_after : Told)
    (outcome : Outcome) : Type 0 where
  pub parts : List ℕ
  pub no_fault : after.failures ≡ before.failures
  pub wrote : Wrote sink_before sink_after parts
  pub due : OfRead limits before after (λ stream. HasParts limits mode stream parts outcome)

abbrev pub PartsAnswer : Bounds → Mode → Told → Told → Told → Told → Result Outcome RunFault
    → Type 0
PartsAnswer limits mode before after sink_before sink_after (Ok outcome) =
    WroteParts limits mode before after sink_before sink_after outcome
PartsAnswer limits mode before after sink_before sink_after (Err fault) =
    RunsFrames mode limits (ports before after sink_before sink_after) (Err fault)

-- ---- a run so far

pub record SoFar (limits : Bounds) (mode : Mode) (before now sink_before sink_now : Told)
    (d : State) (given read : ℕ) : Type 0 where
  pub bytes : List ℕ
  pub contents : List (List ℕ)
  pub parts : List ℕ
  pub took : Gave before now bytes
  pub no_fault : now.failures ≡ before.failures
  pub len : length bytes ≡ read
  pub stands : StandsFor d bytes contents
  pub are_parts : AreParts mode 1 contents parts
  pub wrote : Wrote sink_before sink_now parts
  pub count : given ≡ length contents
  pub room : given + length d.rest ≤ read
  pub within : read ≤ limits.log
  pub same_limits : d.limits ≡ limits

-- the same once the parts of all that was pushed are written
pub record ToldAll (limits : Bounds) (mode : Mode) (before now sink_before sink_now : Told)
    (d : State) (given read : ℕ) : Type 0 where
  pub so_far : SoFar limits mode before now sink_before sink_now d given read
  pub ends : EndsWith d so_far.bytes so_far.contents None

-- ---- a content of which only the length is due

-- the content is measured, it is long, and no more is missing than may be read
pub record IsLong (d : State) (mode : Mode) (left : ℕ) (missing : Missing) : Type 0 where
  pub misses : Misses d missing
  pub mode_is : mode ≡ Lengths
  pub within : missing.bytes ≤ left

-- the content was let go and its part written, or the source ended inside it, or a fault came
abbrev pub LongAnswer : Bounds → Mode → Told → Told → Told → Told → State → ℕ → ℕ
    → Result Bool RunFault → Type 0
LongAnswer limits mode before after sink_before sink_after d given read (Ok true) =
    SoFar limits mode before after sink_before sink_after d given read
LongAnswer limits mode before after sink_before sink_after d given read (Ok false) =
    (outcome : Outcome) → (d.fault ≡ None → outcome
    ≡ outcome_at (given + 1) (fault_of None false d.rest))
    → WroteParts limits mode before after sink_before sink_after outcome
LongAnswer limits mode before after sink_before sink_after d given read (Err fault) =
    RunsFrames mode limits (ports before after sink_before sink_after) (Err fault)

-- ---- laws

abbrev pub SomeRun : Type 0
SomeRun = (limits : Bounds) (mode : Mode) (stream : List ℕ)
    → (out : List ℕ) × (outcome : Outcome) × IsRun limits mode stream out outcome

abbrev pub OneRun : Type 0
OneRun = (limits : Bounds) (mode : Mode) (stream out other : List ℕ) (a b : Outcome)
    → IsRun limits mode stream out a → IsRun limits mode stream other b → (out ≡ other) × (a ≡ b)
