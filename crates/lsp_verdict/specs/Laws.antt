-- Laws over sessions, verdicts and offences.
use Rattle.std.specs.Prelude.{◌≡◌, ℕ, List, [], ◌∷◌, ◌++◌, map, filter, if◌then◌else◌, Option, None}
use Rattle.std.specs.Prelude.{chars, ◌⊎◌, ◌<◌, length, Some, take, ◌↔◌, false, is_some}
use Rattle.std.specs.List.{AllZip}
use Rattle.lsp_frame.specs.Bounds.{Bounds, IsInRange}
use Rattle.lsp_frame.specs.Frame.{IsStream}
use Rattle.lsp_frame.specs.declared.format.Format.{Format}
use Rattle.lsp_frame.specs.declared.format.Format.TheVariants.{One}
use Rattle.lsp_types.specs.declared.side.Side.{Side}
use Rattle.lsp_types.specs.declared.side.Side.TheVariants.{Editor, Server}
use Rattle.lsp_types.specs.declared.rules.TheConstants as rules
use Rattle.lsp_session.specs.Sent.{same_side}
use Rattle.lsp_log.specs.Log.{Record, chunk, shown, BeginsLog, IsLog, first_line}
use Rattle.lsp_log.specs.declared.fault.LogCode.{LogCode}
use Rattle.lsp_docs.specs.Documents.{Terms, terms_of}
use Rattle.lsp_verdict.specs.Event.{Event, snapshot}
use Rattle.lsp_verdict.specs.Outcome.{IsFinal, IsVerdict, Offends, HasRest, format_or_one}
use Rattle.lsp_verdict.specs.Outcome.{log_terms, ending}
use Rattle.lsp_verdict.specs.Placed.{Raw, content, new_fault, joined, Reads, IsSession}
use Rattle.lsp_verdict.specs.Verdict.{Verdict, is_of, is_snapshot, Summary, yes, no, bad_log}
use Rattle.lsp_verdict.specs.Verdict.{summary, no_by, no_next, offence, verdict, first_no}
use Rattle.lsp_verdict.specs.declared.verdict.Who.{Who}
use Rattle.lsp_verdict.specs.declared.verdict.Who.TheVariants as who
use Rattle.lsp_verdict.specs.Kept.{NothingOffends, AreFrames, IsKept}
use Rattle.lsp_verdict.specs.Report.{report}
use Rattle.lsp_verdict.specs.Complete.{IsBroughtToEnd, IsComplete, IsCompleteVerdict, IsCutShort}
use Rattle.lsp_verdict.specs.Complete.{IsVerdictBy}
use Rattle.lsp_verdict.specs.LookBack.{each_of}
use Rattle.lsp_verdict.specs.Offences.{Noted, Offence, events_of, kept_of, rule_at, offence_by}
use Rattle.lsp_verdict.specs.Offences.{offences}
use Rattle.lsp_verdict.specs.Survey.{first_verdict, IsSurvey}
use Rattle.lsp_verdict.specs.declared.completeness.Completeness.{Completeness}

-- ---- sessions

-- **Records are one session.**
abbrev pub OneSession : Type 0
OneSession = (limits : Bounds) (records : List Record) (events others : List Event) → IsSession limits records events → IsSession limits records others → events ≡ others

-- **And they are one**, whatever their bytes.
abbrev pub SomeSession : Type 0
SomeSession = (limits : Bounds) (records : List Record) → (events : List Event) × IsSession limits records events

-- ---- cutting and joining

-- a record in front of others, in one piece with the first where both are bytes of one side
abbrev pub put : Record → List Record → List Record
put (chunk side bytes) (chunk by more ∷ records) = if same_side side by then chunk side (bytes ++ more) ∷ records else chunk side bytes ∷ chunk by more ∷ records
put first records = first ∷ records

-- the records with neighbouring bytes of one side in one piece
abbrev pub merged : List Record → List Record
merged [] = []
merged (first ∷ records) = put first (merged records)

-- **How bytes are cut into records doesn't matter**: where two lists of records differ only by
-- this, their events are the same.
abbrev pub CutsDontMatter : Type 0
CutsDontMatter = (limits : Bounds) (records others : List Record) (events more : List Event) → merged records ≡ merged others → IsSession limits records events → IsSession limits others more → events ≡ more

-- **And their verdicts are the same**, where the logs that hold them end alike.
abbrev pub CutsLeaveVerdict : Type 0
CutsLeaveVerdict =
    (limits : Bounds) (format : Format) (records others : List Record) (fault : Option (ℕ × LogCode)) (v w : Verdict) → merged records ≡ merged others → IsFinal limits format records fault v → IsFinal limits format others fault w → v ≡ w

-- ---- the stream of a side

-- what a side's stream has: its contents, and then its fault, if any
abbrev pub stream_of : Side → List (List ℕ) → Option ℕ → List Raw
stream_of side contents fault = map (content side) contents ++ new_fault side None fault

-- the snapshots among the records
abbrev pub snapshots_in : List Record → List Event
snapshots_in [] = []
snapshots_in (chunk side bytes ∷ records) = snapshots_in records
snapshots_in (shown number uri text ∷ records) = snapshot uri number (chars text) ∷ snapshots_in records

-- **The events of a side are those of its joined stream**: in order, what the contents of all its
-- bytes are read as, and then the fault of their frames.
abbrev pub SidesAreStreams : Type 0
SidesAreStreams =
    (limits : Bounds) → IsInRange limits → (records : List Record) (events : List Event) (side : Side) (contents : List (List ℕ)) (rest : List ℕ) (fault : Option ℕ)
    → IsSession limits records events → IsStream limits (joined side records) contents rest fault → AllZip Reads (stream_of side contents fault) (filter (is_of side) events)

-- **And the snapshots are those of the records**, in order.
abbrev pub SnapshotsAreShown : Type 0
SnapshotsAreShown = (limits : Bounds) (records : List Record) (events : List Event) → IsSession limits records events → filter is_snapshot events ≡ snapshots_in records

-- ---- verdicts

-- **Records have a verdict**, however the log that holds them ends.
abbrev pub SomeFinal : Type 0
SomeFinal = (limits : Bounds) (format : Format) (records : List Record) (fault : Option (ℕ × LogCode)) → (v : Verdict) × IsFinal limits format records fault v

-- **The events of a log begin with those of the records that it begins with.**
abbrev pub EventsFirst : Type 0
EventsFirst =
    (limits : Bounds) → IsInRange limits → (format : Format) (log rest : List ℕ) (records : List Record) (events : List Event) (v : Verdict) → BeginsLog limits format log records rest → IsSession limits records events
    → (whole : IsVerdict limits log v) → (later : List Event) × (whole.final.events ≡ events ++ later)

-- **An offence decides**: where an event of the records that a log begins with offends, the No at
-- the first is the verdict on the log.
abbrev pub OffenceDecides : Type 0
OffenceDecides =
    (limits : Bounds) → IsInRange limits → (format : Format) (log rest : List ℕ) (records : List Record) (v : Verdict) → BeginsLog limits format log records rest → Offends limits format records v → IsVerdict limits log v

-- **All bytes have a verdict.**
abbrev pub SomeVerdict : Type 0
SomeVerdict = (limits : Bounds) (log : List ℕ) → (v : Verdict) × IsVerdict limits log v

-- **And they have one only.**
abbrev pub OneVerdict : Type 0
OneVerdict = (limits : Bounds) → IsInRange limits → (log : List ℕ) (v w : Verdict) → IsVerdict limits log v → IsVerdict limits log w → v ≡ w

-- ---- what Yes means

-- **Yes means kept.**
abbrev pub YesMeansKept : Type 0
YesMeansKept = (limits : Bounds) → IsInRange limits → (log : List ℕ) (s : Summary) → IsVerdict limits log (yes s) → IsKept limits log

-- **Yes is said wherever nothing offends**, the log has no fault and both streams are complete
-- frames.
abbrev pub KeptMeansYes : Type 0
KeptMeansYes =
    (limits : Bounds) (log : List ℕ) (format : Option Format) (records : List Record) (events : List Event) → IsLog limits log format records None → IsSession limits records events → NothingOffends (log_terms limits format) events
    → AreFrames limits (joined Editor records) → AreFrames limits (joined Server records) → IsVerdict limits log (yes (summary (log_terms limits format) events))

-- ---- what No means

-- this event offends by this rule, no earlier one offends, and the verdict names it
pub record Names (terms : Terms) (events : List Event) (v : Verdict) : Type 0 where
  pub before : List Event
  pub event : Event
  pub after : List Event
  pub rule : ℕ
  pub whole : events ≡ before ++ event ∷ after
  pub offends : offence terms before event ≡ Some rule
  pub first : NothingOffends terms before
  pub is : v ≡ no_by before event rule

-- no event offends, the log has no fault, and a stream has bytes left that are not a whole frame,
-- the editor's first
pub record HasRest107 (limits : Bounds) (format : Format) (records : List Record) (fault : Option (ℕ × LogCode)) (events : List Event) (v : Verdict) : Type 0 where
  pub clean : NothingOffends (terms_of limits format) events
  pub no_fault : fault ≡ None
  pub editor : List ℕ
  pub server : List ℕ
  pub editor_rest : HasRest limits (joined Editor records) editor
  pub server_rest : HasRest limits (joined Server records) server
  pub named : ((0 < length editor) × (v ≡ no_next rules.STREAM_ENDS_INSIDE_FRAME who.Editor events))
      ⊎ ((editor ≡ []) × (0 < length server)
      × (v ≡ no_next rules.STREAM_ENDS_INSIDE_FRAME who.Server events))

-- what No means for a log
pub record Refuses (limits : Bounds) (log : List ℕ) (v : Verdict) : Type 0 where
  pub format : Option Format
  pub records : List Record
  pub fault : Option (ℕ × LogCode)
  pub events : List Event
  pub is_log : IsLog limits log format records fault
  pub session : IsSession limits records events
  pub names : Names (log_terms limits format) events v ⊎ HasRest107 limits (format_or_one format) records fault events v

-- **No names the first event that offends, and its rule**, or the stream that ends inside a frame.
abbrev pub NoNamesTheFirst : Type 0
NoNamesTheFirst = (limits : Bounds) (log : List ℕ) (rule : ℕ) (who : Who) (number event : ℕ) → IsVerdict limits log (no rule who number event) → Refuses limits log (no rule who number event)

-- ---- what BadLog means

-- the log has this fault, and no event of the records before it offends
pub record HasFault (limits : Bounds) (log : List ℕ) (number : ℕ) (code : LogCode) : Type 0 where
  pub format : Option Format
  pub records : List Record
  pub events : List Event
  pub is_log : IsLog limits log format records (Some (number, code))
  pub session : IsSession limits records events
  pub clean : NothingOffends (log_terms limits format) events

-- **BadLog is said only where the log has that fault**, and nothing offends.
abbrev pub BadLogMeansFault : Type 0
BadLogMeansFault = (limits : Bounds) (log : List ℕ) (number : ℕ) (code : LogCode) → IsVerdict limits log (bad_log number code) → HasFault limits log number code

-- ---- where a session must be complete

-- **All bytes have a verdict.**
abbrev pub SomeCompleteVerdict : Type 0
SomeCompleteVerdict = (limits : Bounds) (log : List ℕ) → (v : Verdict) × IsCompleteVerdict limits log v

-- **And they have one only.**
abbrev pub OneCompleteVerdict : Type 0
OneCompleteVerdict = (limits : Bounds) → IsInRange limits → (log : List ℕ) (v w : Verdict) → IsCompleteVerdict limits log v → IsCompleteVerdict limits log w → v ≡ w

-- **Yes means kept, and brought to the end.**
abbrev pub CompleteMeansEnded : Type 0
CompleteMeansEnded = (limits : Bounds) → IsInRange limits → (log : List ℕ) (s : Summary) → IsCompleteVerdict limits log (yes s) → IsComplete limits log

-- **Yes is said wherever it is said else and the session was brought to its end.**
abbrev pub EndedMeansComplete : Type 0
EndedMeansComplete = (limits : Bounds) (log : List ℕ) (s : Summary) → (whole : IsVerdict limits log (yes s)) → IsBroughtToEnd whole.final.events → IsCompleteVerdict limits log (yes s)

-- **No names the first event that offends, or the stream that ends inside a frame; or what is
-- missing from the session of a log that is kept.**
abbrev pub LackIsNamed : Type 0
LackIsNamed =
    (limits : Bounds) → IsInRange limits → (log : List ℕ) (rule : ℕ) (who : Who) (number event : ℕ) → IsCompleteVerdict limits log (no rule who number event)
    → Refuses limits log (no rule who number event) ⊎ IsCutShort limits log (no rule who number event)

-- **BadLog is said only where the log has that fault**, and nothing offends.
abbrev pub CompleteMeansFault : Type 0
CompleteMeansFault = (limits : Bounds) (log : List ℕ) (number : ℕ) (code : LogCode) → IsCompleteVerdict limits log (bad_log number code) → HasFault limits log number code

-- ---- logs of format 1, for which no version is kept

-- no version but the present one is kept
abbrev pub keeping_none : Bounds → Terms
keeping_none limits = record { limit = limits.document; kept = 0; line_ends = limits.line_ends }

-- the verdict on a log of format 1 by definitions that keep no version but the present one
pub record IsVerdictKeepingNone (limits : Bounds) (log : List ℕ) (v : Verdict) : Type 0 where
  pub records : List Record
  pub fault : Option (ℕ × LogCode)
  pub events : List Event
  pub editor : List ℕ
  pub server : List ℕ
  pub is_log : IsLog limits log (Some One) records fault
  pub session : IsSession limits records events
  pub editor_rest : HasRest limits (joined Editor records) editor
  pub server_rest : HasRest limits (joined Server records) server
  pub says : verdict (keeping_none limits) events (ending fault editor server) ≡ v

-- the log begins with the first line of format 1
abbrev pub IsOfFormatOne : Bounds → List ℕ → Type 0
IsOfFormatOne limits log = (rest : List ℕ) × (take limits.log log ≡ first_line One ++ rest)

-- **The verdict on a log of format 1 keeps nothing**: it is that of the definitions that keep no
-- version.
abbrev pub FormatOneKeepsVerdict : Type 0
FormatOneKeepsVerdict = (limits : Bounds) → IsInRange limits → (log : List ℕ) (v : Verdict) → IsOfFormatOne limits log
    → (IsVerdict limits log v → IsVerdictKeepingNone limits log v) × (IsVerdictKeepingNone limits log v → IsVerdict limits log v)

-- **And so is its report.**
abbrev pub FormatOneKeepsReport : Type 0
FormatOneKeepsReport = (limits : Bounds) → IsInRange limits → (log : List ℕ) (v w : Verdict) → IsOfFormatOne limits log
    → IsVerdict limits log v → IsVerdictKeepingNone limits log w → report v ≡ report w

-- ---- all offences of a session

-- **The kept events by themselves offend nowhere.**
abbrev pub KeptOffendNowhere : Type 0
KeptOffendNowhere = (terms : Terms) (events : List Event) → NothingOffends terms (kept_of terms events)

-- an event that does not offend after the kept ones before it
abbrev pub kept_at : Terms → List Event → Event → Option Event
kept_at terms before event = if is_some (rule_at terms before event) then None else Some event

-- **They are just those that do not offend** after the kept ones before them.
abbrev pub KeptAreOthers : Type 0
KeptAreOthers = (terms : Terms) (events : List Event) → kept_of terms events ≡ each_of (kept_at terms) events

-- **Where no event offends, all are kept.**
abbrev pub AllAreKept : Type 0
AllAreKept = (terms : Terms) (events : List Event) → first_no terms events ≡ None → kept_of terms events ≡ events

-- **Nothing is listed just where no event offends.**
abbrev pub NothingListed : Type 0
NothingListed = (terms : Terms) (notes : List Noted) → (offences terms notes ≡ []) ↔ (first_no terms (events_of notes) ≡ None)

-- **The first that is listed is the No of the verdict, and it follows from none.**
abbrev pub FirstListed : Type 0
FirstListed = (terms : Terms) (notes : List Noted) (v : Verdict) → first_no terms (events_of notes) ≡ Some v → (later : List Offence) × (offences terms notes ≡ record { no = v; follows = false } ∷ later)

-- an event offends after the kept ones before it, and this is its offence
pub record IsOffence (terms : Terms) (notes : List Noted) (o : Offence) : Type 0 where
  pub before : List Noted
  pub here : Noted
  pub after : List Noted
  pub rule : ℕ
  pub whole : notes ≡ before ++ here ∷ after
  pub offends : rule_at terms (events_of before) here.event ≡ Some rule
  pub is : o ≡ offence_by terms before here rule

-- it is listed
abbrev pub IsListed : Terms → List Noted → Offence → Type 0
IsListed terms notes o = (front : List Offence) × (back : List Offence) × (offences terms notes ≡ front ++ o ∷ back)

-- **What is listed are just the offences of such events.**
abbrev pub ListedOffend : Type 0
ListedOffend = (terms : Terms) (notes : List Noted) (o : Offence) → IsListed terms notes o ↔ IsOffence terms notes o

-- ---- all that is listed of a log

-- **The verdict on a log is the first that is listed**; where nothing is listed, it is its fault,
-- else Yes with the same summary.
abbrev pub SurveyAgrees : Type 0
SurveyAgrees =
    (completeness : Completeness) (limits : Bounds) → IsInRange limits → (log : List ℕ) (found : List Offence) (bad : Option Verdict) (s : Summary) (v : Verdict)
    → IsSurvey completeness limits log found bad s → IsVerdictBy completeness limits log v → v ≡ first_verdict found bad s

-- **Each log has a survey.**
abbrev pub SomeSurvey : Type 0
SomeSurvey = (completeness : Completeness) (limits : Bounds) (log : List ℕ) → (found : List Offence) × (bad : Option Verdict) × (s : Summary) × IsSurvey completeness limits log found bad s

-- **And one only.**
abbrev pub OneSurvey : Type 0
OneSurvey =
    (completeness : Completeness) (limits : Bounds) → IsInRange limits → (log : List ℕ) (found others : List Offence) (bad flaw : Option Verdict) (s t : Summary)
    → IsSurvey completeness limits log found bad s → IsSurvey completeness limits log others flaw t → (found ≡ others) × (bad ≡ flaw) × (s ≡ t)
