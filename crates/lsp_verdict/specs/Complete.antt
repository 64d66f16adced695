-- The verdict where a session must be complete.
use Rattle.std.specs.Prelude.{◌≡◌, ◌⊎◌, ℕ, List, ◌∷◌, ◌++◌, length, true, is_some, Option}
use Rattle.std.specs.Prelude.{option_map, unwrap_or}
use Rattle.lsp_frame.specs.Bounds.{Bounds}
use Rattle.lsp_frame.specs.declared.format.Format.{Format}
use Rattle.lsp_rpc.specs.Act.{exit}
use Rattle.lsp_types.specs.declared.side.Side.TheVariants.{Editor}
use Rattle.lsp_types.specs.declared.rules.TheConstants as rules
use Rattle.lsp_session.specs.Sent.{Sent, request_of}
use Rattle.lsp_session.specs.Incomplete.{incomplete}
use Rattle.lsp_log.specs.Log.{Record}
use Rattle.lsp_log.specs.declared.fault.LogCode.{LogCode}
use Rattle.lsp_verdict.specs.declared.verdict.Who.TheVariants as who
use Rattle.lsp_verdict.specs.Event.{Event, sent_in}
use Rattle.lsp_verdict.specs.Kept.{Answers, AreKept, IsKept}
use Rattle.lsp_verdict.specs.Verdict.{Verdict, no_next, yes, no, bad_log}
use Rattle.lsp_verdict.specs.declared.completeness.Completeness.{Completeness}
use Rattle.lsp_verdict.specs.declared.completeness.Completeness.TheVariants.{Ignored, Required}
use Rattle.lsp_verdict.specs.Outcome.{IsFinal, IsVerdict}

-- ---- requests and their answers

-- the message at place i is a request of the editor's, places counted from 0
pub record IsAskedAt (messages : List Sent) (i : ℕ) : Type 0 where
  pub before : List Sent
  pub asked : Sent
  pub after : List Sent
  pub whole : messages ≡ before ++ asked ∷ after
  pub at : length before ≡ i
  pub by : asked.side ≡ Editor
  pub asks : is_some (request_of asked.message) ≡ true

-- **Each request of the editor's is answered.**
abbrev pub AllAnswered : List Sent → Type 0
AllAnswered messages = (i : ℕ) → IsAskedAt messages i → (j : ℕ) × Answers messages i j

-- a request of the editor's has no answer
abbrev pub HasUnanswered : List Sent → Type 0
HasUnanswered messages = (i : ℕ) × IsAskedAt messages i × ((j : ℕ) → Answers messages i j → ⊥)

-- ---- the end

-- **The editor sent `exit`.**
pub record HasExit (messages : List Sent) : Type 0 where
  pub before : List Sent
  pub sent : Sent
  pub after : List Sent
  pub whole : messages ≡ before ++ sent ∷ after
  pub by : sent.side ≡ Editor
  pub exits : sent.act ≡ exit

-- **the session was brought to its end**
pub record IsBroughtToEnd (events : List Event) : Type 0 where
  pub answered : AllAnswered (sent_in events)
  pub exited : HasExit (sent_in events)

-- 303 names that a request of the editor's has no answer; where each has one, 407 that `exit` was
-- not sent
abbrev pub NamesLack : List Event → Verdict → Type 0
NamesLack events v =
    (HasUnanswered (sent_in events) × (v ≡ no_next rules.REQUEST_NOT_ANSWERED who.Editor events))
    ⊎ (AllAnswered (sent_in events) × (HasExit (sent_in events) → ⊥)
    × (v ≡ no_next rules.EXIT_MISSING who.Editor events))

-- ---- records and logs

-- **What Yes means for records whose session must be complete**: they are kept, and the session was
-- brought to its end.
pub record AreComplete (limits : Bounds) (format : Format) (records : List Record) : Type 0 where
  pub kept : AreKept limits format records
  pub ended : IsBroughtToEnd kept.events

-- **And of a log.**
pub record IsComplete (limits : Bounds) (log : List ℕ) : Type 0 where
  pub kept : IsKept limits log
  pub ended : IsBroughtToEnd kept.kept.events

-- the records are kept, and what is missing from their session is reported
pub record AreCutShort (limits : Bounds) (format : Format) (records : List Record) (v : Verdict) : Type 0 where
  pub kept : AreKept limits format records
  pub names : NamesLack kept.events v

-- the log is kept, and what is missing from its session is reported
pub record IsCutShort (limits : Bounds) (log : List ℕ) (v : Verdict) : Type 0 where
  pub kept : IsKept limits log
  pub names : NamesLack kept.kept.events v

-- ---- the verdict: Yes only where each request of the editor's has an answer and it sent `exit`
-- (JSON-RPC 2.0, section 4; LSP 3.17, "Exit Notification")

-- the No by what is missing from a session that ends here: 303 or 407, the editor's, at the event
-- after the last
abbrev pub lack_of : List Event → Option Verdict
lack_of events = option_map (λ rule. no_next rule who.Editor events) (incomplete (sent_in events))

-- what is missing from the session replaces Yes
abbrev pub completed : List Event → Verdict → Verdict
completed events (yes s) = unwrap_or (lack_of events) (yes s)
completed events (no rule by number event) = no rule by number event
completed events (bad_log number code) = bad_log number code

-- the verdict on these records, whose session must be complete
pub record IsCompleteFinal (limits : Bounds) (format : Format) (records : List Record) (fault : Option (ℕ × LogCode)) (v : Verdict) : Type 0 where
  pub plain : Verdict
  pub final : IsFinal limits format records fault plain
  pub says : completed final.events plain ≡ v

-- **the verdict on a log whose session must be complete**
pub record IsCompleteVerdict (limits : Bounds) (log : List ℕ) (v : Verdict) : Type 0 where
  pub plain : Verdict
  pub whole : IsVerdict limits log plain
  pub says : completed whole.final.events plain ≡ v

-- ---- the verdict, whether or not a session must be complete

abbrev pub IsFinalBy : Completeness → Bounds → Format → List Record → Option (ℕ × LogCode) → Verdict → Type 0
IsFinalBy Ignored limits format records fault v = IsFinal limits format records fault v
IsFinalBy Required limits format records fault v = IsCompleteFinal limits format records fault v

abbrev pub IsVerdictBy : Completeness → Bounds → List ℕ → Verdict → Type 0
IsVerdictBy Ignored limits log v = IsVerdict limits log v
IsVerdictBy Required limits log v = IsCompleteVerdict limits log v
