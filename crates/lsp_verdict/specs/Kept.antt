-- What Yes means for a session, in plain words.
use Rattle.std.specs.Prelude.{◌≡◌, ℕ, ℤ, ◌+◌, int_lt, List, [], ◌∷◌, ◌++◌, length, true, Option, Some, None}
use Rattle.lsp_frame.specs.Bounds.{Bounds}
use Rattle.lsp_frame.specs.Frame.{IsStream}
use Rattle.lsp_frame.specs.declared.format.Format.{Format}
use Rattle.lsp_rpc.specs.Act.{Change, did_change}
use Rattle.lsp_types.specs.declared.side.Side.TheVariants.{Editor, Server}
use Rattle.lsp_session.specs.Lifecycle.{lifecycle_rule}
use Rattle.lsp_session.specs.Requests.{answers}
use Rattle.lsp_session.specs.Sent.{Sent, is_response}
use Rattle.lsp_types.specs.declared.line_ends.LineEnds.TheVariants.{Exact}
use Rattle.lsp_text.specs.SameText.{SameText}
use Rattle.lsp_docs.specs.Laws.{standing, binding}
use Rattle.lsp_docs.specs.Calls.{Call, shows}
use Rattle.lsp_docs.specs.Documents.{Version, held, Terms, terms_of}
use Rattle.lsp_log.specs.Log.{Record, IsLog}
use Rattle.lsp_verdict.specs.Event.{calls, Event, message, sent_in}
use Rattle.lsp_verdict.specs.Outcome.{format_or_one}
use Rattle.lsp_verdict.specs.Placed.{IsSession, joined}
use Rattle.lsp_verdict.specs.Verdict.{offence}

-- ---- no event offends

abbrev pub NothingOffends : Terms → List Event → Type 0
NothingOffends terms events = (before after : List Event) (event : Event) → events ≡ before ++ event ∷ after → offence terms before event ≡ None

-- **No message breaks the lifecycle.**
abbrev pub KeepsLifecycle : List Event → Type 0
KeepsLifecycle events = (before after : List Event) (m : Sent) → events ≡ before ++ message m ∷ after → lifecycle_rule (sent_in before) m ≡ None

-- ---- responses

-- the message at place j is a response that answers the request at place i, places among the
-- messages counted from 0
pub record Answers (messages : List Sent) (i j : ℕ) : Type 0 where
  pub before : List Sent
  pub asked : Sent
  pub between : List Sent
  pub reply : Sent
  pub after : List Sent
  pub whole : messages ≡ before ++ asked ∷ (between ++ reply ∷ after)
  pub asked_at : length before ≡ i
  pub replied_at : length before + 1 + length between ≡ j
  pub fits : answers asked between reply ≡ true

-- the message at place j is a response
pub record IsResponseAt (messages : List Sent) (j : ℕ) : Type 0 where
  pub before : List Sent
  pub reply : Sent
  pub after : List Sent
  pub whole : messages ≡ before ++ reply ∷ after
  pub at : length before ≡ j
  pub replies : is_response reply.message ≡ true

-- the message at place j answers the request at place i, and no other
pub record AnswersOne (messages : List Sent) (j : ℕ) : Type 0 where
  pub request : ℕ
  pub answers : Answers messages request j
  pub only : (i : ℕ) → Answers messages i j → i ≡ request

-- **Every response answers one earlier open request, and none is answered twice.**
pub record AnswersMatch (messages : List Sent) : Type 0 where
  pub one : (j : ℕ) → IsResponseAt messages j → AnswersOne messages j
  pub once : (i j k : ℕ) → Answers messages i j → Answers messages i k → j ≡ k

-- ---- documents

-- **The versions of an open document rise**: a change is of an open document, and its version is
-- greater than the held one.
abbrev pub VersionsRise : Terms → List Event → Type 0
VersionsRise terms events =
    (before after : List Event) (m : Sent) (uri : List ℕ) (number : ℤ) (changes : List Change) → events ≡ before ++ message m ∷ after → m.act ≡ did_change uri number changes
    → (v : Version) × (held terms uri (calls before) ≡ Some v) × (int_lt v.number number ≡ true)

-- **After every prefix, each held text is the same as every snapshot recorded for its opening and
-- version**, be it recorded before the prefix ends or later. Where line ends count, it equals them.
abbrev pub SnapshotsAgree : Terms → List Call → Type 0
SnapshotsAgree terms made =
    (before after front back : List Call) (uri : List ℕ) (number : ℤ) (text : List ℕ) (v : Version)
    → made ≡ before ++ after → made ≡ front ++ shows uri number text ∷ back
    → held terms uri before ≡ Some v → v.number ≡ number
    → binding uri front back ≡ standing uri before → SameText terms.line_ends v.text text

-- the same with equal texts
abbrev pub SnapshotsEqual : Terms → List Call → Type 0
SnapshotsEqual terms made =
    (before after front back : List Call) (uri : List ℕ) (number : ℤ) (text : List ℕ) (v : Version)
    → made ≡ before ++ after → made ≡ front ++ shows uri number text ∷ back
    → held terms uri before ≡ Some v → v.number ≡ number
    → binding uri front back ≡ standing uri before → v.text ≡ text

-- **Where line ends count, each held text equals every snapshot.**
abbrev pub ExactMeansEqual : Type 0
ExactMeansEqual =
    (terms : Terms) (made : List Call) → terms.line_ends ≡ Exact → SnapshotsAgree terms made
    → SnapshotsEqual terms made

-- ---- all of it

-- the events keep the rules
pub record KeepsRules (terms : Terms) (events : List Event) : Type 0 where
  pub nothing_offends : NothingOffends terms events
  pub lifecycle : KeepsLifecycle events
  pub responses : AnswersMatch (sent_in events)
  pub versions : VersionsRise terms events
  pub snapshots : SnapshotsAgree terms (calls events)

-- the bytes are complete frames
abbrev pub AreFrames : Bounds → List ℕ → Type 0
AreFrames limits bytes = (contents : List (List ℕ)) × IsStream limits bytes contents [] None

-- **What Yes means for records** of a log of this format: both streams are complete frames, and the
-- events keep the rules.
pub record AreKept (limits : Bounds) (format : Format) (records : List Record) : Type 0 where
  pub events : List Event
  pub session : IsSession limits records events
  pub editor : AreFrames limits (joined Editor records)
  pub server : AreFrames limits (joined Server records)
  pub keeps : KeepsRules (terms_of limits format) events

-- **What Yes means for a log**: it has no fault, and its records are kept.
pub record IsKept (limits : Bounds) (log : List ℕ) : Type 0 where
  pub format : Option Format
  pub records : List Record
  pub is_log : IsLog limits log format records None
  pub kept : AreKept limits (format_or_one format) records
