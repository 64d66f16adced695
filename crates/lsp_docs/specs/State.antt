-- What documents hold, and the calls that this stands for.
use Rattle.std.specs.Prelude.{◌≡◌, ℕ, ℤ, ◌+◌, ◌-◌, ◌^◌, ◌≤◌, min, List, [], ◌∷◌, ◌++◌, filter}
use Rattle.std.specs.Prelude.{length, Bool, false, not, if◌then◌else◌, Option, Some, None}
use Rattle.std.specs.Prelude.{option_to_list, Result, Ok, Err}
use Rattle.std.specs.List.{list_any}
use Rattle.std.specs.Str.{bytes_eq}
use Rattle.lsp_types.specs.declared.line_ends.LineEnds.{LineEnds}
use Rattle.lsp_types.specs.declared.position.Encoding.{Encoding}
use Rattle.lsp_types.specs.declared.change.SyncKind.{SyncKind}
use Rattle.lsp_docs.specs.Documents.{Terms, Version, versioned, is_after, is_at, is_before, Held}
use Rattle.lsp_docs.specs.Documents.{documents}
use Rattle.lsp_docs.specs.Calls.{Text, Bytes, Call, uri_of}
use Rattle.lsp_text.specs.Edits.{Edit, applied}
use Rattle.lsp_text.specs.SameText.{same_text}
use Rattle.lsp_docs.specs.Snapshots.{kept, last_of, waiting, versions_of, missed}
use Rattle.lsp_docs.specs.Rules.{rule_of, rule_of_change, call_rule, AreAccepted}
use Rattle.lsp_types.specs.Fault.{Names}
use Rattle.lsp_types.specs.declared.fault.Fault.{Fault}
use Rattle.lsp_types.specs.declared.rules.TheConstants as rules

-- versions of one URI: those that are kept of it, or those of its snapshots that wait
pub record Queue : Type 0 where
  pub uri : Bytes
  pub versions : List Version

abbrev pub queue_of : Bytes → List Queue → List Version
queue_of uri [] = []
queue_of uri (n ∷ ns) = if bytes_eq uri n.uri then n.versions else queue_of uri ns

-- the snapshots that wait, by URI, and how many were missed
pub record Waits : Type 0 where
  pub queues : List Queue
  pub missed : ℕ

pub record State : Type 0 where
  pub terms : Terms
  pub documents : List Held
  pub kept : List Queue
  pub waits : Waits

-- a count, as far as 64 bits tell it
abbrev pub capped : ℕ → ℕ
capped n = min n (2 ^ 64 - 1)

-- ---- documents

abbrev pub held_in : Bytes → List Held → Option Version
held_in uri [] = None
held_in uri (h ∷ hs) = if bytes_eq uri h.uri then Some h.version else held_in uri hs

-- with `v` as the version of the first document of the URI
abbrev pub set_in : Bytes → Version → List Held → List Held
set_in uri v [] = []
set_in uri v (h ∷ hs) = if bytes_eq uri h.uri then record { uri = h.uri; version = v } ∷ hs else
    h ∷ set_in uri v hs

-- without the first document of the URI
abbrev pub without : Bytes → List Held → List Held
without uri [] = []
without uri (h ∷ hs) = if bytes_eq uri h.uri then hs else h ∷ without uri hs

-- ---- kept versions

-- the same is kept of each URI
abbrev pub KeepsSame : List Queue → List Queue → Type 0
KeepsSame old new = (u : Bytes) → queue_of u new ≡ queue_of u old

-- where at most this many versions of the URI were kept, its held version joins them, and the last
-- ones are kept, at most this many
abbrev pub KeepsOn : ℕ → Bytes → Option Version → List Queue → List Queue → Type 0
KeepsOn most uri h old new =
    length (queue_of uri old) ≤ most → (u : Bytes)
    → queue_of u new ≡ (if bytes_eq uri u then last_of most (queue_of u old ++ option_to_list h) else
    queue_of u old)

-- nothing is kept of the URI
abbrev pub KeepsNone : Bytes → List Queue → List Queue → Type 0
KeepsNone uri old new = (u : Bytes) → queue_of u new ≡ (if bytes_eq uri u then [] else queue_of u old)

-- ---- snapshots

-- those of the URI that pass the test stay
abbrev pub keep_in : Bytes → (Version → Bool) → List Queue → List Queue
keep_in uri p [] = []
keep_in uri p (n ∷ ns) =
    if bytes_eq uri n.uri then record {
      uri = n.uri;
      versions = filter p n.versions;
    } ∷ ns else n ∷ keep_in uri p ns

-- the same versions, those of each number in the same order
abbrev pub SameOrder : List Version → List Version → Type 0
SameOrder vs ws = (n : ℤ) → filter (is_at n) vs ≡ filter (is_at n) ws

-- how many wait
abbrev pub total : List Queue → ℕ
total [] = 0
total (n ∷ ns) = length n.versions + total ns

-- one more of the URI
pub record IsAdded (uri : Bytes) (v : Version) (old new : List Queue) : Type 0 where
  pub own : SameOrder (queue_of uri old ++ v ∷ []) (queue_of uri new)
  pub others : (u : Bytes) → bytes_eq u uri ≡ false → queue_of u new ≡ queue_of u old
  pub count : total new ≡ total old + 1

-- none of the URI is left
pub record IsReleased (uri : Bytes) (old new : List Queue) : Type 0 where
  pub own : queue_of uri new ≡ []
  pub others : (u : Bytes) → bytes_eq u uri ≡ false → queue_of u new ≡ queue_of u old
  pub count : total new + length (queue_of uri old) ≡ total old

-- the URI reaches this version: the snapshots of a greater one wait on, those of a lesser one are
-- missed
abbrev pub reached : Bytes → ℤ → Waits → Waits
reached uri number w = record {
  queues = keep_in uri (is_after number) w.queues;
  missed = capped (w.missed + length (filter (is_before number) (queue_of uri w.queues)));
}

-- one more snapshot was skipped before it was shown
abbrev pub missed_one : Waits → Waits
missed_one w = record { queues = w.queues; missed = capped (w.missed + 1) }

-- ---- changes

abbrev pub text_in : Option Version → Text
text_in None = []
text_in (Some v) = v.text

-- the rules of a change that don't look at its text
abbrev pub early_rule : SyncKind → ℤ → List Edit → Option Version → Option ℕ
early_rule kind number cs h = rule_of_change kind number cs (λ v. None) h

-- what refuses the changes of a text, where snapshots with these texts wait for the version that
-- they lead to: 605 to 607, or else 702
abbrev pub due_rule : LineEnds → List Text → Result Text ℕ → Option ℕ
due_rule ends due (Err rule) = Some rule
due_rule ends due (Ok t) = if list_any (λ d. not (same_text ends t d)) due
    then Some rules.SNAPSHOT_DIFFERS else None

-- the rule that a change breaks there
abbrev pub rule_with : ℕ → LineEnds → List Text → Encoding → SyncKind → ℤ → List Edit
    → Option Version → Option ℕ
rule_with limit ends due enc kind number cs h =
    rule_of_change kind number cs (λ v. due_rule ends due (applied limit enc v.text cs)) h

-- ---- standing for a list of calls

-- the snapshots that wait are those that the definitions give for these calls
pub record AreWaits (terms : Terms) (w : Waits) (calls : List Call) : Type 0 where
  pub queues : (uri : Bytes)
      → SameOrder (queue_of uri w.queues) (versions_of uri (waiting terms calls))
  pub count : total w.queues ≡ length (waiting terms calls)
  pub missed : w.missed ≡ capped (missed terms calls)

-- the state is what the definitions give for these calls, each of which was accepted
pub record Stands (s : State) (calls : List Call) : Type 0 where
  pub accepted : AreAccepted s.terms calls
  pub documents : s.documents ≡ documents s.terms calls
  pub kept : (uri : Bytes) → queue_of uri s.kept ≡ kept s.terms uri calls
  pub waits : AreWaits s.terms s.waits calls

-- the rule that a call breaks, read off the state
abbrev pub rule_at : State → Call → Option ℕ
rule_at s c = rule_of s.terms (held_in (uri_of c) s.documents) (queue_of (uri_of c) s.kept)
    (queue_of (uri_of c) s.waits.queues) c

-- the call breaks no rule after any calls that the state stands for
abbrev pub Allows : State → Call → Type 0
Allows s c = (calls : List Call) → Stands s calls → call_rule s.terms calls c ≡ None

-- the call is accepted: it breaks no rule, and the new state stands for the calls that the old one
-- stood for with this one behind them, on the same terms
pub record Accepts (old new : State) (c : Call) : Type 0 where
  pub accepted : Allows old c
  pub stands : (calls : List Call) → Stands old calls → Stands new (calls ++ c ∷ [])
  pub terms : new.terms ≡ old.terms

-- the call is refused by the rule that the fault names, the least that the call breaks after any
-- calls that the state stands for, unless memory ran out
abbrev pub Refuses : State → Call → Fault → Type 0
Refuses s c fault = (calls : List Call) → Stands s calls → Names (call_rule s.terms calls c) fault
