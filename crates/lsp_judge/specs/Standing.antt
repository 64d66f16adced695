-- For which records a judge stands, and what it answers where they end.
use Rattle.std.specs.Prelude.{◌≡◌, List, [], ◌∷◌, ◌++◌, Option, Some, None, option_and_then, ℕ}
use Rattle.std.specs.Prelude.{Bool, Result, Ok, Err, IfSome, unwrap_or}
use Rattle.std.specs.List.{AllZip}
use Rattle.lsp_replay.specs.Common.{as_given, bad_log, bad_log_of, Bounds, Completeness, Counts}
use Rattle.lsp_replay.specs.Common.{ends_inside, Event, first_end, Follows, Format, IsInRange, no}
use Rattle.lsp_replay.specs.Common.{no_at, no_next, offence_view, Offends, Reads, summary}
use Rattle.lsp_replay.specs.Common.{summary_view, Terms, terms_of, Who, yes}
use Rattle.lsp_session.specs.State as session
use Rattle.lsp_docs.specs.State as docs
use Rattle.lsp_log.specs.Log.{Record}
use Rattle.lsp_replay.specs.Streams as frames
use Rattle.lsp_replay.specs.LogEvents.{flaw_of}
use Rattle.lsp_replay.specs.declared.log_events.End.{End}
use Rattle.lsp_replay.specs.declared.log_events.LogEvents.{LogEvents}
use Rattle.lsp_verdict.specs.Placed.{Raw}
use Rattle.lsp_verdict.specs.Verdict.{Verdict}
use Rattle.lsp_verdict.specs.declared.verdict.Summary as code
use Rattle.lsp_verdict.specs.declared.verdict.Who.TheVariants as who
use Rattle.lsp_judge.specs.declared.ruling.Ruling.{Ruling}
use Rattle.lsp_judge.specs.declared.ruling.Ruling.TheVariants.{No, BadLog, Memory}

-- ---- events that were heard, and one more

-- **these were heard as these events**, none of which offends under these terms
pub record HasHeard (terms : Terms) (messages : session.State) (documents : docs.State)
    (counts : Counts) (raws : List Raw) (heard : List Event) : Type 0 where
  pub read : AllZip Reads raws heard
  pub by : documents.terms ≡ terms
  pub follows : Follows messages documents counts heard

-- and so was one more
abbrev pub TakesOne : session.State → docs.State → Counts → session.State → docs.State → Counts
    → Raw → Type 0
TakesOne old_messages old_documents before messages documents after raw =
    (terms : Terms) (raws : List Raw) (heard : List Event)
    → HasHeard terms old_messages old_documents before raws heard
    → (event : Event)
    × HasHeard terms messages documents after (raws ++ raw ∷ []) (heard ++ event ∷ [])

-- **these events of the records were heard**, none of which offends, and those that are due are
-- still to be heard
pub record IsHearing (limits : Bounds) (format : Format) (streams : frames.State)
    (messages : session.State) (documents : docs.State) (counts : Counts) (records : List Record)
    (heard : List Event) (due : List Raw) : Type 0 where
  pub past : List Raw
  pub stands : frames.Stands limits streams records past due
  pub has : HasHeard (terms_of limits format) messages documents counts past heard

-- all of their events were
abbrev pub AreHeard : Bounds → Format → frames.State → session.State → docs.State → Counts
    → List Record → Type 0
AreHeard limits format streams messages documents counts records =
    (heard : List Event)
    × IsHearing limits format streams messages documents counts records heard []

-- ---- the final answer of a judge, as a verdict

-- the verdict that it is, if any
abbrev pub verdict_in : Ruling → Option Verdict
verdict_in (No o) = Some (offence_view o).no
verdict_in (BadLog number code) = Some (bad_log number code)
verdict_in Memory = None

-- the ruling is the No at an event of this kind, unless memory ran out
abbrev pub IsNoAt : Terms → List Event → (Event → Type 0) → Ruling → Type 0
IsNoAt terms before IsSuch ruling = IfSome (verdict_in ruling) (λ given.
    (event : Event) × IsSuch event
    × ((v : Verdict) × (no_at terms before event ≡ Some v) × (given ≡ as_given v)))

-- what is true of a verdict other than Yes
abbrev pub IfRefused : Verdict → Type 0 → Type 0
IfRefused (yes s) P = Unit {0}
IfRefused (no rule who number event) P = P
IfRefused (bad_log number code) P = P

-- ---- the records for which a judge stands

-- what a judge holds
pub record State : Type 0 where
  pub limits : Bounds
  pub format : Format
  pub streams : frames.State
  pub messages : session.State
  pub documents : docs.State
  pub counts : Counts
  pub given : Option Ruling

-- nothing was given: no event of the records offends, and all were heard
abbrev pub IsOpen : State → List Record → Type 0
IsOpen s records = AreHeard s.limits s.format s.streams s.messages s.documents s.counts records

-- an event of the records offends, and this is the No at the first
abbrev pub HasOffence : Bounds → Format → List Record → Verdict → Type 0
HasOffence limits format records given =
    (v : Verdict) × Offends limits format records v × (given ≡ as_given v)

-- a ruling at the last of these records, unless memory ran out
abbrev pub Rules : Bounds → Format → List Record → Ruling → Type 0
Rules limits format records ruling = IfSome (verdict_in ruling) (HasOffence limits format records)

-- memory was refused, once and for all calls
abbrev pub WasRefused : Option Ruling → Type 0
WasRefused given = given ≡ Some Memory

-- the verdict that is given from now on
abbrev pub is_given : Option Ruling → Option Verdict
is_given given = option_and_then verdict_in given

-- what a judge gives, against the records taken; once it gave a fault of the log or was refused
-- memory, it stands for none
abbrev pub StandsBy : Option Ruling → State → List Record → Type 0
StandsBy None s records = IsOpen s records
StandsBy (Some ruling) s records =
    (v : Verdict) × (verdict_in ruling ≡ Some v) × HasOffence s.limits s.format records v

-- **the judge stands for the records taken**
pub record Stands (s : State) (records : List Record) : Type 0 where
  pub range : IsInRange s.limits
  pub given : StandsBy s.given s records

-- ---- what it answers where no event offends and they end

-- the verdict: the No by it, else Yes
abbrev pub ends_with : Terms → List Event → Option (ℕ × Who) → Verdict
ends_with terms events None = yes (summary terms events)
ends_with terms events (Some broken) = no_next broken.0 broken.1 events

abbrev pub end_by : Completeness → Terms → List Event → Bool → Bool → Verdict
end_by completeness terms events editor server =
    ends_with terms events (first_end completeness events editor server)

-- what is given where the log ends so after them, as far as its reader tells: its fault, else that
abbrev pub closed_by : Completeness → Terms → List Event → LogEvents → End → Verdict
closed_by completeness terms events e end =
    unwrap_or (bad_log_of (flaw_of end)) (as_given (end_by completeness terms events
    (ends_inside e.streams.editor) (ends_inside e.streams.server)))

-- it is given, unless memory ran out
abbrev pub EndIs : Result code.Summary Ruling → Verdict → Type 0
EndIs (Ok s) v = yes (summary_view s) ≡ as_given v
EndIs (Err ruling) v = IfSome (verdict_in ruling) (λ given. given ≡ as_given v)
