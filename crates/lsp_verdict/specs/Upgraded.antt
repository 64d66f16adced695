-- A log written again in format 2, up to its verdict.
use Rattle.std.specs.Prelude.{◌≡◌, ℕ, List, [], ◌∷◌, ◌++◌}
use Rattle.std.specs.List.{flat_map}
use Rattle.lsp_frame.specs.Bounds.{Bounds, IsInRange}
use Rattle.lsp_frame.specs.declared.format.Format.{Format}
use Rattle.lsp_frame.specs.declared.format.Format.TheVariants.{Two}
use Rattle.lsp_docs.specs.Documents.{terms_of}
use Rattle.lsp_log.specs.Log.{Record, spelling, first_line}
use Rattle.lsp_verdict.specs.Event.{Event}
use Rattle.lsp_verdict.specs.Kept.{NothingOffends}
use Rattle.lsp_verdict.specs.Outcome.{IsVerdict, Offends, format_or_one}
use Rattle.lsp_verdict.specs.Placed.{IsSession}
use Rattle.lsp_verdict.specs.Verdict.{Verdict, Summary, yes}

-- **these records in format 2**
abbrev pub upgraded : List Record → List ℕ
upgraded records = first_line Two ++ flat_map spelling records

-- no event of the records offends
pub record AreAccepted (limits : Bounds) (format : Format) (records : List Record) : Type 0 where
  pub events : List Event
  pub session : IsSession limits records events
  pub clean : NothingOffends (terms_of limits format) events

-- the first of these records brings an event that offends, if there are any
abbrev pub StopsAt : Bounds → Format → List Record → List Record → Type 0
StopsAt limits format accepted [] = Unit {0}
StopsAt limits format accepted (next ∷ later) = (v : Verdict) × Offends limits format (accepted ++ next ∷ []) v

-- **the accepted records**: as many of the first as bring no event that offends
pub record HasAccepted (limits : Bounds) (format : Format) (records accepted : List Record) : Type 0 where
  pub later : List Record
  pub whole : records ≡ accepted ++ later
  pub keeps : AreAccepted limits format accepted
  pub stops : StopsAt limits format accepted later

-- **what upgrade writes of a log**: its accepted records in format 2
pub record IsUpgraded (limits : Bounds) (log : List ℕ) (v : Verdict) (out : List ℕ) : Type 0 where
  pub whole : IsVerdict limits log v
  pub accepted : List Record
  pub has : HasAccepted limits (format_or_one whole.format) whole.records accepted
  pub is : out ≡ upgraded accepted

-- these bytes begin what upgrade writes of a log
abbrev pub BeginsUpgraded : Bounds → List ℕ → List ℕ → Type 0
BeginsUpgraded limits log front = (v : Verdict) × (left : List ℕ) × IsUpgraded limits log v (front ++ left)

-- **Each log has an upgrade.**
abbrev pub SomeUpgrade : Type 0
SomeUpgrade = (limits : Bounds) (log : List ℕ) → (v : Verdict) × (out : List ℕ) × IsUpgraded limits log v out

-- **And one only.**
abbrev pub OneUpgrade : Type 0
OneUpgrade = (limits : Bounds) → IsInRange limits → (log : List ℕ) (v w : Verdict) (out other : List ℕ) → IsUpgraded limits log v out → IsUpgraded limits log w other → (v ≡ w) × (out ≡ other)

-- **Where the verdict is Yes, the upgrade has the same verdict, summary and events.**
abbrev pub UpgradeKeepsYes : Type 0
UpgradeKeepsYes = (limits : Bounds) → IsInRange limits → (log out : List ℕ) (s : Summary) → (upgrade : IsUpgraded limits log (yes s) out) → (again : IsVerdict limits out (yes s)) × (again.final.events ≡ upgrade.whole.final.events)

-- **To upgrade what upgrade wrote changes nothing.**
abbrev pub UpgradeStays : Type 0
UpgradeStays = (limits : Bounds) → IsInRange limits → (log out : List ℕ) (v : Verdict) → IsUpgraded limits log v out → (w : Verdict) × IsUpgraded limits out w out
