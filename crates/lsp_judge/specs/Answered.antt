-- What is answered on records and on a log, in plain words.
use Rattle.std.specs.Prelude.{◌≡◌, ℕ, List, Option, None}
use Rattle.lsp_replay.specs.Common.{as_given, Bounds, Event, Format, format_or_one, IsLog}
use Rattle.lsp_replay.specs.Common.{IsSession, joined, summary, terms_of, yes}
use Rattle.lsp_types.specs.declared.side.Side.TheVariants.{Editor, Server}
use Rattle.lsp_log.specs.Log.{Record}
use Rattle.lsp_verdict.specs.Complete.{AreCutShort}
use Rattle.lsp_verdict.specs.Laws.{Names, HasRest107}
use Rattle.lsp_verdict.specs.Kept.{NothingOffends, AreFrames}
use Rattle.lsp_verdict.specs.Verdict.{Verdict}

-- ---- No of records, whatever their length: a count past the greatest u64 is given as that

-- an event of the records offends by the rule given, which is the least that it offends; no earlier
-- event offends
pub record NamesFirst (limits : Bounds) (format : Format) (records : List Record)
    (given : Verdict) : Type 0 where
  pub events : List Event
  pub session : IsSession limits records events
  pub verdict : Verdict
  pub names : Names (terms_of limits format) events verdict
  pub is : given ≡ as_given verdict

-- no event of the records offends, and a stream ends inside a frame: 107 is given, the editor's
-- first
pub record NamesRest (limits : Bounds) (format : Format) (records : List Record)
    (given : Verdict) : Type 0 where
  pub events : List Event
  pub session : IsSession limits records events
  pub verdict : Verdict
  pub names : HasRest107 limits format records None events verdict
  pub is : given ≡ as_given verdict

-- the records are kept, and what is given is the No by what is missing from their session
pub record NamesShort (limits : Bounds) (format : Format) (records : List Record)
    (given : Verdict) : Type 0 where
  pub verdict : Verdict
  pub short : AreCutShort limits format records verdict
  pub is : given ≡ as_given verdict

-- no event of the records offends
abbrev pub NoneOffends : Bounds → Format → List Record → Type 0
NoneOffends limits format records =
    (events : List Event) → IsSession limits records events
    → NothingOffends (terms_of limits format) events

-- ---- Yes

-- these are the events of the records, none of them offends, and both streams are complete frames
pub record AreClean (limits : Bounds) (format : Format) (records : List Record)
    (events : List Event) : Type 0 where
  pub session : IsSession limits records events
  pub clean : NothingOffends (terms_of limits format) events
  pub editor : AreFrames limits (joined Editor records)
  pub server : AreFrames limits (joined Server records)

-- and the log is of this format and has no fault
abbrev pub IsClean : Bounds → List ℕ → Option Format → List Event → Type 0
IsClean limits log format events =
    (records : List Record) × IsLog limits log format records None
    × AreClean limits (format_or_one format) records events

-- Yes is given, with the summary of these events; a count past the greatest u64 is given as that
abbrev pub SaysYes : Bounds → Format → List Event → Verdict → Type 0
SaysYes limits format events given =
    given ≡ as_given (yes (summary (terms_of limits format) events))
