-- The verdict on the bytes of a log.
use Rattle.std.specs.Prelude.{◌≡◌, ℕ, List, [], ◌∷◌, Bool, true, false, Option, Some, None}
use Rattle.lsp_frame.specs.Bounds.{Bounds}
use Rattle.lsp_frame.specs.Frame.{IsStream}
use Rattle.lsp_frame.specs.declared.format.Format.{Format}
use Rattle.lsp_frame.specs.declared.format.Format.TheVariants.{One}
use Rattle.lsp_types.specs.declared.side.Side.TheVariants.{Editor, Server}
use Rattle.lsp_docs.specs.Documents.{Terms, terms_of}
use Rattle.lsp_log.specs.declared.fault.LogCode.{LogCode}
use Rattle.lsp_log.specs.Log.{Record, IsLog}
use Rattle.lsp_verdict.specs.Placed.{IsSession, joined}
use Rattle.lsp_verdict.specs.Event.{Event}
use Rattle.lsp_verdict.specs.Verdict.{Verdict, Ending, verdict, first_no}

-- the format by which records are judged: a log with no first line has none, and format 1 does
abbrev pub format_or_one : Option Format → Format
format_or_one None = One
format_or_one (Some format) = format

-- the terms by which a log of this format is judged
abbrev pub log_terms : Bounds → Option Format → Terms
log_terms limits format = terms_of limits (format_or_one format)

-- what is left of the bytes after their frames
abbrev pub HasRest : Bounds → List ℕ → List ℕ → Type 0
HasRest limits bytes rest = (contents : List (List ℕ)) × (fault : Option ℕ) × IsStream limits bytes contents rest fault

abbrev pub is_rest : List ℕ → Bool
is_rest [] = false
is_rest (byte ∷ bytes) = true

abbrev pub ending : Option (ℕ × LogCode) → List ℕ → List ℕ → Ending
ending fault editor server = record { log_fault = fault; editor_rest = is_rest editor; server_rest = is_rest server }

-- the verdict on these records of a log of this format, where it ends after them with this fault or
-- none
pub record IsFinal (limits : Bounds) (format : Format) (records : List Record) (fault : Option (ℕ × LogCode)) (v : Verdict) : Type 0 where
  pub events : List Event
  pub editor : List ℕ
  pub server : List ℕ
  pub session : IsSession limits records events
  pub editor_rest : HasRest limits (joined Editor records) editor
  pub server_rest : HasRest limits (joined Server records) server
  pub says : verdict (terms_of limits format) events (ending fault editor server) ≡ v

-- **the verdict on a log**: that on its records and its fault, by its format
pub record IsVerdict (limits : Bounds) (log : List ℕ) (v : Verdict) : Type 0 where
  pub format : Option Format
  pub records : List Record
  pub fault : Option (ℕ × LogCode)
  pub is_log : IsLog limits log format records fault
  pub final : IsFinal limits (format_or_one format) records fault v

-- an event of the records offends, and this is the No at the first that does
pub record Offends (limits : Bounds) (format : Format) (records : List Record) (v : Verdict) : Type 0 where
  pub events : List Event
  pub session : IsSession limits records events
  pub offends : first_no (terms_of limits format) events ≡ Some v
