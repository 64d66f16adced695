-- All that is wrong with a session: its offences and how it ends, and what is said about them.
use Rattle.std.specs.Prelude.{◌≡◌, ℕ, List, [], ◌∷◌, ◌++◌, map, filter, length, Bool, true, false, ◌&&◌, not, if◌then◌else◌, Option, Some, None, option_map, option_to_list, codes, decimal}
use Rattle.std.specs.List.{flat_map}
use Rattle.lsp_frame.specs.Bounds.{Bounds}
use Rattle.lsp_frame.specs.declared.format.Format.{Format}
use Rattle.lsp_types.specs.declared.side.Side.{Side}
use Rattle.lsp_types.specs.declared.side.Side.TheVariants.{Editor, Server}
use Rattle.lsp_session.specs.Incomplete.{incomplete}
use Rattle.lsp_docs.specs.Documents.{Terms}
use Rattle.lsp_log.specs.Log.{Record, IsLog}
use Rattle.lsp_log.specs.declared.fault.LogCode.{LogCode}
use Rattle.lsp_verdict.specs.declared.completeness.Completeness.{Completeness}
use Rattle.lsp_verdict.specs.declared.completeness.Completeness.TheVariants.{Ignored, Required}
use Rattle.lsp_verdict.specs.declared.verdict.Who.TheVariants as who
use Rattle.lsp_verdict.specs.Event.{Event, sent_in}
use Rattle.lsp_verdict.specs.Offences.{Noted, Offence, events_of, has_broken, kept_of, offences}
use Rattle.lsp_verdict.specs.Offences.{IsNotedSession}
use Rattle.lsp_verdict.specs.Outcome.{HasRest, ending, log_terms}
use Rattle.lsp_verdict.specs.Placed.{joined}
use Rattle.lsp_verdict.specs.Report.{line, no_lines, report}
use Rattle.lsp_verdict.specs.Verdict.{Verdict, yes, no, Summary, summary, Ending, bad_log_of, no_next}
use Rattle.lsp_types.specs.declared.rules.TheConstants as rules

-- ---- how a session ends

-- the stream of this side ends inside a frame, where bytes are left after its last one
abbrev pub ends_inside : Side → List Event → Bool → Bool
ends_inside side events rest = rest && not (has_broken side events)

-- 107 for each side that does, the editor's first
abbrev pub rests_listed : List Event → Bool → Bool → List Verdict
rests_listed events editor server =
    (if editor then no_next rules.STREAM_ENDS_INSIDE_FRAME who.Editor events ∷ [] else [])
    ++ (if server then no_next rules.STREAM_ENDS_INSIDE_FRAME who.Server events ∷ [] else [])

-- 303 or 407, where the session must be complete and the kept events leave a request without an
-- answer, or have no `exit`
abbrev pub lacks_listed : Completeness → List Event → List Event → List Verdict
lacks_listed Ignored events kept = []
lacks_listed Required events kept = option_to_list (option_map (λ rule. no_next rule who.Editor events) (incomplete (sent_in kept)))

-- where the log has a fault, nothing is known of how the session ends; what is missing from the
-- session is listed only where no stream ends inside a frame
abbrev pub first_ends : Option (ℕ × LogCode) → List Verdict → List Verdict → List Verdict
first_ends (Some flaw) rests lacks = []
first_ends None (v ∷ rests) lacks = v ∷ rests
first_ends None [] lacks = lacks

abbrev pub ends_listed : Completeness → Terms → List Event → Ending → List Verdict
ends_listed completeness terms events end =
    first_ends end.log_fault
    (rests_listed events (ends_inside Editor events end.editor_rest) (ends_inside Server events end.server_rest))
    (lacks_listed completeness events (kept_of terms events))

-- ---- all that is listed

abbrev pub by_itself : Verdict → Offence
by_itself v = record { no = v; follows = false }

-- **all that is listed of a session**: its offences, and then how it ends
abbrev pub found_in : Completeness → Terms → List Noted → Ending → List Offence
found_in completeness terms notes end = offences terms notes ++ map by_itself (ends_listed completeness terms (events_of notes) end)

-- the verdict on it: the first that is listed, else a fault of the log, else yes
abbrev pub first_verdict : List Offence → Option Verdict → Summary → Verdict
first_verdict (o ∷ found) bad s = o.no
first_verdict [] (Some v) s = v
first_verdict [] None s = yes s

-- ---- what is said

abbrev pub follow_words : Bool → List (List ℕ)
follow_words true = codes "follows" ∷ []
follow_words false = []

-- the report of a No, with these words after the event's number
abbrev pub listed : List (List ℕ) → Verdict → List ℕ
listed words (no rule by count event) = no_lines rule by count event words
listed words v = report v

abbrev pub offence_lines : Offence → List ℕ
offence_lines o = listed (follow_words o.follows) o.no

-- those that follow from none, or every one
abbrev pub shown_of : Bool → List Offence → List Offence
shown_of true found = found
shown_of false found = filter (λ (o : Offence). not o.follows) found

-- how many were found, and how many of these follow from an earlier one
abbrev pub found_line : List Offence → List ℕ
found_line found = line (codes "offences" ∷ decimal (length found) ∷ codes "following" ∷ decimal (length (filter (λ (o : Offence). o.follows) found)) ∷ [])

abbrev pub bad_lines : Option Verdict → List ℕ
bad_lines None = []
bad_lines (Some v) = report v

-- **the report of all that was found**; of nothing, it is that of the verdict
abbrev pub all_report : Bool → List Offence → Option Verdict → Summary → List ℕ
all_report every [] bad s = report (first_verdict [] bad s)
all_report every (o ∷ found) bad s = flat_map offence_lines (shown_of every (o ∷ found)) ++ bad_lines bad ++ found_line (o ∷ found)

-- ---- a log

-- **all that is wrong with a log**: what is listed, its fault or none, and its summary where
-- nothing is
pub record IsSurvey (completeness : Completeness) (limits : Bounds) (log : List ℕ) (found : List Offence) (bad : Option Verdict) (s : Summary) : Type 0 where
  pub format : Option Format
  pub records : List Record
  pub log_fault : Option (ℕ × LogCode)
  pub notes : List Noted
  pub editor : List ℕ
  pub server : List ℕ
  pub is_log : IsLog limits log format records log_fault
  pub session : IsNotedSession limits records notes
  pub editor_rest : HasRest limits (joined Editor records) editor
  pub server_rest : HasRest limits (joined Server records) server
  pub lists : found ≡ found_in completeness (log_terms limits format) notes (ending log_fault editor server)
  pub bad_is : bad ≡ bad_log_of log_fault
  pub comes_to : s ≡ summary (log_terms limits format) (events_of notes)
