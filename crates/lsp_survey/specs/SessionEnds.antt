-- How the session of a log ends: what is listed of that, and the verdict on all that is listed.
use Rattle.std.specs.Prelude.{List, Bool, true, false, ℕ, Option, Some, None, map, option_map}
use Rattle.std.specs.Prelude.{option_to_list, ◌++◌}
use Rattle.lsp_types.specs.declared.rules.TheConstants as rules
use Rattle.lsp_types.specs.declared.side.Side.TheVariants.{Editor, Server}
use Rattle.lsp_replay.specs.Common.{bad_log_of, by_itself, Completeness, decoder_of, ending}
use Rattle.lsp_replay.specs.Common.{ends_inside, Event, first_verdict, Heard, heard_events, kept_of}
use Rattle.lsp_replay.specs.Common.{LogCode, no_next, notes_of, Offence, offences, summary, Tail}
use Rattle.lsp_replay.specs.Common.{Terms, Who}
use Rattle.lsp_verdict.specs.Survey.{ends_listed, first_ends}
use Rattle.lsp_verdict.specs.Survey.{lacks_listed, rests_listed}
use Rattle.lsp_verdict.specs.Verdict.{Verdict}
use Rattle.lsp_verdict.specs.declared.verdict.Who.TheVariants as who
use Rattle.lsp_replay.specs.LogEvents.{flaw_of}
use Rattle.lsp_replay.specs.declared.log_events.End.{End}
use Rattle.lsp_replay.specs.declared.log_events.LogEvents.{LogEvents}

-- ---- what is listed of the end of a log without a fault

-- the offence of the end by this rule, if one is broken, and whose it is
abbrev pub listed_by : Option (ℕ × Who) → List Event → List Offence
listed_by broken events = map by_itself
    (option_to_list (option_map (λ (b : ℕ × Who). no_next b.0 b.1 events) broken))

-- what is listed behind the rule that is broken first: the server's 107, where the editor has one
abbrev pub second_end : Bool → Bool → Option (ℕ × Who)
second_end true true = Some (rules.STREAM_ENDS_INSIDE_FRAME, who.Server)
second_end _ _ = None

-- ---- the end of any log, and the verdict on all that is listed of it

-- what is listed of the end
abbrev pub ends_of : Completeness → Terms → List Heard → Tail → List Verdict
ends_of completeness terms heard tail =
    ends_listed completeness terms (heard_events heard)
    (ending tail.fault tail.rests.editor tail.rests.server)

-- as the reader of the log tells it
abbrev pub ends_held : Completeness → Terms → List Heard → LogEvents → End → List Verdict
ends_held completeness terms heard e end =
    first_ends (flaw_of end) (rests_listed (heard_events heard)
    (ends_inside (decoder_of Editor e.streams)) (ends_inside (decoder_of Server e.streams)))
    (lacks_listed completeness (heard_events heard) (kept_of terms (heard_events heard)))

-- all that is listed, where the session ends so
abbrev pub all_found : Terms → List Heard → List Verdict → List Offence
all_found terms heard ends = offences terms (notes_of heard) ++ map by_itself ends

-- the verdict on it
abbrev pub all_verdict : Terms → List Heard → Option (ℕ × LogCode) → List Verdict → Verdict
all_verdict terms heard fault ends =
    first_verdict (all_found terms heard ends) (bad_log_of fault)
    (summary terms (heard_events heard))
