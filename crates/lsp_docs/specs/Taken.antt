-- A call as the code has it, and what it says where it is accepted.
use Rattle.std.specs.Prelude.{◌≡◌, ℕ, ◌&&◌, if◌then◌else◌, List, Option, Some, None, is_none}
use Rattle.std.specs.Prelude.{option_map}
use Rattle.std.specs.Str.{chars}
use Rattle.lsp_types.specs.declared.position.Encoding.{Encoding}
use Rattle.lsp_text.specs.Edits.{Edit}
use Rattle.lsp_text.specs.Changes.{edits_of}
use Rattle.lsp_text.specs.Findings.{nothing, findings}
use Rattle.lsp_text.specs.declared.findings.Findings.{Findings}
use Rattle.lsp_docs.specs.Calls.{Call, opens, changes, closes, saves, shows, uri_of}
use Rattle.lsp_docs.specs.Documents.{Terms, Version, held}
use Rattle.lsp_docs.specs.Snapshots.{kept}
use Rattle.lsp_docs.specs.State.{State, Stands, Allows, early_rule}
use Rattle.lsp_docs.specs.Stored.{answer_of, IsAnswer}
use Rattle.lsp_docs.specs.declared.call.Call as code
use Rattle.lsp_docs.specs.declared.call.Call.TheVariants.{Opens, Changes, Closes, Saves, Shows}
use Rattle.lsp_docs.specs.declared.call.Took.{Took}
use Rattle.lsp_docs.specs.declared.call.Took.TheVariants.{Done, Changed, Shown}
use Rattle.lsp_docs.specs.declared.snapshot.Match.TheVariants.{Waits}

-- the call, apart from where its texts lie in memory
abbrev pub call_view : code.Call → Call
call_view (Opens uri number text) = opens uri.now number (chars text.now)
call_view (Changes enc kind uri number cs) = changes enc kind uri.now number (edits_of cs.now)
call_view (Closes uri) = closes uri.now
call_view (Saves uri text) = saves uri.now (option_map (λ t. chars t.now) text)
call_view (Shows uri number text) = shows uri.now number (chars text.now)

-- what changes of a document find
abbrev pub found_on : ℕ → Encoding → Option Version → List Edit → Findings
found_on limit enc None cs = nothing
found_on limit enc (Some v) cs = findings limit enc v.text cs

-- they say it where it is something
abbrev pub took_found : Findings → Took
took_found f = if is_none f.past_end && is_none f.range_length then Done else Changed f

-- what a call says, where this is held of its URI and these versions are kept
abbrev pub took_with : Terms → Option Version → List Version → Call → Took
took_with terms h kept (changes enc kind uri number cs) = took_found (found_on terms.limit enc h cs)
took_with terms h kept (shows uri number t) = Shown (answer_of number kept h)
took_with terms h kept _ = Done

-- **what a call says after these calls**: of changes, what they find in the held text; of a
-- snapshot, how it is compared
abbrev pub took_by : Terms → List Call → Call → Took
took_by terms before c =
    took_with terms (held terms (uri_of c) before) (kept terms (uri_of c) before) c

abbrev pub IsTook : State → Call → Took → Type 0
IsTook s c took = (calls : List Call) → Stands s calls → took ≡ took_by s.terms calls c

-- memory may be refused: only an opening, changes and a snapshot that must wait ask for it, and
-- changes only where no rule on the call as a whole refuses them
abbrev pub MayLackMemory : State → Call → Type 0
MayLackMemory s (opens uri number t) = Allows s (opens uri number t)
MayLackMemory s (changes enc kind uri number cs) =
    (calls : List Call) → Stands s calls → early_rule kind number cs (held s.terms uri calls) ≡ None
MayLackMemory s (shows uri number t) = Allows s (shows uri number t) × IsAnswer s uri number Waits
MayLackMemory s _ = ⊥
