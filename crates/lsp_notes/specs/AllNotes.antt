-- The notes of `explain --all --notes`: of each event those that are found at it.
use Rattle.std.specs.Prelude.{◌≡◌, ℕ, List, [], ◌∷◌, ◌++◌, drop, length, map, Bool, true, false}
use Rattle.std.specs.Prelude.{codes, ◌+◌, ◌==◌, ◌&&◌, ◌||◌, not, is_some, if◌then◌else◌, Option}
use Rattle.std.specs.Prelude.{Some, None}
use Rattle.std.specs.List.{cons_option}
use Rattle.lsp_trail.specs.Common.{abrupt_exit, each_of, Event, EventPlace, Exited, fault, first_of}
use Rattle.lsp_trail.specs.Common.{Heard, heard_events, is_shutdown, kept_before, message, misuses}
use Rattle.lsp_trail.specs.Common.{numbered, phase, place_of, renamed, rule_of, said_at, same_phase}
use Rattle.lsp_trail.specs.Common.{sent_in, snapshot, Terms, Verdict}
use Rattle.lsp_facts.specs.Fact.{Fact, fact_lines}
use Rattle.lsp_types.specs.declared.rules.TheConstants as rules
use Rattle.lsp_notes.specs.Behind.{AreBehind, is_on_behind}
use Rattle.lsp_notes.specs.DocumentNotes.{document_line}
use Rattle.lsp_notes.specs.MessageNotes.{AreNoted}
use Rattle.lsp_notes.specs.Misfits.{AreMisfits, Found, event_found, past_ends, range_lengths}
use Rattle.lsp_notes.specs.Notes.{Noticed, count_line, exit_notes, misuse_line, name_notes}
use Rattle.lsp_notes.specs.Notes.{name_of, noticed, notes_by, old_name_notes, uncompared}
use Rattle.lsp_notes.specs.Notes.{with_exit, with_server}
use Rattle.lsp_notes.specs.declared.along.NoteCounts.{NoteCounts}
use Rattle.lsp_notes.specs.declared.along.NotesAlong.{NotesAlong}

-- ---- what changes find

-- the changes of an event that breaks this rule, or is kept, can be made
abbrev pub can_be_made : Option ℕ → Bool
can_be_made None = true
can_be_made (Some rule) = rule == rules.SNAPSHOT_DIFFERS

-- what those of an event find after these, where its document is not behind
abbrev pub found_at : Terms → List Heard → Heard → Option Found
found_at terms before h =
    if is_on_behind terms before (said_at terms (heard_events before) h.note.event) then None
    else if can_be_made (rule_of terms before h)
    then event_found terms (place_of (heard_events before) h.note.event)
    (kept_before terms before) h.note.event
    else None

abbrev pub found_more : Terms → List Heard → Heard → List Found
found_more terms before h = cons_option (found_at terms before h) []

-- **what all changes find**
abbrev pub found_along : Terms → List Heard → List Found
found_along terms heard = each_of (found_at terms) heard

-- ---- `exit`

-- the session has exited
abbrev pub has_exited : Terms → List Heard → Bool
has_exited terms before = same_phase (phase (sent_in (kept_before terms before))) Exited

-- the event asks for the shutdown
abbrev pub asks_shutdown : Event → Bool
asks_shutdown (message m) = is_shutdown m.act
asks_shutdown _ = false

-- the rule that is broken by a `shutdown` before the exit
abbrev pub refused_shutdown : Terms → List Heard → Heard → Option ℕ
refused_shutdown terms before h =
    if asks_shutdown h.note.event && not (has_exited terms before) then rule_of terms before h
    else None

-- the editor sent a `shutdown` before its `exit`, though it was skipped
abbrev pub is_shutdown_refused : Terms → List Heard → Bool
is_shutdown_refused terms heard = is_some (first_of (refused_shutdown terms) heard)

-- **the `exit` without a `shutdown` before it**, also none that was skipped
abbrev pub exit_along : Terms → List Heard → Option EventPlace
exit_along terms heard =
    if is_shutdown_refused terms heard then None
    else abrupt_exit (numbered terms (heard_events heard))

-- ---- what the server sends

-- an event breaks a rule
abbrev pub is_broken : Terms → List Heard → Bool
is_broken terms heard = is_some (first_of (rule_of terms) heard)

-- those that come before the first that breaks a rule
abbrev pub sound_from : Terms → List Heard → List Heard → List Heard
sound_from terms before [] = []
sound_from terms before (h ∷ after) =
    if is_some (rule_of terms before h) then [] else h ∷ sound_from terms (before ++ h ∷ []) after

-- **the events among which the server's edits and versions are looked at**: after an event that is
-- skipped, the texts and the versions that are held may not be those that the server has
abbrev pub sound_events : Terms → List Heard → List Event
sound_events terms heard = heard_events (sound_from terms [] heard)

-- ---- what the notes on all these events are on

abbrev pub noticed_along : Terms → List Heard → Noticed
noticed_along terms heard =
    with_exit (exit_along terms heard) (with_server terms (sound_events terms heard)
    (noticed terms (heard_events heard) (found_along terms heard)))

-- ---- the notes of an event

-- the notes that belong to events, of each kind all
abbrev pub kinds : Noticed → List (List Fact)
kinds n =
    map misuse_line (misuses n.said)
    ∷ exit_notes n.exit
    ∷ name_notes (name_of n.said)
    ∷ old_name_notes (renamed n.said)
    ∷ map document_line (past_ends n.found)
    ∷ map document_line (range_lengths n.found)
    ∷ map document_line n.refused
    ∷ map document_line n.spelled
    ∷ map document_line n.late
    ∷ map document_line n.outside
    ∷ map document_line n.overlapping
    ∷ map document_line n.unsent
    ∷ []

abbrev pub counts : List (List Fact) → List ℕ
counts lists = map (λ (notes : List Fact). length notes) lists

-- of each kind the notes beyond so many
abbrev pub beyond : List ℕ → List (List Fact) → List Fact
beyond (n ∷ ns) (notes ∷ lists) = drop n notes ++ beyond ns lists
beyond _ _ = []

-- **the notes that are found at an event**: of each kind those beyond as many as there were
abbrev pub notes_at : Terms → List Heard → Heard → List Fact
notes_at terms before h =
    beyond (counts (kinds (noticed_along terms before)))
    (kinds (noticed_along terms (before ++ h ∷ [])))

-- ---- the end

-- those that only the end knows, where this is the verdict, and how many notes there are
abbrev pub end_notes : Verdict → Noticed → List ℕ
end_notes v n = fact_lines (uncompared v n.unshown) ++ count_line (length (notes_by v n))

-- ---- their lines

-- there is a LF among these bytes
abbrev pub has_feed : List ℕ → Bool
has_feed [] = false
has_feed (b ∷ bytes) = b == 10 || has_feed bytes

-- **the line of a note**: it begins with `note `, and its only LF ends it
pub record IsNote (fact : Fact) : Type 0 where
  pub words : List ℕ
  pub is : fact ≡ codes "note " ++ words ++ 10 ∷ []
  pub one_line : has_feed words ≡ false

abbrev pub AreNotes : List Fact → Type 0
AreNotes [] = Unit {0}
AreNotes (fact ∷ facts) = IsNote fact × AreNotes facts

-- ---- as they are held

-- one note, or none
abbrev pub one : Bool → ℕ
one true = 1
one false = 0

abbrev pub told_view : NoteCounts → List ℕ
told_view t =
    t.misuses ∷ one t.exit ∷ one t.name ∷ one t.renamed ∷ t.past_ends ∷ t.range_lengths
    ∷ t.refused ∷ t.spelled ∷ t.late_edits ∷ t.outside ∷ t.overlaps ∷ t.unsent ∷ []

-- **it is what these events leave of it**, where the notes on those were told
pub record AreAlong (terms : Terms) (n : NotesAlong) (told heard : List Heard) : Type 0 where
  pub misfits : AreMisfits n.misfits (found_along terms heard)
  pub messages : AreNoted terms n.messages (heard_events heard) (sound_events terms heard)
  pub broken : n.broken ≡ is_broken terms heard
  pub behind : AreBehind terms n.behind heard
  pub refused : n.shutdown_refused ≡ is_shutdown_refused terms heard
  pub told_are : told_view n.told ≡ counts (kinds (noticed_along terms told))
