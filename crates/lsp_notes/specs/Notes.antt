-- The notes on a session, which change no verdict.
use Rattle.std.specs.Prelude.{ℕ, List, [], ◌∷◌, ◌++◌, map, length, ◌==◌, Option, Some, None}
use Rattle.std.specs.Prelude.{if◌then◌else◌, option_to_list, option_map, codes, decimal}
use Rattle.std.specs.Str.{bytes_eq}
use Rattle.json.specs.Print.{quoted}
use Rattle.lsp_trail.specs.Common.{abrupt_exit, bad_log, Breach, Encoding, encoding, encoding_name}
use Rattle.lsp_trail.specs.Common.{Event, EventPlace, events_of, line, Misused, misuses, no}
use Rattle.lsp_trail.specs.Common.{notes_of, Numbered, numbered, older_encoding, OnDocument}
use Rattle.lsp_trail.specs.Common.{renamed, sents, Terms, Verdict, yes}
use Rattle.lsp_notes.specs.DocumentNotes.{DocumentNote, document_line}
use Rattle.lsp_notes.specs.Misfits.{Found, found_kept, found_refuted, past_ends, range_lengths}
use Rattle.lsp_notes.specs.Refusals.{refusals}
use Rattle.lsp_trail.specs.Openings.{unshown}
use Rattle.lsp_notes.specs.ServerEdits.{lates, outsides, overlaps, unsents}
use Rattle.lsp_notes.specs.Spellings.{spellings}
use Rattle.lsp_trail.specs.declared.misuses.Misuse.{Misuse}
use Rattle.lsp_trail.specs.declared.misuses.Misuse.TheVariants.{AsRequest, AsNotification}
use Rattle.lsp_trail.specs.declared.misuses.Misuse.TheVariants.{ByEditor, ByServer}
use Rattle.lsp_facts.specs.Fact.{Fact, cited, fact_lines, place_words}

-- ---- their lines

abbrev pub misuse_key : Misuse → List ℕ
misuse_key AsRequest = codes "note as-request"
misuse_key AsNotification = codes "note as-notification"
misuse_key ByEditor = codes "note by-editor"
misuse_key ByServer = codes "note by-server"

-- a call that LSP 3.17 has in another way than it was sent
abbrev pub misuse_line : Misused → Fact
misuse_line x = line (misuse_key x.misuse ∷ quoted x.method ∷ place_words x.place)

-- a document that was changed and has no snapshot
abbrev pub unshown_line : List ℕ → Fact
unshown_line uri = line (codes "note no-snapshot" ∷ quoted uri ∷ [])

-- ---- which there are

-- the name, where it is not that of the agreed encoding
abbrev pub differing : List ℕ → Option Encoding → Option (List ℕ)
differing name None = None
differing name (Some enc) = if bytes_eq name (encoding_name (Some enc)) then None else Some name

-- the encoding that was named in the older way, where that is not the agreed one
abbrev pub other_name : Option (List ℕ) → Option Encoding → Option (List ℕ)
other_name None agreed = None
other_name (Some name) agreed = differing name agreed

-- that of these messages
abbrev pub name_of : List Numbered → Option (List ℕ)
name_of said = other_name (older_encoding (sents said)) (encoding (sents said))

-- of a Yes: that no snapshot was compared, or else these documents that have none
abbrev pub uncompared : Verdict → List (List ℕ) → List Fact
uncompared (yes s) unshown =
    if s.snapshots == s.unmatched then line (codes "note" ∷ codes "nothing-compared" ∷ []) ∷ []
    else map unshown_line unshown
uncompared (no rule by count event) unshown = []
uncompared (bad_log at code) unshown = []

-- `exit` without `shutdown`, by the event of this place
abbrev pub exit_notes : Option EventPlace → List Fact
exit_notes exit =
    option_to_list (option_map (cited (codes "note exit-without-shutdown")) exit)

-- an older `offsetEncoding` that names another encoding than the agreed one
abbrev pub name_notes : Option (List ℕ) → List Fact
name_notes name = option_to_list
    (option_map (λ own. line (codes "note offset-encoding" ∷ quoted own ∷ [])) name)

-- a message about a document under a URI that its file lost when it was renamed
abbrev pub old_name_notes : Option OnDocument → List Fact
old_name_notes found = option_to_list (option_map
    (λ (x : OnDocument). line (codes "note renamed" ∷ quoted x.uri ∷ place_words x.place)) found)

-- what the notes are on: messages, the `exit` without a `shutdown` before it, the documents that
-- were changed and have no snapshot, what changes found, the documents about which a request was
-- refused, the URIs under which one was named that is open under another, and the documents whose
-- edits were made late, have a position outside or overlap, and those of which the server named a
-- version that was not sent
pub record Noticed : Type 0 where
  pub said : List Numbered
  pub exit : Option EventPlace
  pub unshown : List (List ℕ)
  pub found : List Found
  pub refused : List DocumentNote
  pub spelled : List DocumentNote
  pub late : List DocumentNote
  pub outside : List DocumentNote
  pub overlapping : List DocumentNote
  pub unsent : List DocumentNote

-- what these events have of it, whose changes found this
abbrev pub noticed : Terms → List Event → List Found → Noticed
noticed terms events found = record {
  said = numbered terms events;
  exit = abrupt_exit (numbered terms events);
  unshown = unshown terms events;
  found = found;
  refused = refusals terms events;
  spelled = spellings terms events;
  late = lates terms events;
  outside = outsides terms events;
  overlapping = overlaps terms events;
  unsent = unsents terms events;
}

-- the same where the server's edits and versions are those of these events
abbrev pub with_server : Terms → List Event → Noticed → Noticed
with_server terms events n = record n {
  late = lates terms events;
  outside = outsides terms events;
  overlapping = overlaps terms events;
  unsent = unsents terms events;
}

-- the same with this `exit`
abbrev pub with_exit : Option EventPlace → Noticed → Noticed
with_exit exit n = record n { exit = exit }

-- **the notes on these**, with this verdict
abbrev pub notes_by : Verdict → Noticed → List Fact
notes_by v n =
    map misuse_line (misuses n.said) ++ exit_notes n.exit
    ++ name_notes (name_of n.said)
    ++ old_name_notes (renamed n.said)
    ++ uncompared v n.unshown
    ++ map document_line (past_ends n.found)
    ++ map document_line (range_lengths n.found)
    ++ map document_line n.refused
    ++ map document_line n.spelled
    ++ map document_line n.late
    ++ map document_line n.outside
    ++ map document_line n.overlapping
    ++ map document_line n.unsent

-- how many there are, if there are any
abbrev pub count_line : ℕ → List ℕ
count_line count = if count == 0 then [] else line (codes "notes" ∷ decimal count ∷ [])

-- **the lines of notes**
abbrev pub note_lines : List Fact → List ℕ
note_lines notes = fact_lines notes ++ count_line (length notes)

-- ---- those of a log that offends

-- what the changes find of the first that offends, if they can be made and a snapshot refutes them
abbrev pub first_refuted : Terms → List Breach → List Found
first_refuted terms [] = []
first_refuted terms (b ∷ found) =
    found_refuted terms (events_of (notes_of b.before)) b.here.note.event b.rule

-- what the notes are on, where these are the events before the first that offends, and those that
-- offend
abbrev pub noticed_by : Terms → List Event → List Breach → Noticed
noticed_by terms before found =
    noticed terms before (found_kept terms before ++ first_refuted terms found)
