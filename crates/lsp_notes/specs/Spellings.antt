-- Which messages name a document that is not open, while one is open whose URI differs from its URI
-- in the spelling alone.
use Rattle.std.specs.Prelude.{◌≡◌, ◌&&◌, ℕ, List, ◌++◌, length, Bool, false, not, is_some}
use Rattle.std.specs.Prelude.{if◌then◌else◌, Option, Some, None, option_and_then, option_map, codes}
use Rattle.std.specs.List.{find}
use Rattle.std.specs.Str.{bytes_eq}
use Rattle.json.specs.Print.{quoted}
use Rattle.lsp_trail.specs.Common.{AreOpenings, Call, call_at, calls, each_of, Event, EventPlace}
use Rattle.lsp_trail.specs.Common.{held, if_unopened, is_standing, kept_of, last_openings, message}
use Rattle.lsp_trail.specs.Common.{on_document, OnDocument, opens, place_of, rule_at, saves, Sent}
use Rattle.lsp_trail.specs.Common.{sent_of, Stands, Terms}
use Rattle.lsp_verdict.specs.Spelling.{folded}
use Rattle.lsp_facts.specs.Fact.{spaced}
use Rattle.lsp_notes.specs.DocumentNotes.{DocumentNote, document_note, first_notes, notes_view}
use Rattle.lsp_trail.specs.Naming.{named_by}
use Rattle.lsp_trail.specs.Spelled.{is_spelled}
use Rattle.lsp_notes.specs.declared.spellings.Spellings as code
use Rattle.lsp_notes.specs.declared.spellings.Sought.{Sought}

-- ---- a document that a message names, and that is not open

-- one of which a message says this, after these calls: none is open where it opens one (601), and
-- one is where it changes or closes it (602)
abbrev pub unopened_by : Terms → List Call → Call → Option (List ℕ)
unopened_by terms before (opens uri number text) = Some uri
unopened_by terms before (saves uri text) = if_unopened terms before uri
unopened_by terms before _ = None

-- of which it says this, if anything, or which its params name
abbrev pub unopened_in : Terms → List Call → Option Call → Sent → Option (List ℕ)
unopened_in terms before (Some call) m = unopened_by terms before call
unopened_in terms before None m =
    option_and_then (if_unopened terms before) (named_by m.side m.message)

abbrev pub unopened_at : Terms → List Event → Sent → Option (List ℕ)
unopened_at terms kept m = unopened_in terms (calls kept) (call_at kept (message m)) m

-- ---- another one that is open

-- this message opened one that is open, whose URI differs from this one in the spelling alone
abbrev pub is_other : Terms → List Event → List ℕ → List ℕ → OnDocument → Bool
is_other terms before uri spelling on =
    not (bytes_eq on.uri uri)
    && (is_spelled (length uri) spelling on.uri && is_standing terms before on)

-- **the first of those that were opened last**
abbrev pub other_spelling : Terms → List Event → List ℕ → Option OnDocument
other_spelling terms before uri =
    find (is_other terms before uri (folded uri)) (last_openings terms before)

-- ---- their notes

abbrev pub similar_words : List ℕ → List ℕ → List ℕ
similar_words uri other = codes "note similar " ++ quoted uri ++ spaced (quoted other)

abbrev pub similar_note : EventPlace → List ℕ → OnDocument → DocumentNote
similar_note p uri other = document_note (on_document uri p) (similar_words uri other.uri)

-- on the event of this place, which names this URI
abbrev pub spelling_note : Terms → List Event → EventPlace → List ℕ → Option DocumentNote
spelling_note terms before p uri =
    option_map (similar_note p uri) (other_spelling terms before uri)

-- on a message, the event of this place, if it names one that is not open
abbrev pub spelling_by : Terms → List Event → EventPlace → Sent → Option DocumentNote
spelling_by terms before p m =
    option_and_then (spelling_note terms before p) (unopened_at terms (kept_of terms before) m)

-- where it is kept
abbrev pub spelling_at : Terms → List Event → Event → Option DocumentNote
spelling_at terms before event =
    if is_some (rule_at terms before event) then None
    else option_and_then (spelling_by terms before (place_of before event)) (sent_of event)

-- **of each URI the first message that names it, though no document of that URI is open, while one
-- is under another spelling**
abbrev pub spellings : Terms → List Event → List DocumentNote
spellings terms events = first_notes (each_of (spelling_at terms) events)

-- ---- as they are held

-- **it is what these events leave of it**
pub record AreSpellings (terms : Terms) (s : code.Spellings) (events : List Event) : Type 0 where
  pub named_are : notes_view s.named.items ≡ spellings terms events

-- the same documents are open after one set of calls as after another, whatever becomes of this URI
abbrev pub HoldsOthers : Terms → List ℕ → List Call → List Call → Type 0
HoldsOthers terms uri before after =
    (other : List ℕ) → bytes_eq other uri ≡ false
    → is_some (held terms other after) ≡ is_some (held terms other before)

-- **other spellings are looked for after these events**
pub record IsSought (before : List Event) (s : Sought) : Type 0 where
  pub made : List Call
  pub stands : Stands s.docs.now made
  pub others : HoldsOthers s.docs.now.terms s.uri.now (calls (kept_of s.docs.now.terms before)) made
  pub opened : AreOpenings s.docs.now.terms s.openings.now before

-- what is looked for
abbrev pub is_sought : List Event → Sought → OnDocument → Bool
is_sought before s on = is_other s.docs.now.terms before s.uri.now s.spelling.now on
