-- Notes that are written once for each document.
use Rattle.std.specs.Prelude.{ℕ, List, [], ◌∷◌, ◌++◌, map, take, length, nat_lt, Bool, ◌||◌, not}
use Rattle.std.specs.Prelude.{if◌then◌else◌, Option, Some, None, string_bytes}
use Rattle.std.specs.List.{list_any}
use Rattle.std.specs.Str.{bytes_eq}
use Rattle.lsp_trail.specs.Common.{each_of, OnDocument}
use Rattle.lsp_facts.specs.Fact.{Fact, cited}
use Rattle.lsp_notes.specs.declared.document_notes.DocumentNote as code

-- a note on a document: its words, before those of the event that it names
pub record DocumentNote : Type 0 where
  pub on : OnDocument
  pub words : List ℕ

abbrev pub document_note : OnDocument → List ℕ → DocumentNote
document_note on words = record { on = on; words = words }

abbrev pub document_line : DocumentNote → Fact
document_line n = cited n.words n.on.place

-- one of these is on the document of this URI
abbrev pub has_note : List ℕ → List DocumentNote → Bool
has_note uri notes = list_any (λ (n : DocumentNote). bytes_eq n.on.uri uri) notes

-- a note, where none of those before it is on its document
abbrev pub if_first : List DocumentNote → DocumentNote → Option DocumentNote
if_first before n = if has_note n.on.uri before then None else Some n

-- how many documents have one at most
abbrev pub most_noted : ℕ
most_noted = 64

-- **of these notes the first on each document**, for the first 64 documents
abbrev pub first_notes : List DocumentNote → List DocumentNote
first_notes notes = take most_noted (each_of if_first notes)

-- ---- one note more

-- no further one on the document of this URI is written: it has one of these, or there is no room
abbrev pub is_noted : List ℕ → List DocumentNote → Bool
is_noted uri notes = not (nat_lt (length notes) most_noted) || has_note uri notes

-- what is written with one note more
abbrev pub with_note : List DocumentNote → Option DocumentNote → List DocumentNote
with_note notes None = notes
with_note notes (Some n) = if is_noted n.on.uri notes then notes else notes ++ n ∷ []

-- ---- as they are held

abbrev pub note_view : code.DocumentNote → DocumentNote
note_view n = record {
  on = record { uri = string_bytes n.uri; place = n.place };
  words = string_bytes n.words;
}

abbrev pub notes_view : List code.DocumentNote → List DocumentNote
notes_view notes = map note_view notes
