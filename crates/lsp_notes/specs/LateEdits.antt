-- Which edits were made in a text that had changed since they were asked for.
use Rattle.std.specs.Prelude.{◌≡◌, ◌&&◌, ℕ, ℤ, nat_lt, Bool, true, false, not, List, [], ◌∷◌}
use Rattle.std.specs.Prelude.{◌++◌, map, length, if◌then◌else◌, Option, Some, None, codes}
use Rattle.std.specs.Prelude.{option_and_then, option_map, string_bytes}
use Rattle.std.specs.List.{flat_map}
use Rattle.std.specs.Str.{bytes_eq}
use Rattle.lsp_trail.specs.Common.{Bytes, Call, Edit, edits_of, edits_size, Encoding, EventPlace}
use Rattle.lsp_trail.specs.Common.{held, kept, last_ones, last_setter, last_that, Terms, Text}
use Rattle.lsp_trail.specs.Common.{text_at, Version}
use Rattle.lsp_facts.specs.Fact.{place_words, spaced}
use Rattle.lsp_notes.specs.AtOnce.{makes}
use Rattle.lsp_notes.specs.TextsSince.{version_at}
use Rattle.lsp_notes.specs.declared.late_edits.LateAnswer as code
use Rattle.lsp_trail.specs.declared.mark.VersionEvent.{VersionEvent}

-- ---- answers that came late

-- the document, the events of the request and of the answer, and the edits
pub record LateAnswer : Type 0 where
  pub uri : List ℕ
  pub asked : EventPlace
  pub answered : EventPlace
  pub edits : List Edit

abbrev pub late_answer : List ℕ → EventPlace → EventPlace → List Edit → LateAnswer
late_answer uri asked answered edits =
    record { uri = uri; asked = asked; answered = answered; edits = edits }

-- how large the edits may be together
abbrev pub most_size : ℕ
most_size = 262144

abbrev pub is_empty : List Edit → Bool
is_empty [] = true
is_empty (edit ∷ edits) = false

-- there are some, and they are small enough
abbrev pub are_held : List Edit → Bool
are_held edits = not (is_empty edits) && not (nat_lt most_size (edits_size edits))

-- the text changed since the request: it had these texts
abbrev pub has_changed : List Text → Bool
has_changed texts = nat_lt 1 (length texts)

-- the answer that this event is, with these edits, where the text changed since that request
abbrev pub if_late : List ℕ → EventPlace → EventPlace → List Text → List Edit → Option LateAnswer
if_late uri asked answered texts edits =
    if has_changed texts && are_held edits
    then Some (late_answer uri asked answered edits) else None

-- how many of the last ones are looked at
abbrev pub most_late : ℕ
most_late = 8

-- ---- the change that follows such an answer

-- the answer is on this document, and came after this message, which set its version
abbrev pub is_since : List ℕ → VersionEvent → LateAnswer → Bool
is_since uri setter a =
    bytes_eq a.uri uri && nat_lt setter.place.event a.answered.event

-- the edits make this text of the newer one, and not of the older one
abbrev pub makes_late : Encoding → List Edit → Option Text → Option Text → Option Text → Bool
makes_late enc edits (Some older) (Some newer) (Some now) =
    makes enc edits now newer && not (makes enc edits now older)
makes_late enc edits _ _ _ = false

-- the same of the texts at these versions and the one that is held
abbrev pub made_late : Encoding → List Edit → ℤ → ℤ → List Version → Option Version → Bool
made_late enc edits older newer kept v =
    makes_late enc edits (text_at older kept v) (text_at newer kept v)
    (option_map (λ (w : Version). w.text) v)

abbrev pub late_words : LateAnswer → List ℕ
late_words a =
    codes "note late-edits"
    ++ flat_map spaced (place_words a.asked ++ place_words a.answered)

-- the words of a note, where the edits of this answer were made so in the version that this message
-- set; these messages set the versions before, and these calls come up to the change
abbrev pub words_if_late : Terms → List Call → Bytes → Encoding → List VersionEvent → VersionEvent
    → LateAnswer → Option (List ℕ)
words_if_late terms made uri enc setters setter a =
    option_and_then (λ older.
    if made_late enc a.edits older setter.version (kept terms uri made) (held terms uri made)
    then Some (late_words a) else None) (version_at a.asked setters)

-- of the last of these answers since the last of these messages
abbrev pub words_since : Terms → List Call → Bytes → Encoding → List VersionEvent
    → List LateAnswer → Option (List ℕ)
words_since terms made uri enc setters answers =
    option_and_then (λ setter.
    option_and_then (words_if_late terms made uri enc setters setter)
    (last_that (is_since uri setter) answers)) (last_setter setters)

-- ---- as they are held

abbrev pub late_view : code.LateAnswer → LateAnswer
late_view a = late_answer (string_bytes a.uri) a.asked a.answered (edits_of a.edits.items)

abbrev pub lates_view : List code.LateAnswer → List LateAnswer
lates_view held = map late_view held

-- these more are held, of which the last ones stay
abbrev pub HoldsLate : List LateAnswer → List code.LateAnswer → List code.LateAnswer → Type 0
HoldsLate more old new =
    (answers : List LateAnswer) → lates_view old ≡ last_ones most_late answers
    → lates_view new ≡ last_ones most_late (answers ++ more)
