-- Which texts a document had since an event, and what edits are in all of them.
use Rattle.std.specs.Prelude.{ℕ, ℤ, int_lt, ◌&&◌, ◌||◌, ◌==◌, Bool, true, false, not, nat_lt, List}
use Rattle.std.specs.Prelude.{[], ◌∷◌, ◌++◌, map, filter, if◌then◌else◌, Option, Some, None}
use Rattle.std.specs.Prelude.{is_none, is_some, option_and_then, option_map, option_to_list}
use Rattle.std.specs.List.{filter_map, find, flat_map, list_any, list_all}
use Rattle.lsp_trail.specs.Common.{Bytes, Call, Counted, Edit, Encoding, EventPlace, Extent, held}
use Rattle.lsp_trail.specs.Common.{kept, last_that, Lines, Position, Span, Terms, Text, text_at}
use Rattle.lsp_trail.specs.Common.{text_extent, Units, Version}
use Rattle.lsp_text.specs.Places.{place_of}
use Rattle.lsp_notes.specs.declared.texts_since.Stretch.{Stretch}
use Rattle.lsp_trail.specs.declared.mark.VersionEvent.{VersionEvent}

-- ---- its texts

-- this message came before the event of this place
abbrev pub is_set_before : EventPlace → VersionEvent → Bool
is_set_before p setter = nat_lt setter.place.event p.event

-- the version that the document had then, by the messages that set its versions
abbrev pub version_at : EventPlace → List VersionEvent → Option ℤ
version_at p setters =
    option_map (λ (s : VersionEvent). s.version) (last_that (is_set_before p) setters)

-- those of these versions that are not below this one
abbrev pub not_below : ℤ → List ℤ → List ℤ
not_below number numbers = filter (λ n. not (int_lt n number)) numbers

abbrev pub numbers_of : List Version → List ℤ
numbers_of versions = map (λ (v : Version). v.number) versions

-- the texts at these versions, where these are kept and held
abbrev pub texts_at : List Version → Option Version → List ℤ → List Text
texts_at kept v numbers = filter_map (λ n. text_at n kept v) numbers

-- those at the versions from this one on, where it is among them
abbrev pub texts_in : List Version → Option Version → ℤ → Option (List Text)
texts_in kept v number =
    if is_some (text_at number kept v)
    then Some (texts_at kept v (not_below number (numbers_of (kept ++ option_to_list v))))
    else None

-- **the texts that the document of this URI had since that event**, where all are kept or held
-- after these calls, and these messages set its versions
abbrev pub texts_since : Terms → Bytes → List Call → List VersionEvent → EventPlace
    → Option (List Text)
texts_since terms uri made setters p =
    option_and_then (texts_in (kept terms uri made) (held terms uri made)) (version_at p setters)

-- ---- a position outside

-- a position is past the end, where the text goes so far; the start of the line after the last is
-- not past it
abbrev pub is_past : Position → Option Extent → Bool
is_past p None = false
is_past p (Some (Units count)) = true
is_past p (Some (Lines count)) = not (p.line == count && p.column == 0)

-- it is past the end, or inside a character
abbrev pub is_outside : Encoding → Position → Text → Bool
is_outside enc p t = is_past p (text_extent enc t p) || is_none (place_of enc t p)

abbrev pub is_outside_each : Encoding → List Text → Position → Bool
is_outside_each enc texts p = list_all (is_outside enc p) texts

abbrev pub ends_of : Option Span → List Position
ends_of None = []
ends_of (Some span) = span.first ∷ span.second ∷ []

-- the positions of edits, in order
abbrev pub positions : List Edit → List Position
positions edits = flat_map (λ (e : Edit). ends_of e.span) edits

-- **the first position of edits that is outside in each of these texts**
abbrev pub first_outside : Encoding → List Text → List Edit → Option Position
first_outside enc texts edits = find (is_outside_each enc texts) (positions edits)

-- ---- edits that overlap

abbrev pub stretch : ℕ → ℕ → Stretch
stretch first second = record { first = first; second = second }

abbrev pub both_places : Option ℕ → Option ℕ → Option Stretch
both_places (Some a) (Some b) = Some (stretch a b)
both_places _ _ = None

-- the places where a range begins and ends, if both positions are outside of characters
abbrev pub stretch_of : Encoding → Text → Option Span → Option Stretch
stretch_of enc t None = None
stretch_of enc t (Some span) = both_places (place_of enc t span.first) (place_of enc t span.second)

abbrev pub stretches : Encoding → List Edit → Text → List Stretch
stretches enc edits t = filter_map (λ (e : Edit). stretch_of enc t e.span) edits

-- each of the two begins before the other ends
abbrev pub overlap : Stretch → Stretch → Bool
overlap a b = nat_lt a.first b.second && nat_lt b.first a.second

-- two of these do
abbrev pub have_overlap : List Stretch → Bool
have_overlap [] = false
have_overlap (s ∷ ss) = list_any (overlap s) ss || have_overlap ss

-- **in each of these texts two of the edits overlap**
abbrev pub overlap_each : Encoding → List Text → List Edit → Bool
overlap_each enc texts edits = list_all (λ t. have_overlap (stretches enc edits t)) texts

-- ---- as they are held

abbrev pub contents : List Counted → List Text
contents texts = map (λ (t : Counted). t.content) texts
