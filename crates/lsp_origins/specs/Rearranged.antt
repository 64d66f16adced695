-- What becomes of the suspects if one of them is left out, if one and the next are exchanged, or if
-- the ranges of one are all taken in the text before it.
use Rattle.std.specs.Prelude.{ℕ, ℤ, ◌+◌, ◌==◌, ◌&&◌, ◌||◌, nat_lt, not, Bool, true, false, List, []}
use Rattle.std.specs.Prelude.{◌∷◌, codes, map, reverse, slice_get, slice_range, Option, Some, None}
use Rattle.std.specs.Prelude.{if◌then◌else◌, option_and_then, option_map, option_to_list, unwrap_or}
use Rattle.std.specs.List.{enumerate_from, find, flat_map, fold, insert, prefix_len, replace_range}
use Rattle.lsp_trail.specs.Common.{Edit, EventPlace, is_set_to, Position, sent_edits, SentEdits}
use Rattle.lsp_trail.specs.Common.{Span}
use Rattle.lsp_facts.specs.Fact.{Fact, version_by}
use Rattle.lsp_origins.specs.declared.rearranged.Way.{Way}
use Rattle.lsp_origins.specs.declared.rearranged.Way.TheVariants.{AtOnce, Exchanged, Without}
use Rattle.lsp_trail.specs.declared.mark.VersionEvent.{VersionEvent}

-- ---- the changes of a message, taken at once

abbrev pub is_before : Position → Position → Bool
is_before a b = nat_lt a.line b.line || (a.line == b.line && nat_lt a.column b.column)

-- the range of a message's first change, if it has one
abbrev pub range_in : SentEdits → Option Span
range_in s = option_and_then (λ (e : Edit). e.span) (slice_get s.edits 0)

-- it begins behind the other one
abbrev pub is_behind : Option Span → Option Span → Bool
is_behind (Some later) (Some earlier) = is_before earlier.first later.first
is_behind _ _ = false

-- it ends where the other one begins, or before
abbrev pub is_clear : Option Span → Option Span → Bool
is_clear (Some earlier) (Some later) = not (is_before later.first earlier.second)
is_clear _ _ = false

abbrev pub begins_behind : SentEdits → SentEdits → Bool
begins_behind later earlier = is_behind (range_in later) (range_in earlier)

-- the next one ends where this one begins, or before, if there is a next one
abbrev pub is_clear_of : SentEdits → List SentEdits → Bool
is_clear_of s more =
    unwrap_or (option_map (λ (next : SentEdits). is_clear (range_in next) (range_in s))
    (slice_get more 0)) true

-- no range reaches into the one before it in the list
abbrev pub are_apart : List SentEdits → Bool
are_apart [] = true
are_apart (s ∷ more) = is_clear_of s more && are_apart more

-- a change as a message of its own
abbrev pub alone : ℤ → Edit → SentEdits
alone number edit = sent_edits number (edit ∷ [])

-- one of them more, in front of those that do not begin behind it
abbrev pub put_in : List SentEdits → SentEdits → List SentEdits
put_in parts part = insert parts (prefix_len (λ other. begins_behind other part) parts) part

-- the changes of a message, each as one of its own: the one that begins last in the text comes
-- first, and of those that begin at one place the last
abbrev pub backwards : SentEdits → List SentEdits
backwards s = fold put_in [] (map (alone s.number) s.edits)

-- **a message whose ranges are all taken in the text before it**, where they do not overlap: what
-- is changed further back moves no range
abbrev pub at_once : SentEdits → List SentEdits
at_once s = if are_apart (backwards s) then backwards s else s ∷ []

-- ---- the messages otherwise than they were sent

-- how many of them
abbrev pub width : Way → ℕ
width Exchanged = 2
width _ = 1

-- what is in their place
abbrev pub instead : Way → List SentEdits → List SentEdits
instead AtOnce part = flat_map at_once part
instead Exchanged part = reverse part
instead Without part = []

-- **the messages, of which the one at this place is taken in this way**
abbrev pub rearranged : Way → ℕ → List SentEdits → List SentEdits
rearranged way i sent =
    replace_range sent i (i + width way) (instead way (slice_range sent i (i + width way)))

-- some messages pass the test
abbrev pub some_give : (List SentEdits → Bool) → List SentEdits → Bool
some_give gives [] = false
some_give gives (s ∷ more) = gives (s ∷ more)

-- **the first message with which they do, if it is taken in this way**
abbrev pub first_so : (List SentEdits → Bool) → Way → List SentEdits → Option SentEdits
first_so gives way sent =
    option_map (λ (p : ℕ × SentEdits). p.1)
    (find (λ (p : ℕ × SentEdits). some_give gives (rearranged way p.0 sent))
    (enumerate_from 0 sent))

-- ---- the line

abbrev pub way_name : Way → List ℕ
way_name AtOnce = codes "at-once"
way_name Exchanged = codes "exchanged"
way_name Without = codes "without"

-- the event of these that set this version
abbrev pub place_in : List VersionEvent → ℤ → Option EventPlace
place_in setters number =
    option_map (λ (s : VersionEvent). s.place) (find (is_set_to number) setters)

-- the message that set a version, by its event, if that is known
abbrev pub named : List ℕ → List VersionEvent → Option ℤ → List Fact
named key setters None = []
named key setters (Some number) =
    option_to_list (option_map (version_by key number) (place_in setters number))

-- **the first message with which they give the text, if it is taken in this way**
abbrev pub rearranged_facts : (List SentEdits → Bool) → List VersionEvent → List SentEdits → Way
    → List Fact
rearranged_facts gives setters sent way =
    named (way_name way) setters
    (option_map (λ (s : SentEdits). s.number) (first_so gives way sent))
