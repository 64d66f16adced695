-- What of the changes of documents does not fit the text that they are made in, though it breaks no
-- rule.
use Rattle.std.specs.Prelude.{◌≡◌, ℕ, pos, List, [], ◌∷◌, ◌++◌, filter, ◌==◌, Bool, if◌then◌else◌}
use Rattle.std.specs.Prelude.{Option, Some, None, option_map, option_and_then, codes, decimal}
use Rattle.std.specs.Fmt.{signed_decimal}
use Rattle.std.specs.List.{cons_option, filter_map, flat_map}
use Rattle.std.specs.Ordering.{int_eq}
use Rattle.lsp_trail.specs.Common.{Call, call_at, calls, changes, each_kept, Encoding}
use Rattle.lsp_trail.specs.Common.{encoding_name, Event, EventPlace, Extent, Findings, held}
use Rattle.lsp_trail.specs.Common.{kept_as, kept_of, Lines, on_document, OnDocument, place_of}
use Rattle.lsp_trail.specs.Common.{Terms, Units, Utf16, Utf32, Utf8}
use Rattle.lsp_types.specs.declared.rules.TheConstants as rules
use Rattle.lsp_text.specs.Findings.{nothing}
use Rattle.lsp_text.specs.declared.findings.PastEnd.{PastEnd}
use Rattle.lsp_text.specs.declared.findings.OtherLength.{OtherLength}
use Rattle.lsp_docs.specs.Taken.{found_on}
use Rattle.lsp_facts.specs.Fact.{position_words, spaced}
use Rattle.lsp_notes.specs.DocumentNotes.{DocumentNote, document_note}
use Rattle.lsp_notes.specs.DocumentNotes.{first_notes, notes_view, with_note}
use Rattle.lsp_notes.specs.declared.misfits.Misfits as code

-- ---- what changes find

-- what the changes of a document find, by the event of this place, in which columns and lengths are
-- counted so
pub record Found : Type 0 where
  pub on : OnDocument
  pub encoding : Encoding
  pub findings : Findings

-- what the changes of a call find in what is held after these
abbrev pub findings_of : Terms → List Call → Call → Findings
findings_of terms before (changes enc kind uri number cs) =
    found_on terms.limit enc (held terms uri before) cs
findings_of terms before _ = nothing

-- these are what a call finds, the event of this place, if it changes its document
abbrev pub finds : EventPlace → Call → Findings → Option Found
finds p (changes enc kind uri number cs) findings =
    Some (record { on = on_document uri p; encoding = enc; findings = findings })
finds p _ findings = None

abbrev pub call_found : Terms → EventPlace → List Call → Call → Option Found
call_found terms p before c = finds p c (findings_of terms before c)

abbrev pub event_found : Terms → EventPlace → List Event → Event → Option Found
event_found terms p before event =
    option_and_then (call_found terms p (calls before)) (call_at before event)

-- **what the changes find that are kept**
abbrev pub found_kept : Terms → List Event → List Found
found_kept terms events = each_kept (event_found terms) terms events

-- what those of one event find, if it is kept
abbrev pub kept_found : Terms → List Event → Event → List Found
kept_found terms before event = cons_option (kept_as (event_found terms) terms before event) []

-- **what those find that break 702**: they can be made, and are refuted by a snapshot
abbrev pub found_refuted : Terms → List Event → Event → ℕ → List Found
found_refuted terms before event rule =
    if rule == rules.SNAPSHOT_DIFFERS
    then cons_option (event_found terms (place_of before event) (kept_of terms before) event) []
    else []

-- ---- a position past the end

-- how long the line is that is too short, or how many lines there are where it is none of them
abbrev pub extent_words : Extent → List ℕ
extent_words (Units count) = spaced (codes "length") ++ spaced (decimal count)
extent_words (Lines count) = spaced (codes "lines") ++ spaced (decimal count)

abbrev pub past_end_words : PastEnd → List ℕ
past_end_words x = codes "note past-end" ++ position_words x.position ++ extent_words x.extent

abbrev pub past_end_in : Found → Option DocumentNote
past_end_in f = option_map (λ x. document_note f.on (past_end_words x)) f.findings.past_end

-- **of each document the first position past the end**
abbrev pub past_ends : List Found → List DocumentNote
past_ends found = first_notes (filter_map past_end_in found)

-- ---- a range's length that is not that of its text

-- how long the text is
abbrev pub length_in : Encoding → OtherLength → ℕ
length_in Utf8 x = x.utf8
length_in Utf16 x = x.utf16
length_in Utf32 x = x.utf32

-- what was sent is its length in this encoding
abbrev pub fits_in : OtherLength → Encoding → Bool
fits_in x enc = int_eq x.sent (pos (length_in enc x))

abbrev pub fitting : OtherLength → List Encoding
fitting x = filter (fits_in x) (Utf8 ∷ Utf16 ∷ Utf32 ∷ [])

-- the encodings in which it fits, where there are any
abbrev pub fitting_words : List Encoding → List ℕ
fitting_words [] = []
fitting_words (enc ∷ encs) =
    spaced (codes "fits") ++ flat_map (λ e. spaced (encoding_name (Some e))) (enc ∷ encs)

abbrev pub range_length_words : Encoding → OtherLength → List ℕ
range_length_words enc x =
    codes "note range-length" ++ spaced (signed_decimal x.sent) ++ spaced (codes "length")
    ++ spaced (decimal (length_in enc x)) ++ fitting_words (fitting x)

abbrev pub range_length_in : Found → Option DocumentNote
range_length_in f =
    option_map (λ x. document_note f.on (range_length_words f.encoding x)) f.findings.range_length

-- **of each document the first `rangeLength` that is not the length of its range**
abbrev pub range_lengths : List Found → List DocumentNote
range_lengths found = first_notes (filter_map range_length_in found)

-- ---- as they are held

-- **it is what these findings leave of it**
pub record AreMisfits (m : code.Misfits) (found : List Found) : Type 0 where
  pub past_ends_are : notes_view m.past_ends.items ≡ past_ends found
  pub range_lengths_are : notes_view m.range_lengths.items ≡ range_lengths found

-- what one call more finds
pub record MisfitsBy (more : Option Found) (old new : code.Misfits) : Type 0 where
  pub past_ends_more : notes_view new.past_ends.items
      ≡ with_note (notes_view old.past_ends.items) (option_and_then past_end_in more)
  pub range_lengths_more : notes_view new.range_lengths.items
      ≡ with_note (notes_view old.range_lengths.items) (option_and_then range_length_in more)
