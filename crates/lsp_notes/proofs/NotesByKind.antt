-- The notes of each kind: each is a line of its own, which begins with `note `.
use Rattle.std.proofs.Common.{◌+◌, ℕ, ℤ, Bool, true, false, ◌==◌, List, [], ◌∷◌, ◌++◌, map, Option}
use Rattle.std.proofs.Common.{Some, None, refl}
use Rattle.std.specs.Prelude.{codes, decimal, is_some, option_and_then, option_map, if◌then◌else◌}
use Rattle.std.specs.Fmt.{signed_decimal}
use Rattle.std.specs.List.{filter_map, flat_map}
use Rattle.json.specs.Print.{quoted}
use Rattle.lsp_trail.specs.Common.{bad_log, Bytes, Call, changes, closes, each_from, Encoding}
use Rattle.lsp_trail.specs.Common.{encoding_name, Event, EventPlace, Extent, Heard, heard_events}
use Rattle.lsp_trail.specs.Common.{held, kept, kept_of, last_setter, last_that, line, Lines}
use Rattle.lsp_trail.specs.Common.{Misused, misuses, no, numbered, on_document, OnDocument, opens}
use Rattle.lsp_trail.specs.Common.{place_of, Position, recent, renamed, rule_at, said_at, saves}
use Rattle.lsp_trail.specs.Common.{sent_of, shows, steps, Terms, Units, Utf16, Utf32, Utf8, Verdict}
use Rattle.lsp_trail.specs.Common.{yes}
use Rattle.lsp_facts.specs.Fact.{Fact, place_words, position_words, spaced}
use Rattle.lsp_text.specs.declared.findings.OtherLength.{OtherLength}
use Rattle.lsp_text.specs.declared.findings.PastEnd.{PastEnd}
use Rattle.lsp_notes.specs.AllNotes.{AreNotes, IsNote, kinds, noticed_along, counts, exit_along}
use Rattle.lsp_notes.specs.AllNotes.{found_along, notes_at, sound_events}
use Rattle.lsp_notes.specs.DocumentNotes.{DocumentNote, document_note, first_notes}
use Rattle.lsp_notes.specs.LateEdits.{LateAnswer, is_since, late_words, made_late, words_if_late}
use Rattle.lsp_notes.specs.LateEdits.{words_since}
use Rattle.lsp_notes.specs.Misfits.{extent_words, fitting_words, past_end_in, past_end_words}
use Rattle.lsp_notes.specs.Misfits.{past_ends, range_length_in, range_length_words, range_lengths}
use Rattle.lsp_notes.specs.Misfits.{Found, fitting}
use Rattle.lsp_notes.specs.Notes.{exit_notes, misuse_key, misuse_line, name_notes, name_of}
use Rattle.lsp_notes.specs.Notes.{old_name_notes, uncompared, unshown_line}
use Rattle.lsp_notes.specs.Refusals as refusing
use Rattle.lsp_notes.specs.Refusals.{refusal_at, refusal_by, refusals, refused_document}
use Rattle.lsp_notes.specs.Refusals.{refused_words, refuses}
use Rattle.lsp_notes.specs.ServerEdits as serving
use Rattle.lsp_notes.specs.ServerEdits.{Edited, all_noted, late_at, late_by, lates, noted_at}
use Rattle.lsp_notes.specs.ServerEdits.{outside_in, outside_note, outside_words, outsides}
use Rattle.lsp_notes.specs.ServerEdits.{if_unsent, overlap_in, overlap_note, overlaps, unsent_note}
use Rattle.lsp_notes.specs.ServerEdits.{unsents, calls_with, encoding_with, last_answers, sight_of}
use Rattle.lsp_notes.specs.Spellings.{other_spelling, similar_note, similar_words, spelling_at}
use Rattle.lsp_notes.specs.Spellings.{spelling_by, spelling_note, spellings, unopened_at}
use Rattle.lsp_notes.specs.TextsSince.{version_at, first_outside, overlap_each}
use Rattle.lsp_notes.specs.Unsent.{is_unsent, unsent_words}
use Rattle.lsp_trail.specs.declared.mark.VersionEvent.{VersionEvent}
use Rattle.lsp_trail.specs.declared.misuses.Misuse.{Misuse}
use Rattle.lsp_trail.specs.declared.misuses.Misuse.TheVariants.{AsRequest, AsNotification}
use Rattle.lsp_trail.specs.declared.misuses.Misuse.TheVariants.{ByEditor, ByServer}
use Rattle.lsp_notes.proofs.NoteLines.{AreDue, AreWords, BeginsNote, Holds, IsDue, IsWord, begins}
use Rattle.lsp_notes.proofs.NoteLines.{decimal_word, due_each, due_filter, due_first, due_flat}
use Rattle.lsp_notes.proofs.NoteLines.{due_lines, flat_word, holds_each, holds_if, holds_map}
use Rattle.lsp_notes.proofs.NoteLines.{holds_then, holds_unless, joined, note_line, notes_beyond}
use Rattle.lsp_notes.proofs.NoteLines.{notes_map, notes_of_option, place_are, quoted_word}
use Rattle.lsp_notes.proofs.NoteLines.{signed_word}

-- ---- the words of each kind

position_word : (p : Position) → IsWord (position_words p)
position_word p =
    joined (spaced (decimal p.line)) (spaced (decimal p.column)) (decimal_word p.line)
    (decimal_word p.column)

extent_word : (e : Extent) → IsWord (extent_words e)
extent_word (Units n) = joined (spaced (codes "length")) (spaced (decimal n)) refl (decimal_word n)
extent_word (Lines n) = joined (spaced (codes "lines")) (spaced (decimal n)) refl (decimal_word n)

past_end_due : (x : PastEnd) → BeginsNote (past_end_words x)
past_end_due x =
    begins (codes "past-end" ++ position_words x.position ++ extent_words x.extent)
    (joined (codes "past-end" ++ position_words x.position) (extent_words x.extent)
    (joined (codes "past-end") (position_words x.position) refl (position_word x.position))
    (extent_word x.extent))

encoding_word : (e : Encoding) → IsWord (spaced (encoding_name (Some e)))
encoding_word Utf8 = refl
encoding_word Utf16 = refl
encoding_word Utf32 = refl

fitting_word : (es : List Encoding) → IsWord (fitting_words es)
fitting_word [] = refl
fitting_word (e ∷ es) =
    joined (spaced (codes "fits")) (flat_map (λ e. spaced (encoding_name (Some e))) (e ∷ es)) refl
    (flat_word (λ e. spaced (encoding_name (Some e))) encoding_word (e ∷ es))

range_length_due : (enc : Encoding) (x : OtherLength) → BeginsNote (range_length_words enc x)
range_length_due enc x = record {
  rest = _;
  is = refl;
  one_line =
      joined (codes "range-length" ++ spaced (signed_decimal x.sent) ++ spaced (codes "length")
      ++ spaced (decimal _)) (fitting_words (fitting x))
      (joined (codes "range-length" ++ spaced (signed_decimal x.sent) ++ spaced (codes "length"))
      (spaced (decimal _))
      (joined (codes "range-length" ++ spaced (signed_decimal x.sent)) (spaced (codes "length"))
      (joined (codes "range-length") (spaced (signed_decimal x.sent)) refl (signed_word x.sent))
      refl) (decimal_word _))
      (fitting_word (fitting x));
}

past_ends_due : (found : List Found) → AreDue (past_ends found)
past_ends_due found =
    due_first (filter_map past_end_in found) (due_filter past_end_in
    (λ f. holds_each IsDue (λ x. document_note f.on (past_end_words x)) f.findings.past_end
    past_end_due) found)

range_lengths_due : (found : List Found) → AreDue (range_lengths found)
range_lengths_due found =
    due_first (filter_map range_length_in found) (due_filter range_length_in
    (λ f. holds_each IsDue (λ x. document_note f.on (range_length_words f.encoding x))
    f.findings.range_length (range_length_due f.encoding)) found)

refused_due : (uri : List ℕ) → BeginsNote (refused_words uri)
refused_due uri =
    begins (codes "refused -32602 " ++ quoted uri)
    (joined (codes "refused -32602 ") (quoted uri) refl (quoted_word uri))

-- at an event that is kept
due_kept : {X : Type 0} (t : Bool) (f : X → Option DocumentNote) (o : Option X)
    → ((x : X) → Holds IsDue (f x)) → Holds IsDue (if t then None else option_and_then f o)
due_kept t f o each =
    holds_unless IsDue t (option_and_then f o) (holds_then IsDue f o each)

refusal_due : (terms : Terms) (before : List Event) (event : Event)
    → Holds IsDue (refusal_at terms before event)
refusal_due terms before event =
    let p = place_of before event in
    due_kept (is_some (rule_at terms before event)) (refusal_by terms before p) (sent_of event)
    (λ m. holds_each IsDue (refusing.note_on p)
    (option_and_then (refused_document terms before) (refuses m.side m.message)) refused_due)

refusals_due : (terms : Terms) (events : List Event) → AreDue (refusals terms events)
refusals_due terms events =
    due_first (each_from (refusal_at terms) [] events)
    (due_each (refusal_at terms) (refusal_due terms) [] events)

similar_due : (uri other : List ℕ) → BeginsNote (similar_words uri other)
similar_due uri other =
    begins (codes "similar " ++ quoted uri ++ spaced (quoted other))
    (joined (codes "similar " ++ quoted uri) (spaced (quoted other))
    (joined (codes "similar ") (quoted uri) refl (quoted_word uri)) (quoted_word other))

spelling_due : (terms : Terms) (before : List Event) (event : Event)
    → Holds IsDue (spelling_at terms before event)
spelling_due terms before event =
    let p = place_of before event in
    due_kept (is_some (rule_at terms before event)) (spelling_by terms before p) (sent_of event)
    (λ m. holds_then IsDue (spelling_note terms before p)
    (unopened_at terms (kept_of terms before) m)
    (λ uri. holds_each IsDue (similar_note p uri) (other_spelling terms before uri)
    (λ (other : OnDocument). similar_due uri other.uri)))

spellings_due : (terms : Terms) (events : List Event) → AreDue (spellings terms events)
spellings_due terms events =
    due_first (each_from (spelling_at terms) [] events)
    (due_each (spelling_at terms) (spelling_due terms) [] events)

outside_due : (p : Position) → BeginsNote (outside_words p)
outside_due p =
    begins (codes "outside" ++ position_words p)
    (joined (codes "outside") (position_words p) refl (position_word p))

unsent_due : (v : ℤ) → BeginsNote (unsent_words v)
unsent_due v =
    begins (codes "unsent " ++ signed_decimal v)
    (joined (codes "unsent ") (signed_decimal v) refl (signed_word v))

-- those on what the server sends
noted_due : (f : Terms → List Event → Event → EventPlace → Edited → Option DocumentNote)
    → ((terms : Terms) (before : List Event) (event : Event) (p : EventPlace) (e : Edited)
    → Holds IsDue (f terms before event p e))
    → (terms : Terms) (events : List Event) → AreDue (first_notes (all_noted f terms events))
noted_due f each terms events =
    due_first (all_noted f terms events) (due_flat (noted_at f terms)
    (λ before event. due_filter _ (λ e. each terms before event _ e) _) [] events)

-- the words on what is looked at in an edit
seen_due : {X : Type 0} (e : Edited) (p : EventPlace) (f : X → Option (List ℕ)) (o : Option X)
    → ((x : X) → Holds BeginsNote (f x))
    → Holds IsDue (option_map (serving.note_on e p) (option_and_then f o))
seen_due e p f o each =
    holds_map BeginsNote IsDue (serving.note_on e p) (option_and_then f o)
    (holds_then BeginsNote f o each) (λ words due. due)

outsides_due : (terms : Terms) (events : List Event) → AreDue (outsides terms events)
outsides_due =
    noted_due outside_note (λ terms before event p e.
    let enc = encoding_with terms before event in
    seen_due e p (outside_in enc) (sight_of terms before event e)
    (λ s. holds_each BeginsNote outside_words (first_outside enc s.texts s.edits) outside_due))

overlaps_due : (terms : Terms) (events : List Event) → AreDue (overlaps terms events)
overlaps_due =
    noted_due overlap_note (λ terms before event p e.
    let enc = encoding_with terms before event in
    seen_due e p (overlap_in enc) (sight_of terms before event e)
    (λ s. holds_if BeginsNote (overlap_each enc s.texts s.edits) (codes "note overlap")
    (begins (codes "overlap") refl)))

unsents_due : (terms : Terms) (events : List Event) → AreDue (unsents terms events)
unsents_due =
    noted_due unsent_note (λ terms before event p e.
    seen_due e p (if_unsent terms before e.uri) e.version
    (λ v. holds_if BeginsNote (is_unsent terms before e.uri v) (unsent_words v) (unsent_due v)))

spaced_places : (ws : List (List ℕ)) → AreWords ws → IsWord (flat_map spaced ws)
spaced_places [] c = refl
spaced_places (w ∷ ws) c = joined (spaced w) (flat_map spaced ws) c.0 (spaced_places ws c.1)

words_append : (vs ws : List (List ℕ)) → AreWords vs → AreWords ws → AreWords (vs ++ ws)
words_append [] ws a b = b
words_append (v ∷ vs) ws a b = (a.0, words_append vs ws a.1 b)

late_due : (a : LateAnswer) → BeginsNote (late_words a)
late_due a =
    let places = place_words a.asked ++ place_words a.answered in
    begins (codes "late-edits" ++ flat_map spaced places)
    (joined (codes "late-edits") (flat_map spaced places) refl (spaced_places places
    (words_append (place_words a.asked) (place_words a.answered) (place_are a.asked)
    (place_are a.answered))))

-- where some test says so of a version
late_if : {X : Type 0} (test : X → Bool) (a : LateAnswer) (o : Option X)
    → Holds BeginsNote (option_and_then (λ x. if test x then Some (late_words a) else None) o)
late_if test a o =
    holds_then BeginsNote (λ x. if test x then Some (late_words a) else None) o
    (λ x. holds_if BeginsNote (test x) (late_words a) (late_due a))

words_due : (terms : Terms) (made : List Call) (uri : Bytes) (enc : Encoding)
    (setters : List VersionEvent) (answers : List LateAnswer)
    → Holds BeginsNote (words_since terms made uri enc setters answers)
words_due terms made uri enc setters answers =
    holds_then BeginsNote (λ setter. option_and_then
    (words_if_late terms made uri enc setters setter) (last_that (is_since uri setter) answers))
    (last_setter setters)
    (λ setter. holds_then BeginsNote (words_if_late terms made uri enc setters setter)
    (last_that (is_since uri setter) answers)
    (λ a. late_if (λ older. made_late enc a.edits older setter.version
    (kept terms uri made) (held terms uri made)) a (version_at a.asked setters)))

late_by_due : (terms : Terms) (before : List Event) (made : List Call) (p : EventPlace) (call : Call)
    → Holds IsDue (late_by terms before made p call)
late_by_due terms before made p (changes enc kind uri number cs) =
    let setters = recent (steps terms uri before) in
    let answers = last_answers terms before in
    holds_map BeginsNote IsDue (document_note (on_document uri p))
    (words_since terms made uri enc setters answers)
    (words_due terms made uri enc setters answers) (λ words due. due)
late_by_due terms before made p _ = tt

late_at_due : (terms : Terms) (before : List Event) (event : Event)
    → Holds IsDue (late_at terms before event)
late_at_due terms before event =
    let made = calls_with terms before event in
    let p = place_of before event in
    due_kept (is_some (rule_at terms before event)) (late_by terms before made p)
    (said_at terms before event) (late_by_due terms before made p)

lates_due : (terms : Terms) (events : List Event) → AreDue (lates terms events)
lates_due terms events =
    due_first (each_from (late_at terms) [] events)
    (due_each (late_at terms) (late_at_due terms) [] events)

-- ---- the notes on a session

misuse_due : (m : Misuse) → BeginsNote (misuse_key m)
misuse_due AsRequest = begins (codes "as-request") refl
misuse_due AsNotification = begins (codes "as-notification") refl
misuse_due ByEditor = begins (codes "by-editor") refl
misuse_due ByServer = begins (codes "by-server") refl

misuse_note : (x : Misused) → IsNote (misuse_line x)
misuse_note x =
    note_line (misuse_key x.misuse) (quoted x.method ∷ place_words x.place) (misuse_due x.misuse)
    (quoted_word x.method, place_are x.place)

exit_note : (o : Option EventPlace) → AreNotes (exit_notes o)
exit_note =
    notes_of_option _ (λ p. note_line (codes "note exit-without-shutdown") (place_words p)
    (begins (codes "exit-without-shutdown") refl) (place_are p))

name_note : (o : Option (List ℕ)) → AreNotes (name_notes o)
name_note =
    notes_of_option _ (λ own. note_line (codes "note offset-encoding") (quoted own ∷ [])
    (begins (codes "offset-encoding") refl) (quoted_word own, tt))

old_name_note : (o : Option OnDocument) → AreNotes (old_name_notes o)
old_name_note =
    notes_of_option _ (λ (x : OnDocument). note_line (codes "note renamed")
    (quoted x.uri ∷ place_words x.place) (begins (codes "renamed") refl)
    (quoted_word x.uri, place_are x.place))

unshown_note : (uri : List ℕ) → IsNote (unshown_line uri)
unshown_note uri =
    note_line (codes "note no-snapshot") (quoted uri ∷ []) (begins (codes "no-snapshot") refl)
    (quoted_word uri, tt)

nothing_compared : AreNotes (line (codes "note" ∷ codes "nothing-compared" ∷ []) ∷ [])
nothing_compared =
    (record { words = codes "nothing-compared"; is = refl; one_line = refl }, tt)

either_notes : (t : Bool) (xs ys : List Fact) → AreNotes xs → AreNotes ys
    → AreNotes (if t then xs else ys)
either_notes true xs ys a b = a
either_notes false xs ys a b = b

-- those that only the end knows
pub uncompared_notes : (v : Verdict) (unshown : List (List ℕ)) → AreNotes (uncompared v unshown)
uncompared_notes (yes s) unshown =
    either_notes (s.snapshots == s.unmatched)
    (line (codes "note" ∷ codes "nothing-compared" ∷ []) ∷ []) (map unshown_line unshown)
    nothing_compared (notes_map unshown_line unshown_note unshown)
uncompared_notes _ unshown = tt

-- **those that are found at an event**
pub notes_found : (terms : Terms) (before : List Heard) (h : Heard)
    → AreNotes (notes_at terms before h)
notes_found terms before h =
    let all = before ++ h ∷ [] in
    let found = found_along terms all in
    let events = heard_events all in
    let sound = sound_events terms all in
    notes_beyond (counts (kinds (noticed_along terms before))) (kinds (noticed_along terms all)) (
      notes_map misuse_line misuse_note (misuses (numbered terms events)),
      (
        exit_note (exit_along terms all),
        (
          name_note (name_of (numbered terms events)),
          (
            old_name_note (renamed (numbered terms events)),
            (
              due_lines (past_ends found) (past_ends_due found),
              (
                due_lines (range_lengths found) (range_lengths_due found),
                (
                  due_lines (refusals terms events) (refusals_due terms events),
                  (
                    due_lines (spellings terms events) (spellings_due terms events),
                    (
                      due_lines (lates terms sound) (lates_due terms sound),
                      (
                        due_lines (outsides terms sound) (outsides_due terms sound),
                        (
                          due_lines (overlaps terms sound) (overlaps_due terms sound),
                          (due_lines (unsents terms sound) (unsents_due terms sound), tt),
                        ),
                      ),
                    ),
                  ),
                ),
              ),
            ),
          ),
        ),
      ),
    )
