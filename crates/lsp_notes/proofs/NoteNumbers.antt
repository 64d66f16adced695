-- How many notes there are: of no kind fewer with one event more, and so those that are found at
-- the events are all.
use Rattle.std.specs.Prelude.{◌≤◌, ◌+◌, ◌-◌, ◌&&◌, ◌||◌, not, drop, length, map, take}
use Rattle.std.specs.Prelude.{if◌then◌else◌, is_some, option_and_then, option_map, unwrap_or}
use Rattle.std.specs.List.{cons_option, filter_map}
use Rattle.std.specs.Option.{option_or}
use Rattle.std.proofs.Common.{◌≡◌, ℕ, Bool, true, false, List, [], ◌∷◌, ◌++◌, Option, Some, None}
use Rattle.std.proofs.Common.{refl, sym, ap, subst, ◌∙◌, arith, append_assoc, append-nil}
use Rattle.std.proofs.lemmas.Bool.{or_parts}
use Rattle.std.proofs.lemmas.List.{length-append, length-drop, length-map, length-take, map-append}
use Rattle.std.proofs.lemmas.List.Elements.{filter_map-append}
use Rattle.std.proofs.lemmas.List.Folds.{list_any-append}
use Rattle.lsp_trail.specs.Common.{abrupt_exit, each_from, each_of, Event, EventPlace, Exited}
use Rattle.lsp_trail.specs.Common.{first_from, first_of, Heard, heard_events, is_shutdown, kept_as}
use Rattle.lsp_trail.specs.Common.{last_or, Misused, misuses, Numbered, numbered, OnDocument, phase}
use Rattle.lsp_trail.specs.Common.{renamed, rule_of, same_phase, Sent, sents, Terms, Verdict}
use Rattle.lsp_facts.specs.Fact.{Fact}
use Rattle.lsp_replay.proofs.Seeing.{events-push}
use Rattle.lsp_session.specs.Handshake.{Settled, first_settled, is_done, is_waiting, was_sent}
use Rattle.lsp_session.specs.Negotiation.{agreed_at}
use Rattle.lsp_session.specs.Sent.{is_exit, is_initialized, sends}
use Rattle.lsp_session.proofs.Steps.{first_settled_from-push}
use Rattle.lsp_session.specs.declared.phase.Phase.{Phase}
use Rattle.lsp_session.specs.declared.phase.Phase.TheVariants.{Fresh, Waiting, Answered, Ready}
use Rattle.lsp_session.specs.declared.phase.Phase.TheVariants.{Stopping}
use Rattle.lsp_verdict.proofs.LookBackLemmas.{each_from-append, each_of-snoc, first_of-append}
use Rattle.lsp_verdict.proofs.Offences.Steps.{last_behind}
use Rattle.lsp_notes.specs.AllNotes.{asks_shutdown, beyond, counts, exit_along, found_along}
use Rattle.lsp_notes.specs.AllNotes.{found_more, has_exited, is_broken, is_shutdown_refused, kinds}
use Rattle.lsp_notes.specs.AllNotes.{notes_at, noticed_along, sound_events, sound_from}
use Rattle.lsp_trail.specs.Asking.{message_kept}
use Rattle.lsp_notes.specs.DocumentNotes.{DocumentNote, document_line, first_notes, if_first}
use Rattle.lsp_notes.specs.DocumentNotes.{most_noted}
use Rattle.lsp_notes.specs.Misfits.{Found, past_end_in, past_ends, range_length_in, range_lengths}
use Rattle.lsp_notes.specs.Notes.{Noticed, exit_notes, misuse_line, name_notes, name_of, notes_by}
use Rattle.lsp_notes.specs.Notes.{old_name_notes, other_name, uncompared}
use Rattle.lsp_notes.specs.Refusals.{refusal_at, refusals}
use Rattle.lsp_trail.specs.Renames.{renamed_at}
use Rattle.lsp_notes.specs.ServerEdits.{all_noted, flat_from, late_at, lates, noted_at}
use Rattle.lsp_notes.specs.ServerEdits.{outside_note, outsides, overlap_note, overlaps}
use Rattle.lsp_notes.specs.ServerEdits.{unsent_note, unsents}
use Rattle.lsp_trail.specs.SessionNotes.{abrupt, abrupt_by, is_abrupt}
use Rattle.lsp_trail.specs.SessionNotes.{misuse_at, misuses_after, older_in, with_misuse}
use Rattle.lsp_trail.specs.SessionNotes.{has_method}
use Rattle.lsp_notes.specs.Spellings.{spelling_at, spellings}
use Rattle.lsp_notes.proofs.NotedSteps.{all_added, found_along-push, joined, refused-push}
use Rattle.lsp_notes.proofs.NotedSteps.{sound-push}
use Rattle.lsp_trail.proofs.SessionSteps.{sents-numbered}

least : (n : ℕ) → 0 ≤ n
least n = omega arith

as_many : (n : ℕ) → n ≤ n
as_many n = omega arith

-- ---- kinds of notes, of each of which there are no fewer

-- how many there are of all kinds
abbrev pub total : List (List Fact) → ℕ
total [] = 0
total (notes ∷ lists) = length notes + total lists

-- there are no fewer of the same kind
abbrev Grows : List Fact → List Fact → Type 0
Grows old new = length old ≤ length new

abbrev AllGrow : List (List Fact) → List (List Fact) → Type 0
AllGrow [] [] = Unit {0}
AllGrow (old ∷ olds) (new ∷ news) = Grows old new × AllGrow olds news
AllGrow _ _ = ⊥

beyond-total : (olds news : List (List Fact)) → AllGrow olds news
    → length (beyond (counts olds) news) + total olds ≡ total news
beyond-total [] [] g = refl
beyond-total (old ∷ olds) (new ∷ news) g =
    let n = length old in
    let left = beyond (counts olds) news in
    ap (λ k. k + (n + total olds)) (length-append (drop n new) left)
    ∙ sum n (length new) (length (drop n new)) (length left) (total olds) (total news) g.0
    (length-drop n new) (beyond-total olds news g.1)
  where
    sum : (n m d b t u : ℕ) → n ≤ m → d ≡ m - n → b + t ≡ u → (d + b) + (n + t) ≡ m + u
    sum n m d b t u less is rest = omega (arith, less, is, rest)
beyond-total _ _ g = absurd g

-- those of all kinds are all
length-joined : (lists : List (List Fact)) → length (joined lists) ≡ total lists
length-joined [] = refl
length-joined (notes ∷ lists) =
    length-append notes (joined lists) ∙ ap (λ k. length notes + k) (length-joined lists)

-- ---- notes on documents

mapped : {X : Type 0} (f : X → Fact) (xs ys : List X) → length xs ≤ length ys
    → Grows (map f xs) (map f ys)
mapped f xs ys more = omega (arith, more, length-map xs f, length-map ys f)

taken : {X : Type 0} (n : ℕ) (xs ys : List X) → length (take n xs) ≤ length (take n (xs ++ ys))
taken n xs ys =
    omega (arith, length-take n xs, length-take n (xs ++ ys), length-append xs ys)

first_more : (xs more : List DocumentNote)
    → length (first_notes xs) ≤ length (first_notes (xs ++ more))
first_more xs more =
    subst (λ (l : List DocumentNote). length (first_notes xs) ≤ length (take most_noted l))
    (sym (each_from-append if_first [] xs more))
    (taken most_noted (each_of if_first xs) (each_from if_first xs more))

-- of such lists
documents : (xs more all : List DocumentNote) → all ≡ xs ++ more
    → Grows (map document_line (first_notes xs)) (map document_line (first_notes all))
documents xs more all is =
    mapped document_line (first_notes xs) (first_notes all)
    (subst (λ (l : List DocumentNote). length (first_notes xs) ≤ length (first_notes l)) (sym is)
    (first_more xs more))

-- what changes find
found_more_notes : (note : Found → Option DocumentNote) (found more all : List Found)
    → all ≡ found ++ more
    → Grows (map document_line (first_notes (filter_map note found)))
    (map document_line (first_notes (filter_map note all)))
found_more_notes note found more all is =
    documents (filter_map note found) (filter_map note more) (filter_map note all)
    (ap (filter_map note) is ∙ filter_map-append note found more)

-- what is found at each event
each_more : (f : List Event → Event → Option DocumentNote) (events more all : List Event)
    → all ≡ events ++ more
    → Grows (map document_line (first_notes (each_of f events)))
    (map document_line (first_notes (each_of f all)))
each_more f events more all is =
    documents (each_of f events) (each_from f events more) (each_of f all)
    (ap (each_of f) is ∙ each_from-append f [] events more)

flat_from-append : {A X : Type 0} (f : List A → A → List X) (before xs ys : List A)
    → flat_from f before (xs ++ ys) ≡ flat_from f before xs ++ flat_from f (before ++ xs) ys
flat_from-append f before [] ys = ap (λ b. flat_from f b ys) (sym (append-nil before))
flat_from-append f before (x ∷ xs) ys =
    ap (λ l. f before x ++ l) (flat_from-append f (before ++ x ∷ []) xs ys)
    ∙ sym (append_assoc (f before x) (flat_from f (before ++ x ∷ []) xs)
    (flat_from f ((before ++ x ∷ []) ++ xs) ys))
    ∙ ap (λ b. (f before x ++ flat_from f (before ++ x ∷ []) xs) ++ flat_from f b ys)
    (append_assoc before (x ∷ []) xs)

flat_more : (f : List Event → Event → List DocumentNote) (events more all : List Event)
    → all ≡ events ++ more
    → Grows (map document_line (first_notes (flat_from f [] events)))
    (map document_line (first_notes (flat_from f [] all)))
flat_more f events more all is =
    documents (flat_from f [] events) (flat_from f events more) (flat_from f [] all)
    (ap (flat_from f []) is ∙ flat_from-append f [] events more)

-- ---- calls that are misused

with_misuse-more : (found : List Misused) (x : Misused)
    → length found ≤ length (with_misuse found (Some x))
with_misuse-more found x = by_test (has_method x.method found)
  where
    by_test : (b : Bool) → length found ≤ length (if b then found else found ++ x ∷ [])
    by_test true = as_many (length found)
    by_test false = omega (arith, length-append found (x ∷ []))

after_more : (found xs : List Misused) → length found ≤ length (misuses_after found xs)
after_more found [] = as_many (length found)
after_more found (x ∷ xs) =
    let one = with_misuse-more found x in
    let rest = after_more (with_misuse found (Some x)) xs in
    omega (arith, one, rest)

misuses_after-append : (found xs ys : List Misused)
    → misuses_after found (xs ++ ys) ≡ misuses_after (misuses_after found xs) ys
misuses_after-append found [] ys = refl
misuses_after-append found (x ∷ xs) ys = misuses_after-append (with_misuse found (Some x)) xs ys

misuses_more : (said more all : List Numbered) → all ≡ said ++ more
    → Grows (map misuse_line (misuses said)) (map misuse_line (misuses all))
misuses_more said more all is =
    mapped misuse_line (misuses said) (misuses all)
    (subst (λ (l : List Misused). length (misuses said) ≤ length l)
    (sym (ap misuses is ∙ ap (misuses_after []) (filter_map-append misuse_at said more)
    ∙ misuses_after-append [] (filter_map misuse_at said) (filter_map misuse_at more)))
    (after_more (misuses said) (filter_map misuse_at more)))

-- ---- a message under an old name

renamed_more : (said more all : List Numbered) → all ≡ said ++ more
    → Grows (old_name_notes (renamed said)) (old_name_notes (renamed all))
renamed_more said more all is =
    subst (λ (o : Option OnDocument). Grows (old_name_notes (renamed said)) (old_name_notes o))
    (sym (ap renamed is ∙ first_of-append renamed_at said more))
    (by_first (renamed said) (first_from renamed_at said more))
  where
    by_first : (a b : Option OnDocument) → Grows (old_name_notes a) (old_name_notes (option_or a b))
    by_first None b = least (length (old_name_notes b))
    by_first (Some x) b = as_many (length (old_name_notes (Some x)))

-- ---- the name of an encoding

-- by the result that settles the handshake
abbrev name_by : Option Settled → Option (List ℕ)
name_by o = other_name (option_and_then (λ s. older_in s.value) o)
    (option_map (λ a. a.encoding) (option_and_then (λ s. agreed_at s.value) o))

settled_more : (before by : Option Settled)
    → Grows (name_notes (name_by before)) (name_notes (name_by (option_or before by)))
settled_more None by = least (length (name_notes (name_by by)))
settled_more (Some s) by = as_many (length (name_notes (name_by (Some s))))

name_more : (said all : List Numbered) (o : Option Numbered) → all ≡ said ++ cons_option o []
    → Grows (name_notes (name_of said)) (name_notes (name_of all))
name_more said all None is =
    subst (λ (l : List Numbered). Grows (name_notes (name_of said)) (name_notes (name_of l)))
    (sym (is ∙ append-nil said)) (as_many (length (name_notes (name_of said))))
name_more said all (Some m) is =
    subst (λ (o : Option Settled). Grows (name_notes (name_of said)) (name_notes (name_by o)))
    (sym (ap (λ l. first_settled (sents l)) is
    ∙ ap first_settled (map-append (λ (x : Numbered). x.sent) said (m ∷ []))
    ∙ first_settled_from-push [] (sents said) m.sent))
    (settled_more (first_settled (sents said)) _)

-- ---- `exit`

-- where none was sent, the session has not exited
not_yet : (stopped ready done waiting : Bool)
    → same_phase (if stopped then Stopping else (if ready then Ready else (if done then Answered
    else (if waiting then Waiting else Fresh)))) Exited ≡ false
not_yet false false false true = refl
not_yet _ _ _ _ = refl

phase_before : (ms : List Sent) → was_sent is_exit ms ≡ false → same_phase (phase ms) Exited ≡ false
phase_before ms none =
    ap (λ (b : Bool). same_phase (if b then Exited
    else (if was_sent is_shutdown ms then Stopping
    else (if was_sent is_initialized ms then Ready
    else (if is_done ms then Answered
    else (if is_waiting ms then Waiting else Fresh))))) Exited) none
    ∙ not_yet (was_sent is_shutdown ms) (was_sent is_initialized ms) (is_done ms) (is_waiting ms)

phase_after : (ms : List Sent) → was_sent is_exit ms ≡ true → same_phase (phase ms) Exited ≡ true
phase_after ms sent =
    ap (λ (b : Bool). same_phase (if b then Exited
    else (if was_sent is_shutdown ms then Stopping
    else (if was_sent is_initialized ms then Ready
    else (if is_done ms then Answered
    else (if is_waiting ms then Waiting else Fresh))))) Exited) sent

none_abrupt : (before xs : List Numbered) → was_sent is_exit (sents (before ++ xs)) ≡ false
    → each_from abrupt_by before xs ≡ []
none_abrupt before [] none = refl
none_abrupt before (m ∷ xs) none =
    let whole : before ++ m ∷ xs ≡ (before ++ m ∷ []) ++ xs = sym (append_assoc before (m ∷ []) xs) in
    let later : was_sent is_exit (sents ((before ++ m ∷ []) ++ xs)) ≡ false =
    ap (λ l. was_sent is_exit (sents l)) (sym whole) ∙ none in
    let parts = or_parts (was_sent is_exit (sents (before ++ m ∷ []))) (was_sent is_exit (sents xs))
    (sym (list_any-append (sends is_exit) (sents (before ++ m ∷ [])) (sents xs))
    ∙ sym (ap (was_sent is_exit) (map-append (λ (x : Numbered). x.sent) (before ++ m ∷ []) xs))
    ∙ later) in
    ap (λ (b : Bool). cons_option (if b && not (same_phase (phase (sents before)) Exited
    || same_phase (phase (sents before)) Stopping) then Some (Some m.place) else None)
    (each_from abrupt_by (before ++ m ∷ []) xs)) (phase_before (sents (before ++ m ∷ [])) parts.0)
    ∙ none_abrupt (before ++ m ∷ []) xs later

has_exit : (said : List Numbered) (p : EventPlace) → abrupt_exit said ≡ Some p
    → same_phase (phase (sents said)) Exited ≡ true
has_exit said p is = by_test (was_sent is_exit (sents said)) refl
  where
    by_test : (b : Bool) → was_sent is_exit (sents said) ≡ b
        → same_phase (phase (sents said)) Exited ≡ true
    by_test true sent = phase_after (sents said) sent
    by_test false sent =
        let none : None ≡ Some p = sym (ap (last_or None) (none_abrupt [] said sent)) ∙ is in
        absurd (cc none)

-- one that was abrupt stays so
exit_stays : (said all : List Numbered) (o : Option Numbered) → all ≡ said ++ cons_option o []
    → Grows (exit_notes (abrupt_exit said)) (exit_notes (abrupt_exit all))
exit_stays said all None is =
    subst (λ (l : List Numbered). Grows (exit_notes (abrupt_exit said)) (exit_notes (abrupt_exit l)))
    (sym (is ∙ append-nil said)) (as_many (length (exit_notes (abrupt_exit said))))
exit_stays said all (Some m) is =
    subst (λ (o : Option EventPlace). Grows (exit_notes (abrupt_exit said)) (exit_notes o))
    (sym (ap abrupt_exit is ∙ ap (last_or None) (each_of-snoc abrupt_by said m)
    ∙ last_behind None (each_of abrupt_by said) (abrupt_by said m)))
    (by_test (is_abrupt (phase (sents said)) (phase (sents (said ++ m ∷ [])))) (abrupt_exit said))
  where
    by_test : (b : Bool) (o : Option EventPlace)
        → Grows (exit_notes o) (exit_notes (unwrap_or (if b then Some (Some m.place) else None) o))
    by_test true None = least 1
    by_test true (Some p) = as_many 1
    by_test false o = as_many (length (exit_notes o))

module _ (terms : Terms) (before : List Heard) (h : Heard) where
  abbrev events : List Event
  events = heard_events before

  abbrev after : List Heard
  after = before ++ h ∷ []

  abbrev one_more : Option Numbered
  one_more = kept_as message_kept terms events h.note.event

  more_said : numbered terms (heard_events after)
      ≡ numbered terms events ++ cons_option one_more []
  more_said = ap (numbered terms) (events-push before h)
      ∙ each_of-snoc (kept_as message_kept terms) events h.note.event

  exited : (p : EventPlace) → abrupt_exit (numbered terms events) ≡ Some p
      → has_exited terms before ≡ true
  exited p is = ap (λ ms. same_phase (phase ms) Exited) (sym (sents-numbered terms events))
      ∙ has_exit (numbered terms events) p is

  exit_more : Grows (exit_notes (exit_along terms before)) (exit_notes (exit_along terms after))
  exit_more =
      by_refused (is_shutdown_refused terms before) (is_shutdown_refused terms after)
      (refused-push terms before h) (abrupt_exit (numbered terms events)) refl
    where
      shown : List Fact
      shown = exit_notes (abrupt_exit (numbered terms (heard_events after)))

      by_refused : (old new : Bool)
          → new ≡ (old || is_some (if asks_shutdown h.note.event && not (has_exited terms before)
          then rule_of terms before h else None))
          → (o : Option EventPlace) → abrupt_exit (numbered terms events) ≡ o
          → Grows (exit_notes (if old then None else o))
          (exit_notes (if new then None else abrupt_exit (numbered terms (heard_events after))))
      by_refused false new is (Some p) at =
          let none : new ≡ false =
          is ∙ ap (λ (b : Bool). is_some (if asks_shutdown h.note.event && not b
          then rule_of terms before h else None)) (exited p at)
          ∙ no_test (asks_shutdown h.note.event) in
          subst (λ (b : Bool). Grows (exit_notes (Some p))
          (exit_notes (if b then None else abrupt_exit (numbered terms (heard_events after)))))
          (sym none)
          (subst (λ (o : Option EventPlace). Grows (exit_notes o) shown) at
          (exit_stays (numbered terms events) (numbered terms (heard_events after)) one_more
          more_said))
        where
          no_test : (b : Bool)
              → is_some (if b && false then rule_of terms before h else None) ≡ false
          no_test true = refl
          no_test false = refl
      by_refused _ new is _ at = least _

  -- ---- all kinds

  abbrev breaks : Bool
  breaks = is_some (first_of (rule_of terms) before) || is_some (rule_of terms before h)

  abbrev sound_more : List Event
  sound_more = if breaks then [] else h.note.event ∷ []

  sound_is : sound_events terms after ≡ sound_events terms before ++ sound_more
  sound_is = ap heard_events (sound-push terms [] before h) ∙ by_test breaks
    where
      front : List Heard
      front = sound_from terms [] before

      by_test : (b : Bool) → heard_events (front ++ (if b then [] else h ∷ []))
          ≡ heard_events front ++ (if b then [] else h.note.event ∷ [])
      by_test true = ap heard_events (append-nil front) ∙ sym (append-nil (heard_events front))
      by_test false = events-push front h

  kinds_grow : AllGrow (kinds (noticed_along terms before)) (kinds (noticed_along terms after))
  kinds_grow =
      let said = numbered terms events in
      let all = numbered terms (heard_events after) in
      let found = found_along terms before in
      let sound = sound_events terms before in
      let sounds = sound_events terms after in (
        misuses_more said (cons_option one_more []) all more_said,
        (
          exit_more,
          (
            name_more said all one_more more_said,
            (
              renamed_more said (cons_option one_more []) all more_said,
              (
                found_more_notes past_end_in found (found_more terms before h)
                    (found_along terms after) (found_along-push terms before h),
                (
                  found_more_notes range_length_in found (found_more terms before h)
                      (found_along terms after) (found_along-push terms before h),
                  (
                    each_more (refusal_at terms) events (h.note.event ∷ []) (heard_events after)
                        (events-push before h),
                    (
                      each_more (spelling_at terms) events (h.note.event ∷ []) (heard_events after)
                          (events-push before h),
                      (
                        each_more (late_at terms) sound sound_more sounds sound_is,
                        (
                          flat_more (noted_at outside_note terms) sound sound_more sounds sound_is,
                          (
                            flat_more (noted_at overlap_note terms) sound sound_more sounds
                                sound_is,
                            (
                              flat_more (noted_at unsent_note terms) sound sound_more sounds
                                  sound_is,
                              tt,
                            ),
                          ),
                        ),
                      ),
                    ),
                  ),
                ),
              ),
            ),
          ),
        ),
      )

  -- **the notes that are found at an event are those that come to the others**
  pub notes_added : length (notes_at terms before h) + total (kinds (noticed_along terms before))
      ≡ total (kinds (noticed_along terms after))
  notes_added = beyond-total (kinds (noticed_along terms before))
      (kinds (noticed_along terms after)) kinds_grow

-- ---- the end

-- no event, no note
pub none_yet : (terms : Terms) → total (kinds (noticed_along terms [])) ≡ 0
none_yet terms = refl

-- **all that there are**
pub all_counted : (v : Verdict) (n : Noticed)
    → total (kinds n) + length (uncompared v n.unshown) ≡ length (notes_by v n)
all_counted v n =
    let ending = uncompared v n.unshown in
    moved (length (map misuse_line (misuses n.said))) (length (exit_notes n.exit))
    (length (name_notes (name_of n.said))) (length (old_name_notes (renamed n.said)))
    (length ending) (total on_documents)
    ∙ sym (length-joined (all ending))
    ∙ ap length (sym (all_added [] (all ending)))
  where
    on_documents : List (List Fact)
    on_documents =
        map document_line (past_ends n.found) ∷ map document_line (range_lengths n.found)
        ∷ map document_line n.refused ∷ map document_line n.spelled ∷ map document_line n.late
        ∷ map document_line n.outside ∷ map document_line n.overlapping
        ∷ map document_line n.unsent ∷ []

    all : List Fact → List (List Fact)
    all ending =
        map misuse_line (misuses n.said) ∷ exit_notes n.exit ∷ name_notes (name_of n.said)
        ∷ old_name_notes (renamed n.said) ∷ ending ∷ on_documents

    moved : (a b c d e rest : ℕ)
        → (a + (b + (c + (d + rest)))) + e ≡ a + (b + (c + (d + (e + rest))))
    moved a b c d e rest = omega arith
