-- Which edits and versions of documents the server sends, with one event more.
use Rattle.std.specs.Borrow.{Bor}
use Rattle.std.specs.Prelude.{is_some, option_and_then, option_map, unwrap_or}
use Rattle.std.specs.Prelude.{if◌then◌else◌, get_or, take, ℤ}
use Rattle.std.specs.List.{cons_option, filter_map}
use Rattle.std.proofs.Common.{◌≡◌, ◌<◌, ◌+◌, ℕ, length, map, Bool, false, true, List, [], ◌∷◌, ◌++◌, Option, Some, None}
use Rattle.std.proofs.Common.{refl, sym, ap, ◌∙◌, subst, append-nil, append_assoc, arith}
use Rattle.std.proofs.lemmas.List.{map-append, take_more}
use Rattle.std.proofs.lemmas.List.Elements.{filter_map-append}
use Rattle.serde_json.specs.Data.{Data}
use Rattle.lsp_trail.specs.Common.{broken, Call, call_at, call_view, Change, changes, closes}
use Rattle.lsp_trail.specs.Common.{content, each_of, Edit, Editor, Encoding, encoding, Event}
use Rattle.lsp_trail.specs.Common.{EventPlace, fault, Heard, heard_events, IsSpoken, kept_before}
use Rattle.lsp_trail.specs.Common.{kept_of, last_ones, last_setter, last_that, Message, message}
use Rattle.lsp_trail.specs.Common.{notification, on_document, opens, place_of, Raw, Reads, recent}
use Rattle.lsp_trail.specs.Common.{rule_at, rule_of, said_at, saves, sent_in, sent_of, Server, show}
use Rattle.lsp_trail.specs.Common.{shows, Side, snapshot, Spoken, steps, SyncKind, Terms, Utf16}
use Rattle.lsp_docs.specs.declared.call.Call as calling
use Rattle.lsp_docs.specs.declared.call.Call.TheVariants as saying
use Rattle.lsp_rpc.specs.Params.{act_at}
use Rattle.lsp_rpc.specs.Reading as rpc
use Rattle.lsp_rpc.specs.declared.message.Answer.TheVariants as answers
use Rattle.lsp_session.specs.Negotiation.{sync_kind}
use Rattle.lsp_types.specs.declared.change.SyncKind.TheVariants.{Nothing}
use Rattle.lsp_verdict.proofs.LookBackLemmas.{each_of-snoc}
use Rattle.lsp_replay.proofs.Seeing.{events-push}
use Rattle.lsp_outline.specs.Versions.{versioned_at}
use Rattle.lsp_notes.specs.DocumentNotes.{DocumentNote, document_note, first_notes}
use Rattle.lsp_notes.specs.DocumentNotes.{is_noted, notes_view, with_note}
use Rattle.lsp_notes.specs.EditRequests.{edit_requests, event_request, most_requests, request_of}
use Rattle.lsp_notes.specs.Requests.{Holds, Request, request_view}
use Rattle.lsp_notes.specs.LateEdits.{HoldsLate, is_since, lates_view}
use Rattle.lsp_notes.specs.LateEdits.{most_late, words_if_late, words_since}
use Rattle.lsp_trail.specs.Naming.{is_diagnostics}
use Rattle.lsp_notes.specs.ServerEdits.{AreServerEdits, Edited, NotesBy, all_noted, calls_with}
use Rattle.lsp_notes.specs.ServerEdits.{edited_at, edited_at_place, edited_by_side}
use Rattle.lsp_notes.specs.ServerEdits.{edited_in_message, flat_from, flat_of, in_diagnostics}
use Rattle.lsp_notes.specs.ServerEdits.{last_answers, late_answer_at, late_at, late_by, noted_at}
use Rattle.lsp_notes.specs.ServerEdits.{outside_note, overlap_note, edited_view, encoding_with}
use Rattle.lsp_notes.specs.ServerEdits.{late_in, note_on, Sight, outside_in, overlap_in, sight}
use Rattle.lsp_notes.specs.ServerEdits.{sight_of, texts_of, unsent_note, uris_with, with_notes}
use Rattle.lsp_notes.specs.declared.edited.Edited as seen
use Rattle.lsp_notes.specs.declared.server_edits.ServerEdits.{ServerEdits}
use Rattle.lsp_trail.specs.declared.mark.VersionEvent.{VersionEvent}
use Rattle.lsp_notes.proofs.DocumentNoting.{first_notes_with}
use Rattle.lsp_trail.proofs.History.{kept_more, none_held}
use Rattle.lsp_notes.proofs.EditsByKind.{late_joined, none_late}
use Rattle.lsp_trail.proofs.Standard.{on_document as said_on}

-- ---- lists that are made of all events

flat_from-snoc : {A X : Type 0} (f : List A → A → List X) (before after : List A) (x : A)
    → flat_from f before (after ++ x ∷ []) ≡ flat_from f before after ++ f (before ++ after) x
flat_from-snoc f before [] x =
    append-nil (f before x) ∙ ap (λ (l : List _). f l x) (sym (append-nil before))
flat_from-snoc f before (y ∷ after) x =
    let rest = flat_from f (before ++ y ∷ []) after in
    ap (λ l. f before y ++ l) (flat_from-snoc f (before ++ y ∷ []) after x)
    ∙ ap (λ (l : List _). f before y ++ (rest ++ f l x)) (append_assoc before (y ∷ []) after)
    ∙ sym (append_assoc (f before y) rest (f (before ++ y ∷ after) x))

flat_of-snoc : {A X : Type 0} (f : List A → A → List X) (xs : List A) (x : A)
    → flat_of f (xs ++ x ∷ []) ≡ flat_of f xs ++ f xs x
flat_of-snoc f xs x = flat_from-snoc f [] xs x

-- **what is written of these notes is known with more**
pub first_notes_all : (xs more : List DocumentNote)
    → first_notes (xs ++ more) ≡ with_notes (first_notes xs) more
first_notes_all xs [] = ap first_notes (append-nil xs)
first_notes_all xs (n ∷ more) =
    ap first_notes (sym (append_assoc xs (n ∷ []) more))
    ∙ first_notes_all (xs ++ n ∷ []) more
    ∙ ap (λ l. with_notes l more) (first_notes_with xs (Some n))

-- ---- one event more

module _ (terms : Terms) (events : List Event) (e : Event)
    (kept_here : rule_at terms events e ≡ None) where
  abbrev here : EventPlace
  here = place_of events e

  edited_is : (es : List Edited) → edited_at_place terms events e here (sent_of e) ≡ es
      → edited_at terms events e ≡ es
  edited_is es is =
      ap (λ (r : Option ℕ). if is_some r then []
      else edited_at_place terms events e here (sent_of e)) kept_here ∙ is

  late_is : (o : Option DocumentNote)
      → option_and_then (late_by terms events (calls_with terms events e) here)
      (said_at terms events e) ≡ o → late_at terms events e ≡ o
  late_is o is =
      ap (λ (r : Option ℕ). if is_some r then None
      else option_and_then (late_by terms events (calls_with terms events e) here)
      (said_at terms events e)) kept_here ∙ is

  all_more : {X : Type 0}
      (f : Terms → List Event → Event → EventPlace → Edited → Option X) (es : List Edited)
      → edited_at_place terms events e here (sent_of e) ≡ es
      → all_noted f terms (events ++ e ∷ [])
      ≡ all_noted f terms events ++ filter_map (f terms events e here) es
  all_more f es is =
      flat_of-snoc (noted_at f terms) events e
      ∙ ap (λ l. all_noted f terms events ++ filter_map (f terms events e here) l) (edited_is es is)

  notes_more : (f : Terms → List Event → Event → EventPlace → Edited → Option DocumentNote)
      (es : List Edited) → edited_at_place terms events e here (sent_of e) ≡ es
      → (old new : List DocumentNote) → old ≡ first_notes (all_noted f terms events)
      → new ≡ with_notes old (filter_map (f terms events e here) es)
      → new ≡ first_notes (all_noted f terms (events ++ e ∷ []))
  notes_more f es is old new are more =
      more
      ∙ ap (λ l. with_notes l (filter_map (f terms events e here) es)) are
      ∙ sym (first_notes_all (all_noted f terms events) (filter_map (f terms events e here) es))
      ∙ ap first_notes (sym (all_more f es is))

  -- **what is held stands for it too**
  pub edits_more : (old new : ServerEdits) (asked : Option Request) (es : List Edited)
      (late : Option DocumentNote) → AreServerEdits terms old events
      → event_request here (kept_of terms events) e ≡ asked
      → edited_at_place terms events e here (sent_of e) ≡ es
      → option_and_then (late_by terms events (calls_with terms events e) here)
      (said_at terms events e) ≡ late
      → Holds most_requests (cons_option asked []) old.asked.items new.asked.items
      → HoldsLate (filter_map (late_answer_at terms events e here) es) old.late.items new.late.items
      → notes_view new.late_edits.items ≡ with_note (notes_view old.late_edits.items) late
      → notes_view new.outside.items ≡ with_notes (notes_view old.outside.items)
      (filter_map (outside_note terms events e here) es)
      → notes_view new.overlaps.items ≡ with_notes (notes_view old.overlaps.items)
      (filter_map (overlap_note terms events e here) es)
      → notes_view new.unsent.items ≡ with_notes (notes_view old.unsent.items)
      (filter_map (unsent_note terms events e here) es)
      → AreServerEdits terms new (events ++ e ∷ [])
  edits_more old new asked es late are asks_it has_it late_it holds holds_late lates outsides
      overlapping unsents = record {
        asked_are =
            holds (edit_requests terms events) are.asked_are
            ∙ ap (last_ones most_requests) (sym (kept_more event_request terms events e here asked
            kept_here refl asks_it));
        late_are =
            holds_late (all_noted late_answer_at terms events) are.late_are
            ∙ ap (last_ones most_late) (sym (all_more late_answer_at es has_it));
        late_edits_are =
            lates
            ∙ ap (λ l. with_note l late) are.late_edits_are
            ∙ sym (first_notes_with (each_of (late_at terms) events) late)
            ∙ ap (λ (o : Option DocumentNote). first_notes
            (each_of (late_at terms) events ++ cons_option o [])) (sym (late_is late late_it))
            ∙ sym (ap first_notes (each_of-snoc (late_at terms) events e));
        outside_are = notes_more outside_note es has_it _ _ are.outside_are outsides;
        overlaps_are = notes_more overlap_note es has_it _ _ are.overlaps_are overlapping;
        unsent_are = notes_more unsent_note es has_it _ _ are.unsent_are unsents;
      }

-- ---- what a message has for several documents

notes_joined : (old mid new xs ys : List DocumentNote) → mid ≡ with_notes old xs
    → new ≡ with_notes mid ys → new ≡ with_notes old (xs ++ ys)
notes_joined old mid new xs ys first second =
    second ∙ ap (λ l. with_notes l ys) first ∙ sym (with_notes-append old xs ys)
  where
    with_notes-append : (notes xs ys : List DocumentNote)
        → with_notes notes (xs ++ ys) ≡ with_notes (with_notes notes xs) ys
    with_notes-append notes [] ys = refl
    with_notes-append notes (x ∷ xs) ys = with_notes-append (with_note notes (Some x)) xs ys

-- **for these, and for one more**
pub notes_by_more : (terms : Terms) (before : List Event) (event : Event) (es : List Edited)
    (e : Edited) (old mid new : ServerEdits) → NotesBy terms before event es old mid
    → NotesBy terms before event (e ∷ []) mid new
    → NotesBy terms before event (es ++ e ∷ []) old new
notes_by_more terms before event es e old mid new first second =
    let p = place_of before event in
    let late = late_answer_at terms before event p in
    let outside = outside_note terms before event p in
    let overlap = overlap_note terms before event p in
    let unsent = unsent_note terms before event p in
    record {
      asked = second.asked ∙ first.asked;
      late_more = λ answers are.
          late_joined (filter_map late es) (filter_map late (e ∷ [])) old.late.items
          mid.late.items new.late.items first.late_more second.late_more answers are
          ∙ ap (λ l. last_ones most_late (answers ++ l))
          (sym (filter_map-append late es (e ∷ [])));
      late_edits = second.late_edits ∙ first.late_edits;
      outside_more = joined outside (notes_view old.outside.items) (notes_view mid.outside.items)
          (notes_view new.outside.items) first.outside_more second.outside_more;
      overlaps_more = joined overlap (notes_view old.overlaps.items)
          (notes_view mid.overlaps.items) (notes_view new.overlaps.items) first.overlaps_more
          second.overlaps_more;
      unsent_more = joined unsent (notes_view old.unsent.items) (notes_view mid.unsent.items)
          (notes_view new.unsent.items) first.unsent_more second.unsent_more;
    }
  where
    joined : (f : Edited → Option DocumentNote) (was then_ now : List DocumentNote)
        → then_ ≡ with_notes was (filter_map f es)
        → now ≡ with_notes then_ (filter_map f (e ∷ []))
        → now ≡ with_notes was (filter_map f (es ++ e ∷ []))
    joined f was then_ now one two =
        notes_joined was then_ now (filter_map f es) (filter_map f (e ∷ [])) one two
        ∙ ap (with_notes was) (sym (filter_map-append f es (e ∷ [])))

-- where there are none
pub none_in : {A : Type 0} (xs : List A) → length xs ≡ 0 → xs ≡ []
none_in [] none = refl
none_in (x ∷ xs) none = absurd (omega arith)

-- ---- a message that says nothing of a document

module _ (terms : Terms) (before : List Heard) (h : Heard) (old : ServerEdits)
    (are : AreServerEdits terms old (heard_events before)) (kept_here : rule_of terms before h ≡ None)
    (says : said_at terms (heard_events before) h.note.event ≡ None)
    (p : EventPlace) (at : p ≡ place_of (heard_events before) h.note.event)
    (side by : Side) (bytes : List ℕ)
    (s : Spoken) (reads : Reads (content side bytes) h.note.event)
    (spoken : IsSpoken (kept_before terms before) h.note.event by s) (new : ServerEdits) where
  abbrev earlier : List Event
  earlier = heard_events before

  abbrev told : Event
  told = h.note.event

  abbrev said : Message
  said = spoken.sent.message

  own_side : spoken.sent.side ≡ side
  own_side = (subst (λ (x : Event). Reads (content side bytes) x) spoken.is reads).by

  pub own_reads : rpc.Reads bytes said
  own_reads = (subst (λ (x : Event). Reads (content side bytes) x) spoken.is reads).reads

  asks_as : (sender : Side) → side ≡ sender
      → event_request (place_of earlier told) (kept_of terms earlier) told ≡ request_of p sender said
  asks_as sender is =
      ap (λ (q : EventPlace). event_request q (kept_of terms earlier) told) (sym at)
      ∙ ap (λ (x : Event). event_request p (kept_of terms earlier) x) spoken.is
      ∙ ap (λ (x : Side). request_of p x said) (own_side ∙ is)

  has_as : (sender : Side) → side ≡ sender
      → edited_at_place terms earlier told (place_of earlier told) (sent_of told)
      ≡ edited_by_side terms earlier (uris_with terms earlier told) p sender said
  has_as sender is =
      ap (λ (q : EventPlace). edited_at_place terms earlier told q (sent_of told)) (sym at)
      ∙ ap (λ (x : Event). edited_at_place terms earlier told p (sent_of x)) spoken.is
      ∙ ap (λ (x : Side). edited_by_side terms earlier (uris_with terms earlier told) p x said)
      (own_side ∙ is)

  none_said : option_and_then (late_by terms earlier (calls_with terms earlier told)
      (place_of earlier told)) (said_at terms earlier told) ≡ None
  none_said = ap (option_and_then (late_by terms earlier (calls_with terms earlier told)
      (place_of earlier told))) says

  -- **one of the editor**
  pub edits_asked : side ≡ Editor
      → Holds most_requests (cons_option (request_of p Editor said) []) old.asked.items
      new.asked.items
      → new.late ≡ old.late → new.late_edits ≡ old.late_edits → new.outside ≡ old.outside
      → new.overlaps ≡ old.overlaps → new.unsent ≡ old.unsent
      → AreServerEdits terms new (heard_events (before ++ h ∷ []))
  edits_asked is holds late late_edits outside overlapping unsent =
      subst (AreServerEdits terms new) (sym (events-push before h))
      (edits_more terms earlier told kept_here old new (request_of p Editor said) [] None are
      (asks_as Editor is) (has_as Editor is) none_said holds
      (subst (λ q. HoldsLate [] old.late.items q.items) (sym late)
      (none_late None old.late.items refl))
      (ap (λ r. notes_view r.items) late_edits) (ap (λ r. notes_view r.items) outside)
      (ap (λ r. notes_view r.items) overlapping) (ap (λ r. notes_view r.items) unsent))

  -- **one of the server**
  pub edits_sent : side ≡ Server
      → NotesBy terms earlier told
      (edited_in_message terms earlier (uris_with terms earlier told) p said) old new
      → AreServerEdits terms new (heard_events (before ++ h ∷ []))
  edits_sent is by =
      subst (AreServerEdits terms new) (sym (events-push before h))
      (edits_more terms earlier told kept_here old new None _ None are
      (asks_as Server is) (has_as Server is) none_said
      (subst (λ q. Holds most_requests [] old.asked.items q.items) (sym by.asked)
      (none_held request_view most_requests None old.asked.items refl)) by.late_more
      (ap (λ r. notes_view r.items) by.late_edits) by.outside_more by.overlaps_more
      by.unsent_more)

-- ---- an event that says something of a document

notified_asks : (p : EventPlace) (side : Side) (method : List ℕ) (params : Option Data)
    → request_of p side (notification method params) ≡ None
notified_asks p Editor method params = refl
notified_asks p Server method params = refl

notified_has : (terms : Terms) (before : List Event) (uris : List (List ℕ)) (p : EventPlace)
    (side : Side) (method : List ℕ) (params : Option Data) → is_diagnostics method ≡ false
    → edited_by_side terms before uris p side (notification method params) ≡ []
notified_has terms before uris p Editor method params none = refl
notified_has terms before uris p Server method params none =
    ap (λ (b : Bool). in_diagnostics p
    (if b then option_and_then versioned_at params else None)) none

-- it asks for no edits, and has none
pub record IsQuiet (terms : Terms) (events : List Event) (e : Event) : Type 0 where
  pub asks_none : event_request (place_of events e) (kept_of terms events) e ≡ None
  pub has_none : edited_at_place terms events e (place_of events e) (sent_of e) ≡ []

quiet_call : (terms : Terms) (events : List Event) (e : Event) (raw : Raw) (call : Call)
    → rule_at terms events e ≡ None → Reads raw e → call_at (kept_of terms events) e ≡ Some call
    → IsQuiet terms events e
quiet_call terms events (fault side rule) raw call kept reads says = absurd (cc kept)
quiet_call terms events (snapshot uri version text) raw call kept reads says = record {
  asks_none = refl;
  has_none = refl;
}
quiet_call terms events (message m) (content side bytes) call kept reads says =
    let place = place_of events (message m) in
    let sents = sent_in (kept_of terms events) in
    let enc = unwrap_or (encoding sents) Utf16 in
    let kind = unwrap_or (sync_kind sents) Nothing in
    let uris = uris_with terms events (message m) in
    let means : act_at m.side m.message ≡ Some m.act =
    subst (λ (x : Side). act_at x m.message ≡ Some m.act) (sym reads.by) reads.means in
    let heard = said_on m.side m.message m.act enc kind call means says in
    record {
      asks_none = ap (λ (w : Message). request_of place m.side w) heard.is
          ∙ notified_asks place m.side heard.method heard.params;
      has_none = ap (λ (w : Message). edited_by_side terms events uris place m.side w) heard.is
          ∙ notified_has terms events uris place m.side heard.method heard.params
          heard.no_diagnostics;
    }
quiet_call terms events (message m) _ call kept reads says = absurd (cc reads)

-- no answer came late, so no change makes its edits
no_words : (terms : Terms) (made : List Call) (uri : List ℕ) (enc : Encoding)
    (setters : List VersionEvent) (o : Option VersionEvent) → last_setter setters ≡ o
    → words_since terms made uri enc setters [] ≡ None
no_words terms made uri enc setters None is =
    ap (option_and_then (λ setter. option_and_then
    (words_if_late terms made uri enc setters setter) (last_that (is_since uri setter) []))) is
no_words terms made uri enc setters (Some setter) is =
    ap (option_and_then (λ setter. option_and_then
    (words_if_late terms made uri enc setters setter) (last_that (is_since uri setter) []))) is

no_late : (terms : Terms) (before : List Event) (made : List Call) (p : EventPlace) (call : Call)
    → last_answers terms before ≡ [] → late_by terms before made p call ≡ None
no_late terms before made p (changes enc kind uri number cs) none =
    ap (λ answers. option_map (document_note (on_document uri p))
    (words_since terms made uri enc (recent (steps terms uri before)) answers)) none
    ∙ ap (option_map (document_note (on_document uri p)))
    (no_words terms made uri enc (recent (steps terms uri before)) _ refl)
no_late terms before made p _ none = refl

-- **what is held stands for one more that says something of a document**, where this is late by it
pub edits_called : (terms : Terms) (before : List Heard) (h : Heard) (old new : ServerEdits)
    (call : Call) (late : Option DocumentNote)
    → AreServerEdits terms old (heard_events before) → rule_of terms before h ≡ None
    → Reads h.raw h.note.event → call_at (kept_before terms before) h.note.event ≡ Some call
    → late_by terms (heard_events before) (calls_with terms (heard_events before) h.note.event)
    (place_of (heard_events before) h.note.event) call ≡ late
    → new.asked ≡ old.asked → new.late ≡ old.late
    → notes_view new.late_edits.items ≡ with_note (notes_view old.late_edits.items) late
    → new.outside ≡ old.outside → new.overlaps ≡ old.overlaps → new.unsent ≡ old.unsent
    → AreServerEdits terms new (heard_events (before ++ h ∷ []))
edits_called terms before h old new call late are kept reads says late_is asked held lates outside
    overlapping unsent =
    let events = heard_events before in
    let e = h.note.event in
    let quiet = quiet_call terms events e h.raw call kept reads says in
    subst (AreServerEdits terms new) (sym (events-push before h))
    (edits_more terms events e kept old new None [] late are quiet.asks_none quiet.has_none
    (ap (option_and_then (late_by terms events (calls_with terms events e)
    (place_of events e))) says ∙ late_is)
    (subst (λ q. Holds most_requests [] old.asked.items q.items) (sym asked)
    (none_held request_view most_requests None old.asked.items refl))
    (subst (λ q. HoldsLate [] old.late.items q.items) (sym held)
    (none_late None old.late.items refl))
    lates (ap (λ r. notes_view r.items) outside) (ap (λ r. notes_view r.items) overlapping)
    (ap (λ r. notes_view r.items) unsent))

-- where no answer came late
pub edits_quiet : (terms : Terms) (before : List Heard) (h : Heard) (s : ServerEdits) (call : Call)
    → AreServerEdits terms s (heard_events before) → rule_of terms before h ≡ None
    → Reads h.raw h.note.event → call_at (kept_before terms before) h.note.event ≡ Some call
    → s.late.items ≡ [] → AreServerEdits terms s (heard_events (before ++ h ∷ []))
edits_quiet terms before h s call are kept reads says none =
    edits_called terms before h s s call None are kept reads says
    (no_late terms (heard_events before)
    (calls_with terms (heard_events before) h.note.event)
    (place_of (heard_events before) h.note.event) call
    (sym are.late_are ∙ ap lates_view none)) refl refl refl refl refl refl

-- ---- what a message has for one document

-- one note, or none
pub one_noted : (notes : List DocumentNote) (o : Option DocumentNote)
    → with_notes notes (cons_option o []) ≡ with_note notes o
one_noted notes None = refl
one_noted notes (Some n) = refl

-- without edits nothing is looked at
pub no_edits : (terms : Terms) (before : List Event) (event : Event) (e : Edited)
    → e.edits ≡ None → sight_of terms before event e ≡ None
no_edits terms before event e none =
    ap (option_and_then (λ edits. option_map (λ texts. sight texts edits)
    (texts_of terms before event e))) none

-- nor where the texts are not known
pub no_texts : (terms : Terms) (before : List Event) (event : Event) (e : Edited)
    → texts_of terms before event e ≡ None → sight_of terms before event e ≡ None
no_texts terms before event e none =
    ap (λ o. option_and_then (λ edits. option_map (λ texts. sight texts edits) o) e.edits) none
    ∙ without e.edits
  where
    without : (o : Option (List Edit))
        → option_and_then (λ edits. option_map (λ texts. sight texts edits) None) o ≡ None
    without None = refl
    without (Some edits) = refl

pub in_sight : (terms : Terms) (before : List Event) (event : Event) (e : Edited)
    (edits : List Edit) (texts : List (List ℕ)) → e.edits ≡ Some edits
    → texts_of terms before event e ≡ Some texts
    → sight_of terms before event e ≡ Some (sight texts edits)
in_sight terms before event e edits texts has known =
    (λ i. option_and_then (λ own. option_map (λ ts. sight ts own) (known i)) (has i))

module _ (terms : Terms) (before : List Event) (event : Event) (e : Edited)
    (old new : ServerEdits) (asked_same : new.asked ≡ old.asked)
    (lates_same : new.late_edits ≡ old.late_edits)
    (unsent_so : notes_view new.unsent.items ≡ with_note (notes_view old.unsent.items)
    (unsent_note terms before event (place_of before event) e)) where
  abbrev there : EventPlace
  there = place_of before event

  notes_as : (o : Option Sight) → sight_of terms before event e ≡ o
      → HoldsLate (cons_option (option_and_then (late_in e there) o) []) old.late.items
      new.late.items
      → notes_view new.outside.items ≡ with_note (notes_view old.outside.items)
      (option_map (note_on e there)
      (option_and_then (outside_in (encoding_with terms before event)) o))
      → notes_view new.overlaps.items ≡ with_note (notes_view old.overlaps.items)
      (option_map (note_on e there)
      (option_and_then (overlap_in (encoding_with terms before event)) o))
      → NotesBy terms before event (e ∷ []) old new
  notes_as o is holds outsides overlapping =
      let enc = encoding_with terms before event in
      record {
        asked = asked_same;
        late_more = subst (λ w. HoldsLate (cons_option (option_and_then (late_in e there) w) [])
            old.late.items new.late.items) (sym is) holds;
        late_edits = lates_same;
        outside_more = outsides
            ∙ ap (λ w. with_note (notes_view old.outside.items)
            (option_map (note_on e there) (option_and_then (outside_in enc) w))) (sym is)
            ∙ sym (one_noted (notes_view old.outside.items)
            (outside_note terms before event there e));
        overlaps_more = overlapping
            ∙ ap (λ w. with_note (notes_view old.overlaps.items)
            (option_map (note_on e there) (option_and_then (overlap_in enc) w))) (sym is)
            ∙ sym (one_noted (notes_view old.overlaps.items)
            (overlap_note terms before event there e));
        unsent_more = unsent_so
            ∙ sym (one_noted (notes_view old.unsent.items)
            (unsent_note terms before event there e));
      }

  -- **its edits are not looked at**
  pub notes_unseen : sight_of terms before event e ≡ None → new.late ≡ old.late
      → new.outside ≡ old.outside → new.overlaps ≡ old.overlaps
      → NotesBy terms before event (e ∷ []) old new
  notes_unseen is held outside overlapping =
      notes_as None is
      (subst (λ q. HoldsLate [] old.late.items q.items) (sym held)
      (none_late None old.late.items refl))
      (ap (λ r. notes_view r.items) outside) (ap (λ r. notes_view r.items) overlapping)

  -- **they are**
  pub notes_seen : (s : Sight) → sight_of terms before event e ≡ Some s
      → HoldsLate (cons_option (late_in e there s) []) old.late.items new.late.items
      → notes_view new.outside.items ≡ with_note (notes_view old.outside.items)
      (option_map (note_on e there) (outside_in (encoding_with terms before event) s))
      → notes_view new.overlaps.items ≡ with_note (notes_view old.overlaps.items)
      (option_map (note_on e there) (overlap_in (encoding_with terms before event) s))
      → NotesBy terms before event (e ∷ []) old new
  notes_seen s is holds outsides overlapping = notes_as (Some s) is holds outsides overlapping

-- the first of these documents, and one more
pub notes_taken : (terms : Terms) (before : List Event) (event : Event) (edited : List seen.Edited)
    (i : ℕ) (one : seen.Edited) (start old new : ServerEdits) → i < length edited
    → one ≡ get_or edited i one
    → NotesBy terms before event (map edited_view (take i edited)) start old
    → NotesBy terms before event (edited_view one ∷ []) old new
    → NotesBy terms before event (map edited_view (take (i + 1) edited)) start new
notes_taken terms before event edited i one start old new lt is done more =
    let whole : map edited_view (take (i + 1) edited)
    ≡ map edited_view (take i edited) ++ edited_view one ∷ [] =
    ap (map edited_view) (take_more edited i one lt)
    ∙ map-append edited_view (take i edited) (get_or edited i one ∷ [])
    ∙ ap (λ (x : seen.Edited). map edited_view (take i edited) ++ edited_view x ∷ []) (sym is) in
    subst (λ es. NotesBy terms before event es start new) (sym whole)
    (notes_by_more terms before event (map edited_view (take i edited)) (edited_view one) start
    old new done more)

-- ---- a document that has a note

-- no other one is written
pub noted_already : (uri : List ℕ) (p : EventPlace) (notes : List DocumentNote)
    (words : Option (List ℕ)) → is_noted uri notes ≡ true
    → with_note notes (option_map (document_note (on_document uri p)) words) ≡ notes
noted_already uri p notes None noted = refl
noted_already uri p notes (Some w) noted =
    ap (λ (b : Bool). if b then notes else notes ++ document_note (on_document uri p) w ∷ []) noted

-- ---- a call that changes no document

pub late_unchanged : (terms : Terms) (before : List Event) (made : List Call) (p : EventPlace)
    (call : calling.Call) → ((enc : Encoding) (kind : SyncKind) (uri : Bor (List ℕ)) (number : ℤ)
    (cs : Bor (List Change)) → call ≡ saying.Changes enc kind uri number cs → ⊥)
    → late_by terms before made p (call_view call) ≡ None
late_unchanged terms before made p (saying.Changes enc kind uri number cs) not =
    absurd (not enc kind uri number cs refl)
late_unchanged terms before made p _ not = refl
