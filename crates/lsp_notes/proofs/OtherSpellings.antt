-- Which messages name an open document under another spelling, with one event more.
use Rattle.std.specs.Prelude.{is_some, option_and_then, option_map, if◌then◌else◌, ℤ}
use Rattle.std.specs.List.{cons_option, find}
use Rattle.std.specs.Option.{option_or}
use Rattle.std.specs.Str.{bytes_eq}
use Rattle.std.proofs.Common.{◌≡◌, ℕ, Bool, true, false, List, [], ◌∷◌, ◌++◌, Option, Some, None}
use Rattle.std.proofs.Common.{refl, sym, ap, ◌∙◌, subst}
use Rattle.std.proofs.lemmas.List.Folds.{find-append}
use Rattle.lsp_trail.specs.Common.{Call, call_at, calls, each_of, Event, EventPlace, fault, Heard}
use Rattle.lsp_trail.specs.Common.{heard_events, held, if_unopened, kept_before, kept_of, message}
use Rattle.lsp_trail.specs.Common.{on_document, OnDocument, opens, place_of, rule_at, rule_of}
use Rattle.lsp_trail.specs.Common.{saves, sent_of, snapshot, Terms, Version, version_named_at}
use Rattle.lsp_trail.specs.Common.{Versioned}
use Rattle.lsp_docs.specs.Documents.{revised, versioned}
use Rattle.lsp_docs.proofs.HeldSteps.{held-snoc}
use Rattle.lsp_verdict.proofs.LookBackLemmas.{each_of-snoc}
use Rattle.lsp_replay.proofs.Seeing.{events-push}
use Rattle.lsp_notes.specs.DocumentNotes.{DocumentNote, document_note, first_notes, is_noted}
use Rattle.lsp_notes.specs.DocumentNotes.{notes_view, with_note}
use Rattle.lsp_trail.proofs.Saving.{saved_all, saved_unopened}
use Rattle.lsp_notes.specs.Spellings.{AreSpellings, HoldsOthers, similar_note}
use Rattle.lsp_notes.specs.Spellings.{similar_words, spelling_at, spelling_by, spelling_note}
use Rattle.lsp_notes.specs.Spellings.{unopened_by, unopened_in}
use Rattle.lsp_notes.specs.declared.spellings.Spellings.{Spellings}
use Rattle.lsp_notes.proofs.DocumentNoting.{first_notes_with}

-- ---- one event more

module _ (terms : Terms) (events : List Event) (e : Event)
    (kept_here : rule_at terms events e ≡ None) where
  spelling_is : (o : Option DocumentNote)
      → option_and_then (spelling_by terms events (place_of events e)) (sent_of e) ≡ o
      → spelling_at terms events e ≡ o
  spelling_is o is =
      ap (λ (r : Option ℕ). if is_some r then None
      else option_and_then (spelling_by terms events (place_of events e)) (sent_of e)) kept_here
      ∙ is

  -- **what is held stands for it too**
  pub spellings_more : (old new : Spellings) (named : Option DocumentNote)
      → AreSpellings terms old events
      → option_and_then (spelling_by terms events (place_of events e)) (sent_of e) ≡ named
      → notes_view new.named.items ≡ with_note (notes_view old.named.items) named
      → AreSpellings terms new (events ++ e ∷ [])
  spellings_more old new named are names_it noted = record {
    named_are =
        noted
        ∙ ap (λ l. with_note l named) are.named_are
        ∙ sym (first_notes_with (each_of (spelling_at terms) events) named)
        ∙ ap (λ (o : Option DocumentNote). first_notes
        (each_of (spelling_at terms) events ++ cons_option o [])) (sym (spelling_is named names_it))
        ∙ sym (ap first_notes (each_of-snoc (spelling_at terms) events e));
  }

-- ---- one note more

-- none, where there is one on this URI, or no room
pub noted_before : (notes : List DocumentNote) (uri : List ℕ) (p : EventPlace)
    (o : Option OnDocument) → is_noted uri notes ≡ true
    → notes ≡ with_note notes (option_map (similar_note p uri) o)
noted_before notes uri p None is = refl
noted_before notes uri p (Some on) is =
    ap (λ (b : Bool). if b then notes else notes ++ similar_note p uri on ∷ []) (sym is)

-- the note by its words
pub note_by_words : (uri : List ℕ) (p : EventPlace) (o : Option OnDocument) (w : Option (List ℕ))
    → w ≡ option_map (λ (on : OnDocument). similar_words uri on.uri) o
    → option_map (document_note (on_document uri p)) w ≡ option_map (similar_note p uri) o
note_by_words uri p o w is = ap (option_map (document_note (on_document uri p))) is ∙ by_other o
  where
    by_other : (o : Option OnDocument)
        → option_map (document_note (on_document uri p))
        (option_map (λ (on : OnDocument). similar_words uri on.uri) o)
        ≡ option_map (similar_note p uri) o
    by_other None = refl
    by_other (Some on) = refl

-- one more, where there is none on this URI
pub noted_now : (notes : List DocumentNote) (uri : List ℕ) (p : EventPlace) (words : List ℕ)
    → is_noted uri notes ≡ false
    → notes ++ document_note (on_document uri p) words ∷ []
    ≡ with_note notes (Some (document_note (on_document uri p) words))
noted_now notes uri p words is =
    ap (λ (b : Bool). if b then notes else notes ++ document_note (on_document uri p) words ∷ [])
    (sym is)

-- ---- the first of two parts

pub of_either : {A B : Type 0} (f : A → B) (x y : Option A)
    → option_map f (option_or x y) ≡ option_or (option_map f x) (option_map f y)
of_either f None y = refl
of_either f (Some a) y = refl

-- what is made of it
pub made_in_parts : {B : Type 0} (make : OnDocument → B) (p : OnDocument → Bool)
    (xs ys : List OnDocument)
    → option_map make (find p (xs ++ ys))
    ≡ option_or (option_map make (find p xs)) (option_map make (find p ys))
made_in_parts make p xs ys = ap (option_map make) (find-append p xs ys) ∙ by_first (find p xs)
  where
    by_first : (o : Option OnDocument)
        → option_map make (option_or o (find p ys))
        ≡ option_or (option_map make o) (option_map make (find p ys))
    by_first None = refl
    by_first (Some on) = refl

-- ---- the documents that are open after one more call

opened_so : (terms : Terms) (other uri : List ℕ) (n : ℤ) (t : List ℕ) (h : Option Version)
    (b : Bool) → b ≡ false
    → is_some (option_or (option_map (λ v. revised terms other v (opens uri n t)) h)
    (if b then Some (versioned n t) else None)) ≡ is_some h
opened_so terms other uri n t h true is = absurd (cc is)
opened_so terms other uri n t None false is = refl
opened_so terms other uri n t (Some v) false is = refl

-- one that opens this document opens no other
pub opened_others : (terms : Terms) (before : List Call) (uri : List ℕ) (n : ℤ) (t : List ℕ)
    → HoldsOthers terms uri before (before ++ opens uri n t ∷ [])
opened_others terms before uri n t = λ other apart.
    ap is_some (held-snoc terms other before (opens uri n t))
    ∙ opened_so terms other uri n t (held terms other before) (bytes_eq other uri) apart

-- one that says nothing opens none
pub others_stay : (terms : Terms) (uri : List ℕ) (before after : List Call) → after ≡ before
    → HoldsOthers terms uri before after
others_stay terms uri before after same = λ other apart.
    ap (λ (made : List Call). is_some (held terms other made)) same

pub saved_others : (terms : Terms) (before : List Call) (uri : List ℕ) (t : Option (List ℕ))
    → HoldsOthers terms uri before (before ++ saves uri t ∷ [])
saved_others terms before uri t = λ other apart. saved_all terms before uri t other

-- what a call opens, or saves though it is not open, is the same before it and after it, and the
-- others are
pub record IsUnopened (terms : Terms) (before : List Call) (call : Call) (uri : List ℕ) : Type 0
  where
    pub is : unopened_by terms before call ≡ Some uri
    pub others : HoldsOthers terms uri before (before ++ call ∷ [])

pub unopened_before : (terms : Terms) (before : List Call) (call : Call) (uri : List ℕ)
    → unopened_by terms (before ++ call ∷ []) call ≡ Some uri → IsUnopened terms before call uri
unopened_before terms before (opens own n t) uri is =
    let same : own ≡ uri = cc is in record {
      is = ap Some same;
      others = subst (λ u. HoldsOthers terms u before (before ++ opens own n t ∷ [])) same
          (opened_others terms before own n t);
    }
unopened_before terms before (saves own t) uri is =
    let unopened = sym (saved_unopened terms before own t) ∙ is in
    let same : own ≡ uri = named_so (is_some (held terms own before)) unopened in record {
      is = unopened;
      others = subst (λ u. HoldsOthers terms u before (before ++ saves own t ∷ [])) same
          (saved_others terms before own t);
    }
  where
    named_so : (b : Bool) → (if b then None else Some own) ≡ Some uri → own ≡ uri
    named_so true is = absurd (cc is)
    named_so false is = cc is
unopened_before terms before call uri is = absurd (cc is)

-- none is none
pub none_before : (terms : Terms) (before : List Call) (call : Call)
    → unopened_by terms (before ++ call ∷ []) call ≡ None → unopened_by terms before call ≡ None
none_before terms before (opens own n t) is = is
none_before terms before (saves own t) is = sym (saved_unopened terms before own t) ∙ is
none_before terms before call is = refl

-- ---- a message that says nothing of a document

module _ (terms : Terms) (before : List Heard) (h : Heard) (old : Spellings)
    (are : AreSpellings terms old (heard_events before)) (kept_here : rule_of terms before h ≡ None)
    (unsaid : call_at (kept_before terms before) h.note.event ≡ None)
    (named : Option Versioned) (names : named ≡ version_named_at h.note.event) (new : Spellings) where
  abbrev events : List Event
  events = heard_events before

  abbrev own : List Call
  own = calls (kept_of terms events)

  abbrev unopened : Option Versioned → Option (List ℕ)
  unopened o =
      option_and_then (if_unopened terms own) (option_map (λ (v : Versioned). v.uri) o)

  -- what it names
  names_by : (p : EventPlace) (e : Event) → call_at (kept_of terms events) e ≡ None
      → option_and_then (spelling_by terms events p) (sent_of e)
      ≡ option_and_then (spelling_note terms events p) (unopened (version_named_at e))
  names_by p (message m) none =
      ap (λ (o : Option Call). option_and_then (spelling_note terms events p)
      (unopened_in terms own o m)) none
  names_by p _ none = refl

  names_as : (p : EventPlace) → p ≡ place_of events h.note.event
      → option_and_then (spelling_by terms events (place_of events h.note.event))
      (sent_of h.note.event)
      ≡ option_and_then (spelling_note terms events p) (unopened named)
  names_as p at =
      ap (λ (q : EventPlace). option_and_then (spelling_by terms events q) (sent_of h.note.event))
      (sym at)
      ∙ names_by p h.note.event unsaid
      ∙ ap (λ (o : Option Versioned). option_and_then (spelling_note terms events p) (unopened o))
      (sym names)

  -- **one that names no document that is not open**
  pub named_none : new.named ≡ old.named → unopened named ≡ None
      → AreSpellings terms new (heard_events (before ++ h ∷ []))
  named_none same none =
      subst (AreSpellings terms new) (sym (events-push before h))
      (spellings_more terms events h.note.event kept_here old new None are
      (names_as (place_of events h.note.event) refl
      ∙ ap (option_and_then (spelling_note terms events (place_of events h.note.event))) none)
      (ap (λ v. notes_view v.items) same))

  -- **one that names one**
  pub named_one : (p : EventPlace) (uri : List ℕ) → p ≡ place_of events h.note.event
      → unopened named ≡ Some uri
      → notes_view new.named.items
      ≡ with_note (notes_view old.named.items) (spelling_note terms events p uri)
      → AreSpellings terms new (heard_events (before ++ h ∷ []))
  named_one p uri at one noted =
      subst (AreSpellings terms new) (sym (events-push before h))
      (spellings_more terms events h.note.event kept_here old new
      (spelling_note terms events p uri) are
      (names_as p at ∙ ap (option_and_then (spelling_note terms events p)) one) noted)

-- ---- an event that says something of a document

module _ (terms : Terms) (before : List Heard) (h : Heard) (old : Spellings)
    (are : AreSpellings terms old (heard_events before)) (kept_here : rule_of terms before h ≡ None)
    (call : Call) (says : call_at (kept_before terms before) h.note.event ≡ Some call)
    (new : Spellings) where
  abbrev earlier : List Event
  earlier = heard_events before

  abbrev made : List Call
  made = calls (kept_of terms earlier)

  -- nothing, where its document is open, or where it is a snapshot
  none_by : (p : EventPlace) (e : Event) → call_at (kept_of terms earlier) e ≡ Some call
      → unopened_by terms made call ≡ None
      → option_and_then (spelling_by terms earlier p) (sent_of e) ≡ None
  none_by p (message m) so none =
      ap (λ (o : Option Call). option_and_then (spelling_note terms earlier p)
      (unopened_in terms made o m)) so
      ∙ ap (option_and_then (spelling_note terms earlier p)) none
  none_by p (fault side rule) so none = absurd (cc so)
  none_by p (snapshot uri number text) so none = refl

  -- **one of which the document is open, or of a snapshot**
  pub called_none : new.named ≡ old.named → unopened_by terms made call ≡ None
      → AreSpellings terms new (heard_events (before ++ h ∷ []))
  called_none same none =
      let p = place_of earlier h.note.event in
      subst (AreSpellings terms new) (sym (events-push before h))
      (spellings_more terms earlier h.note.event kept_here old new None are
      (none_by p h.note.event says none) (ap (λ v. notes_view v.items) same))

  -- an opening or a save is a message
  one_by : (p : EventPlace) (uri : List ℕ) (e : Event)
      → call_at (kept_of terms earlier) e ≡ Some call → unopened_by terms made call ≡ Some uri
      → option_and_then (spelling_by terms earlier p) (sent_of e) ≡ spelling_note terms earlier p uri
  one_by p uri (message m) so one =
      ap (λ (o : Option Call). option_and_then (spelling_note terms earlier p)
      (unopened_in terms made o m)) so
      ∙ ap (option_and_then (spelling_note terms earlier p)) one
  one_by p uri (fault side rule) so one = absurd (cc so)
  one_by p uri (snapshot shown number text) so one =
      let none : unopened_by terms made call ≡ None =
      subst (λ (o : Option Call). option_and_then (unopened_by terms made) o ≡ None) so refl in
      absurd (cc (none, one))

  -- **one that names a document that is not open**
  pub called_one : (p : EventPlace) (uri : List ℕ) → p ≡ place_of earlier h.note.event
      → unopened_by terms made call ≡ Some uri
      → notes_view new.named.items
      ≡ with_note (notes_view old.named.items) (spelling_note terms earlier p uri)
      → AreSpellings terms new (heard_events (before ++ h ∷ []))
  called_one p uri at one noted =
      subst (AreSpellings terms new) (sym (events-push before h))
      (spellings_more terms earlier h.note.event kept_here old new
      (spelling_note terms earlier p uri) are
      (ap (λ (q : EventPlace). option_and_then (spelling_by terms earlier q)
      (sent_of h.note.event)) (sym at)
      ∙ one_by p uri h.note.event says one) noted)
