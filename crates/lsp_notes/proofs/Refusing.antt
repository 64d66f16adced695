-- Which requests about documents the server refused, with one event more.
use Rattle.std.specs.Prelude.{option_and_then, option_map, unwrap_or, is_some, if◌then◌else◌}
use Rattle.std.specs.List.{cons_option}
use Rattle.std.proofs.Common.{◌≡◌, ℕ, true, false, List, [], ◌∷◌, ◌++◌, Option, Some, None, refl}
use Rattle.std.proofs.Common.{sym, ap, ◌∙◌, subst}
use Rattle.lsp_trail.specs.Common.{broken, Call, call_at, content, document_in, each_of, Editor}
use Rattle.lsp_trail.specs.Common.{encoding, error, Event, EventPlace, fault, Heard, heard_events}
use Rattle.lsp_trail.specs.Common.{Ident, IsSpoken, kept_before, kept_of, last_ones, Message}
use Rattle.lsp_trail.specs.Common.{message, message_view, notification, outline, params_of}
use Rattle.lsp_trail.specs.Common.{place_of, Raw, Reads, request, response, result, rule_at}
use Rattle.lsp_trail.specs.Common.{rule_of, sent_in, sent_of, Server, show, Side, snapshot, Spoken}
use Rattle.lsp_trail.specs.Common.{Terms, Utf16, version_named, Versioned}
use Rattle.serde_json.specs.Data.{Data}
use Rattle.lsp_rpc.specs.Params.{act_at}
use Rattle.lsp_session.specs.Negotiation.{sync_kind}
use Rattle.lsp_types.specs.declared.change.SyncKind.TheVariants.{Nothing}
use Rattle.lsp_verdict.proofs.LookBackLemmas.{each_of-snoc}
use Rattle.lsp_replay.proofs.Seeing.{events-push}
use Rattle.lsp_notes.specs.DocumentNotes.{DocumentNote, first_notes, notes_view, with_note}
use Rattle.lsp_notes.specs.Refusals.{AreRefusals, event_request}
use Rattle.lsp_notes.specs.Refusals.{is_request, most_requests, open_document}
use Rattle.lsp_notes.specs.Refusals.{refusal_at, refusal_by, refusal_note, refused_document}
use Rattle.lsp_notes.specs.Refusals.{refused_id, refused_request, refuses, request_of, requests}
use Rattle.lsp_notes.specs.Requests.{Holds, Request, request_at, request_view}
use Rattle.lsp_notes.specs.declared.refusals.Refusals.{Refusals}
use Rattle.lsp_notes.proofs.DocumentNoting.{first_notes_with}
use Rattle.lsp_trail.proofs.History.{kept_more, none_held}
use Rattle.lsp_trail.proofs.NamedDocuments.{editor_names}
use Rattle.lsp_trail.proofs.Standard.{on_document as said_on}

-- ---- one event more

module _ (terms : Terms) (events : List Event) (e : Event)
    (kept_here : rule_at terms events e ≡ None) where
  refusal_is : (o : Option DocumentNote)
      → option_and_then (refusal_by terms events (place_of events e)) (sent_of e) ≡ o
      → refusal_at terms events e ≡ o
  refusal_is o is =
      ap (λ (r : Option ℕ). if is_some r then None
      else option_and_then (refusal_by terms events (place_of events e)) (sent_of e)) kept_here
      ∙ is

  -- **what is held stands for it too**
  pub refusals_more : (old new : Refusals) (asked : Option Request)
      (refused : Option DocumentNote) → AreRefusals terms old events
      → event_request (place_of events e) (kept_of terms events) e ≡ asked
      → option_and_then (refusal_by terms events (place_of events e)) (sent_of e) ≡ refused
      → Holds most_requests (cons_option asked []) old.asked.items new.asked.items
      → notes_view new.refused.items ≡ with_note (notes_view old.refused.items) refused
      → AreRefusals terms new (events ++ e ∷ [])
  refusals_more old new asked refused are asks_it refuses_it holds noted = record {
    asked_are =
        holds (requests terms events) are.asked_are
        ∙ ap (last_ones most_requests) (sym (kept_more event_request terms events e
        (place_of events e) asked kept_here refl asks_it));
    refused_are =
        noted
        ∙ ap (λ l. with_note l refused) are.refused_are
        ∙ sym (first_notes_with (each_of (refusal_at terms) events) refused)
        ∙ ap (λ (o : Option DocumentNote). first_notes
        (each_of (refusal_at terms) events ++ cons_option o [])) (sym (refusal_is refused refuses_it))
        ∙ sym (ap first_notes (each_of-snoc (refusal_at terms) events e));
  }

-- ---- a request

-- a request asks about the document that it names
asks_one : (p : EventPlace) (m : Message) → is_request m ≡ true
    → request_of p Editor m ≡ Some (request_at p (option_and_then (document_in Editor) (params_of m)))
asks_one p (request own method params) is = refl
asks_one p _ is = absurd (cc is)

-- a message that is none asks nothing
asks_none : (p : EventPlace) (m : Message) → is_request m ≡ false → request_of p Editor m ≡ None
asks_none p (request own method params) is = absurd (cc is)
asks_none p _ is = refl

is_request-outline : (m : Message) → is_request m ≡ is_request (outline m)
is_request-outline (response own (result value)) = refl
is_request-outline _ = refl

-- whether a message is a request is known without its params and its result
requests_alike : (m said : Message) → outline m ≡ outline said → is_request m ≡ is_request said
requests_alike m said same =
    is_request-outline m ∙ ap is_request same ∙ sym (is_request-outline said)

pub unasked : (p : EventPlace) (m said : Message) → outline m ≡ outline said
    → is_request said ≡ false → request_of p Editor m ≡ None
unasked p m said same is = asks_none p m (requests_alike m said same ∙ is)

pub asked_so : (p : EventPlace) (m said : Message) (named : Option Versioned)
    → outline m ≡ outline said → is_request said ≡ true → named ≡ version_named Editor m
    → request_of p Editor m ≡ Some (request_at p (option_map (λ (v : Versioned). v.uri) named))
asked_so p m said named same is are =
    asks_one p m (requests_alike m said same ∙ is)
    ∙ ap (λ o. Some (request_at p o))
    (sym (ap (option_map (λ (v : Versioned). v.uri)) are ∙ editor_names m))

refused_id-outline : (m : Message) → refused_id m ≡ refused_id (outline m)
refused_id-outline (response None (result value)) = refl
refused_id-outline (response (Some id) (result value)) = refl
refused_id-outline _ = refl

-- the request first, then the document that it names
pub refused_in_turn : (terms : Terms) (before : List Event) (id : Option Ident)
    → option_and_then (refused_document terms before) id
    ≡ option_and_then (open_document terms before)
    (option_and_then (refused_request terms before) id)
refused_in_turn terms before None = refl
refused_in_turn terms before (Some id) = refl

-- what a message refuses is known without its params and its result
pub refuses_alike : (m said : Message) → outline m ≡ outline said → refused_id m ≡ refused_id said
refuses_alike m said same =
    refused_id-outline m ∙ ap refused_id same ∙ sym (refused_id-outline said)

-- ---- a message that says nothing of a document

module _ (terms : Terms) (before : List Heard) (h : Heard) (old : Refusals)
    (are : AreRefusals terms old (heard_events before)) (kept_here : rule_of terms before h ≡ None)
    (p : EventPlace)
    (at : p ≡ place_of (heard_events before) h.note.event) (side by : Side) (bytes : List ℕ)
    (s : Spoken) (reads : Reads (content side bytes) h.note.event)
    (spoken : IsSpoken (kept_before terms before) h.note.event by s) (new : Refusals) where
  abbrev events : List Event
  events = heard_events before

  abbrev e : Event
  e = h.note.event

  abbrev m : Message
  m = spoken.sent.message

  own_side : spoken.sent.side ≡ side
  own_side = (subst (λ (x : Event). Reads (content side bytes) x) spoken.is reads).by

  -- what it asks, and what it refuses
  asks_as : (sender : Side) → side ≡ sender
      → event_request (place_of events e) (kept_of terms events) e ≡ request_of p sender m
  asks_as sender is =
      ap (λ (q : EventPlace). event_request q (kept_of terms events) e) (sym at)
      ∙ ap (λ (x : Event). event_request p (kept_of terms events) x) spoken.is
      ∙ ap (λ (x : Side). request_of p x m) (own_side ∙ is)

  refuses_as : (sender : Side) → side ≡ sender
      → option_and_then (refusal_by terms events (place_of events e)) (sent_of e)
      ≡ refusal_note terms events p (refuses sender m)
  refuses_as sender is =
      ap (λ (q : EventPlace). option_and_then (refusal_by terms events q) (sent_of e)) (sym at)
      ∙ ap (λ (x : Event). option_and_then (refusal_by terms events p) (sent_of x)) spoken.is
      ∙ ap (λ (x : Side). refusal_note terms events p (refuses x m)) (own_side ∙ is)

  -- **one of the editor**
  pub asked_more : side ≡ Editor
      → Holds most_requests (cons_option (request_of p Editor m) []) old.asked.items
      new.asked.items
      → new.refused ≡ old.refused
      → AreRefusals terms new (heard_events (before ++ h ∷ []))
  asked_more is holds same =
      subst (AreRefusals terms new) (sym (events-push before h))
      (refusals_more terms events e kept_here old new (request_of p Editor m) None are
      (asks_as Editor is) (refuses_as Editor is) holds
      (ap (λ r. notes_view r.items) same))

  -- **one of the server**
  pub answered_more : side ≡ Server → new.asked ≡ old.asked
      → notes_view new.refused.items ≡ with_note (notes_view old.refused.items)
      (refusal_note terms events p (refused_id (message_view s.message)))
      → AreRefusals terms new (heard_events (before ++ h ∷ []))
  answered_more is same noted =
      let refused = refusal_note terms events p (refused_id (message_view s.message)) in
      subst (AreRefusals terms new) (sym (events-push before h))
      (refusals_more terms events e kept_here old new None refused are (asks_as Server is)
      (refuses_as Server is ∙ ap (refusal_note terms events p)
      (refuses_alike m (message_view s.message) spoken.says))
      (subst (λ q. Holds most_requests [] old.asked.items q.items) (sym same)
      (none_held request_view most_requests None old.asked.items refl)) noted)

-- ---- an event that says something of a document

notified_asks : (p : EventPlace) (side : Side) (method : List ℕ) (params : Option Data)
    → request_of p side (notification method params) ≡ None
notified_asks p Editor method params = refl
notified_asks p Server method params = refl

notified_refuses : (side : Side) (method : List ℕ) (params : Option Data)
    → refuses side (notification method params) ≡ None
notified_refuses Editor method params = refl
notified_refuses Server method params = refl

-- it neither asks nor refuses
pub record IsQuiet (terms : Terms) (events : List Event) (e : Event) : Type 0 where
  pub asks_none : event_request (place_of events e) (kept_of terms events) e ≡ None
  pub refuses_it : option_and_then (refusal_by terms events (place_of events e)) (sent_of e) ≡ None

quiet_call : (terms : Terms) (events : List Event) (e : Event) (raw : Raw) (call : Call)
    → rule_at terms events e ≡ None → Reads raw e → call_at (kept_of terms events) e ≡ Some call
    → IsQuiet terms events e
quiet_call terms events (fault side rule) raw call kept reads says = absurd (cc kept)
quiet_call terms events (snapshot uri version text) raw call kept reads says = record {
  asks_none = refl;
  refuses_it = refl;
}
quiet_call terms events (message m) (content side bytes) call kept reads says =
    let place = place_of events (message m) in
    let sents = sent_in (kept_of terms events) in
    let enc = unwrap_or (encoding sents) Utf16 in
    let kind = unwrap_or (sync_kind sents) Nothing in
    let means : act_at m.side m.message ≡ Some m.act =
    subst (λ (x : Side). act_at x m.message ≡ Some m.act) (sym reads.by) reads.means in
    let heard = said_on m.side m.message m.act enc kind call means says in
    record {
      asks_none = ap (λ (w : Message). request_of place m.side w) heard.is
          ∙ notified_asks place m.side heard.method heard.params;
      refuses_it = ap (λ (w : Message). refusal_note terms events place (refuses m.side w)) heard.is
          ∙ ap (refusal_note terms events place)
          (notified_refuses m.side heard.method heard.params);
    }
quiet_call terms events (message m) _ call kept reads says = absurd (cc reads)

-- **what is held stands for one more that says something of a document**
pub refusals_called : (terms : Terms) (before : List Heard) (h : Heard) (r : Refusals) (call : Call)
    → AreRefusals terms r (heard_events before) → rule_of terms before h ≡ None
    → Reads h.raw h.note.event → call_at (kept_before terms before) h.note.event ≡ Some call
    → AreRefusals terms r (heard_events (before ++ h ∷ []))
refusals_called terms before h r call are kept reads says =
    let events = heard_events before in
    let quiet = quiet_call terms events h.note.event h.raw call kept reads says in
    subst (AreRefusals terms r) (sym (events-push before h))
    (refusals_more terms events h.note.event kept r r None None are quiet.asks_none quiet.refuses_it
    (none_held request_view most_requests None r.asked.items refl) refl)
