-- What is kept of requests and phases, and for the notes, with one message more.
use Rattle.std.specs.Prelude.{if◌then◌else◌, ◌⊎◌, ◌&&◌, not, option_and_then}
use Rattle.std.specs.Prelude.{unwrap_or, is_some, map, option_map, option_to_list}
use Rattle.std.specs.Option.{option_or}
use Rattle.std.proofs.Common.{◌≡◌, Bool, true, false, Option, Some, None, refl, ℕ, List, [], ◌∷◌}
use Rattle.std.proofs.Common.{◌++◌, inl, inr, sym, ap, ◌∙◌, append-nil, subst}
use Rattle.std.specs.List.{cons_option, filter_map}
use Rattle.std.proofs.lemmas.List.{map-append}
use Rattle.std.proofs.lemmas.List.Elements.{filter_map-append}
use Rattle.std.proofs.lemmas.Option.{same_Some}
use Rattle.serde_json.specs.Data.{Data}
use Rattle.lsp_replay.specs.Common.{answered_from, call_at, call_of, each_from, each_of, encoding}
use Rattle.lsp_replay.specs.Common.{error, Event, first_settled, id_view, Ident, is_done, kept_of}
use Rattle.lsp_replay.specs.Common.{last_or, Message, message, Nothing, notification, Offer}
use Rattle.lsp_replay.specs.Common.{open_initializes, outline, Phase, phase, place_of, request}
use Rattle.lsp_replay.specs.Common.{response, result, rule_at, Sent, sent_in, sent_of, Settled}
use Rattle.lsp_replay.specs.Common.{Side, Terms, Utf16, without_params}
use Rattle.lsp_rpc.specs.Reading.{Reads}
use Rattle.lsp_session.specs.Handshake.{offer_to}
use Rattle.lsp_session.specs.Handshake.{result_of, settled_among, settled_at, settled_by}
use Rattle.lsp_session.specs.Negotiation.{sync_kind}
use Rattle.lsp_session.specs.OpenInitialize.{Initialize}
use Rattle.lsp_session.proofs.Steps.{first_settled_from-push}
use Rattle.lsp_types.specs.declared.side.Side.TheVariants.{Editor, Server}
use Rattle.lsp_verdict.proofs.LookBackLemmas.{each_of-snoc}
use Rattle.lsp_verdict.proofs.Offences.Steps.{last_behind}
use Rattle.lsp_verdict.specs.Laws.{kept_at}
use Rattle.lsp_verdict.proofs.Offences.Offending.{kept_are_others}
use Rattle.lsp_replay.specs.declared.heard.EventPlace.{EventPlace}
use Rattle.lsp_replay.specs.Standing.{HasValue}
use Rattle.lsp_trail.specs.Asking.{Numbered, numbered_as, sents, Reply, asks, asks_by, leads}
use Rattle.lsp_trail.specs.Asking.{leads_by, message_kept, most_replies, numbered, replies}
use Rattle.lsp_trail.specs.Asking.{reply_by, reply_of}
use Rattle.lsp_trail.specs.SessionNotes.{Misused, misuse_at, misuse_in, misused_views}
use Rattle.lsp_trail.specs.SessionNotes.{misuses, misuses_after, with_misuse, AreNotes, NotesBy}
use Rattle.lsp_trail.specs.SessionNotes.{abrupt_by, older_held, older_in, older_of}
use Rattle.lsp_trail.specs.declared.notes.Notes.{Notes}
use Rattle.lsp_trail.specs.History.{kept_as, last_ones}
use Rattle.lsp_trail.specs.Renames.{RenamesBy, RenamesIn, call_by}
use Rattle.lsp_trail.specs.Conversations.{IsConversation, Exchanges, IsExchange, Says, SessionStands}
use Rattle.lsp_trail.specs.Conversations.{place_in}
use Rattle.lsp_trail.specs.declared.exchange.Exchange.{Exchange}
use Rattle.lsp_trail.specs.declared.conversation.Conversation.{Conversation}
use Rattle.lsp_trail.proofs.History.{kept_more, refused_more}
use Rattle.lsp_trail.proofs.RenameSteps.{renames_more}

-- ---- the requests of one side, with one message more

-- one of the two, as a test says
pub or_if : {X : Type 0} (b : Bool) (x : X) (o : Option X)
    → (if b then Some x else o) ≡ option_or (if b then Some x else None) o
or_if true x o = refl
or_if false x o = refl

-- ---- what is kept for the notes, with one message more

-- what is asked of a message apart from its params and its result is the same of both
pub alike : {X : Type 0} (f : Message → X) (m said : Message) → ((w : Message) → f w ≡ f (outline w))
    → outline m ≡ outline said → f said ≡ f m
alike f m said each same = each said ∙ sym (ap f same) ∙ sym (each m)

-- ---- calls that are misused

pub misuse-outline : (p : EventPlace) (side : Side) (m : Message)
    → misuse_in p side m ≡ misuse_in p side (outline m)
misuse-outline p side (response own (result value)) = refl
misuse-outline p side _ = refl

misuses_after-push : (found xs : List Misused) (x : Misused)
    → misuses_after found (xs ++ x ∷ []) ≡ with_misuse (misuses_after found xs) (Some x)
misuses_after-push found [] x = refl
misuses_after-push found (y ∷ ys) x = misuses_after-push (with_misuse found (Some y)) ys x

misuses-push : (said : List Numbered) (m : Numbered)
    → misuses (said ++ m ∷ []) ≡ with_misuse (misuses said) (misuse_at m)
misuses-push said m =
    ap (misuses_after []) (filter_map-append misuse_at said (m ∷ [])) ∙ by_one (misuse_at m)
  where
    by_one : (o : Option Misused)
        → misuses_after [] (filter_map misuse_at said ++ cons_option o [])
        ≡ with_misuse (misuses said) o
    by_one None = ap (misuses_after []) (append-nil (filter_map misuse_at said))
    by_one (Some x) = misuses_after-push [] (filter_map misuse_at said) x

misuse_more : (p : EventPlace) (m : Sent) (said : Message) (before : List Numbered)
    (old new : List Misused) → outline m.message ≡ outline said → old ≡ misuses before
    → new ≡ with_misuse old (misuse_in p m.side said)
    → new ≡ misuses (before ++ numbered_as p m ∷ [])
misuse_more p m said before old new same are more =
    more
    ∙ ap (λ (w : List Misused). with_misuse w (misuse_in p m.side said)) are
    ∙ ap (with_misuse (misuses before))
    (alike (misuse_in p m.side) m.message said (misuse-outline p m.side) same)
    ∙ sym (misuses-push before (numbered_as p m))

-- ---- the older `offsetEncoding`

-- a message that settles the handshake answers an open `initialize`, by a result that is there
settles : (opens : List Initialize) (side : Side) (m said : Message) (s : Settled)
    → settled_among opens side m ≡ Some s → (opens ≡ []) ⊎ (said ≡ without_params m)
    → result_of said ≡ Some s.value
settles opens side m said s is (inl none) =
    let nothing : None ≡ Some s =
    sym (ap (λ (l : List Initialize). settled_among l side m) none) ∙ is in absurd cc
settles opens side m said s is (inr same) =
    ap result_of same ∙ result_kept m
    ∙ by_parts (offer_to (answered_from Editor side m) opens) (result_of m) is
  where
    result_kept : (w : Message) → result_of (without_params w) ≡ result_of w
    result_kept (request id method params) = refl
    result_kept (notification method params) = refl
    result_kept (response id reply) = refl

    by_parts : (offer : Option Offer) (value : Option Data) → settled_at offer value ≡ Some s
        → value ≡ Some s.value
    by_parts (Some offer) (Some value) e =
        ap (λ (w : Settled). let o : Option Data = Some w.value in o) (same_Some _ s e)
    by_parts _ _ e = absurd cc

abbrev older_by : Option Settled → Option (List ℕ)
older_by o = option_and_then (λ s. older_in s.value) o

-- what is held before it, and after it
older_more : (before by : Option Settled) (said : Message) (old new : Option (List ℕ))
    → ((s : Settled) → by ≡ Some s → result_of said ≡ Some s.value) → old ≡ older_by before
    → new ≡ (if not (is_some before) && is_some (option_or before by) then older_of said else old)
    → new ≡ older_by (option_or before by)
older_more None (Some s) said old new has are more =
    more ∙ ap (option_and_then older_in) (has s refl)
older_more _ _ said old new has are more = more ∙ are

-- ---- one message more

-- **what is held stands for it too**
pub notes_more : (p : EventPlace) (m : Sent) (said : Message) (before : List Numbered)
    (old new : Notes)
    → outline m.message ≡ outline said
    → (open_initializes (sents before) ≡ []) ⊎ (said ≡ without_params m.message)
    → AreNotes old before
    → NotesBy p m.side said (phase (sents before)) (phase (sents (before ++ numbered_as p m ∷ [])))
    (is_done (sents (before ++ numbered_as p m ∷ []))) old new
    → AreNotes new (before ++ numbered_as p m ∷ [])
notes_more p m said before old new same has_value are more = record {
  misuses_are = misuse_more p m said before (misused_views old.misuses.items)
      (misused_views new.misuses.items) same are.misuses_are more.misuses_are;
  abrupt_is =
      more.abrupt_is
      ∙ ap (unwrap_or (abrupt_by before (numbered_as p m))) are.abrupt_is
      ∙ sym (ap (last_or None) (each_of-snoc abrupt_by before (numbered_as p m))
      ∙ last_behind None (each_of abrupt_by before) (abrupt_by before (numbered_as p m)));
  done_is = more.done_is;
  older_is =
      older_more (first_settled (sents before)) by said (older_held old) (older_held new)
      (λ s is. settles (open_initializes (sents before)) m.side m.message said s is has_value)
      are.older_is
      (more.older_is ∙ (λ i. if not (are.done_is i) && is_some (settled i) then older_of said else
      older_held old))
      ∙ ap older_by (sym settled);
}
  where
    by : Option Settled
    by = settled_by (sents before) m

    settled : first_settled (sents (before ++ numbered_as p m ∷ []))
        ≡ option_or (first_settled (sents before)) by
    settled = ap first_settled (map-append (λ (x : Numbered). x.sent) before (numbered_as p m ∷ []))
        ∙ first_settled_from-push [] (sents before) m

-- ---- the kept messages

sent_more : (p : EventPlace) (rule : Option ℕ) (e : Event) (kept : List Event)
    (said : List Numbered)
    → sent_in kept ≡ sents said
    → sent_in (cons_option (if is_some rule then None else Some e) kept)
    ≡ sents (cons_option (if is_some rule then None else message_kept p [] e) said)
sent_more p (Some rule) e kept said same = same
sent_more p None e kept said same = by_sent (sent_of e)
  where
    by_sent : (o : Option Sent)
        → cons_option o (sent_in kept) ≡ sents (cons_option (option_map (numbered_as p) o) said)
    by_sent None = same
    by_sent (Some m) = ap (λ (ms : List Sent). m ∷ ms) same

sents_from : (terms : Terms) (front xs : List Event)
    → sent_in (each_from (kept_at terms) front xs) ≡ sents (each_from (kept_as message_kept terms) front xs)
sents_from terms front [] = refl
sents_from terms front (e ∷ xs) =
    sent_more (place_of front e) (rule_at terms front e) e
    (each_from (kept_at terms) (front ++ e ∷ []) xs)
    (each_from (kept_as message_kept terms) (front ++ e ∷ []) xs) (sents_from terms (front ++ e ∷ []) xs)

-- without their numbers they are those of the events that are kept
pub sents-numbered : (terms : Terms) (events : List Event)
    → sents (numbered terms events) ≡ sent_in (kept_of terms events)
sents-numbered terms events =
    sym (ap sent_in (kept_are_others terms events) ∙ sents_from terms [] events)

-- what a message says about a document, under what the kept messages agreed
called : (terms : Terms) (events : List Event) (m : Sent) (p : EventPlace)
    → call_by (numbered terms events) (numbered_as p m)
    ≡ call_at (kept_of terms events) (message m)
called terms events m p =
    ap (λ (ms : List Sent). call_of (unwrap_or (encoding ms) Utf16)
    (unwrap_or (sync_kind ms) Nothing) m.act)
    (are_sent (sents (numbered terms events)) ∙ sents-numbered terms events)
  where
    are_sent : (ms : List Sent) → sent_in (map message ms) ≡ ms
    are_sent [] = refl
    are_sent (x ∷ xs) = ap (λ (ms : List Sent). x ∷ ms) (are_sent xs)

-- ---- what a message says of requests, apart from its params and its result

pub asks-outline : (side : Side) (id : Ident) (p : EventPlace) (sender : Side) (m : Message)
    → asks side id p sender m ≡ asks side id p sender (outline m)
asks-outline side id p sender (response own (result value)) = refl
asks-outline side id p sender _ = refl

pub answered-outline : (side sender : Side) (m : Message)
    → answered_from side sender m ≡ answered_from side sender (outline m)
answered-outline side sender (response own (result value)) = refl
answered-outline side sender _ = refl

-- ---- the requests of one side

as_list : {A : Type 0} (o : Option A) → option_to_list o ≡ cons_option o []
as_list None = refl
as_list (Some x) = refl

module _ (side : Side) (p : EventPlace) (m : Sent) (said : Message)
    (same : outline m.message ≡ outline said)
  where
    exchanged : (old new : Exchange) (before : List Numbered) → IsExchange side old before
        → Exchanges side p m.side said old new
        → IsExchange side new (before ++ numbered_as p m ∷ [])
    exchanged old new before is more = record {
      asked_is = λ k.
          more.asked k
          ∙ ap (λ (o : Option (Option EventPlace)).
          unwrap_or o (place_in old.asked (id_view k)))
          (alike (asks side (id_view k) p m.side) m.message said
          (asks-outline side (id_view k) p m.side) same)
          ∙ ap (unwrap_or (asks side (id_view k) p m.side m.message)) (is.asked_is k)
          ∙ sym (ap (last_or None) (filter_map-append (asks_by side (id_view k)) before
          (numbered_as p m ∷ [])) ∙ last_behind None (filter_map (asks_by side (id_view k)) before)
          (asks side (id_view k) p m.side m.message));
      replies_are =
          more.replies (replies side before) is.replies_are
          ∙ ap (λ (o : Option Ident). last_ones most_replies
          (replies side before ++ option_to_list (reply_of p o)))
          (alike (answered_from side m.side) m.message said (answered-outline side m.side) same)
          ∙ ap (λ (l : List Reply). last_ones most_replies (replies side before ++ l))
          (as_list (reply_of p (answered_from side m.side m.message)))
          ∙ ap (last_ones most_replies)
          (sym (filter_map-append (reply_by side) before (numbered_as p m ∷ [])));
    }

-- ---- one event more

-- **an event that offends leaves all notes**
pub refused_unsaid : (terms : Terms) (s : Conversation) (before : List Event) (e : Event) (rule : ℕ)
    → IsConversation terms s before → rule_at terms before e ≡ Some rule
    → IsConversation terms s (before ++ e ∷ [])
refused_unsaid terms s before e rule are is =
    subst (SessionStands s) (sym (refused_more message_kept terms before e rule is)) are

-- so does one that is kept and no message
pub other_unsaid : (terms : Terms) (s : Conversation) (before : List Event) (e : Event)
    → IsConversation terms s before → rule_at terms before e ≡ None → sent_of e ≡ None
    → IsConversation terms s (before ++ e ∷ [])
other_unsaid terms s before e are kept is =
    subst (SessionStands s) (sym (kept_more message_kept terms before e (place_of before e) None kept
    refl (ap (option_map (numbered_as (place_of before e))) is)
    ∙ append-nil (numbered terms before))) are

-- **a message that is kept**, which this content is
pub message_taken : (terms : Terms) (old new : Conversation) (before : List Event) (m : Sent)
    (bytes : List ℕ) (said : Message) (p : EventPlace) → IsConversation terms old before
    → rule_at terms before (message m) ≡ None
    → p ≡ place_of before (message m) → Reads bytes m.message → outline m.message ≡ outline said
    → HasValue (kept_of terms before) said m.message
    → Says p m.side said (phase (sent_in (kept_of terms (before ++ message m ∷ []))))
    (is_done (sent_in (kept_of terms (before ++ message m ∷ [])))) old new
    → RenamesIn p m.side bytes said (call_at (kept_of terms before) (message m)) old.renames
    new.renames
    → IsConversation terms new (before ++ message m ∷ [])
message_taken terms old new before m bytes said p are kept number reads same has_value says
    renamed =
    subst (SessionStands new) (sym whole) (record {
      editor = exchanged Editor p m said same old.editor new.editor ms are.editor says.editor;
      server = exchanged Server p m said same old.server new.server ms are.server says.server;
      phase_is = says.phase_is ∙ behind;
      since_is =
          says.since_is
          ∙ (λ i. unwrap_or (leads p (are.phase_is i) (behind i)) (are.since_is i))
          ∙ sym (ap (last_or None) (each_of-snoc leads_by ms (numbered_as p m))
          ∙ last_behind None (each_of leads_by ms) (leads_by ms (numbered_as p m)));
      notes_are = notes_more p m said ms old.notes new.notes same value are.notes_are
          (subst (λ (q : Phase). NotesBy p m.side said q (phase sents_behind)
          (is_done sents_behind) old.notes new.notes) are.phase_is more);
      renames_are = renames_more p m ms old.renames new.renames are.renames_are
          (subst (λ o. RenamesBy p m.side m.message o old.renames new.renames)
          (sym (called terms before m p)) (renamed m.message reads same));
    })
  where
    ms : List Numbered
    ms = numbered terms before

    whole : numbered terms (before ++ message m ∷ []) ≡ ms ++ numbered_as p m ∷ []
    whole = kept_more message_kept terms before (message m) p (Some (numbered_as p m)) kept number
        refl

    sents_behind : List Sent
    sents_behind = sents (ms ++ numbered_as p m ∷ [])

    sents_are : sent_in (kept_of terms (before ++ message m ∷ [])) ≡ sents_behind
    sents_are = sym (sents-numbered terms (before ++ message m ∷ [])) ∙ ap sents whole

    behind : phase (sent_in (kept_of terms (before ++ message m ∷ []))) ≡ phase sents_behind
    behind = ap phase sents_are

    value : (open_initializes (sents ms) ≡ []) ⊎ (said ≡ without_params m.message)
    value = subst (λ (l : List Sent). (open_initializes l ≡ []) ⊎ (said ≡ without_params m.message))
        (sym (sents-numbered terms before)) has_value

    more : NotesBy p m.side said old.phase (phase sents_behind) (is_done sents_behind) old.notes
        new.notes
    more = subst (λ (l : List Sent). NotesBy p m.side said old.phase (phase l) (is_done l)
        old.notes new.notes) sents_are says.notes_more
