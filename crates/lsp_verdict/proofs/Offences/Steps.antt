-- All offences of a session, with one event more.
use Rattle.std.specs.Prelude.{◌||◌, unwrap_or, is_some, if◌then◌else◌}
use Rattle.std.specs.List.{cons_option, filter_map}
use Rattle.std.specs.Option.{option_or}
use Rattle.std.proofs.Common.{◌≡◌, ℕ, false, List, [], ◌∷◌, ◌++◌, Option, Some, None, refl, ap, ◌∙◌}
use Rattle.std.proofs.Math.Bool.{or-false}
use Rattle.std.proofs.lemmas.List.{map-append}
use Rattle.std.proofs.lemmas.List.Elements.{filter_map-append}
use Rattle.std.proofs.lemmas.List.Folds.{list_any-append}
use Rattle.lsp_types.specs.declared.side.Side.{Side}
use Rattle.lsp_rpc.specs.Ident.{Ident}
use Rattle.lsp_docs.specs.Documents.{Terms}
use Rattle.lsp_verdict.specs.Event.{Event}
use Rattle.lsp_verdict.specs.LookBack.{first_of, each_of}
use Rattle.lsp_verdict.specs.Offences.{Noted, events_of, kept_of, rule_at, lost_by, last_or, is_lost}
use Rattle.lsp_verdict.specs.Offences.{broken_by, offence_at, offences, is_frame_fault, has_broken}
use Rattle.lsp_verdict.specs.Offences.{unread_by, is_unread, passed_by, is_passed}
use Rattle.lsp_verdict.specs.Offences.{has_no_message, is_no_message, is_unheard, is_unsynced}
use Rattle.lsp_verdict.specs.Offences.{unheard_by, unsynced_by}
use Rattle.lsp_verdict.proofs.LookBackLemmas.{first_of-snoc, each_of-snoc}
use Rattle.lsp_verdict.proofs.Offences.Offending.{kept_more}

-- an event that offends leaves what is kept
pub kept-refused : (terms : Terms) (events : List Event) (e : Event) (rule : ℕ) → rule_at terms events e ≡ Some rule → kept_of terms (events ++ e ∷ []) ≡ kept_of terms events
kept-refused terms events e rule is = kept_more terms [] events e ∙ ap (λ (o : Option ℕ). if is_some o then kept_of terms events else kept_of terms events ++ e ∷ []) is

-- any other is kept
pub kept-push : (terms : Terms) (events : List Event) (e : Event) → rule_at terms events e ≡ None → kept_of terms (events ++ e ∷ []) ≡ kept_of terms events ++ e ∷ []
kept-push terms events e is = kept_more terms [] events e ∙ ap (λ (o : Option ℕ). if is_some o then kept_of terms events else kept_of terms events ++ e ∷ []) is

-- what is listed goes on with its offence, if it is one
pub offences-push : (terms : Terms) (notes : List Noted) (n : Noted) → offences terms (notes ++ n ∷ []) ≡ offences terms notes ++ cons_option (offence_at terms notes n) []
offences-push terms notes n = each_of-snoc (offence_at terms) notes n

pub last_behind : {A : Type 0} (none : A) (xs : List A) (o : Option A) → last_or none (xs ++ cons_option o []) ≡ unwrap_or o (last_or none xs)
last_behind none [] None = refl
last_behind none [] (Some x) = refl
last_behind none (y ∷ xs) o = last_behind y xs o

-- a document is lost as this event leaves it, or as it was
pub is_lost-push : (terms : Terms) (uri : List ℕ) (notes : List Noted) (n : Noted)
    → is_lost terms uri (notes ++ n ∷ [])
    ≡ unwrap_or (lost_by terms uri notes n) (is_lost terms uri notes)
is_lost-push terms uri notes n =
    ap (last_or false) (each_of-snoc (lost_by terms uri) notes n)
    ∙ last_behind false (each_of (lost_by terms uri) notes) (lost_by terms uri notes n)

-- a request is passed over as this event leaves it, or as it was
pub is_passed-push : (terms : Terms) (side : Side) (id : Ident) (notes : List Noted) (n : Noted)
    → is_passed terms side id (notes ++ n ∷ [])
    ≡ unwrap_or (passed_by terms side id notes n) (is_passed terms side id notes)
is_passed-push terms side id notes n =
    ap (last_or false) (each_of-snoc (passed_by terms side id) notes n)
    ∙ last_behind false (each_of (passed_by terms side id) notes)
    (passed_by terms side id notes n)

some_or : (a b : Option ℕ) → is_some (option_or a b) ≡ (is_some a || is_some b)
some_or None b = refl
some_or (Some x) b = refl

-- a handshake was broken by this event, or before
pub broken-push : (terms : Terms) (notes : List Noted) (n : Noted) → is_some (first_of (broken_by terms) (notes ++ n ∷ [])) ≡ (is_some (first_of (broken_by terms) notes) || is_some (broken_by terms notes n))
broken-push terms notes n = ap is_some (first_of-snoc (broken_by terms) notes n) ∙ some_or (first_of (broken_by terms) notes) (broken_by terms notes n)

-- an `initialized` was passed over by this event, or wanted in vain, or before
pub unheard-push : (terms : Terms) (notes : List Noted) (n : Noted)
    → is_unheard terms (notes ++ n ∷ [])
    ≡ (is_unheard terms notes || is_some (unheard_by terms notes n))
unheard-push terms notes n = ap is_some (first_of-snoc (unheard_by terms) notes n)
    ∙ some_or (first_of (unheard_by terms) notes) (unheard_by terms notes n)

-- synchronisation was registered by this event, or before
pub unsynced-push : (terms : Terms) (notes : List Noted) (n : Noted)
    → is_unsynced terms (notes ++ n ∷ [])
    ≡ (is_unsynced terms notes || is_some (unsynced_by terms notes n))
unsynced-push terms notes n = ap is_some (first_of-snoc (unsynced_by terms) notes n)
    ∙ some_or (first_of (unsynced_by terms) notes) (unsynced_by terms notes n)

-- the events of the notes
pub events_of-push : (notes : List Noted) (n : Noted) → events_of (notes ++ n ∷ []) ≡ events_of notes ++ n.event ∷ []
events_of-push notes n = map-append (λ (m : Noted). m.event) notes (n ∷ [])

-- ---- the bytes of a side

-- its frames broke by this event, or before
pub has_broken-push : (side : Side) (events : List Event) (e : Event)
    → has_broken side (events ++ e ∷ []) ≡ (has_broken side events || is_frame_fault side e)
has_broken-push side events e =
    list_any-append (is_frame_fault side) events (e ∷ [])
    ∙ ap (λ b. has_broken side events || b) (or-false (is_frame_fault side e))

-- a content of it was no message by this event, or before
pub has_no_message-push : (side : Side) (events : List Event) (e : Event)
    → has_no_message side (events ++ e ∷ []) ≡ (has_no_message side events || is_no_message side e)
has_no_message-push side events e =
    list_any-append (is_no_message side) events (e ∷ [])
    ∙ ap (λ b. has_no_message side events || b) (or-false (is_no_message side e))

-- its last event is this one, where that is one of it
pub is_unread-push : (side : Side) (events : List Event) (e : Event)
    → is_unread side (events ++ e ∷ []) ≡ unwrap_or (unread_by side e) (is_unread side events)
is_unread-push side events e =
    ap (last_or false) (filter_map-append (unread_by side) events (e ∷ []))
    ∙ last_behind false (filter_map (unread_by side) events) (unread_by side e)
