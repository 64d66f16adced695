-- All offences of a session: which events are kept, and what is listed.
use Rattle.std.specs.Prelude.{option_map, option_and_then, ◌&&◌, ◌||◌, ◌==◌, not, is_some, if◌then◌else◌}
use Rattle.std.specs.Prelude.{nat_le}
use Rattle.std.specs.List.{cons_option, filter_map}
use Rattle.std.specs.Option.{option_or}
use Rattle.std.specs.Str.{bytes_eq}
use Rattle.std.proofs.Common.{◌≡◌, ℕ, Bool, true, false, List, [], ◌∷◌, ◌++◌, Option, Some, None, refl, sym, ap, ◌∙◌, append_assoc, append-nil}
use Rattle.std.proofs.lemmas.List.{map-append}
use Rattle.std.proofs.Math.Bool.{and-false}
use Rattle.lsp_docs.specs.Calls.{Call, uri_of}
use Rattle.lsp_docs.specs.Documents.{Terms}
use Rattle.lsp_session.specs.Handshake.{is_done}
use Rattle.lsp_rpc.specs.Ident.{Ident}
use Rattle.lsp_session.specs.Sent.{other_side, response_id, same_side}
use Rattle.lsp_types.specs.declared.rules.TheConstants as rules
use Rattle.lsp_types.specs.declared.side.Side.{Side}
use Rattle.lsp_verdict.specs.Event.{calls, Event, message, fault, snapshot, sent_in}
use Rattle.lsp_verdict.specs.LookBack.{first_from, first_of, each_from, each_of}
use Rattle.lsp_verdict.specs.Laws.{KeptOffendNowhere, kept_at, KeptAreOthers, AllAreKept}
use Rattle.lsp_verdict.specs.Laws.{NothingListed, FirstListed, IsOffence, IsListed, ListedOffend}
use Rattle.lsp_verdict.specs.Offences.{Noted, Offence, events_of, kept_after, kept_of, rule_at}
use Rattle.lsp_verdict.specs.Offences.{is_reopened, said_at, renews, left_lost, left_by, brought_by}
use Rattle.lsp_verdict.specs.Offences.{lost_by, last_or, is_lost, asks, breaks_handshake}
use Rattle.lsp_verdict.specs.Offences.{may_answer, broken_by, is_handshake_lost, has_broken}
use Rattle.lsp_verdict.specs.Offences.{unread_by, is_unread, wants_other, follows_bytes}
use Rattle.lsp_verdict.specs.Offences.{wants_handshake, wants_text, is_on_lost, asked_by}
use Rattle.lsp_verdict.specs.Offences.{answered_by, passes, passed_by, is_passed, is_any_passed}
use Rattle.lsp_verdict.specs.Offences.{follows_passed, follows, is_unheard, leaves_unheard}
use Rattle.lsp_verdict.specs.Offences.{unheard_by, answers_content, has_no_message, is_nameless}
use Rattle.lsp_verdict.specs.Offences.{is_unsynced, leaves_unsynced, unsynced_by, offence_by}
use Rattle.lsp_verdict.specs.Offences.{offence_at, offences}
use Rattle.lsp_verdict.specs.Verdict.{Verdict, offence, no_by, no_at, first_no}
use Rattle.lsp_verdict.proofs.Finding.{nothing_from, nothing_at, map_none, not_empty}
use Rattle.lsp_verdict.proofs.LookBackLemmas.{first_of-snoc, first_of-append, each_from-append, each_of-snoc, or_none_parts}

-- ---- the events that are kept

-- one event more
abbrev pub more : Terms → List Event → Event → List Event
more terms kept e = if is_some (offence terms kept e) then kept else kept ++ e ∷ []

pub kept_more : (terms : Terms) (before xs : List Event) (e : Event) → kept_after terms before (xs ++ e ∷ []) ≡ more terms (kept_after terms before xs) e
kept_more terms before [] e = refl
kept_more terms before (x ∷ xs) e = kept_more terms (more terms before x) xs e

no_rule : (terms : Terms) (before : List Event) (e : Event) → no_at terms before e ≡ None → offence terms before e ≡ None
no_rule terms before e none = map_none (no_by before e) (offence terms before e) none

-- where none of them offends, all are kept
kept_whole : (terms : Terms) (before xs : List Event) → first_from (no_at terms) before xs ≡ None → kept_after terms before xs ≡ before ++ xs
kept_whole terms before [] none = sym (append-nil before)
kept_whole terms before (e ∷ xs) none =
    let parts = or_none_parts (no_at terms before e) (first_from (no_at terms) (before ++ e ∷ []) xs) none in
    ap (λ (o : Option ℕ). kept_after terms (if is_some o then before else before ++ e ∷ []) xs) (no_rule terms before e parts.0)
    ∙ kept_whole terms (before ++ e ∷ []) xs parts.1
    ∙ append_assoc before (e ∷ []) xs

pub all_are_kept : AllAreKept
all_are_kept terms events none = kept_whole terms [] events none

-- no kept event offends
kept_clean : (terms : Terms) (before xs : List Event) → first_of (no_at terms) before ≡ None → first_of (no_at terms) (kept_after terms before xs) ≡ None
kept_clean terms before [] clean = clean
kept_clean terms before (e ∷ xs) clean = by_rule (λ kept h. kept_clean terms kept xs h) (offence terms before e) refl
  where
    by_rule : ((kept : List Event) → first_of (no_at terms) kept ≡ None → first_of (no_at terms) (kept_after terms kept xs) ≡ None)
        → (o : Option ℕ) → offence terms before e ≡ o → first_of (no_at terms) (kept_after terms (if is_some o then before else before ++ e ∷ []) xs) ≡ None
    by_rule others (Some rule) is = others before clean
    by_rule others None is = others (before ++ e ∷ [])
        (first_of-snoc (no_at terms) before e ∙ ap (λ (o : Option Verdict). option_or o (no_at terms before e)) clean ∙ ap (option_map (no_by before e)) is)

pub kept_offend_nowhere : KeptOffendNowhere
kept_offend_nowhere terms events before after e cut =
    no_rule terms before e (nothing_at (no_at terms) (kept_of terms events) before after e (kept_clean terms [] events refl) cut)

kept_option : (o : Option ℕ) (e : Event) (kept : List Event) → (if is_some o then kept else kept ++ e ∷ []) ≡ kept ++ cons_option (if is_some o then None else Some e) []
kept_option None e kept = refl
kept_option (Some rule) e kept = sym (append-nil kept)

-- they are those that don't offend, behind others
others_from : (terms : Terms) (front xs : List Event) → kept_of terms front ≡ each_of (kept_at terms) front → kept_of terms (front ++ xs) ≡ each_of (kept_at terms) (front ++ xs)
others_from terms front [] so_far = ap (kept_of terms) (append-nil front) ∙ so_far ∙ ap (each_of (kept_at terms)) (sym (append-nil front))
others_from terms front (e ∷ xs) so_far =
    ap (kept_of terms) (sym (append_assoc front (e ∷ []) xs))
    ∙ others_from terms (front ++ e ∷ []) xs
    (kept_more terms [] front e
    ∙ kept_option (rule_at terms front e) e (kept_of terms front)
    ∙ ap (λ (es : List Event). es ++ cons_option (kept_at terms front e) []) so_far
    ∙ sym (each_of-snoc (kept_at terms) front e))
    ∙ ap (each_of (kept_at terms)) (append_assoc front (e ∷ []) xs)

pub kept_are_others : KeptAreOthers
kept_are_others terms events = others_from terms [] events refl

-- ---- what is listed

-- what is given of an element, in the list of all that is given
given_at : {A X : Type 0} (f : List A → A → Option X) (before after : List A) (x : A) (v : X) → f before x ≡ Some v → each_of f (before ++ x ∷ after) ≡ each_of f before ++ v ∷ each_from f (before ++ x ∷ []) after
given_at f before after x v is =
    each_from-append f [] before (x ∷ after) ∙ ap (λ o. each_of f before ++ cons_option o (each_from f (before ++ x ∷ []) after)) is

-- the element of which something is given
pub record GivenBy {A X : Type 0} (f : List A → A → Option X) (front xs : List A) (v : X) : Type 0 where
  pub before : List A
  pub here : A
  pub after : List A
  pub whole : front ++ xs ≡ before ++ here ∷ after
  pub gives : f before here ≡ Some v

given_by : {A X : Type 0} (f : List A → A → Option X) (front xs : List A) (first : List X) (v : X) (back : List X) → each_from f front xs ≡ first ++ v ∷ back → GivenBy f front xs v
given_by f front [] first v back e = not_empty first v back e
given_by {A} {X} f front (x ∷ xs) first v back e = by_given (λ given rest. given_by f (front ++ x ∷ []) xs given v back rest) (f front x) refl first e
  where
    behind : GivenBy f (front ++ x ∷ []) xs v → GivenBy f front (x ∷ xs) v
    behind g = record { before = g.before; here = g.here; after = g.after; whole = sym (append_assoc front (x ∷ []) xs) ∙ g.whole; gives = g.gives }

    by_given : ((given : List X) → each_from f (front ++ x ∷ []) xs ≡ given ++ v ∷ back → GivenBy f (front ++ x ∷ []) xs v)
        → (o : Option X) → f front x ≡ o → (given : List X) → cons_option o (each_from f (front ++ x ∷ []) xs) ≡ given ++ v ∷ back → GivenBy f front (x ∷ xs) v
    by_given others None is given rest = behind (others given rest)
    by_given others (Some w) is [] rest = record { before = front; here = x; after = xs; whole = refl; gives = is ∙ ap (λ (u : X). Some u) (cc rest) }
    by_given others (Some w) is (u ∷ given) rest = behind (others given (cc rest))

map_is : {X Y : Type 0} (f : X → Y) (o : Option X) (y : Y) → option_map f o ≡ Some y → (x : X) × (o ≡ Some x) × (y ≡ f x)
map_is f None y e = absurd cc
map_is f (Some x) y e = (x, refl, sym (cc e))

pub listed_offend : ListedOffend
listed_offend terms notes o = (listed, offends)
  where
    listed : IsListed terms notes o → IsOffence terms notes o
    listed (front, back, is) =
        let g = given_by (offence_at terms) [] notes front o back is in
        let rule = map_is (offence_by terms g.before g.here) (rule_at terms (events_of g.before) g.here.event) o g.gives in
        record { before = g.before; here = g.here; after = g.after; rule = rule.0; whole = g.whole; offends = rule.1; is = rule.2 }

    offends : IsOffence terms notes o → IsListed terms notes o
    offends i = (
      offences terms i.before,
      each_from (offence_at terms) (i.before ++ i.here ∷ []) i.after,
      ap (offences terms) i.whole ∙ given_at (offence_at terms) i.before i.after i.here o (ap (option_map (offence_by terms i.before i.here)) i.offends ∙ ap (λ (x : Offence). Some x) (sym i.is)),
    )

-- ---- before the first offence

-- no event of these offends
abbrev IsClean : Terms → List Noted → Type 0
IsClean terms notes = first_of (no_at terms) (events_of notes) ≡ None

-- an event of these, with those before it, does not offend either, and those are kept
clean_rule : (terms : Terms) (before after : List Noted) (n : Noted) → IsClean terms (before ++ n ∷ after) → rule_at terms (events_of before) n.event ≡ None
clean_rule terms before after n clean =
    let whole : events_of (before ++ n ∷ after) ≡ events_of before ++ n.event ∷ events_of after = map-append (λ (m : Noted). m.event) before (n ∷ after) in
    let here : first_of (no_at terms) (events_of before ++ n.event ∷ events_of after) ≡ None = ap (first_of (no_at terms)) (sym whole) ∙ clean in
    let parts = or_none_parts (first_of (no_at terms) (events_of before)) _ (sym (first_of-append (no_at terms) (events_of before) (n.event ∷ events_of after)) ∙ here) in
    ap (λ (es : List Event). offence terms es n.event) (all_are_kept terms (events_of before) parts.0)
    ∙ no_rule terms (events_of before) n.event (nothing_at (no_at terms) (events_of before ++ n.event ∷ events_of after) (events_of before) (events_of after) n.event here refl)

handshake_stands : (terms : Terms) (before : List Noted) → IsClean terms before → is_handshake_lost terms before ≡ false
handshake_stands terms before clean =
    ap (λ (o : Option ℕ). is_some o && not (is_done (sent_in (kept_of terms (events_of before)))))
    (nothing_from (broken_by terms) [] before (λ front after n cut.
    ap (option_and_then (λ rule.
    if breaks_handshake (asks n.malformed) rule || may_answer (kept_of terms (events_of front)) n.event
    then Some rule else None))
    (clean_rule terms front after n
    (ap (λ (ns : List Noted). first_of (no_at terms) (events_of ns)) (sym cut) ∙ clean))))

-- ---- no document is lost

not_lost : (renewed : Bool) → (if renewed then Some false else None) ≡ Some true → ⊥
not_lost true e = absurd cc
not_lost false e = absurd cc

kept_leaves : (uri : List ℕ) (other : Bool) (o : Option Call) → option_and_then (λ call. if bytes_eq uri (uri_of call) then left_lost None other call else None) o ≡ Some true → ⊥
kept_leaves uri other None e = absurd cc
kept_leaves uri other (Some call) e = by_uri (bytes_eq uri (uri_of call)) e
  where
    by_uri : (own : Bool) → (if own then left_lost None other call else None) ≡ Some true → ⊥
    by_uri true h = not_lost (renews call) h
    by_uri false h = absurd cc

-- an event that is kept does not leave a document lost
never_lost : (uri : List ℕ) (brought : Option (List ℕ)) (other : Bool)
    (said : Option Call) → left_by uri None brought other said ≡ Some true → ⊥
never_lost uri None other said e = kept_leaves uri other said e
never_lost uri (Some brought) other said e = kept_leaves uri other said e

last_false : (o : Option Bool) (xs : List Bool) → (o ≡ Some true → ⊥) → last_or false xs ≡ false → last_or false (cons_option o xs) ≡ false
last_false (Some true) xs none rest = absurd (none refl)
last_false _ xs none rest = rest

none_lost : {A : Type 0} (f : List A → A → Option Bool) (front xs : List A) → ((before after : List A) (x : A) → front ++ xs ≡ before ++ x ∷ after → f before x ≡ Some true → ⊥) → last_or false (each_from f front xs) ≡ false
none_lost f front [] none = refl
none_lost f front (x ∷ xs) none =
    last_false (f front x) (each_from f (front ++ x ∷ []) xs) (none front xs x refl)
    (none_lost f (front ++ x ∷ []) xs (λ before after y cut. none before after y (sym (append_assoc front (x ∷ []) xs) ∙ cut)))

document_stands : (terms : Terms) (uri : List ℕ) (before : List Noted) → IsClean terms before
    → is_lost terms uri before ≡ false
document_stands terms uri before clean =
    none_lost (lost_by terms uri) [] before (λ front after n cut lost.
    let rule = clean_rule terms front after n
    (ap (λ (ns : List Noted). first_of (no_at terms) (events_of ns)) (sym cut) ∙ clean) in
    let brought = option_and_then brought_by n.malformed in
    let said = said_at terms (events_of front) n.event in
    let other = is_reopened terms (calls (kept_of terms (events_of front))) said in
    never_lost uri brought other said
    (ap (λ (o : Option ℕ). left_by uri o brought other said) (sym rule) ∙ lost))

none_unsynced : (terms : Terms) (before : List Noted) → IsClean terms before
    → is_unsynced terms before ≡ false
none_unsynced terms before clean =
    ap (λ (o : Option ℕ). is_some o) (nothing_from (unsynced_by terms) [] before
    (λ front after n cut. ap
    (option_and_then (λ rule. if leaves_unsynced rule n.event then Some rule else None))
    (clean_rule terms front after n
    (ap (λ (ns : List Noted). first_of (no_at terms) (events_of ns)) (sym cut) ∙ clean))))

none_on_lost : (terms : Terms) (before : List Noted) (o : Option Call) → IsClean terms before
    → is_on_lost terms before o ≡ false
none_on_lost terms before None clean = refl
none_on_lost terms before (Some call) clean =
    ap (λ (b : Bool). b || is_unsynced terms before) (document_stands terms (uri_of call) before clean)
    ∙ none_unsynced terms before clean

-- ---- no bytes failed

-- where no event offends, none is a fault of the frames
pub no_frame_fault : (terms : Terms) (side : Side) (before events : List Event)
    → first_from (no_at terms) before events ≡ None → has_broken side events ≡ false
no_frame_fault terms side before [] none = refl
no_frame_fault terms side before (message m ∷ events) none =
    no_frame_fault terms side (before ++ message m ∷ []) events
    (or_none_parts (no_at terms before (message m)) _ none).1
no_frame_fault terms side before (snapshot uri n t ∷ events) none =
    no_frame_fault terms side (before ++ snapshot uri n t ∷ []) events
    (or_none_parts (no_at terms before (snapshot uri n t)) _ none).1
no_frame_fault terms side before (fault by rule ∷ events) none =
    absurd (cc (or_none_parts (no_at terms before (fault by rule))
    (first_from (no_at terms) (before ++ fault by rule ∷ []) events) none).0)

-- and none a content that is no message
no_content_fault : (terms : Terms) (side : Side) (before events : List Event)
    → first_from (no_at terms) before events ≡ None → has_no_message side events ≡ false
no_content_fault terms side before [] none = refl
no_content_fault terms side before (message m ∷ events) none =
    no_content_fault terms side (before ++ message m ∷ []) events
    (or_none_parts (no_at terms before (message m)) _ none).1
no_content_fault terms side before (snapshot uri n t ∷ events) none =
    no_content_fault terms side (before ++ snapshot uri n t ∷ []) events
    (or_none_parts (no_at terms before (snapshot uri n t)) _ none).1
no_content_fault terms side before (fault by rule ∷ events) none =
    absurd (cc (or_none_parts (no_at terms before (fault by rule))
    (first_from (no_at terms) (before ++ fault by rule ∷ []) events) none).0)

-- and none a content that is not JSON
none_unread : (terms : Terms) (side : Side) (before events : List Event)
    → first_from (no_at terms) before events ≡ None → is_unread side events ≡ false
none_unread terms side before [] none = refl
none_unread terms side before (message m ∷ events) none =
    last_false (unread_by side (message m)) (filter_map (unread_by side) events)
    (is_read (same_side side m.side))
    (none_unread terms side (before ++ message m ∷ []) events
    (or_none_parts (no_at terms before (message m)) _ none).1)
  where
    is_read : (own : Bool) → (if own then Some false else None) ≡ Some true → ⊥
    is_read true e = absurd cc
    is_read false e = absurd cc
none_unread terms side before (snapshot uri n t ∷ events) none =
    none_unread terms side (before ++ snapshot uri n t ∷ []) events
    (or_none_parts (no_at terms before (snapshot uri n t)) _ none).1
none_unread terms side before (fault by rule ∷ events) none =
    absurd (cc (or_none_parts (no_at terms before (fault by rule))
    (first_from (no_at terms) (before ++ fault by rule ∷ []) events) none).0)

bytes_stand : (terms : Terms) (rule : ℕ) (before : List Event) (e : Event)
    → first_of (no_at terms) before ≡ None → follows_bytes rule before e ≡ false
bytes_stand terms rule before (message m) clean =
    ap (λ (b : Bool). wants_other rule && b || answers_content rule before m)
    (no_frame_fault terms (other_side m.side) [] before clean)
    ∙ ap (λ (b : Bool). b || answers_content rule before m) (and-false (wants_other rule))
    ∙ ap (λ (b : Bool). own && (is_nameless m.message && b))
    (no_content_fault terms (other_side m.side) [] before clean)
    ∙ ap (λ (b : Bool). own && b) (and-false (is_nameless m.message)) ∙ and-false own
  where
    own : Bool
    own = rule == rules.RESPONSE_TO_NO_OPEN_REQUEST
bytes_stand terms rule before (fault side code) clean =
    ap (λ (b : Bool). nat_le rule rules.CHARSET_NOT_UTF_8 && b)
    (none_unread terms side [] before clean) ∙ and-false (nat_le rule rules.CHARSET_NOT_UTF_8)
bytes_stand terms rule before (snapshot uri n t) clean = refl

-- ---- no request is passed over

none_passed : (terms : Terms) (side : Side) (id : Ident) (before : List Noted)
    → IsClean terms before → is_passed terms side id before ≡ false
none_passed terms side id before clean =
    none_lost (passed_by terms side id) [] before (λ front after n cut passed.
    let none = ap (option_and_then
    (passes (asked_by side n.event n.malformed) (answered_by side n.event) id))
    (clean_rule terms front after n
    (ap (λ (ns : List Noted). first_of (no_at terms) (events_of ns)) (sym cut) ∙ clean)) in
    absurd (cc (sym passed ∙ none)))

none_unheard : (terms : Terms) (before : List Noted) → IsClean terms before
    → is_unheard terms before ≡ false
none_unheard terms before clean =
    ap (λ (o : Option ℕ). is_some o) (nothing_from (unheard_by terms) [] before
    (λ front after n cut. ap
    (option_and_then (λ rule. if leaves_unheard rule n.event then Some rule else None))
    (clean_rule terms front after n
    (ap (λ (ns : List Noted). first_of (no_at terms) (events_of ns)) (sym cut) ∙ clean))))

no_answer : (terms : Terms) (rule : ℕ) (before : List Noted) (e : Event) → IsClean terms before
    → follows_passed terms rule before e ≡ false
no_answer terms rule before (message m) clean =
    ap (λ (b : Bool). rule == rules.RESPONSE_TO_NO_OPEN_REQUEST && b
    || rule == rules.INITIALIZED_NOT_FIRST && is_unheard terms before)
    (by_id (response_id m.message))
    ∙ ap (λ (b : Bool). b || rule == rules.INITIALIZED_NOT_FIRST && is_unheard terms before)
    (and-false (rule == rules.RESPONSE_TO_NO_OPEN_REQUEST))
    ∙ ap (λ (b : Bool). rule == rules.INITIALIZED_NOT_FIRST && b) (none_unheard terms before clean)
    ∙ and-false (rule == rules.INITIALIZED_NOT_FIRST)
  where
    by_id : (o : Option Ident) → is_any_passed terms (other_side m.side) o before ≡ false
    by_id None = refl
    by_id (Some id) = none_passed terms (other_side m.side) id before clean
no_answer terms rule before _ clean = refl

follows_none : (terms : Terms) (before : List Noted) (n : Noted) (rule : ℕ) → IsClean terms before
    → follows terms before n rule ≡ false
follows_none terms before n rule clean =
    ap (λ (b : Bool). wants_handshake rule && b || (wants_text rule && on_lost
    || (passed || late))) (handshake_stands terms before clean)
    ∙ ap (λ (b : Bool). b || (wants_text rule && on_lost || (passed || late)))
    (and-false (wants_handshake rule))
    ∙ ap (λ (b : Bool). wants_text rule && b || (passed || late))
    (none_on_lost terms before (said_at terms (events_of before) n.event) clean)
    ∙ ap (λ (b : Bool). b || (passed || late)) (and-false (wants_text rule))
    ∙ ap (λ (b : Bool). b || late) (no_answer terms rule before n.event clean)
    ∙ bytes_stand terms rule (events_of before) n.event clean
  where
    on_lost : Bool
    on_lost = is_on_lost terms before (said_at terms (events_of before) n.event)

    passed : Bool
    passed = follows_passed terms rule before n.event

    late : Bool
    late = follows_bytes rule (events_of before) n.event

-- ---- the first that is listed

-- what is listed first behind these
abbrev ListsFirst : Terms → List Noted → List Noted → Verdict → Type 0
ListsFirst terms before notes v =
    IsClean terms before → first_from (no_at terms) (events_of before) (events_of notes) ≡ Some v
    → (later : List Offence) × (each_from (offence_at terms) before notes ≡ record { no = v; follows = false } ∷ later)

first_from_here : (terms : Terms) (before notes : List Noted) (v : Verdict) → ListsFirst terms before notes v
first_from_here terms before [] v clean e = absurd cc
first_from_here terms before (n ∷ notes) v clean e = by_rule (λ h first. first_from_here terms (before ++ n ∷ []) notes v h first) (offence terms (events_of before) n.event) refl e
  where
    same : rule_at terms (events_of before) n.event ≡ offence terms (events_of before) n.event
    same = ap (λ (es : List Event). offence terms es n.event) (all_are_kept terms (events_of before) clean)

    next : events_of (before ++ n ∷ []) ≡ events_of before ++ n.event ∷ []
    next = map-append (λ (m : Noted). m.event) before (n ∷ [])

    by_rule : ListsFirst terms (before ++ n ∷ []) notes v → (o : Option ℕ) → offence terms (events_of before) n.event ≡ o → option_or (option_map (no_by (events_of before) n.event) o) (first_from (no_at terms) (events_of before ++ n.event ∷ []) (events_of notes)) ≡ Some v
        → (later : List Offence) × (each_from (offence_at terms) before (n ∷ notes) ≡ record { no = v; follows = false } ∷ later)
    by_rule others (Some rule) is first =
        let here : offence_by terms before n rule ≡ record { no = v; follows = false } =
        ap (λ (b : Bool). let o : Offence = record { no = no_by (events_of before) n.event rule; follows = b } in o) (follows_none terms before n rule clean)
        ∙ ap (λ (w : Verdict). let o : Offence = record { no = w; follows = false } in o) (cc first) in
        let rest : List Offence = each_from (offence_at terms) (before ++ n ∷ []) notes in
        (rest, ap (λ (o : Option ℕ). cons_option (option_map (offence_by terms before n) o) rest) (same ∙ is) ∙ ap (λ (o : Offence). o ∷ rest) here)
    by_rule others None is first =
        let clean_next : IsClean terms (before ++ n ∷ []) =
        ap (first_of (no_at terms)) next ∙ first_of-snoc (no_at terms) (events_of before) n.event
        ∙ ap (λ (o : Option Verdict). option_or o (no_at terms (events_of before) n.event)) clean ∙ ap (option_map (no_by (events_of before) n.event)) is in
        let rest = others clean_next (ap (λ (es : List Event). first_from (no_at terms) es (events_of notes)) next ∙ first) in
        (rest.0, ap (λ (o : Option ℕ). cons_option (option_map (offence_by terms before n) o) (each_from (offence_at terms) (before ++ n ∷ []) notes)) (same ∙ is) ∙ rest.1)

pub first_listed : FirstListed
first_listed terms notes v first = first_from_here terms [] notes v refl first

-- ---- nothing listed

none_given : {A X : Type 0} (f : List A → A → Option X) (front xs : List A) → ((before after : List A) (x : A) → front ++ xs ≡ before ++ x ∷ after → f before x ≡ None) → each_from f front xs ≡ []
none_given f front [] none = refl
none_given f front (x ∷ xs) none =
    ap (λ o. cons_option o (each_from f (front ++ x ∷ []) xs)) (none front xs x refl)
    ∙ none_given f (front ++ x ∷ []) xs (λ before after y cut. none before after y (sym (append_assoc front (x ∷ []) xs) ∙ cut))

pub nothing_listed : NothingListed
nothing_listed terms notes = (to, from)
  where
    to : offences terms notes ≡ [] → first_no terms (events_of notes) ≡ None
    to none = by_first (first_no terms (events_of notes)) refl
      where
        by_first : (o : Option Verdict) → first_no terms (events_of notes) ≡ o → first_no terms (events_of notes) ≡ None
        by_first None is = is
        by_first (Some v) is = let listed = first_listed terms notes v is in not_empty [] (record { no = v; follows = false }) listed.0 (sym none ∙ listed.1)

    from : first_no terms (events_of notes) ≡ None → offences terms notes ≡ []
    from clean = none_given (offence_at terms) [] notes (λ before after n cut.
        ap (option_map (offence_by terms before n)) (clean_rule terms before after n (ap (λ (ns : List Noted). first_of (no_at terms) (events_of ns)) (sym cut) ∙ clean)))
