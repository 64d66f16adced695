-- One more message at the end of a history.
use Rattle.std.proofs.Common.{◌≡◌, ℕ, List, [], ◌∷◌, ◌++◌, Option, Some, None, inl, inr, Bool, ◌||◌}
use Rattle.std.proofs.Common.{if◌then◌else◌, refl, sym, ap, ◌∙◌, append_assoc, append-nil}
use Rattle.std.specs.Option.{option_or}
use Rattle.std.proofs.lemmas.List.Folds.{list_any-append}
use Rattle.lsp_rpc.specs.Act.{Act}
use Rattle.lsp_rpc.specs.Ident.{Ident, same_id}
use Rattle.lsp_types.specs.declared.side.Side.{Side}
use Rattle.lsp_types.specs.declared.side.Side.TheVariants.{Editor, Server}
use Rattle.lsp_session.specs.Entry as entry
use Rattle.lsp_session.specs.Entry.{Entry, without}
use Rattle.lsp_session.specs.Handshake.{Settled, first_settled, first_settled_from, initialize_by}
use Rattle.lsp_session.specs.Handshake.{open_initialize, open_initializes, settled_by, was_sent}
use Rattle.lsp_session.specs.OpenInitialize.{Initialize}
use Rattle.lsp_session.specs.Requests.{is_answered, is_cancelled, names, open_entry, open_requests}
use Rattle.lsp_session.specs.Sent.{Sent, answered_id, cancelled_id, request_by, sends}
use Rattle.lsp_session.specs.State.{agreed_in, closed, closed_initializes, marked, next, open_next}
use Rattle.lsp_session.specs.State.{pushed, pushed_initialize, state_of, without_initialize}
use Rattle.std.proofs.lemmas.Bool.{cases_Bool}
use Rattle.std.proofs.Math.Bool.{or_assoc, or-true, or-false}

is_answered-push : (side : Side) (id : Ident) (h : List Sent) (m : Sent)
    → is_answered side id (h ++ m ∷ []) ≡ (is_answered side id h || names (answered_id side m) id)
is_answered-push side id [] m = or-false (names (answered_id side m) id)
is_answered-push side id (x ∷ h) m =
    rw (is_answered-push side id h m) (sym (or_assoc (names (answered_id side x) id) _ _))

is_cancelled-push : (side : Side) (id : Ident) (h : List Sent) (m : Sent)
    → is_cancelled side id (h ++ m ∷ [])
    ≡ (is_cancelled side id h || names (cancelled_id side m) id)
is_cancelled-push side id [] m = or-false (names (cancelled_id side m) id)
is_cancelled-push side id (x ∷ h) m =
    rw (is_cancelled-push side id h m) (sym (or_assoc (names (cancelled_id side x) id) _ _))

without-append : (id : Ident) (es fs : List Entry)
    → without id (es ++ fs) ≡ without id es ++ without id fs
without-append id [] fs = refl
without-append id (e ∷ es) fs =
    elim (cases_Bool (same_id id e.id)) [
      | inl p ↦ rw p (without-append id es fs)
      | inr p ↦ rw p (ap (λ l. e ∷ l) (without-append id es fs))
    ]

cancel-append : (id : Ident) (es fs : List Entry)
    → entry.cancel id (es ++ fs) ≡ entry.cancel id es ++ entry.cancel id fs
cancel-append id [] fs = refl
cancel-append id (e ∷ es) fs = ap (λ l. entry.marked id e ∷ l) (cancel-append id es fs)

closed-append : (c : Option Ident) (es fs : List Entry)
    → closed c (es ++ fs) ≡ closed c es ++ closed c fs
closed-append None es fs = refl
closed-append (Some id) es fs = without-append id es fs

marked-append : (c : Option Ident) (es fs : List Entry)
    → marked c (es ++ fs) ≡ marked c es ++ marked c fs
marked-append None es fs = refl
marked-append (Some id) es fs = cancel-append id es fs

pushed-append : (r : Option (Ident × List ℕ)) (es fs : List Entry)
    → pushed r (es ++ fs) ≡ es ++ pushed r fs
pushed-append None es fs = refl
pushed-append (Some r) es fs = append_assoc es fs _

-- one open entry, before and after
entry_marked : (id : Ident) (e : Entry)
    → entry.marked id e ≡ record e { cancelled = e.cancelled || same_id id e.id }
entry_marked id e =
    elim (cases_Bool (same_id id e.id))
    [ inl p ↦ rw (p, or-true e.cancelled) refl | inr p ↦ rw (p, or-false e.cancelled) refl ]

entry_next : (c k : Option Ident) (e : Entry)
    → marked k (closed c (e ∷ [])) ≡ (if names c e.id then [] else record e {
      cancelled = e.cancelled || names k e.id;
    } ∷ [])
entry_next None None e = rw or-false refl
entry_next None (Some k) e = ap (λ x. x ∷ []) (entry_marked k e)
entry_next (Some c) None e =
    elim (cases_Bool (same_id c e.id))
    [ inl p ↦ rw p refl | inr p ↦ rw (p, or-false e.cancelled) refl ]
entry_next (Some c) (Some k) e =
    elim (cases_Bool (same_id c e.id))
    [ inl p ↦ rw p refl | inr p ↦ rw p (ap (λ x. x ∷ []) (entry_marked k e)) ]

none_next : (c k : Option Ident) → marked k (closed c []) ≡ []
none_next None None = refl
none_next None (Some k) = refl
none_next (Some c) None = refl
none_next (Some c) (Some k) = refl

both-append : (c k : Option Ident) (es fs : List Entry)
    → marked k (closed c (es ++ fs)) ≡ marked k (closed c es) ++ marked k (closed c fs)
both-append c k es fs = ap (marked k) (closed-append c es fs)
    ∙ marked-append k (closed c es) (closed c fs)

open_entry-push : (side : Side) (r : Option (Ident × List ℕ)) (h : List Sent) (m : Sent)
    → open_entry side r (h ++ m ∷ [])
    ≡ marked (cancelled_id side m) (closed (answered_id side m) (open_entry side r h))
open_entry-push side None h m = sym (none_next (answered_id side m) (cancelled_id side m))
open_entry-push side (Some r) h m =
    rw (is_answered-push side r.0 h m, is_cancelled-push side r.0 h m)
    (elim (cases_Bool (is_answered side r.0 h)) [
      | inl p ↦ rw p (sym (none_next (answered_id side m) (cancelled_id side m)))
      | inr p ↦ rw p (sym (entry_next (answered_id side m) (cancelled_id side m) _))
    ])

pub open_requests-push : (side : Side) (h : List Sent) (m : Sent)
    → open_requests side (h ++ m ∷ []) ≡ open_next side m (open_requests side h)
open_requests-push side [] m = first (request_by side m)
  where
    first : (r : Option (Ident × List ℕ))
        → open_entry side r [] ++ []
        ≡ pushed r (marked (cancelled_id side m) (closed (answered_id side m) []))
    first None = sym (none_next (answered_id side m) (cancelled_id side m))
    first (Some r) = rw (none_next (answered_id side m) (cancelled_id side m)) refl
open_requests-push side (x ∷ h) m =
    rw (
      open_entry-push side (request_by side x) h m,
      open_requests-push side h m,
      both-append (answered_id side m) (cancelled_id side m)
          (open_entry side (request_by side x) h) (open_requests side h),
    )
    (sym (pushed-append (request_by side m) _ _))

-- ---- the open `initialize` requests

without_initialize-append : (id : Ident) (ss ts : List Initialize)
    → without_initialize id (ss ++ ts) ≡ without_initialize id ss ++ without_initialize id ts
without_initialize-append id [] ts = refl
without_initialize-append id (s ∷ ss) ts =
    elim (cases_Bool (same_id id s.id)) [
      | inl p ↦ rw p (without_initialize-append id ss ts)
      | inr p ↦ rw p (ap (λ l. s ∷ l) (without_initialize-append id ss ts))
    ]

closed_initializes-append : (c : Option Ident) (ss ts : List Initialize)
    → closed_initializes c (ss ++ ts) ≡ closed_initializes c ss ++ closed_initializes c ts
closed_initializes-append None ss ts = refl
closed_initializes-append (Some id) ss ts = without_initialize-append id ss ts

pub closed_initializes-none : (c : Option Ident) → closed_initializes c [] ≡ []
closed_initializes-none None = refl
closed_initializes-none (Some id) = refl

pushed_initialize-append : (r : Option Initialize) (ss ts : List Initialize)
    → pushed_initialize r (ss ++ ts) ≡ ss ++ pushed_initialize r ts
pushed_initialize-append None ss ts = refl
pushed_initialize-append (Some r) ss ts = append_assoc ss ts _

initialize_next : (c : Option Ident) (s : Initialize)
    → closed_initializes c (s ∷ []) ≡ (if names c s.id then [] else s ∷ [])
initialize_next None s = refl
initialize_next (Some c) s = refl

open_initialize-push : (r : Option Initialize) (h : List Sent) (m : Sent)
    → open_initialize r (h ++ m ∷ [])
    ≡ closed_initializes (answered_id Editor m) (open_initialize r h)
open_initialize-push None h m = sym (closed_initializes-none (answered_id Editor m))
open_initialize-push (Some s) h m =
    rw (is_answered-push Editor s.id h m)
    (elim (cases_Bool (is_answered Editor s.id h)) [
      | inl p ↦ rw p (sym (closed_initializes-none (answered_id Editor m)))
      | inr p ↦ rw p (sym (initialize_next (answered_id Editor m) s))
    ])

pub open_initializes-push : (h : List Sent) (m : Sent)
    → open_initializes (h ++ m ∷ [])
    ≡ pushed_initialize (initialize_by m)
    (closed_initializes (answered_id Editor m) (open_initializes h))
open_initializes-push [] m = first (initialize_by m)
  where
    first : (r : Option Initialize)
        → open_initialize r [] ++ []
        ≡ pushed_initialize r (closed_initializes (answered_id Editor m) [])
    first None = sym (closed_initializes-none (answered_id Editor m))
    first (Some r) = rw (closed_initializes-none (answered_id Editor m)) refl
open_initializes-push (x ∷ h) m =
    rw (
      open_initialize-push (initialize_by x) h m,
      open_initializes-push h m,
      closed_initializes-append (answered_id Editor m) (open_initialize (initialize_by x) h)
          (open_initializes h),
    )
    (sym (pushed_initialize-append (initialize_by m) _ _))

-- ---- what was agreed

pub option_or-assoc : {X : Type 0} (a b c : Option X)
    → option_or a (option_or b c) ≡ option_or (option_or a b) c
option_or-assoc None b c = refl
option_or-assoc (Some x) b c = refl

pub option_or-none : {X : Type 0} (a : Option X) → option_or a None ≡ a
option_or-none None = refl
option_or-none (Some x) = refl

pub first_settled_from-push : (before h : List Sent) (m : Sent)
    → first_settled_from before (h ++ m ∷ [])
    ≡ option_or (first_settled_from before h) (settled_by (before ++ h) m)
first_settled_from-push before [] m =
    option_or-none (settled_by before m) ∙ ap (λ l. settled_by l m) (sym (append-nil before))
first_settled_from-push before (x ∷ h) m =
    ap (option_or (settled_by before x)) (first_settled_from-push (before ++ x ∷ []) h m)
    ∙ option_or-assoc (settled_by before x) (first_settled_from (before ++ x ∷ []) h)
    (settled_by ((before ++ x ∷ []) ++ h) m)
    ∙ ap (λ l. option_or (first_settled_from before (x ∷ h)) (settled_by l m))
    (append_assoc before (x ∷ []) h)

agreed_in-or : (a b : Option Settled)
    → agreed_in (option_or a b) ≡ option_or (agreed_in a) (agreed_in b)
agreed_in-or None b = refl
agreed_in-or (Some x) b = refl

agreed-push : (h : List Sent) (m : Sent)
    → agreed_in (first_settled (h ++ m ∷ []))
    ≡ option_or (agreed_in (first_settled h)) (agreed_in (settled_by h m))
agreed-push h m = ap agreed_in (first_settled_from-push [] h m)
    ∙ agreed_in-or (first_settled h) (settled_by h m)

was_sent-push : (test : Act → Bool) (h : List Sent) (m : Sent)
    → was_sent test (h ++ m ∷ []) ≡ (was_sent test h || sends test m)
was_sent-push test h m =
    list_any-append (sends test) h (m ∷ [])
    ∙ ap (λ b. was_sent test h || b) (or-false (sends test m))

-- the state is that of the list, message after message
pub state_of-push : (h : List Sent) (m : Sent) → next (state_of h) m ≡ state_of (h ++ m ∷ [])
state_of-push h m =
    rw (
      open_requests-push Editor h m,
      open_requests-push Server h m,
      open_initializes-push h m,
      agreed-push h m,
      was_sent-push _ h m,
      was_sent-push _ h m,
      was_sent-push _ h m,
    ) refl
