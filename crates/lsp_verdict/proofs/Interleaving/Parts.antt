-- The events of each side, taken out of a session and found again in it.
use Rattle.std.proofs.Common.{◌≡◌, Bool, true, false, cond, List, [], ◌∷◌, ◌++◌, All, Option, Some, None, refl, sym, ap, subst, ◌∙◌}
use Rattle.std.specs.Prelude.{filter, if◌then◌else◌}
use Rattle.std.specs.List.{cons_option, AllZip}
use Rattle.std.specs.Option.{option_or}
use Rattle.std.proofs.lemmas.List.Elements.{All-nil, All-cons, All-head, All-tail, All-filter}
use Rattle.serde_json.specs.Data.{Data}
use Rattle.lsp_rpc.specs.Params.{act_at}
use Rattle.lsp_types.specs.declared.side.Side.{Side}
use Rattle.lsp_types.specs.declared.side.Side.TheVariants.{Editor, Server}
use Rattle.lsp_session.specs.Handshake.{result_of}
use Rattle.lsp_session.specs.Sent.{Sent, same_side}
use Rattle.lsp_verdict.specs.Event.{Event, message, fault, snapshot, sent_of, sent_in}
use Rattle.lsp_verdict.specs.Interleaving.{order_of, is_own, own, AreInterleavings, IsRead, SessionsAreRead, result_by, first_result}
use Rattle.lsp_verdict.specs.Placed.{Raw, content, broken, show, Reads}
use Rattle.lsp_verdict.proofs.Finding.{not_empty}

-- ---- an element that passes a test, found by its place among those that do

pub record Place {A : Type 0} (test : A → Bool) (xs front : List A) (x : A) : Type 0 where
  pub before : List A
  pub after : List A
  pub whole : xs ≡ before ++ x ∷ after
  pub same : filter test before ≡ front

pub place : {A : Type 0} (test : A → Bool) (xs front : List A) (x : A) (back : List A) → filter test xs ≡ front ++ x ∷ back → Place test xs front x
place test [] front x back e = not_empty front x back e
place {A} test (y ∷ ys) front x back e = by_test (λ f h. place test ys f x back h) (test y) refl front e
  where
    by_test : ((f : List A) → filter test ys ≡ f ++ x ∷ back → Place test ys f x) → (b : Bool) → test y ≡ b
        → (f : List A) → cond b (y ∷ filter test ys) (filter test ys) ≡ f ++ x ∷ back → Place test (y ∷ ys) f x
    by_test next true is [] h =
        let first : y ≡ x = cc h in
        record { before = []; after = ys; whole = ap (λ z. z ∷ ys) first; same = refl }
    by_test next true is (z ∷ f) h =
        let first : y ≡ z = cc h in
        let rest : filter test ys ≡ f ++ x ∷ back = cc h in
        let p = next f rest in
        record {
          before = y ∷ p.before;
          after = p.after;
          whole = ap (λ w. y ∷ w) p.whole;
          same = ap (λ b. cond b (y ∷ filter test p.before) (filter test p.before)) is ∙ ap (λ w. y ∷ w) p.same ∙ ap (λ w. w ∷ f) first;
        }
    by_test next false is f h =
        let p = next f h in
        record {
          before = y ∷ p.before;
          after = p.after;
          whole = ap (λ w. y ∷ w) p.whole;
          same = ap (λ b. cond b (y ∷ filter test p.before) (filter test p.before)) is ∙ p.same;
        }

-- ---- the messages of a side

-- those that the side sends
abbrev pub from : Side → List Sent → List Sent
from side messages = filter (λ m. same_side side m.side) messages

no_message : (b : Bool) (e : Event) (es : List Event) → sent_of e ≡ None → sent_in (cond b (e ∷ es) es) ≡ sent_in es
no_message true e es none = ap (λ o. cons_option o (sent_in es)) none
no_message false e es none = refl

one_message : (b : Bool) (m : Sent) (es : List Event) (messages : List Sent) → sent_in es ≡ messages → sent_in (cond b (message m ∷ es) es) ≡ cond b (m ∷ messages) messages
one_message true m es messages same = ap (λ w. m ∷ w) same
one_message false m es messages same = same

-- a side's messages are the messages among its events
pub sent_own : (side : Side) (es : List Event) → sent_in (own side es) ≡ from side (sent_in es)
sent_own side [] = refl
sent_own side (message m ∷ es) = one_message (same_side side m.side) m (own side es) (from side (sent_in es)) (sent_own side es)
sent_own side (fault by rule ∷ es) = no_message (same_side side by) (fault by rule) (own side es) refl ∙ sent_own side es
sent_own side (snapshot uri n t ∷ es) = no_message (same_side side Editor) (snapshot uri n t) (own side es) refl ∙ sent_own side es

-- a test that only this side's messages pass
pub only_from : (side : Side) (test : Sent → Bool) → ((m : Sent) → same_side side m.side ≡ false → test m ≡ false) → (ms : List Sent) → filter test ms ≡ filter test (from side ms)
only_from side test others [] = refl
only_from side test others (m ∷ ms) = by_side (only_from side test others ms) (same_side side m.side) refl
  where
    by_side : filter test ms ≡ filter test (from side ms) → (b : Bool) → same_side side m.side ≡ b → filter test (m ∷ ms) ≡ filter test (cond b (m ∷ from side ms) (from side ms))
    by_side same true is = ap (λ w. cond (test m) (m ∷ w) w) same
    by_side same false is = ap (λ b. cond b (m ∷ filter test ms) (filter test ms)) (others m is) ∙ same

by_server : (b : Bool) (o : Option Data) (m : Sent) (ms : List Sent) → result_by m ≡ (if b then o else None) → option_or (if b then o else None) (first_result ms) ≡ first_result (cond b (m ∷ ms) ms)
by_server true o m ms is = ap (λ r. option_or r (first_result ms)) (sym is)
by_server false o m ms is = refl

-- the first result is found among the server's messages
pub first_result-from : (ms : List Sent) → first_result ms ≡ first_result (from Server ms)
first_result-from [] = refl
first_result-from (m ∷ ms) =
    ap (option_or (result_by m)) (first_result-from ms)
    ∙ by_server (same_side Server m.side) (result_of m.message) m (from Server ms) refl

-- ---- events that are read

pub read_front : (es fs : List Event) → All IsRead (es ++ fs) → All IsRead es
read_front [] fs read = All-nil IsRead
read_front (e ∷ es) fs read = All-cons IsRead e es (All-head IsRead e (es ++ fs) read) (read_front es fs (All-tail IsRead e (es ++ fs) read))

pub read_back : (es fs : List Event) → All IsRead (es ++ fs) → All IsRead fs
read_back [] fs read = read
read_back (e ∷ es) fs read = read_back es fs (All-tail IsRead e (es ++ fs) read)

read_both : (es : List Event) → All IsRead (own Editor es) → All IsRead (own Server es) → All IsRead es
read_both [] p q = All-nil IsRead
read_both (e ∷ es) p q = by_side (read_both es) (order_of e) p q
  where
    by_side : (All IsRead (own Editor es) → All IsRead (own Server es) → All IsRead es) → (side : Side)
        → All IsRead (cond (same_side Editor side) (e ∷ own Editor es) (own Editor es)) → All IsRead (cond (same_side Server side) (e ∷ own Server es) (own Server es)) → All IsRead (e ∷ es)
    by_side next Editor p q = All-cons IsRead e es (All-head IsRead e (own Editor es) p) (next (All-tail IsRead e (own Editor es) p) q)
    by_side next Server p q = All-cons IsRead e es (All-head IsRead e (own Server es) q) (next p (All-tail IsRead e (own Server es) q))

-- another interleaving of events that are read is read
pub read_others : (es fs : List Event) → All IsRead es → AreInterleavings es fs → All IsRead fs
read_others es fs read same =
    read_both fs (subst (All IsRead) same.editor (All-filter (is_own Editor) IsRead es read)) (subst (All IsRead) same.server (All-filter (is_own Server) IsRead es read))

read_one : (raw : Raw) (e : Event) → Reads raw e → IsRead e
read_one (content side bytes) (message m) p = subst (λ s. act_at s m.message ≡ Some m.act) (sym p.by) p.means
read_one (content side bytes) _ p = tt
read_one _ e p = subst IsRead (sym p) tt

read_all : (raws : List Raw) (es : List Event) → AllZip Reads raws es → All IsRead es
read_all [] [] p = All-nil IsRead
read_all (raw ∷ raws) (e ∷ es) p = All-cons IsRead e es (read_one raw e p.0) (read_all raws es p.1)
read_all _ _ p = absurd p

pub sessions_are_read : SessionsAreRead
sessions_are_read limits records es session = read_all session.0 es session.2
