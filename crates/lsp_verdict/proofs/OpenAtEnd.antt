-- A request of the editor's is open at the end just where no later message answers it, and `exit`
-- was sent just where a message is it.
use Rattle.std.proofs.Common.{◌≡◌, ℕ, ◌+◌, Bool, true, false, not, ◌&&◌, ◌||◌, true≢false, List, [], ◌∷◌, ◌++◌, length, Option, Some, None, is_some, refl, sym, ap, ◌∙◌}
use Rattle.std.specs.Prelude.{if◌then◌else◌}
use Rattle.std.proofs.lemmas.Bool.{and_parts}
use Rattle.std.proofs.Math.Bool.{or-true}
use Rattle.lsp_rpc.specs.Ident.{Ident}
use Rattle.lsp_rpc.specs.Act.{Act, initialize, initialized, shutdown, exit, did_open, did_change, did_close, did_save, cancel, progress, early, register, other}
use Rattle.lsp_types.specs.declared.side.Side.{Side}
use Rattle.lsp_types.specs.declared.side.Side.TheVariants.{Editor, Server}
use Rattle.lsp_session.specs.Entry.{Entry}
use Rattle.lsp_session.specs.Handshake.{was_sent}
use Rattle.lsp_session.specs.Requests.{names, is_answered, open_entry, open_requests, answers, answers_request}
use Rattle.lsp_session.specs.Sent.{Sent, same_side, request_of, request_by, answered_id, is_exit, sends}
use Rattle.lsp_verdict.specs.Complete.{AllAnswered, HasUnanswered, HasExit}
use Rattle.lsp_verdict.proofs.Finding.{same_split, first_nil, rest_nil}

-- ---- an answer among later messages

-- the first of these messages that answers the editor's request of this id
record FirstAnswer (id : Ident) (later : List Sent) : Type 0 where
  between : List Sent
  reply : Sent
  after : List Sent
  whole : later ≡ between ++ reply ∷ after
  named : names (answered_id Editor reply) id ≡ true
  first : is_answered Editor id between ≡ false

first_answer : (id : Ident) (later : List Sent) → is_answered Editor id later ≡ true → FirstAnswer id later
first_answer id [] e = absurd (true≢false (sym e))
first_answer id (m ∷ later) e = by_here (first_answer id later) (names (answered_id Editor m) id) refl e
  where
    by_here : (is_answered Editor id later ≡ true → FirstAnswer id later) → (b : Bool) → names (answered_id Editor m) id ≡ b → (b || is_answered Editor id later) ≡ true → FirstAnswer id (m ∷ later)
    by_here next true is e = record { between = []; reply = m; after = later; whole = refl; named = is; first = refl }
    by_here next false is e =
        let rest = next e in
        record {
          between = m ∷ rest.between;
          reply = rest.reply;
          after = rest.after;
          whole = ap (λ w. m ∷ w) rest.whole;
          named = rest.named;
          first = ap (λ b. b || is_answered Editor id rest.between) is ∙ rest.first;
        }

answered_by : (id : Ident) (between : List Sent) (reply : Sent) (after : List Sent) → names (answered_id Editor reply) id ≡ true → is_answered Editor id (between ++ reply ∷ after) ≡ true
answered_by id [] reply after named = ap (λ b. b || is_answered Editor id after) named
answered_by id (m ∷ between) reply after named = ap (λ b. names (answered_id Editor m) id || b) (answered_by id between reply after named) ∙ or-true (names (answered_id Editor m) id)

-- ---- a request of the editor's

called : (o : Option (Ident × List ℕ)) → is_some o ≡ true → (call : Ident × List ℕ) × (o ≡ Some call)
called None e = absurd (true≢false (sym e))
called (Some call) e = (call, refl)

asked_by : (asked : Sent) (call : Ident × List ℕ) → asked.side ≡ Editor → request_of asked.message ≡ Some call → request_by Editor asked ≡ Some call
asked_by asked call by asks = ap (λ s. if same_side Editor s then request_of asked.message else None) by ∙ asks

-- what `answers` says of it
answers_is : (asked reply : Sent) (between : List Sent) (call : Ident × List ℕ) → asked.side ≡ Editor → request_of asked.message ≡ Some call
    → answers asked between reply ≡ (names (answered_id Editor reply) call.0 && not (is_answered Editor call.0 between))
answers_is asked reply between call by asks = ap (λ s. answers_request s (request_of asked.message) between reply) by ∙ ap (λ o. answers_request Editor o between reply) asks

-- ---- none is open

open_behind : (before : List Sent) (m : Sent) (after : List Sent) → open_requests Editor (before ++ m ∷ after) ≡ [] → open_entry Editor (request_by Editor m) after ≡ []
open_behind [] m after e = first_nil (open_entry Editor (request_by Editor m) after) (open_requests Editor after) e
open_behind (x ∷ before) m after e = open_behind before m after (rest_nil (open_entry Editor (request_by Editor x) (before ++ m ∷ after)) (open_requests Editor (before ++ m ∷ after)) e)

closed_entry : (call : Ident × List ℕ) (later : List Sent) → is_answered Editor call.0 later ≡ true → open_entry Editor (Some call) later ≡ []
closed_entry call later closed = rw closed refl

closed_where : (b : Bool) (entry : Entry) → (let es : List Entry = if b then [] else entry ∷ [] in es) ≡ [] → b ≡ true
closed_where true entry e = refl
closed_where false entry e = absurd cc

-- then each has an answer
pub none_open : (messages : List Sent) → open_requests Editor messages ≡ [] → AllAnswered messages
none_open messages none i asked =
    let call = called (request_of asked.asked.message) asked.asks in
    let here = open_behind asked.before asked.asked asked.after (sym (ap (open_requests Editor) asked.whole) ∙ none) in
    let closed = closed_where (is_answered Editor call.0.0 asked.after) _ (sym (ap (λ o. open_entry Editor o asked.after) (asked_by asked.asked call.0 asked.by call.1)) ∙ here) in
    let found = first_answer call.0.0 asked.after closed in (
      length asked.before + 1 + length found.between,
      record {
        before = asked.before;
        asked = asked.asked;
        between = found.between;
        reply = found.reply;
        after = found.after;
        whole = asked.whole ∙ ap (λ w. asked.before ++ asked.asked ∷ w) found.whole;
        asked_at = asked.at;
        replied_at = refl;
        fits = answers_is asked.asked found.reply found.between call.0 asked.by call.1
            ∙ ap (λ b. b && not (is_answered Editor call.0.0 found.between)) found.named
            ∙ ap not found.first;
      },
    )

-- ---- one is open

-- a request of the editor's that none of the messages behind it answers
record OpenAt (messages : List Sent) : Type 0 where
  before : List Sent
  asked : Sent
  after : List Sent
  call : Ident × List ℕ
  whole : messages ≡ before ++ asked ∷ after
  by : asked.side ≡ Editor
  asks : request_of asked.message ≡ Some call
  left : is_answered Editor call.0 after ≡ false

behind : (m : Sent) (later : List Sent) → OpenAt later → OpenAt (m ∷ later)
behind m later o = record {
  before = m ∷ o.before;
  asked = o.asked;
  after = o.after;
  call = o.call;
  whole = ap (λ w. m ∷ w) o.whole;
  by = o.by;
  asks = o.asks;
  left = o.left;
}

-- whose request it is
own_request : (side : Side) (o : Option (Ident × List ℕ)) (call : Ident × List ℕ) → (let asked : Option (Ident × List ℕ) = if same_side Editor side then o else None in asked) ≡ Some call → (side ≡ Editor) × (o ≡ Some call)
own_request Editor o call e = (refl, e)
own_request Server o call e = absurd cc

open_at : (messages : List Sent) (e : Entry) (es : List Entry) → open_requests Editor messages ≡ e ∷ es → OpenAt messages
open_at [] e es is = absurd cc
open_at (m ∷ later) e es is = by_own (open_at later e es) (request_by Editor m) refl is
  where
    by_left : (open_requests Editor later ≡ e ∷ es → OpenAt later) → (call : Ident × List ℕ) → request_by Editor m ≡ Some call → (b : Bool) → is_answered Editor call.0 later ≡ b → open_entry Editor (Some call) later ++ open_requests Editor later ≡ e ∷ es → OpenAt (m ∷ later)
    by_left next call own true left is = behind m later (next (sym (ap (λ entries. entries ++ open_requests Editor later) (closed_entry call later left)) ∙ is))
    by_left next call own false left is =
        let parts = own_request m.side (request_of m.message) call own in
        record { before = []; asked = m; after = later; call = call; whole = refl; by = parts.0; asks = parts.1; left = left }

    by_own : (open_requests Editor later ≡ e ∷ es → OpenAt later) → (o : Option (Ident × List ℕ)) → request_by Editor m ≡ o → open_entry Editor o later ++ open_requests Editor later ≡ e ∷ es → OpenAt (m ∷ later)
    by_own next None own is = behind m later (next is)
    by_own next (Some call) own is = by_left next call own (is_answered Editor call.0 later) refl is

-- then it has no answer
pub some_open : (messages : List Sent) (e : Entry) (es : List Entry) → open_requests Editor messages ≡ e ∷ es → HasUnanswered messages
some_open messages e es is =
    let o = open_at messages e es is in (
      length o.before,
      record { before = o.before; asked = o.asked; after = o.after; whole = o.whole; at = refl; by = o.by; asks = ap is_some o.asks },
      λ j a.
          let cut = same_split a.before o.before (a.asked ∷ (a.between ++ a.reply ∷ a.after)) (o.asked ∷ o.after) a.asked_at (sym a.whole ∙ o.whole) in
          let asked : a.asked ≡ o.asked = cc cut.1 in
          let later : a.between ++ a.reply ∷ a.after ≡ o.after = cc cut.1 in
          let named = (and_parts (names (answered_id Editor a.reply) o.call.0) _ (sym (answers_is a.asked a.reply a.between o.call (ap (λ (m : Sent). m.side) asked ∙ o.by) (ap (λ (m : Sent). request_of m.message) asked ∙ o.asks)) ∙ a.fits)).0 in
          true≢false (sym (answered_by o.call.0 a.between a.reply a.after named) ∙ ap (is_answered Editor o.call.0) later ∙ o.left),
    )

-- ---- `exit`

is_editor : (side : Side) → same_side Editor side ≡ true → side ≡ Editor
is_editor Editor e = refl
is_editor Server e = absurd (true≢false (sym e))

is_it : (act : Act) → is_exit act ≡ true → act ≡ exit
is_it exit e = refl
is_it _ e = absurd (true≢false (sym e))

pub exit_sent : (messages : List Sent) → was_sent is_exit messages ≡ true → HasExit messages
exit_sent [] e = absurd (true≢false (sym e))
exit_sent (m ∷ later) e = by_here (exit_sent later) (sends is_exit m) refl e
  where
    by_here : (was_sent is_exit later ≡ true → HasExit later) → (b : Bool) → sends is_exit m ≡ b → (b || was_sent is_exit later) ≡ true → HasExit (m ∷ later)
    by_here next true is e =
        let parts = and_parts (same_side Editor m.side) (is_exit m.act) is in
        record { before = []; sent = m; after = later; whole = refl; by = is_editor m.side parts.0; exits = is_it m.act parts.1 }
    by_here next false is e =
        let rest = next e in
        record { before = m ∷ rest.before; sent = rest.sent; after = rest.after; whole = ap (λ w. m ∷ w) rest.whole; by = rest.by; exits = rest.exits }

sends_exit : (m : Sent) → m.side ≡ Editor → m.act ≡ exit → sends is_exit m ≡ true
sends_exit m by exits = ap (λ s. same_side Editor s && is_exit m.act) by ∙ ap is_exit exits

exit_at : (before : List Sent) (m : Sent) (after : List Sent) → sends is_exit m ≡ true → was_sent is_exit (before ++ m ∷ after) ≡ true
exit_at [] m after e = ap (λ b. b || was_sent is_exit after) e
exit_at (x ∷ before) m after e = ap (λ b. sends is_exit x || b) (exit_at before m after e) ∙ or-true (sends is_exit x)

pub exit_found : (messages : List Sent) → HasExit messages → was_sent is_exit messages ≡ true
exit_found messages has = ap (was_sent is_exit) has.whole ∙ exit_at has.before has.sent has.after (sends_exit has.sent has.by has.exits)
