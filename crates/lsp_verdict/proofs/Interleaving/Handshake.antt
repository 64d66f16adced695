-- How far the handshake has come, by what each side has sent in its own order.
use Rattle.std.proofs.Common.{◌≡◌, inl, inr, ℕ, ◌+◌, Bool, true, false, cond, not, ◌&&◌, ◌||◌, List, [], ◌∷◌, ◌++◌, length, Option, Some, None, is_some, refl, sym, ap, subst, ◌∙◌, append_assoc, length-append, true≢false, arith}
use Rattle.std.specs.Prelude.{filter, if◌then◌else◌, option_map}
use Rattle.std.specs.Option.{option_or}
use Rattle.std.proofs.lemmas.Bool.{cases_Bool}
use Rattle.std.proofs.lemmas.List.Elements.{filter-append}
use Rattle.serde_json.specs.Data.{Data}
use Rattle.lsp_rpc.specs.Ident.{Ident, same_id}
use Rattle.lsp_rpc.specs.Act.{Act, Offer, initialize}
use Rattle.lsp_rpc.specs.Message.{Message, request, notification, response, Reply, result, error}
use Rattle.lsp_rpc.specs.Params.{act_at}
use Rattle.lsp_types.specs.declared.side.Side.{Side}
use Rattle.lsp_types.specs.declared.side.Side.TheVariants.{Editor, Server}
use Rattle.lsp_session.specs.ByState as by_state
use Rattle.lsp_session.specs.Entry as entry
use Rattle.lsp_session.specs.Entry.{Entry, new_entry}
use Rattle.lsp_session.specs.Handshake.{Settled, first_settled, first_settled_from, initialize_at, initialize_by, is_empty, offer_to, open_initializes, result_of, settled_at, settled_by}
use Rattle.lsp_session.specs.Laws.{sent_by}
use Rattle.lsp_session.specs.Negotiation.{first_row}
use Rattle.lsp_session.specs.OpenInitialize.{Initialize}
use Rattle.lsp_session.specs.Requests.{answer_rule, is_answered, names, open_requests, request_rule}
use Rattle.lsp_session.specs.Rules.{rule_after}
use Rattle.lsp_session.specs.Sent.{Sent, answered_id, cancelled_id, is_exit, is_initialize, is_initialized, offer_of, request_by}
use Rattle.lsp_session.specs.State.{agreed_in, closed, closed_initializes, initializes_next, marked, open_next, pushed, pushed_initialize, state_of}
use Rattle.lsp_session.proofs.ByStateLemmas.{rule_by-state_of}
use Rattle.lsp_session.proofs.Steps.{closed_initializes-none, open_initializes-push, open_requests-push, option_or-assoc, option_or-none}
use Rattle.lsp_verdict.specs.Interleaving.{first_result, is_asked, is_reply, result_by}
use Rattle.lsp_verdict.specs.LookBack.{first_from}
use Rattle.lsp_verdict.proofs.Interleaving.Acts.{request_stays}
use Rattle.lsp_verdict.proofs.LookBackLemmas.{first_of-snoc, or_none_parts}

-- ---- the stages

abbrev pub value_of : Settled → Data
value_of s = s.value

-- the editor's request of this id to initialize
abbrev pub starting : Ident → List ℕ → Option Data → Act → Sent
starting id method params act = sent_by Editor act (request id method params)

-- no request of the editor is open, and the server sent no result
pub record IsFresh (h : List Sent) : Type 0 where
  pub none_open : open_requests Editor h ≡ []
  pub none_starts : open_initializes h ≡ []
  pub turn : length (filter is_asked h) ≡ length (filter is_reply h)
  pub unsettled : first_settled h ≡ None
  pub no_result : first_result h ≡ None

-- an `initialize` is open and nothing else of the editor's, and the server sent no result
pub record IsWaiting (h : List Sent) : Type 0 where
  pub earlier : List Sent
  pub id : Ident
  pub method : List ℕ
  pub params : Option Data
  pub act : Act
  pub offer : Offer
  pub between : List Sent
  pub place : h ≡ earlier ++ starting id method params act ∷ between
  pub offers : offer_of act ≡ Some offer
  pub kept : Entry
  pub is_open : open_requests Editor h ≡ kept ∷ []
  pub same : kept.id ≡ id
  pub starts : open_initializes h ≡ record { id = id; offer = offer } ∷ []
  pub left : is_answered Editor id between ≡ false
  pub turn : length (filter is_asked earlier) ≡ length (filter is_reply h)
  pub count : length (filter is_asked h) ≡ length (filter is_reply h) + 1
  pub unsettled : first_settled h ≡ None
  pub no_result : first_result h ≡ None

-- the server's first result has settled what is agreed, and no `initialize` is open
pub record IsSettled (h : List Sent) : Type 0 where
  pub value : Data
  pub none_starts : open_initializes h ≡ []
  pub first : first_result h ≡ Some value
  pub settled : option_map value_of (first_settled h) ≡ Some value

pub data Stage (h : List Sent) : Type 0 where
  fresh : IsFresh h → Stage h
  waiting : IsWaiting h → Stage h
  settled : IsSettled h → Stage h

pub at_first : Stage []
at_first = fresh (record { none_open = refl; none_starts = refl; turn = refl; unsettled = refl; no_result = refl })

-- ---- one message more

start_push : (h : List Sent) (m : Sent) → open_initializes (h ++ m ∷ []) ≡ initializes_next m (open_initializes h)
start_push = open_initializes-push

settled_first : (before ms : List Sent) → first_settled_from before ms ≡ first_from settled_by before ms
settled_first before [] = refl
settled_first before (m ∷ ms) = ap (option_or (settled_by before m)) (settled_first (before ++ m ∷ []) ms)

settle_push : (h : List Sent) (m : Sent) → first_settled (h ++ m ∷ []) ≡ option_or (first_settled h) (settled_by h m)
settle_push h m = settled_first [] (h ++ m ∷ []) ∙ first_of-snoc settled_by h m ∙ ap (λ o. option_or o (settled_by h m)) (sym (settled_first [] h))

-- what was settled first stays
still : (o p : Option Settled) (value : Data) → option_map value_of o ≡ Some value → option_map value_of (option_or o p) ≡ Some value
still None p value e = cc
still (Some s) p value e = e

pub first_result-append : (xs ys : List Sent) → first_result (xs ++ ys) ≡ option_or (first_result xs) (first_result ys)
first_result-append [] ys = refl
first_result-append (x ∷ xs) ys = ap (option_or (result_by x)) (first_result-append xs ys) ∙ option_or-assoc (result_by x) (first_result xs) (first_result ys)

result_push : (h : List Sent) (m : Sent) → first_result (h ++ m ∷ []) ≡ option_or (first_result h) (result_by m)
result_push h m = first_result-append h (m ∷ []) ∙ ap (option_or (first_result h)) (option_or-none (result_by m))

count_push : (test : Sent → Bool) (h : List Sent) (m : Sent) → length (filter test (h ++ m ∷ [])) ≡ length (filter test h) + length (cond (test m) (m ∷ []) [])
count_push test h m = ap length (filter-append test h (m ∷ [])) ∙ length-append (filter test h) (cond (test m) (m ∷ []) [])

count_same : (test : Sent → Bool) (h : List Sent) (m : Sent) → test m ≡ false → length (filter test (h ++ m ∷ [])) ≡ length (filter test h)
count_same test h m fails =
    let by = ap (λ b. length (cond b (m ∷ []) [])) fails in
    omega (arith, count_push test h m, by)

count_more : (test : Sent → Bool) (h : List Sent) (m : Sent) → test m ≡ true → length (filter test (h ++ m ∷ [])) ≡ length (filter test h) + 1
count_more test h m passes =
    let by = ap (λ b. length (cond b (m ∷ []) [])) passes in
    omega (arith, count_push test h m, by)

marked_none : (k : Option Ident) → marked k [] ≡ []
marked_none None = refl
marked_none (Some id) = refl

-- a mark leaves the id
record Marked (k : Option Ident) (e : Entry) : Type 0 where
  kept : Entry
  is : marked k (e ∷ []) ≡ kept ∷ []
  same : kept.id ≡ e.id

mark_one : (k : Option Ident) (e : Entry) → Marked k e
mark_one None e = record { kept = e; is = refl; same = refl }
mark_one (Some id) e = record { kept = entry.marked id e; is = refl; same = by_id (same_id id e.id) }
  where
    by_id : (b : Bool) → (if b then record e { cancelled = true } else e).id ≡ e.id
    by_id true = refl
    by_id false = refl

pub no_offer : (starts : List Initialize) → offer_to None starts ≡ None
no_offer [] = refl
no_offer (i ∷ rest) = no_offer rest

no_result : (o : Option Offer) → settled_at o None ≡ None
no_result None = refl
no_result (Some offer) = refl

-- ---- a message that is neither a request of the editor nor a response of the server

record IsQuiet (m : Sent) : Type 0 where
  asks : request_by Editor m ≡ None
  answers : answered_id Editor m ≡ None
  reply : is_reply m ≡ false
  result : result_by m ≡ None

quiet_settles : (h : List Sent) (m : Sent) → IsQuiet m → first_settled h ≡ None → first_settled (h ++ m ∷ []) ≡ None
quiet_settles h m q unsettled =
    settle_push h m
    ∙ ap (λ o. option_or o (settled_by h m)) unsettled
    ∙ ap (λ c. settled_at (offer_to c (open_initializes h)) (result_of m.message)) q.answers
    ∙ ap (λ o. settled_at o (result_of m.message)) (no_offer (open_initializes h))

quiet_result : (h : List Sent) (m : Sent) → IsQuiet m → first_result h ≡ None → first_result (h ++ m ∷ []) ≡ None
quiet_result h m q none = result_push h m ∙ ap (λ o. option_or o (result_by m)) none ∙ q.result

quiet_starts : (m : Sent) → IsQuiet m → (starts : List Initialize) → initializes_next m starts ≡ starts
quiet_starts m q starts =
    ap (λ r. pushed_initialize (initialize_at r (offer_of m.act)) (closed_initializes (answered_id Editor m) starts)) q.asks
    ∙ ap (λ c. closed_initializes c starts) q.answers

quiet_open : (m : Sent) → IsQuiet m → (es : List Entry) → open_next Editor m es ≡ marked (cancelled_id Editor m) es
quiet_open m q es =
    ap (λ r. pushed r (marked (cancelled_id Editor m) (closed (answered_id Editor m) es))) q.asks
    ∙ ap (λ c. marked (cancelled_id Editor m) (closed c es)) q.answers

not_answered : (id : Ident) (between : List Sent) (m : Sent) → answered_id Editor m ≡ None → is_answered Editor id between ≡ false → is_answered Editor id (between ++ m ∷ []) ≡ false
not_answered id [] m none left = ap (λ c. names c id || false) none
not_answered id (x ∷ between) m none left = either (names (answered_id Editor x) id) _ _ left (not_answered id between m none)
  where
    either : (a b c : Bool) → (a || b) ≡ false → (b ≡ false → c ≡ false) → (a || c) ≡ false
    either true b c h next = h
    either false b c h next = next h

quiet_fresh : (h : List Sent) (m : Sent) → IsQuiet m → IsFresh h → IsFresh (h ++ m ∷ [])
quiet_fresh h m q f = record {
  none_open = open_requests-push Editor h m ∙ ap (open_next Editor m) f.none_open ∙ quiet_open m q [] ∙ marked_none (cancelled_id Editor m);
  none_starts = start_push h m ∙ ap (initializes_next m) f.none_starts ∙ quiet_starts m q [];
  turn = count_same is_asked h m (ap is_some q.asks) ∙ f.turn ∙ sym (count_same is_reply h m q.reply);
  unsettled = quiet_settles h m q f.unsettled;
  no_result = quiet_result h m q f.no_result;
}

quiet_waiting : (h : List Sent) (m : Sent) → IsQuiet m → IsWaiting h → IsWaiting (h ++ m ∷ [])
quiet_waiting h m q w =
    let mark = mark_one (cancelled_id Editor m) w.kept in
    record {
      earlier = w.earlier;
      id = w.id;
      method = w.method;
      params = w.params;
      act = w.act;
      offer = w.offer;
      between = w.between ++ m ∷ [];
      place = ap (λ l. l ++ m ∷ []) w.place ∙ append_assoc w.earlier (starting w.id w.method w.params w.act ∷ w.between) (m ∷ []);
      offers = w.offers;
      kept = mark.kept;
      is_open = open_requests-push Editor h m ∙ ap (open_next Editor m) w.is_open ∙ quiet_open m q (w.kept ∷ []) ∙ mark.is;
      same = mark.same ∙ w.same;
      starts = start_push h m ∙ ap (initializes_next m) w.starts ∙ quiet_starts m q (record { id = w.id; offer = w.offer } ∷ []);
      left = not_answered w.id w.between m q.answers w.left;
      turn = w.turn ∙ sym (count_same is_reply h m q.reply);
      count = count_same is_asked h m (ap is_some q.asks) ∙ w.count ∙ ap (λ n. n + 1) (sym (count_same is_reply h m q.reply));
      unsettled = quiet_settles h m q w.unsettled;
      no_result = quiet_result h m q w.no_result;
    }

-- what is settled stays, where no `initialize` comes
settled_more : (h : List Sent) (m : Sent) → initialize_by m ≡ None → IsSettled h → IsSettled (h ++ m ∷ [])
settled_more h m none s = record {
  value = s.value;
  none_starts = start_push h m ∙ ap (initializes_next m) s.none_starts ∙ ap (λ r. pushed_initialize r (closed_initializes (answered_id Editor m) [])) none ∙ closed_initializes-none (answered_id Editor m);
  first = result_push h m ∙ ap (λ o. option_or o (result_by m)) s.first;
  settled = ap (option_map value_of) (settle_push h m) ∙ still (first_settled h) (settled_by h m) s.value s.settled;
}

quiet_step : (h : List Sent) (m : Sent) → IsQuiet m → Stage h → Stage (h ++ m ∷ [])
quiet_step h m q (fresh f) = fresh (quiet_fresh h m q f)
quiet_step h m q (waiting w) = waiting (quiet_waiting h m q w)
quiet_step h m q (settled s) = settled (settled_more h m (ap (λ r. initialize_at r (offer_of m.act)) q.asks) s)

-- ---- the editor's calls

-- before the first result the editor asks to initialize, while nothing is open
pub first_asks : (exited an_exit done empty start : Bool) (rows : List (Bool × Option ℕ)) → an_exit ≡ false → done ≡ false
    → first_row {X = ℕ} (
    (exited, Some 406)
    ∷ (false, None)
    ∷ (an_exit, None)
    ∷ (true, first_row {X = ℕ} (((not done && empty) && start, None) ∷ (not done && empty, Some 401) ∷ (not done && not empty, Some 402) ∷ rows))
    ∷ []) ≡ None
    → (empty ≡ true) × (start ≡ true)
first_asks false true done empty start rows stay early h = absurd (true≢false stay)
first_asks false false true empty start rows stay early h = absurd (true≢false early)
first_asks false false false true true rows stay early h = (refl, refl)
first_asks _ _ _ _ _ rows stay early h = absurd (true≢false (ap is_some h))

-- what is no `initialize` comes after it
pub others_follow : (exited an_exit done empty start : Bool) (rows : List (Bool × Option ℕ)) → an_exit ≡ false → start ≡ false
    → first_row {X = ℕ} (
    (exited, Some 406)
    ∷ (false, None)
    ∷ (an_exit, None)
    ∷ (true, first_row {X = ℕ} (((not done && empty) && start, None) ∷ (not done && empty, Some 401) ∷ (not done && not empty, Some 402) ∷ rows))
    ∷ []) ≡ None
    → done ≡ true
others_follow false true done empty start rows stay other h = absurd (true≢false stay)
others_follow false false true empty start rows stay other h = refl
others_follow false false false true true rows stay other h = absurd (true≢false other)
others_follow _ _ _ _ _ rows stay other h = absurd (true≢false (ap is_some h))

-- and no `initialize` comes after the first result
none_follow : {X : Type 0} (exited an_exit done empty start shutdown : Bool) (rows : List (Bool × Option ℕ)) → an_exit ≡ false → start ≡ true → done ≡ true
    → first_row {X = ℕ} (
    (exited, Some 406)
    ∷ (false, None)
    ∷ (an_exit, None)
    ∷ (true, first_row {X = ℕ} (((not done && empty) && start, None) ∷ (not done && empty, Some 401) ∷ (not done && not empty, Some 402) ∷ (shutdown, Some 405) ∷ (start, Some 404) ∷ rows))
    ∷ []) ≡ None
    → X
none_follow false true done empty start shutdown rows stay first late h = absurd (true≢false stay)
none_follow false false false empty start shutdown rows stay first late h = absurd (true≢false (sym late))
none_follow false false true empty false shutdown rows stay first late h = absurd (true≢false (sym first))
none_follow false false true empty true true rows stay first late h = absurd (true≢false (ap is_some h))
none_follow _ _ _ empty _ _ rows stay first late h = absurd (true≢false (ap is_some h))

-- ---- a request of the editor

pub record Rules (h : List Sent) (m : Sent) : Type 0 where
  pub on_ids : request_rule h m ≡ None
  pub on_order : by_state.lifecycle_rule (state_of h) m.side m.message m.act ≡ None

-- a message that breaks no rule breaks none by what a session keeps
pub rules : (h : List Sent) (m : Sent) → rule_after h m ≡ None → Rules h m
rules h m none =
    let parts = or_none_parts (by_state.request_rule (state_of h) m.side m.message) _ (rule_by-state_of h m ∙ none) in
    record { on_ids = (or_none_parts (request_rule h m) _ none).0; on_order = (or_none_parts (by_state.lifecycle_rule (state_of h) m.side m.message m.act) _ parts.1).0 }

pub not_done : (h : List Sent) → first_settled h ≡ None → is_some (agreed_in (first_settled h)) ≡ false
not_done h none = ap (λ o. is_some (agreed_in o)) none

is_done : (o : Option Settled) (value : Data) → option_map value_of o ≡ Some value → is_some (agreed_in o) ≡ true
is_done None value e = cc
is_done (Some s) value e = refl

-- the rows of a session's order of tests that stand behind those on the handshake
abbrev last_rows : List Sent → Act → List (Bool × Option ℕ)
last_rows h act =
    (not (state_of h).initialized && is_initialized act, None)
    ∷ (not (state_of h).initialized, Some 403)
    ∷ (is_initialized act, Some 404)
    ∷ []

abbrev pub late_rows : List Sent → Act → List (Bool × Option ℕ)
late_rows h act = ((state_of h).shutdown, Some 405) ∷ (is_initialize act, Some 404) ∷ last_rows h act

-- before the first result a request of the editor's comes while nothing is open, and is an
-- `initialize`
pub early_request : (h : List Sent) (id : Ident) (method : List ℕ) (params : Option Data) (act : Act) → act_at Editor (request id method params) ≡ Some act → rule_after h (starting id method params act) ≡ None
    → first_settled h ≡ None → (is_empty (open_initializes h) ≡ true) × (is_initialize act ≡ true)
early_request h id method params act read none early =
    first_asks (state_of h).exit (is_exit act) (is_some (agreed_in (first_settled h))) (is_empty (open_initializes h)) (is_initialize act) (late_rows h act) (request_stays method params act read) (not_done h early)
    (rules h (starting id method params act) none).on_order

offer_from : (act : Act) → is_initialize act ≡ true → (offer : Offer) × (offer_of act ≡ Some offer)
offer_from (initialize offer) start = (offer, refl)
offer_from _ start = absurd (true≢false (sym start))

no_offer_from : (act : Act) → is_initialize act ≡ false → offer_of act ≡ None
no_offer_from (initialize offer) start = absurd (true≢false start)
no_offer_from _ start = refl

start_fresh : (h : List Sent) (id : Ident) (method : List ℕ) (params : Option Data) (act : Act) (offer : Offer) → offer_of act ≡ Some offer → IsFresh h → IsWaiting (h ++ starting id method params act ∷ [])
start_fresh h id method params act offer offers f =
    let m = starting id method params act in
    record {
      earlier = h;
      id = id;
      method = method;
      params = params;
      act = act;
      offer = offer;
      between = [];
      place = refl;
      offers = offers;
      kept = new_entry id method;
      is_open = open_requests-push Editor h m ∙ ap (open_next Editor m) f.none_open;
      same = refl;
      starts = start_push h m ∙ ap (initializes_next m) f.none_starts ∙ ap (λ o. pushed_initialize (initialize_at (Some (id, method)) o) []) offers;
      left = refl;
      turn = f.turn ∙ sym (count_same is_reply h m refl);
      count = count_more is_asked h m refl ∙ ap (λ n. n + 1) (f.turn ∙ sym (count_same is_reply h m refl));
      unsettled = settle_push h m ∙ ap (λ o. option_or o (settled_by h m)) f.unsettled ∙ ap (λ o. settled_at o None) (no_offer (open_initializes h));
      no_result = result_push h m ∙ ap (λ o. option_or o None) f.no_result;
    }

asks_step : (h : List Sent) (id : Ident) (method : List ℕ) (params : Option Data) (act : Act) → act_at Editor (request id method params) ≡ Some act → rule_after h (starting id method params act) ≡ None
    → Stage h → Stage (h ++ starting id method params act ∷ [])
asks_step h id method params act read none (fresh f) =
    let offer = offer_from act (early_request h id method params act read none f.unsettled).1 in
    waiting (start_fresh h id method params act offer.0 offer.1 f)
asks_step h id method params act read none (waiting w) =
    let empty = (early_request h id method params act read none w.unsettled).0 in
    absurd (true≢false (sym empty ∙ ap is_empty w.starts))
asks_step h id method params act read none (settled s) = elim (cases_Bool (is_initialize act)) [
  | inl start ↦
      none_follow (state_of h).exit (is_exit act) (is_some (agreed_in (first_settled h))) (is_empty (open_initializes h)) (is_initialize act) (state_of h).shutdown (last_rows h act) (request_stays method params act read) start (is_done (first_settled h) s.value s.settled)
      (rules h (starting id method params act) none).on_order
  | inr other ↦ settled (settled_more h (starting id method params act) (ap (initialize_at (Some (id, method))) (no_offer_from act other)) s)
]

-- ---- a response of the server

abbrev pub replying : Option Ident → Reply → Act → Sent
replying id reply act = sent_by Server act (response id reply)

-- it answers the `initialize` that is open
abbrev pub IsNamed : Option Ident → Ident → Type 0
IsNamed None id = ⊥
IsNamed (Some named) id = same_id named id ≡ true

pub open_rule : (h : List Sent) (id : Option Ident) (reply : Reply) (act : Act) (es : List Entry) → request_rule h (replying id reply act) ≡ None → open_requests Editor h ≡ es → answer_rule id es ≡ None
open_rule h id reply act es none is = ap (answer_rule id) (sym is) ∙ none

pub never : {X : Type 0} (id : Option Ident) → answer_rule id [] ≡ None → X
never None e = absurd (true≢false (ap is_some e))
never (Some id) e = absurd (true≢false (ap is_some e))

abbrev unless : Bool → Option ℕ
unless b = if b then None else Some 301

pub named : (id : Option Ident) (e : Entry) (own : Ident) → e.id ≡ own → answer_rule id (e ∷ []) ≡ None → IsNamed id own
named None e own same h = absurd (true≢false (ap is_some h))
named (Some id) e own same h = ap (same_id id) (sym same) ∙ by_id (same_id id e.id) h
  where
    by_id : (b : Bool) → unless (b || false) ≡ None → b ≡ true
    by_id true h = refl
    by_id false h = absurd (true≢false (ap is_some h))

closes : (h : List Sent) (id : Ident) (reply : Reply) (act : Act) (w : IsWaiting h) → same_id id w.id ≡ true → open_requests Editor (h ++ replying (Some id) reply act ∷ []) ≡ []
closes h id reply act w p =
    open_requests-push Editor h (replying (Some id) reply act) ∙ ap (open_next Editor (replying (Some id) reply act)) w.is_open
    ∙ ap (λ b. if b then [] else w.kept ∷ []) (ap (same_id id) w.same ∙ p)

ends : (h : List Sent) (id : Ident) (reply : Reply) (act : Act) (w : IsWaiting h) → same_id id w.id ≡ true → open_initializes (h ++ replying (Some id) reply act ∷ []) ≡ []
ends h id reply act w p =
    start_push h (replying (Some id) reply act) ∙ ap (initializes_next (replying (Some id) reply act)) w.starts
    ∙ ap (λ b. if b then [] else record { id = w.id; offer = w.offer } ∷ []) p

-- an error leads back to where nothing is open, a result settles
reply_waiting : (h : List Sent) (id : Ident) (reply : Reply) (act : Act) (w : IsWaiting h) → same_id id w.id ≡ true → Stage (h ++ replying (Some id) reply act ∷ [])
reply_waiting h id (error code) act w p =
    let m = replying (Some id) (error code) act in
    fresh (record {
      none_open = closes h id (error code) act w p;
      none_starts = ends h id (error code) act w p;
      turn = count_same is_asked h m refl ∙ w.count ∙ sym (count_more is_reply h m refl);
      unsettled = settle_push h m ∙ ap (λ o. option_or o (settled_by h m)) w.unsettled ∙ no_result (offer_to (Some id) (open_initializes h));
      no_result = result_push h m ∙ ap (λ o. option_or o None) w.no_result;
    })
reply_waiting h id (result value) act w p =
    let m = replying (Some id) (result value) act in
    settled (record {
      value = value;
      none_starts = ends h id (result value) act w p;
      first = result_push h m ∙ ap (λ o. option_or o (Some value)) w.no_result;
      settled =
          ap (option_map value_of) (
          settle_push h m ∙ ap (λ o. option_or o (settled_by h m)) w.unsettled
          ∙ ap (λ starts. settled_at (offer_to (Some id) starts) (Some value)) w.starts
          ∙ ap (λ b. settled_at (if b then Some w.offer else None) (Some value)) p);
    })

replies_step : (h : List Sent) (id : Option Ident) (reply : Reply) (act : Act) → rule_after h (replying id reply act) ≡ None → Stage h → Stage (h ++ replying id reply act ∷ [])
replies_step h id reply act none (fresh f) = never id (open_rule h id reply act [] (rules h (replying id reply act) none).on_ids f.none_open)
replies_step h id reply act none (waiting w) = by_id id refl (named id w.kept w.id w.same (open_rule h id reply act (w.kept ∷ []) (rules h (replying id reply act) none).on_ids w.is_open))
  where
    by_id : (o : Option Ident) → id ≡ o → IsNamed o w.id → Stage (h ++ replying id reply act ∷ [])
    by_id None is p = absurd p
    by_id (Some named) is p = subst (λ o. Stage (h ++ replying o reply act ∷ [])) (sym is) (reply_waiting h named reply act w p)
replies_step h id reply act none (settled s) = settled (settled_more h (replying id reply act) refl s)

-- ---- any message

kind_step : (h : List Sent) (side : Side) (message : Message) (act : Act) → act_at side message ≡ Some act → rule_after h (sent_by side act message) ≡ None → Stage h → Stage (h ++ sent_by side act message ∷ [])
kind_step h Editor (request id method params) act read none stage = asks_step h id method params act read none stage
kind_step h Editor (notification method params) act read none stage = quiet_step h (sent_by Editor act (notification method params)) (record { asks = refl; answers = refl; reply = refl; result = refl }) stage
kind_step h Editor (response id reply) act read none stage = quiet_step h (sent_by Editor act (response id reply)) (record { asks = refl; answers = refl; reply = refl; result = refl }) stage
kind_step h Server (request id method params) act read none stage = quiet_step h (sent_by Server act (request id method params)) (record { asks = refl; answers = refl; reply = refl; result = refl }) stage
kind_step h Server (notification method params) act read none stage = quiet_step h (sent_by Server act (notification method params)) (record { asks = refl; answers = refl; reply = refl; result = refl }) stage
kind_step h Server (response id reply) act read none stage = replies_step h id reply act none stage

-- the stage after a message that breaks no rule
pub step : (h : List Sent) (m : Sent) → act_at m.side m.message ≡ Some m.act → rule_after h m ≡ None → Stage h → Stage (h ++ m ∷ [])
step h m read none stage = kind_step h m.side m.message m.act read none stage
