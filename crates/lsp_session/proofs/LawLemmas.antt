-- Requests, and the responses that answer them.
use Rattle.std.proofs.Common.{◌≡◌, ℕ, List, [], ◌∷◌, ◌++◌, Option, Some, None, is_some, inl, inr}
use Rattle.std.proofs.Common.{Bool, true, false, not, ◌&&◌, ◌||◌, if◌then◌else◌, true≢false, refl}
use Rattle.std.proofs.Common.{sym, ap, ◌∙◌, subst, append_assoc, append-nil}
use Rattle.std.specs.Option.{option_or}
use Rattle.std.proofs.lemmas.Option.{same_Some}
use Rattle.lsp_rpc.specs.Ident.{Ident, same_id}
use Rattle.lsp_rpc.specs.Message.{Message, request, notification, response}
use Rattle.lsp_types.specs.declared.side.Side.{Side}
use Rattle.lsp_types.specs.declared.side.Side.TheVariants.{Editor, Server}
use Rattle.lsp_session.specs.Entry.{Entry, has_id}
use Rattle.lsp_session.specs.Laws.{AnsweredOnce, AnsweredRequest, AnswersARequest, AnswersNoOther}
use Rattle.lsp_session.specs.Requests.{answers, answers_request, id_rule, is_answered, is_cancelled}
use Rattle.lsp_session.specs.Requests.{names, open_entry, open_requests, request_rule}
use Rattle.lsp_session.specs.Rules.{AdmittedAfter, rule_after}
use Rattle.lsp_session.specs.Sent.{Sent, answered_from, answered_id, is_response, other_side}
use Rattle.lsp_session.specs.Sent.{request_by, request_of, response_id, same_side}
use Rattle.std.proofs.lemmas.Bool.{and_parts, cases_Bool, or_parts}
use Rattle.std.proofs.Math.Bool.{or_assoc, or-true}
use Rattle.lsp_session.proofs.Bools.{and_false, and_right_false, or_split}
use Rattle.lsp_rpc.proofs.IdLemmas.{same_id-refl, same_id-true}

pub none_left : {X : Type 0} (a b : Option X) → option_or a b ≡ None → a ≡ None
none_left None b e = refl
none_left (Some x) b e = e

-- ---- lists of messages

is_answered-append : (side : Side) (id : Ident) (xs ys : List Sent)
    → is_answered side id (xs ++ ys) ≡ (is_answered side id xs || is_answered side id ys)
is_answered-append side id [] ys = refl
is_answered-append side id (x ∷ xs) ys =
    rw (is_answered-append side id xs ys) (sym (or_assoc (names (answered_id side x) id) _ _))

has_id-append : (id : Ident) (es fs : List Entry)
    → has_id id (es ++ fs) ≡ (has_id id es || has_id id fs)
has_id-append id [] fs = refl
has_id-append id (e ∷ es) fs = rw (has_id-append id es fs) (sym (or_assoc (same_id id e.id) _ _))

pub admitted_at : (before xs : List Sent) (m : Sent) (after : List Sent)
    → AdmittedAfter before (xs ++ m ∷ after) → rule_after (before ++ xs) m ≡ None
admitted_at before [] m after h = subst (λ l. rule_after l m ≡ None) (sym (append-nil before)) h.0
admitted_at before (x ∷ xs) m after h =
    subst (λ l. rule_after l m ≡ None) (append_assoc before (x ∷ []) xs)
    (admitted_at (before ++ x ∷ []) xs m after h.1)

pub same_side-refl : (side : Side) → same_side side side ≡ true
same_side-refl Editor = refl
same_side-refl Server = refl

-- an unanswered request is open
open_at : (side : Side) (before : List Sent) (asked : Sent) (between : List Sent)
    (r : Ident × List ℕ)
    → request_by side asked ≡ Some r → is_answered side r.0 between ≡ false
    → has_id r.0 (open_requests side (before ++ asked ∷ between)) ≡ true
open_at side [] asked between r own left =
    rw (own, left) (ap (λ b. b || has_id r.0 (open_requests side between)) (same_id-refl r.0))
open_at side (x ∷ before) asked between r own left =
    has_id-append r.0 (open_entry side (request_by side x) (before ++ asked ∷ between))
    (open_requests side (before ++ asked ∷ between))
    ∙ ap (λ b. has_id r.0 (open_entry side (request_by side x) (before ++ asked ∷ between)) || b)
    (open_at side before asked between r own left)
    ∙ or-true (has_id r.0 (open_entry side (request_by side x) (before ++ asked ∷ between)))

-- ---- no response answers two requests

-- what `answers` says
record Answers (side : Side) (found : Option (Ident × List ℕ)) (between : List Sent)
    (m : Sent) : Type 0 where
  r : Ident × List ℕ
  is : found ≡ Some r
  named : names (answered_id side m) r.0 ≡ true
  left : is_answered side r.0 between ≡ false

answers-parts : (side : Side) (found : Option (Ident × List ℕ)) (between : List Sent) (m : Sent)
    → answers_request side found between m ≡ true → Answers side found between m
answers-parts side None between m h = absurd (true≢false (sym h))
answers-parts side (Some q) between m h = record {
  r = q;
  is = refl;
  named = (and_parts (names (answered_id side m) q.0) _ h).0;
  left = and_right_false (names (answered_id side m) q.0) (is_answered side q.0 between) h;
}

one_side : (a b s : Side) (message : Message) (x y : Ident)
    → names (answered_from a s message) x ≡ true → names (answered_from b s message) y ≡ true
    → a ≡ b
one_side Editor Server Editor message x y h k = absurd (true≢false (sym h))
one_side Editor Server Server message x y h k = absurd (true≢false (sym k))
one_side Server Editor Editor message x y h k = absurd (true≢false (sym k))
one_side Server Editor Server message x y h k = absurd (true≢false (sym h))
one_side _ _ s message x y h k = refl

one_id : (c : Option Ident) (x y : Ident) → names c x ≡ true → names c y ≡ true → x ≡ y
one_id None x y h k = absurd (true≢false (sym h))
one_id (Some id) x y h k = sym (same_id-true id x h) ∙ same_id-true id y k

if_none : (b : Bool) (rule : ℕ) → (if b then Some rule else None) ≡ None → b ≡ false
if_none true rule h = absurd (true≢false (ap is_some h))
if_none false rule h = refl

not_open : (own other : List Entry) (message : Message) (r : Ident × List ℕ)
    → request_of message ≡ Some r → id_rule own other message ≡ None → has_id r.0 own ≡ false
not_open own other (request id method params) r is h =
    subst (λ q. has_id q.0 own ≡ false) (same_Some _ _ is) (if_none (has_id id own) 302 h)
not_open own other _ r is h = absurd (true≢false (sym (ap is_some is)))

pub answers_no_other : AnswersNoOther
answers_no_other before first between second after m admitted h =
    elim (cases_Bool (answers second after m)) [
      | inl k ↦
          let p = answers-parts first.side (request_of first.message) (between ++ second ∷ after) m
          h in
          let q = answers-parts second.side (request_of second.message) after m k in
          let one : first.side ≡ second.side =
          one_side first.side second.side m.side m.message p.r.0 q.r.0 p.named q.named in
          let same : p.r.0 ≡ q.r.0 =
          one_id (answered_id second.side m) p.r.0 q.r.0
          (subst (λ s. names (answered_id s m) p.r.0 ≡ true) one p.named) q.named in
          let asked : request_by first.side first ≡ Some p.r =
          rw (same_side-refl first.side) p.is in
          let left : is_answered first.side p.r.0 between ≡ false =
          (or_parts (is_answered first.side p.r.0 between) _
          (sym (is_answered-append first.side p.r.0 between (second ∷ after)) ∙ p.left)).0 in
          let there = open_at first.side before first between p.r asked left in
          let rule : rule_after (before ++ first ∷ between) second ≡ None =
          admitted_at [] (before ++ first ∷ between) second after
          (subst (AdmittedAfter [])
          (sym (append_assoc before (first ∷ between) (second ∷ after))) admitted) in
          let closed = not_open (open_requests second.side (before ++ first ∷ between))
          (open_requests (other_side second.side) (before ++ first ∷ between)) second.message
          q.r q.is (none_left (request_rule (before ++ first ∷ between) second) _ rule) in
          let opened : has_id q.r.0 (open_requests second.side (before ++ first ∷ between)) ≡ true =
          subst (λ id. has_id id (open_requests second.side (before ++ first ∷ between)) ≡ true)
          same
          (subst (λ s. has_id p.r.0 (open_requests s (before ++ first ∷ between)) ≡ true) one
          there) in
          absurd (true≢false (sym opened ∙ closed))
      | inr k ↦ k
    ]

-- ---- no request is answered twice

answered_once-at : (side : Side) (found : Option (Ident × List ℕ)) (between : List Sent) (m : Sent)
    (after : List Sent) (again : Sent)
    → answers_request side found between m ≡ true
    → answers_request side found (between ++ m ∷ after) again ≡ false
answered_once-at side None between m after again h = refl
answered_once-at side (Some r) between m after again h =
    and_false (names (answered_id side again) r.0) (is_answered side r.0 (between ++ m ∷ after)) (
    is_answered-append side r.0 between (m ∷ after)
    ∙ ap (λ b. is_answered side r.0 between || (b || is_answered side r.0 after))
    (and_parts (names (answered_id side m) r.0) _ h).0
    ∙ or-true (is_answered side r.0 between))

pub answered_once : AnsweredOnce
answered_once asked between m after again h =
    answered_once-at asked.side (request_of asked.message) between m after again h

-- ---- a response that breaks no rule answers a request

record Found (side : Side) (id : Ident) (history : List Sent) : Type 0 where
  before : List Sent
  asked : Sent
  between : List Sent
  place : history ≡ before ++ asked ∷ between
  r : Ident × List ℕ
  is : request_by side asked ≡ Some r
  same : same_id id r.0 ≡ true
  left : is_answered side r.0 between ≡ false

first_found : (side : Side) (id : Ident) (m : Sent) (later : List Sent)
    (found : Option (Ident × List ℕ)) → request_by side m ≡ found
    → has_id id (open_entry side found later) ≡ true → Found side id (m ∷ later)
first_found side id m later None own h = absurd (true≢false (sym h))
first_found side id m later (Some q) own h =
    elim (cases_Bool (is_answered side q.0 later)) [
      | inl p ↦ absurd (true≢false (sym h ∙ rw p refl))
      | inr p ↦ record {
        before = [];
        asked = m;
        between = later;
        place = refl;
        r = q;
        is = own;
        same = or_back (same_id id q.0) (sym (ap
            (λ b. has_id id (if b then [] else record {
              id = q.0;
              method = q.1;
              cancelled = is_cancelled side q.0 later;
            } ∷ [])) p) ∙ h);
        left = p;
      }
    ]
  where
    or_back : (b : Bool) → (b || false) ≡ true → b ≡ true
    or_back true h = refl
    or_back false h = h

find_open : (side : Side) (id : Ident) (h : List Sent) → has_id id (open_requests side h) ≡ true
    → Found side id h
find_open side id [] e = absurd (true≢false (sym e))
find_open side id (m ∷ later) e =
    elim (cases_Bool (has_id id (open_entry side (request_by side m) later))) [
      | inl p ↦ first_found side id m later (request_by side m) refl p
      | inr p ↦
          let f = find_open side id later (or_split _ _
          (sym (has_id-append id (open_entry side (request_by side m) later)
          (open_requests side later)) ∙ e) p) in
          record {
            before = m ∷ f.before;
            asked = f.asked;
            between = f.between;
            place = ap (λ l. m ∷ l) f.place;
            r = f.r;
            is = f.is;
            same = f.same;
            left = f.left;
          }
    ]

open_found : (history : List Sent) (m : Sent) (id : Ident)
    → has_id id (open_requests (other_side m.side) history) ≡ true → response_id m.message ≡ Some id
    → AnsweredRequest history m
open_found history m id h own =
    let side = other_side m.side in
    let f = find_open side id history h in
    let by : f.asked.side ≡ side = asked_side side f.asked f.r f.is in
    let closing : answered_id side m ≡ Some id = answered_id-other m.side m.message ∙ own in
    record {
      earlier = f.before;
      asked = f.asked;
      between = f.between;
      place = f.place;
      answers =
          subst (λ s. answers_request s (request_of f.asked.message) f.between m ≡ true) (sym by) (
          ap (λ q. answers_request side q f.between m) (asked_message side f.asked f.r f.is)
          ∙ ap (λ c. names c f.r.0 && not (is_answered side f.r.0 f.between)) closing
          ∙ ap (λ b. same_id id f.r.0 && not b) f.left
          ∙ ap (λ b. b && true) f.same);
    }
  where
    asked_side : (side : Side) (a : Sent) (r : Ident × List ℕ) → request_by side a ≡ Some r
        → a.side ≡ side
    asked_side side a r h = go side a.side (request_of a.message) h
      where
        go : (side by : Side) (found : Option (Ident × List ℕ))
            → (if same_side side by then found else None) ≡ Some r → by ≡ side
        go Editor Server found h = absurd (true≢false (sym (ap is_some h)))
        go Server Editor found h = absurd (true≢false (sym (ap is_some h)))
        go _ _ found h = refl

    asked_message : (side : Side) (a : Sent) (r : Ident × List ℕ) → request_by side a ≡ Some r
        → request_of a.message ≡ Some r
    asked_message side a r h = go (same_side side a.side) (request_of a.message) h
      where
        go : (b : Bool) (found : Option (Ident × List ℕ)) → (if b then found else None) ≡ Some r
            → found ≡ Some r
        go true found h = h
        go false found h = absurd (true≢false (sym (ap is_some h)))

    answered_id-other : (side : Side) (message : Message)
        → answered_from (other_side side) side message ≡ response_id message
    answered_id-other Editor message = refl
    answered_id-other Server message = refl

rule_found : (history : List Sent) (m : Sent) (message : Message)
    → id_rule (open_requests m.side history) (open_requests (other_side m.side) history) message
    ≡ None → is_response message ≡ true → m.message ≡ message → AnsweredRequest history m
rule_found history m (response None reply) h k own = absurd (true≢false (ap is_some h))
rule_found history m (response (Some id) reply) h k own =
    open_found history m id (unless_none (has_id id (open_requests (other_side m.side) history)) 301
    h) (ap response_id own)
  where
    unless_none : (b : Bool) (rule : ℕ) → (if b then None else Some rule) ≡ None → b ≡ true
    unless_none true rule h = refl
    unless_none false rule h = absurd (true≢false (ap is_some h))
rule_found history m _ h k own = absurd (true≢false (sym k))

pub answers_a_request : AnswersARequest
answers_a_request history m rule k =
    rule_found history m m.message (none_left (request_rule history m) _ rule) k refl
