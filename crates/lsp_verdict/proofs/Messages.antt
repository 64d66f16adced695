-- Where no event offends, the messages keep the rules of a session, and responses match their
-- requests.
use Rattle.std.proofs.Common.{◌≡◌, ℕ, Bool, true, false, List, [], ◌∷◌, ◌++◌, length, None, refl, sym, ap, subst, ◌∙◌, append_assoc, append-nil, arith}
use Rattle.std.proofs.lemmas.List.{length-append}
use Rattle.std.proofs.lemmas.List.Elements.{filter_map-append}
use Rattle.lsp_session.specs.Lifecycle.{lifecycle_rule}
use Rattle.lsp_session.specs.Requests.{request_rule, answers}
use Rattle.lsp_session.specs.Rules.{rule_after, AdmittedAfter, IsAdmitted}
use Rattle.lsp_session.specs.Sent.{Sent}
use Rattle.lsp_session.proofs.LawLemmas.{admitted_at}
use Rattle.lsp_docs.specs.Documents.{Terms}
use Rattle.lsp_verdict.specs.Event.{Event, message, fault, snapshot, sent_of, sent_in}
use Rattle.lsp_verdict.specs.Kept.{Answers, IsResponseAt, AnswersOne, AnswersMatch, NothingOffends, KeepsLifecycle}
use Rattle.lsp_verdict.specs.LookBack.{first_from}
use Rattle.lsp_verdict.specs.Verdict.{no_by, no_at, offence, document_rule}
use Rattle.lsp_verdict.proofs.Below.{answers_a_request, answers_no_other, answered_once}
use Rattle.lsp_verdict.proofs.Finding.{map_none, one, earlier, later, splits, same_split}
use Rattle.lsp_verdict.proofs.LookBackLemmas.{or_none_parts}

-- ---- the messages among more events

pub sent_in-append : (es fs : List Event) → sent_in (es ++ fs) ≡ sent_in es ++ sent_in fs
sent_in-append es fs = filter_map-append sent_of es fs

-- ---- the rules of a session

-- a message that doesn't offend breaks no rule of the session
pub session_rule_none : (terms : Terms) (before : List Event) (m : Sent) → offence terms before (message m) ≡ None → rule_after (sent_in before) m ≡ None
session_rule_none terms before m none = (or_none_parts (rule_after (sent_in before) m) (document_rule terms before (message m)) none).0

pub admitted : (terms : Terms) (before es : List Event) → first_from (no_at terms) before es ≡ None → AdmittedAfter (sent_in before) (sent_in es)
admitted terms before [] none = tt
admitted terms before (message m ∷ es) none =
    let parts = or_none_parts (no_at terms before (message m)) (first_from (no_at terms) (before ++ message m ∷ []) es) none in (
      session_rule_none terms before m (map_none (no_by before (message m)) (offence terms before (message m)) parts.0),
      subst (λ (w : List Sent). AdmittedAfter w (sent_in es)) (sent_in-append before (message m ∷ [])) (admitted terms (before ++ message m ∷ []) es parts.1),
    )
admitted terms before (fault side rule ∷ es) none =
    let parts = or_none_parts (no_at terms before (fault side rule)) (first_from (no_at terms) (before ++ fault side rule ∷ []) es) none in
    subst (λ (w : List Sent). AdmittedAfter w (sent_in es)) (sent_in-append before (fault side rule ∷ []) ∙ append-nil (sent_in before)) (admitted terms (before ++ fault side rule ∷ []) es parts.1)
admitted terms before (snapshot uri n t ∷ es) none =
    let parts = or_none_parts (no_at terms before (snapshot uri n t)) (first_from (no_at terms) (before ++ snapshot uri n t ∷ []) es) none in
    subst (λ (w : List Sent). AdmittedAfter w (sent_in es)) (sent_in-append before (snapshot uri n t ∷ []) ∙ append-nil (sent_in before)) (admitted terms (before ++ snapshot uri n t ∷ []) es parts.1)

pub keeps_lifecycle : (terms : Terms) (es : List Event) → NothingOffends terms es → KeepsLifecycle es
keeps_lifecycle terms es clean before after m cut =
    let none = session_rule_none terms before m (clean before after (message m) cut) in
    (or_none_parts (lifecycle_rule (sent_in before) m) _ (or_none_parts (request_rule (sent_in before) m) _ none).1).0

-- ---- responses

admitted_split : (before xs ys : List Sent) → AdmittedAfter before (xs ++ ys) → AdmittedAfter before xs
admitted_split before [] ys h = tt
admitted_split before (x ∷ xs) ys h = (h.0, admitted_split (before ++ x ∷ []) xs ys h.1)

clash : {X : Type 0} (b : Bool) → b ≡ true → b ≡ false → X
clash true p q = absurd cc
clash false p q = absurd cc

-- a reply at the same place is the same, after the same messages
record SamePlace (messages : List Sent) (i : ℕ) (before : List Sent) (reply : Sent) : Type 0 where
  front : List Sent
  asked : Sent
  between : List Sent
  place : before ≡ front ++ asked ∷ between
  fits : answers asked between reply ≡ true
  at : length front ≡ i

same_place : (messages : List Sent) (i j : ℕ) (before : List Sent) (reply : Sent) (after : List Sent) → messages ≡ before ++ reply ∷ after → length before ≡ j → Answers messages i j → SamePlace messages i before reply
same_place messages i j before reply after whole at a =
    let cut : before ++ reply ∷ after ≡ (a.before ++ a.asked ∷ a.between) ++ a.reply ∷ a.after =
    sym whole ∙ a.whole ∙ sym (append_assoc a.before (a.asked ∷ a.between) (a.reply ∷ a.after)) in
    let long : length before ≡ length (a.before ++ a.asked ∷ a.between) =
    omega (arith, at, a.replied_at, length-append a.before (a.asked ∷ a.between)) in
    let same = same_split before (a.before ++ a.asked ∷ a.between) (reply ∷ after) (a.reply ∷ a.after) long cut in
    let reply_same : reply ≡ a.reply = cc same.1 in
    record {
      front = a.before;
      asked = a.asked;
      between = a.between;
      place = same.0;
      fits = ap (answers a.asked a.between) reply_same ∙ a.fits;
      at = a.asked_at;
    }

-- no response answers requests at two places
only_one : (before : List Sent) (reply : Sent) → IsAdmitted before → (xs : List Sent) (a : Sent) (ys us : List Sent) (b : Sent) (bs : List Sent) → before ≡ xs ++ a ∷ ys → before ≡ us ++ b ∷ bs
    → answers a ys reply ≡ true → answers b bs reply ≡ true → length xs ≡ length us
only_one before reply fits xs a ys us b bs p q first second = elim (splits xs a ys us b bs (sym p ∙ q)) [
  | one same same_one rest ↦ ap length same
  | earlier mid here there ↦
      let whole : before ≡ xs ++ a ∷ (mid ++ b ∷ bs) = p ∙ ap (λ w. xs ++ a ∷ w) there in
      clash (answers b bs reply) second
      (answers_no_other xs a mid b bs reply (subst IsAdmitted whole fits) (ap (λ w. answers a w reply) (sym there) ∙ first))
  | later mid here there ↦
      let whole : before ≡ us ++ b ∷ (mid ++ a ∷ ys) = q ∙ ap (λ w. us ++ b ∷ w) there in
      clash (answers a ys reply) first
      (answers_no_other us b mid a ys reply (subst IsAdmitted whole fits) (ap (λ w. answers b w reply) (sym there) ∙ second))
]

answers_one : (messages : List Sent) → IsAdmitted messages → (j : ℕ) → IsResponseAt messages j → AnswersOne messages j
answers_one messages fits j r =
    let whole = subst IsAdmitted r.whole fits in
    let found = answers_a_request r.before r.reply (admitted_at [] r.before r.reply r.after whole) r.replies in
    record {
      request = length found.earlier;
      answers = record {
        before = found.earlier;
        asked = found.asked;
        between = found.between;
        reply = r.reply;
        after = r.after;
        whole = r.whole ∙ ap (λ w. w ++ r.reply ∷ r.after) found.place ∙ append_assoc found.earlier (found.asked ∷ found.between) (r.reply ∷ r.after);
        asked_at = refl;
        replied_at = omega (arith, r.at, ap length found.place, length-append found.earlier (found.asked ∷ found.between));
        fits = found.answers;
      };
      only = λ i a.
          let s = same_place messages i j r.before r.reply r.after r.whole r.at a in
          sym s.at ∙ only_one r.before r.reply (admitted_split [] r.before (r.reply ∷ r.after) whole) s.front s.asked s.between found.earlier found.asked found.between s.place found.place s.fits found.answers;
    }

-- no request is answered twice
once : (messages : List Sent) (i j k : ℕ) → Answers messages i j → Answers messages i k → j ≡ k
once messages i j k a b =
    let fronts = same_split a.before b.before (a.asked ∷ (a.between ++ a.reply ∷ a.after)) (b.asked ∷ (b.between ++ b.reply ∷ b.after)) (a.asked_at ∙ sym b.asked_at) (sym a.whole ∙ b.whole) in
    let asked : a.asked ≡ b.asked = cc fronts.1 in
    let tails : a.between ++ a.reply ∷ a.after ≡ b.between ++ b.reply ∷ b.after = cc fronts.1 in
    elim (splits a.between a.reply a.after b.between b.reply b.after tails) [
      | one same reply rest ↦ omega (arith, a.replied_at, b.replied_at, a.asked_at, b.asked_at, ap length same)
      | earlier mid here there ↦
          clash (answers b.asked b.between b.reply) b.fits
          (ap (λ w. answers b.asked w b.reply) here
          ∙ answered_once b.asked a.between a.reply mid b.reply (ap (λ w. answers w a.between a.reply) (sym asked) ∙ a.fits))
      | later mid here there ↦
          clash (answers a.asked a.between a.reply) a.fits
          (ap (λ w. answers a.asked w a.reply) here
          ∙ answered_once a.asked b.between b.reply mid a.reply (ap (λ w. answers w b.between b.reply) asked ∙ b.fits))
    ]

pub answers_match : (messages : List Sent) → IsAdmitted messages → AnswersMatch messages
answers_match messages fits = record { one = answers_one messages fits; once = once messages }
