-- What each accepted call leaves stands for the calls with it behind them.
use Rattle.std.proofs.Common.{◌≡◌, ℕ, ◌+◌, Bool, true, false, ◌||◌, List, [], ◌∷◌, ◌++◌, filter}
use Rattle.std.proofs.Common.{length, length-append, refl, sym, ap, ◌∙◌, Some, None, inl, inr}
use Rattle.std.proofs.Common.{append_assoc, append-nil, subst, arith, zero, suc}
use Rattle.std.specs.Prelude.{ℤ, not, is_some, int_lt, slice_get}
use Rattle.std.specs.Str.{bytes_eq}
use Rattle.std.proofs.lemmas.Option.{none-some, same_Some}
use Rattle.std.proofs.lemmas.Bool.{cases_Bool, and_left}
use Rattle.lsp_types.specs.declared.position.Encoding.{Encoding}
use Rattle.lsp_types.specs.declared.change.SyncKind.{SyncKind}
use Rattle.lsp_docs.specs.Calls.{Text, Bytes, Call, opens, changes, closes, saves, shows}
use Rattle.lsp_docs.specs.Documents.{Terms, Version, versioned, held, Held, documents, is_after}
use Rattle.lsp_docs.specs.Documents.{is_at, is_before}
use Rattle.lsp_text.specs.Edits.{Edit}
use Rattle.lsp_docs.specs.Snapshots.{Shown, shown_entry, waiting, versions_of, ends_waiting}
use Rattle.lsp_docs.specs.Snapshots.{missed_at, missed}
use Rattle.lsp_docs.specs.Rules.{call_rule, AreAcceptedFrom, AreAccepted}
use Rattle.lsp_docs.specs.State.{Queue, Waits, held_in, queue_of, keep_in, total, capped, reached}
use Rattle.lsp_docs.specs.State.{missed_one, SameOrder, IsAdded, IsReleased, AreWaits}
use Rattle.lsp_docs.proofs.Words.{no_some, filter-none, filter-all, capped-add, uri_is, uri_same}
use Rattle.lsp_docs.proofs.Words.{uri_flip, and_first}
use Rattle.lsp_docs.proofs.DocumentSteps.{after_call, stays, documents-push, held-documents}
use Rattle.lsp_docs.proofs.DocumentSteps.{IsDistinct, all_stay}
use Rattle.lsp_docs.proofs.WaitingSteps.{still, waiting-push, missed-push, missed-quiet}
use Rattle.lsp_docs.proofs.WaitingSteps.{versions-kept, count-kept, count-ended, versions_of-append}
use Rattle.lsp_docs.proofs.WaitingSteps.{none_row}
use Rattle.lsp_docs.proofs.Queues.{queue-kept, queue-others, total-kept}
use Rattle.lsp_docs.proofs.SameVersions.{order-of, order-then, order-behind, order-filtered}
use Rattle.lsp_docs.proofs.SameVersions.{order-length, order-count}

-- ---- accepted calls

pub accepted_from-push : (terms : Terms) (before after : List Call) (c : Call)
    → AreAcceptedFrom terms before after → call_rule terms (before ++ after) c ≡ None
    → AreAcceptedFrom terms before (after ++ c ∷ [])
accepted_from-push terms before [] c h e =
    (ap (λ l. call_rule terms l c) (sym (append-nil before)) ∙ e, tt)
accepted_from-push terms before (d ∷ after) c h e = (
  h.0,
  accepted_from-push terms (before ++ d ∷ []) after c h.1
      (ap (λ l. call_rule terms l c) (append_assoc before (d ∷ []) after) ∙ e),
)

pub accepted-push : (terms : Terms) (calls : List Call) (c : Call) → AreAccepted terms calls
    → call_rule terms calls c ≡ None → AreAccepted terms (calls ++ c ∷ [])
accepted-push terms calls c h e = accepted_from-push terms [] calls c h e

-- ---- each URI is open once

none-after : (terms : Terms) (c : Call) (x : Bytes) (hs : List Held) → held_in x hs ≡ None
    → held_in x (after_call terms c hs) ≡ None
none-after terms c x [] e = refl
none-after terms c x (h ∷ hs) e =
    let parts = none_row (bytes_eq x h.uri) h.version (held_in x hs) e in
    let rest = none-after terms c x hs parts.1 in
    elim (cases_Bool (stays c h)) [ inl p ↦ rw (p, parts.0) rest | inr p ↦ rw p rest ]

distinct-after : (terms : Terms) (c : Call) (hs : List Held) → IsDistinct hs
    → IsDistinct (after_call terms c hs)
distinct-after terms c [] d = tt
distinct-after terms c (h ∷ hs) d =
    let rest = distinct-after terms c hs d.1 in
    elim (cases_Bool (stays c h))
    [ inl p ↦ rw p (none-after terms c h.uri hs d.0, rest) | inr p ↦ rw p rest ]

none-last : (x : Bytes) (hs : List Held) (h : Held) → held_in x hs ≡ None → bytes_eq x h.uri ≡ false
    → held_in x (hs ++ h ∷ []) ≡ None
none-last x [] h e p = rw p refl
none-last x (g ∷ hs) h e p =
    let parts = none_row (bytes_eq x g.uri) g.version (held_in x hs) e in
    rw parts.0 (none-last x hs h parts.1 p)

distinct-last : (hs : List Held) (h : Held) → IsDistinct hs → held_in h.uri hs ≡ None
    → IsDistinct (hs ++ h ∷ [])
distinct-last [] h d e = (refl, tt)
distinct-last (g ∷ hs) h d e =
    let parts = none_row (bytes_eq h.uri g.uri) g.version (held_in h.uri hs) e in
    (none-last g.uri hs h d.0 (uri_flip g.uri h.uri ∙ parts.0), distinct-last hs h d.1 parts.1)

distinct-push : (terms : Terms) (calls : List Call) (c : Call) → call_rule terms calls c ≡ None
    → IsDistinct (documents terms calls) → IsDistinct (documents terms (calls ++ c ∷ []))
distinct-push terms calls (opens u n t) e d =
    let none = sym (held-documents terms u calls)
    ∙ no_some (held terms u calls) (none_row (is_some (held terms u calls)) 601 _ e).0 in
    subst IsDistinct (ap (λ l. l ++ record {
      uri = u;
      version = versioned n t;
    } ∷ []) (sym (all_stay terms u n t (documents terms calls)))
    ∙ sym (documents-push terms calls (opens u n t)))
    (distinct-last (documents terms calls) (record { uri = u; version = versioned n t }) d none)
distinct-push terms calls (changes enc k u n cs) e d =
    subst IsDistinct (sym (append-nil _) ∙ sym (documents-push terms calls (changes enc k u n cs)))
    (distinct-after terms (changes enc k u n cs) (documents terms calls) d)
distinct-push terms calls (closes u) e d =
    subst IsDistinct (sym (append-nil _) ∙ sym (documents-push terms calls (closes u)))
    (distinct-after terms (closes u) (documents terms calls) d)
distinct-push terms calls (saves u t) e d =
    subst IsDistinct (sym (append-nil _) ∙ sym (documents-push terms calls (saves u t)))
    (distinct-after terms (saves u t) (documents terms calls) d)
distinct-push terms calls (shows u n t) e d =
    subst IsDistinct (sym (append-nil _) ∙ sym (documents-push terms calls (shows u n t)))
    (distinct-after terms (shows u n t) (documents terms calls) d)

distinct-from : (terms : Terms) (before after : List Call) → AreAcceptedFrom terms before after
    → IsDistinct (documents terms before) → IsDistinct (documents terms (before ++ after))
distinct-from terms before [] h d =
    subst (λ l. IsDistinct (documents terms l)) (sym (append-nil before)) d
distinct-from terms before (c ∷ after) h d =
    subst (λ l. IsDistinct (documents terms l)) (append_assoc before (c ∷ []) after)
    (distinct-from terms (before ++ c ∷ []) after h.1 (distinct-push terms before c h.0 d))

pub documents-distinct : (terms : Terms) (calls : List Call) → AreAccepted terms calls
    → IsDistinct (documents terms calls)
documents-distinct terms calls h = distinct-from terms [] calls h tt

-- a document at a place is the one that is held of its URI
held_at : (hs : List Held) (i : ℕ) (h : Held) → IsDistinct hs → slice_get hs i ≡ Some h
    → held_in h.uri hs ≡ Some h.version
held_at [] i h d e = absurd (none-some h e)
held_at (g ∷ hs) zero h d e =
    let same = same_Some g h e in
    subst (λ x. held_in x.uri (g ∷ hs) ≡ Some x.version) same (rw (uri_same g.uri) refl)
held_at (g ∷ hs) (suc i) h d e =
    let rest = held_at hs i h d.1 e in
    elim (cases_Bool (bytes_eq h.uri g.uri)) [
      | inl p ↦ absurd (none-some h.version (sym
          (ap (λ x. held_in x hs) (uri_is h.uri g.uri p) ∙ d.0) ∙ rest))
      | inr p ↦ rw p rest
    ]

pub documents-held : (terms : Terms) (calls : List Call) (i : ℕ) (h : Held)
    → AreAccepted terms calls → slice_get (documents terms calls) i ≡ Some h
    → held terms h.uri calls ≡ Some h.version
documents-held terms calls i h accepted e =
    held-documents terms h.uri calls
    ∙ held_at (documents terms calls) i h (documents-distinct terms calls accepted) e

-- the URI of the first document stands at no later place
not_again : (k : Held) (hs : List Held) (j : ℕ) (g h : Held) → IsDistinct (k ∷ hs) → Some k ≡ Some g
    → slice_get hs j ≡ Some h → g.uri ≡ h.uri → ⊥
not_again k hs j g h d e f same =
    let first : k.uri ≡ h.uri = ap (λ x. x.uri) (same_Some k g e) ∙ same in
    none-some h.version (sym (subst (λ x. held_in x hs ≡ None) first d.0) ∙ held_at hs j h d.1 f)

-- a URI stands at one place
once_at : (hs : List Held) (i j : ℕ) (g h : Held) → IsDistinct hs → slice_get hs i ≡ Some g
    → slice_get hs j ≡ Some h → g.uri ≡ h.uri → i ≡ j
once_at [] i j g h d e f same = absurd (none-some g e)
once_at (k ∷ hs) zero zero g h d e f same = refl
once_at (k ∷ hs) zero (suc j) g h d e f same = absurd (not_again k hs j g h d e f same)
once_at (k ∷ hs) (suc i) zero g h d e f same = absurd (not_again k hs i h g d f e (sym same))
once_at (k ∷ hs) (suc i) (suc j) g h d e f same = ap suc (once_at hs i j g h d.1 e f same)

pub documents-once : (terms : Terms) (calls : List Call) (i j : ℕ) (g h : Held)
    → AreAccepted terms calls → slice_get (documents terms calls) i ≡ Some g
    → slice_get (documents terms calls) j ≡ Some h → g.uri ≡ h.uri → i ≡ j
documents-once terms calls i j g h accepted e f same =
    once_at (documents terms calls) i j g h (documents-distinct terms calls accepted) e f same

-- ---- snapshots

module _ (terms : Terms) (w : Waits) (calls : List Call) (c : Call) (h : AreWaits terms w calls)
    (e : call_rule terms calls c ≡ None) where
  -- a call that judges the snapshots of one URI
  module _ (u : Bytes) (q r : Version → Bool) (ns : List Queue)
      (own : queue_of u ns ≡ filter q (queue_of u w.queues))
      (rest : (x : Bytes) → bytes_eq x u ≡ false → queue_of x ns ≡ queue_of x w.queues)
      (sums : total ns + length (queue_of u w.queues)
      ≡ total w.queues + length (filter q (queue_of u w.queues)))
      (nothing : shown_entry terms (calls ++ c ∷ []) c [] ≡ [])
      (stay : (s : Shown) → bytes_eq u s.uri ≡ true → still c s ≡ q s.version)
      (others : (s : Shown) → bytes_eq u s.uri ≡ false → still c s ≡ true)
      (go : (s : Shown) → bytes_eq u s.uri ≡ true → ends_waiting c s ≡ r s.version)
      (none : (s : Shown) → bytes_eq u s.uri ≡ false → ends_waiting c s ≡ false)
      (silent : missed_at terms calls c ≡ 0) where
    left : waiting terms (calls ++ c ∷ []) ≡ filter (still c) (waiting terms calls)
    left = waiting-push terms calls c e ∙ (ap (λ l. filter (still c) (waiting terms calls) ++ l)
        nothing ∙ append-nil (filter (still c) (waiting terms calls)))

    apart : (x : Bytes) → bytes_eq x u ≡ false → (s : Shown) → bytes_eq x s.uri ≡ true
        → still c s ≡ true
    apart x p s k = others s (ap (bytes_eq u) (sym (uri_is x s.uri k)) ∙ (uri_flip u x ∙ p))

    count_now : total ns ≡ length (waiting terms (calls ++ c ∷ []))
    count_now =
        let mine = queue_of u w.queues in
        let theirs = versions_of u (waiting terms calls) in
        let all = order-length mine theirs (h.queues u) in
        let here = order-count q mine theirs (h.queues u) in
        let defined = count-kept u (still c) q stay others (waiting terms calls) in
        let same : total ns ≡ length (filter (still c) (waiting terms calls)) =
        omega (arith, sums, all, here, defined, h.count) in
        same ∙ ap length (sym left)

    missed_now : capped (w.missed + length (filter r (queue_of u w.queues)))
        ≡ capped (missed terms (calls ++ c ∷ []))
    missed_now =
        ap (λ m. capped (m + length (filter r (queue_of u w.queues)))) h.missed
        ∙ (capped-add (missed terms calls) (length (filter r (queue_of u w.queues)))
        ∙ ap capped (ap (λ k. missed terms calls + k)
        (order-count r (queue_of u w.queues) (versions_of u (waiting terms calls)) (h.queues u))
        ∙ (ap (λ m. missed terms calls + m)
        (sym (count-ended u (ends_waiting c) r go none (waiting terms calls)))
        ∙ sym (missed-quiet terms calls c silent))))

    queues_now : (x : Bytes) → SameOrder (queue_of x ns)
        (versions_of x (waiting terms (calls ++ c ∷ [])))
    queues_now x =
        elim (cases_Bool (bytes_eq x u)) [
          | inl p ↦
              let mine = order-of (queue_of x ns) (filter q (queue_of u w.queues))
              (ap (λ y. queue_of y ns) (uri_is x u p) ∙ own) in
              let judged = order-filtered q (queue_of u w.queues)
              (versions_of u (waiting terms calls)) (h.queues u) in
              let now = order-of (filter q (versions_of u (waiting terms calls)))
              (versions_of x (waiting terms (calls ++ c ∷ [])))
              (sym (versions-kept u (still c) q stay (waiting terms calls))
              ∙ (ap (versions_of u) (sym left)
              ∙ ap (λ y. versions_of y (waiting terms (calls ++ c ∷ [])))
              (sym (uri_is x u p)))) in
              λ t. mine t ∙ (judged t ∙ now t)
          | inr p ↦
              let same = order-of (queue_of x ns) (queue_of x w.queues) (rest x p) in
              let now = order-of (versions_of x (waiting terms calls))
              (versions_of x (waiting terms (calls ++ c ∷ [])))
              (sym (filter-all (versions_of x (waiting terms calls)))
              ∙ (sym (versions-kept x (still c) (λ _. true) (apart x p) (waiting terms calls))
              ∙ ap (versions_of x) (sym left))) in
              λ t. same t ∙ (h.queues x t ∙ now t)
        ]

    pub waits-judged : AreWaits terms (record {
      queues = ns;
      missed = capped (w.missed + length (filter r (queue_of u w.queues)));
    }) (calls ++ c ∷ [])
    waits-judged = record {
      queues = queues_now;
      count = count_now;
      missed = missed_now;
    }

  -- a call that leaves all that waits
  module _ (more : List Shown) (new : shown_entry terms (calls ++ c ∷ []) c [] ≡ more)
      (stay : (s : Shown) → still c s ≡ true) (none : (s : Shown) → ends_waiting c s ≡ false) where
    kept : (ws : List Shown) → filter (still c) ws ≡ ws
    kept [] = refl
    kept (s ∷ ws) = rw (stay s) (ap (λ l. s ∷ l) (kept ws))

    ended : (ws : List Shown) → filter (ends_waiting c) ws ≡ []
    ended [] = refl
    ended (s ∷ ws) = rw (none s) (ended ws)

    pub now : waiting terms (calls ++ c ∷ []) ≡ waiting terms calls ++ more
    now = waiting-push terms calls c e ∙ (ap (λ l. l ++ shown_entry terms (calls ++ c ∷ []) c [])
        (kept (waiting terms calls)) ∙ ap (λ l. waiting terms calls ++ l) new)

    pub missed_more : (k : ℕ) → missed_at terms calls c ≡ k
        → missed terms (calls ++ c ∷ []) ≡ missed terms calls + k
    missed_more k at =
        let pushed = missed-push terms calls c in
        let nothing : length (filter (ends_waiting c) (waiting terms calls)) ≡ 0 =
        ap length (ended (waiting terms calls)) in
        omega (arith, pushed, nothing, at)

    pub missed_same : missed_at terms calls c ≡ 0
        → missed terms (calls ++ c ∷ []) ≡ missed terms calls
    missed_same at = let more = missed_more 0 at in omega (arith, more)

judged_true : (b x : Bool) → b ≡ true → (not b || x) ≡ x
judged_true b x p = rw p refl

judged_false : (b x : Bool) → b ≡ false → (not b || x) ≡ true
judged_false b x p = rw p refl

pub waits-opened : (terms : Terms) (w : Waits) (calls : List Call) (u : Bytes) (n : ℤ) (t : Text)
    → AreWaits terms w calls → call_rule terms calls (opens u n t) ≡ None
    → AreWaits terms (reached u n w) (calls ++ opens u n t ∷ [])
waits-opened terms w calls u n t h e =
    waits-judged terms w calls (opens u n t) h e u (is_after n) (is_before n)
    (keep_in u (is_after n) w.queues) (queue-kept u (is_after n) w.queues)
    (λ x p. queue-others x u (is_after n) w.queues p) (total-kept u (is_after n) w.queues) refl
    (λ s p. judged_true (bytes_eq u s.uri) (int_lt n s.version.number) p)
    (λ s p. judged_false (bytes_eq u s.uri) (int_lt n s.version.number) p)
    (λ s p. and_first (bytes_eq u s.uri) (int_lt s.version.number n) p)
    (λ s p. and_left (bytes_eq u s.uri) (int_lt s.version.number n) p) refl

pub waits-changed : (terms : Terms) (w : Waits) (calls : List Call) (enc : Encoding) (k : SyncKind)
    (u : Bytes) (n : ℤ) (cs : List Edit) → AreWaits terms w calls
    → call_rule terms calls (changes enc k u n cs) ≡ None
    → AreWaits terms (reached u n w) (calls ++ changes enc k u n cs ∷ [])
waits-changed terms w calls enc k u n cs h e =
    waits-judged terms w calls (changes enc k u n cs) h e u (is_after n) (is_before n)
    (keep_in u (is_after n) w.queues) (queue-kept u (is_after n) w.queues)
    (λ x p. queue-others x u (is_after n) w.queues p) (total-kept u (is_after n) w.queues) refl
    (λ s p. judged_true (bytes_eq u s.uri) (int_lt n s.version.number) p)
    (λ s p. judged_false (bytes_eq u s.uri) (int_lt n s.version.number) p)
    (λ s p. and_first (bytes_eq u s.uri) (int_lt s.version.number n) p)
    (λ s p. and_left (bytes_eq u s.uri) (int_lt s.version.number n) p) refl

pub waits-closed : (terms : Terms) (w : Waits) (calls : List Call) (u : Bytes) (new : Waits)
    → AreWaits terms w calls → call_rule terms calls (closes u) ≡ None
    → IsReleased u w.queues new.queues
    → new.missed ≡ capped (w.missed + length (queue_of u w.queues))
    → AreWaits terms new (calls ++ closes u ∷ [])
waits-closed terms w calls u new h e left counted =
    let mine = queue_of u w.queues in
    let none : length (filter (λ (v : Version). false) mine) ≡ 0 = ap length (filter-none mine) in
    let sums : total new.queues + length mine
    ≡ total w.queues + length (filter (λ (v : Version). false) mine) =
    omega (arith, left.count, none) in
    let judged = waits-judged terms w calls (closes u) h e u (λ _. false) (λ _. true) new.queues
    (left.own ∙ sym (filter-none mine)) left.others sums refl
    (λ s p. rw p refl) (λ s p. rw p refl) (λ s p. p) (λ s p. p) refl in
    record {
      queues = judged.queues;
      count = judged.count;
      missed = counted ∙ (ap (λ l. capped (w.missed + length l)) (sym (filter-all mine))
          ∙ judged.missed);
    }

pub waits-kept : (terms : Terms) (w : Waits) (calls : List Call) (c : Call) → AreWaits terms w calls
    → call_rule terms calls c ≡ None
    → shown_entry terms (calls ++ c ∷ []) c [] ≡ [] → missed_at terms calls c ≡ 0
    → ((s : Shown) → still c s ≡ true) → ((s : Shown) → ends_waiting c s ≡ false)
    → AreWaits terms w (calls ++ c ∷ [])
waits-kept terms w calls c h e nothing silent stay none =
    let same = now terms w calls c h e [] nothing stay none ∙ append-nil (waiting terms calls) in
    record {
      queues = λ x. order-then (queue_of x w.queues) (versions_of x (waiting terms calls)) _
          (h.queues x) (order-of _ _ (ap (versions_of x) (sym same)));
      count = h.count ∙ ap length (sym same);
      missed = h.missed ∙ ap capped (sym (missed_same terms w calls c h e [] nothing stay none
          silent));
    }

versions-one : (x u : Bytes) (v : Version) → bytes_eq x u ≡ false
    → versions_of x (record { uri = u; version = v } ∷ []) ≡ []
versions-one x u v p = rw p refl

versions-own : (u : Bytes) (v : Version)
    → versions_of u (record { uri = u; version = v } ∷ []) ≡ v ∷ []
versions-own u v = rw (uri_same u) refl

pub waits-shown : (terms : Terms) (w : Waits) (calls : List Call) (u : Bytes) (n : ℤ) (t : Text)
    (new : Waits) → AreWaits terms w calls → call_rule terms calls (shows u n t) ≡ None
    → shown_entry terms (calls ++ shows u n t ∷ []) (shows u n t) [] ≡ record {
      uri = u;
      version = versioned n t;
    } ∷ [] → missed_at terms calls (shows u n t) ≡ 0
    → IsAdded u (versioned n t) w.queues new.queues → new.missed ≡ w.missed
    → AreWaits terms new (calls ++ shows u n t ∷ [])
waits-shown terms w calls u n t new h e shown silent added counted =
    let v = versioned n t in
    let one : List Shown = record { uri = u; version = v } ∷ [] in
    let all = waiting terms calls in
    let same = now terms w calls (shows u n t) h e one shown (λ s. refl) (λ s. refl) in
    let own : (x : Bytes) → bytes_eq x u ≡ true
    → SameOrder (queue_of x new.queues)
    (versions_of x (waiting terms (calls ++ shows u n t ∷ []))) = λ x p q.
    ap (λ y. filter (is_at q) (queue_of y new.queues)) (uri_is x u p)
    ∙ (sym (added.own q) ∙ (order-behind (queue_of u w.queues) (versions_of u all) (v ∷ [])
    (h.queues u) q
    ∙ ap (filter (is_at q)) (ap (λ l. versions_of u all ++ l) (sym (versions-own u v))
    ∙ (sym (versions_of-append u all one)
    ∙ (ap (versions_of u) (sym same)
    ∙ ap (λ y. versions_of y (waiting terms (calls ++ shows u n t ∷ [])))
    (sym (uri_is x u p))))))) in
    let other : (x : Bytes) → bytes_eq x u ≡ false
    → SameOrder (queue_of x new.queues)
    (versions_of x (waiting terms (calls ++ shows u n t ∷ []))) = λ x p q.
    ap (filter (is_at q)) (added.others x p)
    ∙ (h.queues x q ∙ ap (filter (is_at q)) (sym (append-nil (versions_of x all))
    ∙ (ap (λ l. versions_of x all ++ l) (sym (versions-one x u v p))
    ∙ (sym (versions_of-append x all one) ∙ ap (versions_of x) (sym same))))) in
    record {
      queues = λ x. elim (cases_Bool (bytes_eq x u)) [ inl p ↦ own x p | inr p ↦ other x p ];
      count = added.count ∙ (ap (λ m. m + 1) h.count
          ∙ (sym (length-append all one) ∙ ap length (sym same)));
      missed = counted ∙ (h.missed ∙ ap capped
          (sym (missed_same terms w calls (shows u n t) h e one shown (λ s. refl) (λ s. refl)
          silent)));
    }

-- a snapshot whose version was passed over
pub waits-missed : (terms : Terms) (w : Waits) (calls : List Call) (u : Bytes) (n : ℤ) (t : Text)
    → AreWaits terms w calls → call_rule terms calls (shows u n t) ≡ None
    → shown_entry terms (calls ++ shows u n t ∷ []) (shows u n t) [] ≡ []
    → missed_at terms calls (shows u n t) ≡ 1
    → AreWaits terms (missed_one w) (calls ++ shows u n t ∷ [])
waits-missed terms w calls u n t h e nothing at =
    let same = now terms w calls (shows u n t) h e [] nothing (λ s. refl) (λ s. refl)
    ∙ append-nil (waiting terms calls) in
    record {
      queues = λ x. order-then (queue_of x w.queues) (versions_of x (waiting terms calls)) _
          (h.queues x) (order-of _ _ (ap (versions_of x) (sym same)));
      count = h.count ∙ ap length (sym same);
      missed = ap (λ m. capped (m + 1)) h.missed
          ∙ (capped-add (missed terms calls) 1
          ∙ ap capped (sym (missed_more terms w calls (shows u n t) h e [] nothing (λ s. refl)
          (λ s. refl) 1 at)));
    }
