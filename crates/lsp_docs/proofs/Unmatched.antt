-- The snapshots that were never compared: those that wait, and those that were missed.
use Rattle.std.proofs.Common.{◌≡◌, ◌+◌, Bool, true, false, ◌&&◌, ◌||◌, ◌⊎◌, List, [], ◌∷◌, ◌++◌}
use Rattle.std.proofs.Common.{filter, length, length-append, refl, sym, ap, ◌∙◌, subst, None, inl}
use Rattle.std.proofs.Common.{inr, append_assoc, append-nil, true≢false, arith}
use Rattle.std.specs.Prelude.{ℤ, int_lt, not, is_some, if◌then◌else◌}
use Rattle.std.specs.List.{list_any}
use Rattle.std.specs.Ordering.{int_eq}
use Rattle.std.specs.Str.{bytes_eq}
use Rattle.std.proofs.lemmas.Bool.{or_parts, cases_Bool, and_parts, or_cases}
use Rattle.std.proofs.lemmas.Int.{ints}
use Rattle.std.proofs.lemmas.List.Elements.{filter-append}
use Rattle.std.proofs.Math.Bool.{and-false, or-false}
use Rattle.lsp_docs.specs.Calls.{Text, Bytes, Call, opens, changes, closes, saves, shows, is_close}
use Rattle.lsp_docs.specs.Documents.{Terms, versioned, held}
use Rattle.lsp_docs.specs.Snapshots.{kept, Shown, is_ahead, shown_entry, waiting_in, waiting}
use Rattle.lsp_docs.specs.Snapshots.{has_number, sets, comes_to, is_compared, unmatched_entry}
use Rattle.lsp_docs.specs.Snapshots.{unmatched_in, unmatched, ends_waiting, missed_at, missed}
use Rattle.lsp_docs.specs.Rules.{call_rule, AreAcceptedFrom, AreAccepted}
use Rattle.lsp_docs.proofs.Words.{no_some, int_is, uri_is, uri_flip, equal_behind}
use Rattle.lsp_docs.proofs.HeldSteps.{next_held, held-snoc}
use Rattle.lsp_docs.proofs.WaitingSteps.{still, still_at, ahead-step, none_row, change_parts}
use Rattle.lsp_docs.proofs.WaitingSteps.{waiting-push, missed-push}
use Rattle.lsp_docs.proofs.Standing.{accepted-push}
use Rattle.lsp_docs.proofs.Past.{reached-number}
use Rattle.lsp_docs.proofs.Stepping.{held-shown}

-- the call brings the snapshot's URI to its version
abbrev meets : Call → Shown → Bool
meets c s = sets s.uri s.version.number c

-- ---- one more call, for `comes_to`

later-one : (s c x l y : Bool)
    → (s || (not c && (x || (not l && y)))) ≡ ((s || (not c && x)) || (not (c || l) && y))
later-one true c x l y = refl
later-one false true x l y = refl
later-one false false x l y = refl

comes_to-snoc : (uri : Bytes) (n : ℤ) (after : List Call) (c : Call)
    → comes_to uri n (after ++ c ∷ [])
    ≡ (comes_to uri n after || (not (list_any (is_close uri) after) && sets uri n c))
comes_to-snoc uri n [] c =
    ap (λ b. sets uri n c || b) (and-false (not (is_close uri c))) ∙ or-false (sets uri n c)
comes_to-snoc uri n (d ∷ after) c =
    ap (λ b. sets uri n d || (not (is_close uri d) && b)) (comes_to-snoc uri n after c)
    ∙ later-one (sets uri n d) (is_close uri d) (comes_to uri n after)
    (list_any (is_close uri) after) (sets uri n c)

-- ---- a version that was come to is held or passed, until a close

ends_still : (uri u : Bytes) (m n : ℤ) → (bytes_eq uri u && int_eq m n) ≡ true
    → (not (bytes_eq u uri) || int_lt m n) ≡ false
ends_still uri u m n h =
    let parts = and_parts (bytes_eq uri u) (int_eq m n) h in
    rw (uri_flip u uri ∙ parts.0, equal_behind m n parts.1) refl

set_ends : (uri : Bytes) (n : ℤ) (c : Call) → sets uri n c ≡ true → still_at c uri n ≡ false
set_ends uri n (opens u m t) h = ends_still uri u m n h
set_ends uri n (changes enc k u m cs) h = ends_still uri u m n h
set_ends uri n _ h = absurd (true≢false (sym h))

pub set_opens : (uri : Bytes) (n : ℤ) (c : Call) → sets uri n c ≡ true → is_close uri c ≡ false
set_opens uri n (closes u) h = absurd (true≢false (sym h))
set_opens uri n _ h = refl

first_of_both : (x cl : Bool) → cl ≡ false → (x && not cl) ≡ false → x ≡ false
first_of_both true cl p h = absurd (true≢false (sym (ap (λ b. true && not b) p) ∙ h))
first_of_both false cl p h = refl

module _ (terms : Terms) (uri : Bytes) (n : ℤ) where
  -- the version is held or passed
  abbrev IsReached : List Call → Type 0
  IsReached calls = is_ahead n (held terms uri calls) ≡ false

  reached-kept : (calls : List Call) (c : Call) → call_rule terms calls c ≡ None
      → is_close uri c ≡ false → IsReached calls → IsReached (calls ++ c ∷ [])
  reached-kept calls c e open_still h =
      ap (is_ahead n) (held-snoc terms uri calls c)
      ∙ first_of_both (is_ahead n (next_held terms uri (held terms uri calls) c)) (is_close uri c)
      open_still
      (ahead-step terms uri n calls c e ∙ ap (λ b. b && still_at c uri n) h)

  reached-set : (calls : List Call) (c : Call) → call_rule terms calls c ≡ None
      → sets uri n c ≡ true → IsReached (calls ++ c ∷ [])
  reached-set calls c e h =
      ap (is_ahead n) (held-snoc terms uri calls c)
      ∙ first_of_both (is_ahead n (next_held terms uri (held terms uri calls) c)) (is_close uri c)
      (set_opens uri n c h)
      (ahead-step terms uri n calls c e
      ∙ (ap (λ b. is_ahead n (held terms uri calls) && b) (set_ends uri n c h)
      ∙ and-false (is_ahead n (held terms uri calls))))

  reached-on : (calls more : List Call) → AreAcceptedFrom terms calls more
      → list_any (is_close uri) more ≡ false → IsReached calls → IsReached (calls ++ more)
  reached-on calls [] h open_still r = subst IsReached (sym (append-nil calls)) r
  reached-on calls (c ∷ more) h open_still r =
      let closing = or_parts (is_close uri c) (list_any (is_close uri) more) open_still in
      subst IsReached (append_assoc calls (c ∷ []) more)
      (reached-on (calls ++ c ∷ []) more h.1 closing.1 (reached-kept calls c h.0 closing.0 r))

  come : (s cl x : Bool) → (s || (not cl && x)) ≡ true → cl ≡ false → (s ≡ true) ⊎ (x ≡ true)
  come true cl x h p = inl refl
  come false cl x h p = inr (sym (ap (λ b. not b && x) p) ∙ h)

  reached-come : (calls more : List Call) → AreAcceptedFrom terms calls more
      → list_any (is_close uri) more ≡ false → comes_to uri n more ≡ true
      → IsReached (calls ++ more)
  reached-come calls [] h open_still r = absurd (true≢false (sym r))
  reached-come calls (c ∷ more) h open_still r =
      let closing = or_parts (is_close uri c) (list_any (is_close uri) more) open_still in
      subst IsReached (append_assoc calls (c ∷ []) more)
      (elim (come (sets uri n c) (is_close uri c) (comes_to uri n more) r closing.0) [
        | inl p ↦ reached-on (calls ++ c ∷ []) more h.1 closing.1 (reached-set calls c h.0 p)
        | inr p ↦ reached-come (calls ++ c ∷ []) more h.1 closing.1 p
      ])

  -- a snapshot that was compared waits no more
  compared-reached : (before after : List Call) (t : Text) → AreAccepted terms before
      → AreAcceptedFrom terms before (shows uri n t ∷ after) → list_any (is_close uri) after ≡ false
      → is_compared terms before uri n after ≡ true → IsReached (before ++ shows uri n t ∷ after)
  compared-reached before after t done h open_still is =
      let s = shows uri n t in
      subst IsReached (append_assoc before (s ∷ []) after)
      (elim (or_cases (has_number n (kept terms uri before) (held terms uri before))
      (comes_to uri n after) is) [
        | inl p ↦ reached-on (before ++ s ∷ []) after h.1 open_still
            (ap (is_ahead n) (held-shown terms before uri n t)
            ∙ reached-number terms uri before n done p)
        | inr p ↦ reached-come (before ++ s ∷ []) after h.1 open_still p
      ])

  -- and a call comes only to a version that was ahead
  sets-ahead : (calls : List Call) (c : Call) → call_rule terms calls c ≡ None → sets uri n c ≡ true
      → is_ahead n (held terms uri calls) ≡ true
  sets-ahead calls (opens u m t) e h =
      let parts = and_parts (bytes_eq uri u) (int_eq m n) h in
      let none = no_some (held terms u calls) (none_row (is_some (held terms u calls)) 601 _ e).0 in
      ap (λ x. is_ahead n (held terms x calls)) (uri_is uri u parts.0) ∙ ap (is_ahead n) none
  sets-ahead calls (changes enc k u m cs) e h =
      let both = and_parts (bytes_eq uri u) (int_eq m n) h in
      let parts = change_parts terms _ enc k m cs (held terms u calls) e in
      ap (λ x. is_ahead n (held terms x calls)) (uri_is uri u both.0)
      ∙ (ap (is_ahead n) parts.is
      ∙ (ap (int_lt parts.old.number) (sym (int_is m n both.1)) ∙ parts.rises))
  sets-ahead calls _ e h = absurd (true≢false (sym h))

-- ---- one more call, for one snapshot

entry_lem : (f x a cl y : Bool) (s : Shown) (p : Shown → Bool) → p s ≡ y → (y ≡ true → a ≡ true)
    → (cl ≡ false → (f || x) ≡ true → a ≡ false)
    → (if f || (x || (not cl && y)) then 0 else 1) + length
    (filter p (if a && not cl then s ∷ [] else [])) ≡ (if f || x then 0 else 1)
entry_lem true x true false y s p e up down = absurd (true≢false (down refl refl))
entry_lem false true true false y s p e up down = absurd (true≢false (down refl refl))
entry_lem false false true false true s p e up down = rw e refl
entry_lem false false true false false s p e up down = rw e refl
entry_lem false false false false true s p e up down = absurd (true≢false (sym (up refl)))
entry_lem _ _ _ _ _ s p e up down = refl

entry-push : (terms : Terms) (before after : List Call) (d c : Call) → AreAccepted terms before
    → AreAcceptedFrom terms before (d ∷ after) → call_rule terms (before ++ d ∷ after) c ≡ None
    → unmatched_entry terms before d (after ++ c ∷ []) + length
    (filter (meets c) (shown_entry terms (before ++ d ∷ after) d after))
    ≡ unmatched_entry terms before d after
entry-push terms before after (shows u n t) c done h e =
    let all = before ++ shows u n t ∷ after in
    let s : Shown = record { uri = u; version = versioned n t } in
    let held_now = has_number n (kept terms u before) (held terms u before) in
    ap (λ b. (if held_now || b then 0 else 1) + length
    (filter (meets c) (shown_entry terms all (shows u n t) after))) (comes_to-snoc u n after c)
    ∙ entry_lem held_now (comes_to u n after) (is_ahead n (held terms u all))
    (list_any (is_close u) after) (sets u n c) s (meets c) refl
    (λ y. sets-ahead terms u n all c e y)
    (λ open_still is. compared-reached terms u n before after t done h open_still is)
entry-push terms before after _ c done h e = refl

unmatched_in-push : (terms : Terms) (before after : List Call) (c : Call) → AreAccepted terms before
    → AreAcceptedFrom terms before after → call_rule terms (before ++ after) c ≡ None
    → unmatched_in terms before (after ++ c ∷ []) + length
    (filter (meets c) (waiting_in terms (before ++ after) after))
    ≡ unmatched_in terms before after + unmatched_entry terms (before ++ after) c []
unmatched_in-push terms before [] c done h e = rw (append-nil before) (omega arith)
unmatched_in-push terms before (d ∷ after) c done h e =
    let all = before ++ d ∷ after in
    let same : (before ++ d ∷ []) ++ after ≡ all = append_assoc before (d ∷ []) after in
    let rest = unmatched_in-push terms (before ++ d ∷ []) after c
    (accepted-push terms before d done h.0) h.1 (ap (λ l. call_rule terms l c) same ∙ e) in
    let rest_all = subst (λ l. unmatched_in terms (before ++ d ∷ []) (after ++ c ∷ []) + length
    (filter (meets c) (waiting_in terms l after))
    ≡ unmatched_in terms (before ++ d ∷ []) after + unmatched_entry terms l c []) same rest in
    let one = entry-push terms before after d c done h e in
    let one_list = shown_entry terms all d after in
    let rest_list = waiting_in terms all after in
    let split : length (filter (meets c) (one_list ++ rest_list))
    ≡ length (filter (meets c) one_list) + length (filter (meets c) rest_list) =
    ap length (filter-append (meets c) one_list rest_list)
    ∙ length-append (filter (meets c) one_list) (filter (meets c) rest_list) in
    omega (arith, rest_all, one, split)

-- ---- each snapshot that waits goes on, is missed or is compared

data Fate (s e m : Bool) : Type 0 where
  goes_on : s ≡ true → e ≡ false → m ≡ false → Fate s e m
  is_missed : s ≡ false → e ≡ true → m ≡ false → Fate s e m
  is_met : s ≡ false → e ≡ false → m ≡ true → Fate s e m

less_or : (m n : ℤ) → Fate (int_lt m n) (int_lt n m) (int_eq m n)
less_or m n =
    elim (cases_Bool (int_lt m n)) [
      | inl p ↦ goes_on p (let h = p in grind (arith, ints)) (let h = p in grind (arith, ints))
      | inr p ↦ elim (cases_Bool (int_lt n m)) [
        | inl q ↦ is_missed p q (let h = q in grind (arith, ints))
        | inr q ↦ is_met p q (let h = p in let k = q in grind (arith, ints))
      ]
    ]

fate_of : (u uri : Bytes) (m n : ℤ)
    → Fate (not (bytes_eq u uri) || int_lt m n) (bytes_eq u uri && int_lt n m)
    (bytes_eq uri u && int_eq m n)
fate_of u uri m n =
    elim (cases_Bool (bytes_eq u uri)) [
      | inl p ↦ rw (uri_flip uri u, p) (less_or m n)
      | inr p ↦ rw (uri_flip uri u, p) (goes_on refl refl refl)
    ]

fate : (c : Call) (s : Shown) → Fate (still c s) (ends_waiting c s) (meets c s)
fate (opens u m t) s = fate_of u s.uri m s.version.number
fate (changes enc k u m cs) s = fate_of u s.uri m s.version.number
fate (closes u) s = elim (cases_Bool (bytes_eq u s.uri))
    [ inl p ↦ rw p (is_missed refl refl refl) | inr p ↦ rw p (goes_on refl refl refl) ]
fate _ s = goes_on refl refl refl

thirds : (c : Call) (ws : List Shown)
    → length (filter (still c) ws) + length (filter (ends_waiting c) ws) + length
    (filter (meets c) ws) ≡ length ws
thirds c [] = refl
thirds c (s ∷ ws) =
    let rest = thirds c ws in
    elim (fate c s) [
      | goes_on p q r ↦ rw (p, q, r) (omega (arith, rest))
      | is_missed p q r ↦ rw (p, q, r) (omega (arith, rest))
      | is_met p q r ↦ rw (p, q, r) (omega (arith, rest))
    ]

-- ---- all calls

counted : (f a : Bool) (s : Shown) → (f ≡ true → a ≡ false)
    → length (if a && true then s ∷ [] else []) + (if not a && not f then 1 else 0)
    ≡ (if f || false then 0 else 1)
counted true true s h = absurd (true≢false (h refl))
counted false true s h = refl
counted _ _ s h = refl

new-entry : (terms : Terms) (calls : List Call) (c : Call) → AreAccepted terms calls
    → length (shown_entry terms (calls ++ c ∷ []) c []) + missed_at terms calls c
    ≡ unmatched_entry terms calls c []
new-entry terms calls (shows u n t) h =
    let s : Shown = record { uri = u; version = versioned n t } in
    let c = shows u n t in
    ap (λ o. length (if is_ahead n o && true then s ∷ [] else []) + missed_at terms calls c)
    (held-shown terms calls u n t)
    ∙ counted (has_number n (kept terms u calls) (held terms u calls))
    (is_ahead n (held terms u calls)) s (λ p. reached-number terms u calls n h p)
new-entry terms calls _ h = refl

split-push : (terms : Terms) (calls : List Call) (c : Call) → AreAccepted terms calls
    → call_rule terms calls c ≡ None
    → unmatched terms calls ≡ length (waiting terms calls) + missed terms calls
    → unmatched terms (calls ++ c ∷ [])
    ≡ length (waiting terms (calls ++ c ∷ [])) + missed terms (calls ++ c ∷ [])
split-push terms calls c h e so_far =
    let pushed = unmatched_in-push terms [] calls c tt h e in
    let waits_now : length (waiting terms (calls ++ c ∷ []))
    ≡ length (filter (still c) (waiting terms calls)) + length
    (shown_entry terms (calls ++ c ∷ []) c []) =
    ap length (waiting-push terms calls c e)
    ∙ length-append (filter (still c) (waiting terms calls))
    (shown_entry terms (calls ++ c ∷ []) c []) in
    let missed_now = missed-push terms calls c in
    let parts = thirds c (waiting terms calls) in
    let new = new-entry terms calls c h in
    omega (arith, pushed, waits_now, missed_now, parts, new, so_far)

split-from : (terms : Terms) (before after : List Call) → AreAccepted terms before
    → AreAcceptedFrom terms before after
    → unmatched terms before ≡ length (waiting terms before) + missed terms before
    → unmatched terms (before ++ after)
    ≡ length (waiting terms (before ++ after)) + missed terms (before ++ after)
split-from terms before [] done h so_far =
    subst (λ l. unmatched terms l ≡ length (waiting terms l) + missed terms l)
    (sym (append-nil before)) so_far
split-from terms before (c ∷ after) done h so_far =
    subst (λ l. unmatched terms l ≡ length (waiting terms l) + missed terms l)
    (append_assoc before (c ∷ []) after)
    (split-from terms (before ++ c ∷ []) after (accepted-push terms before c done h.0) h.1
    (split-push terms before c done h.0 so_far))

-- **The snapshots that were never compared are those that wait and those that were missed.**
pub unmatched-parts : (terms : Terms) (calls : List Call) → AreAccepted terms calls
    → unmatched terms calls ≡ length (waiting terms calls) + missed terms calls
unmatched-parts terms calls h = split-from terms [] calls tt h refl
