-- What one more call does to the snapshots that wait.
use Rattle.std.proofs.Common.{◌≡◌, ℕ, ◌+◌, Bool, true, false, ◌||◌, ◌&&◌, List, [], ◌∷◌, ◌++◌, map}
use Rattle.std.proofs.Common.{filter, length, refl, sym, ap, ◌∙◌, Option, Some, None, inl, inr}
use Rattle.std.proofs.Common.{append_assoc, append-nil, Result, Ok, Err, arith}
use Rattle.std.specs.Prelude.{if◌then◌else◌, option_map, ℤ, not, is_some, int_lt}
use Rattle.std.specs.Str.{bytes_eq}
use Rattle.std.specs.Option.{option_or}
use Rattle.std.specs.List.{list_any}
use Rattle.std.proofs.lemmas.Option.{none-some}
use Rattle.std.proofs.lemmas.List.Folds.{list_any-append}
use Rattle.std.proofs.lemmas.Bool.{cases_Bool, not-false}
use Rattle.std.proofs.lemmas.List.Elements.{filter-append}
use Rattle.std.proofs.lemmas.List.{map-append}
use Rattle.std.proofs.Math.Bool.{and-true, and-false, or-false}
use Rattle.lsp_types.specs.declared.position.Encoding.{Encoding}
use Rattle.lsp_types.specs.declared.change.SyncKind.{SyncKind}
use Rattle.lsp_docs.specs.Calls.{Text, Bytes, Call, opens, changes, closes, saves, shows, is_close}
use Rattle.lsp_docs.specs.Documents.{Terms, Version, versioned, revised, held}
use Rattle.lsp_text.specs.Edits.{Edit, applied}
use Rattle.lsp_docs.specs.Snapshots.{Shown, is_ahead, waits, shown_entry, waiting_in, waiting}
use Rattle.lsp_docs.specs.Snapshots.{is_of, versions_of, ends_waiting, missed_at, missed_from}
use Rattle.lsp_docs.specs.Snapshots.{missed}
use Rattle.lsp_docs.specs.Rules.{fits_kind, version_rule, text_rule, change_rule, call_rule}
use Rattle.lsp_docs.proofs.Words.{no_some, uri_is, uri_flip, lt_trans}
use Rattle.lsp_docs.proofs.HeldSteps.{next_held, held-snoc}

-- a snapshot of the URI and version waits on after the call
abbrev pub still_at : Call → Bytes → ℤ → Bool
still_at (opens u m t) uri n = not (bytes_eq u uri) || int_lt m n
still_at (changes enc k u m cs) uri n = not (bytes_eq u uri) || int_lt m n
still_at (closes u) uri n = not (bytes_eq u uri)
still_at _ uri n = true

abbrev pub still : Call → Shown → Bool
still c s = still_at c s.uri s.version.number

-- ---- what a rule that does not apply says

pub none_row : {A : Type 0} (b : Bool) (x : A) (rest : Option A)
    → (if b then Some x else rest) ≡ None → (b ≡ false) × (rest ≡ None)
none_row true x rest h = absurd (none-some x (sym h))
none_row false x rest h = (refl, h)

-- what an accepted change says
pub record Changes (terms : Terms) (ws : List Version) (enc : Encoding) (m : ℤ) (cs : List Edit)
    (h : Option Version) : Type 0 where
  pub old : Version
  pub text : Text
  pub is : h ≡ Some old
  pub rises : int_lt old.number m ≡ true
  pub made : applied terms.limit enc old.text cs ≡ Ok text
  pub agrees : version_rule terms.line_ends ws (versioned m text) ≡ None

text_made : (terms : Terms) (ws : List Version) (m : ℤ) (r : Result Text ℕ)
    → text_rule terms.line_ends ws m r ≡ None
    → (t : Text) × (r ≡ Ok t) × (version_rule terms.line_ends ws (versioned m t) ≡ None)
text_made terms ws m (Ok t) h = (t, refl, h)
text_made terms ws m (Err rule) h = absurd (none-some rule (sym h))

pub change_parts : (terms : Terms) (ws : List Version) (enc : Encoding) (k : SyncKind) (m : ℤ)
    (cs : List Edit) (h : Option Version)
    → change_rule terms ws enc k m cs h ≡ None → Changes terms ws enc m cs h
change_parts terms ws enc k m cs None e = absurd (let n : ℕ = 602 in none-some n (sym e))
change_parts terms ws enc k m cs (Some v) e =
    let first = none_row (not (int_lt v.number m)) 603 _ e in
    let second = none_row (not (fits_kind k cs)) 604 _ first.1 in
    let made = text_made terms ws m (applied terms.limit enc v.text cs) second.1 in
    record {
      old = v;
      text = made.0;
      is = refl;
      rises = not-false (int_lt v.number m) first.0;
      made = made.1;
      agrees = made.2;
    }

-- ---- one more call, for one snapshot

shuffle : (a x b cl st : Bool) → (x && not cl) ≡ (a && st)
    → (x && not (b || (cl || false))) ≡ ((a && not b) && st)
shuffle a x true cl st e = and-false x ∙ sym (ap (λ y. y && st) (and-false a))
shuffle a x false cl st e =
    ap (λ y. x && not y) (or-false cl) ∙ (e ∙ sym (ap (λ y. y && st) (and-true a)))

lesser : (a m n : ℤ) → int_lt a m ≡ true → int_lt m n ≡ (int_lt a n && int_lt m n)
lesser a m n h =
    elim (cases_Bool (int_lt m n)) [
      | inl p ↦ rw (p, lt_trans a m n h p) refl
      | inr p ↦ rw (p, and-false (int_lt a n)) refl
    ]

module _ (terms : Terms) (uri : Bytes) (n : ℤ) where
  same_ahead : (c : Call) → ((v : Version) → revised terms uri v c ≡ v) → (o : Option Version)
      → is_ahead n (option_or (option_map (λ v. revised terms uri v c) o) None) ≡ is_ahead n o
  same_ahead c same None = refl
  same_ahead c same (Some v) = ap (λ w. int_lt w.number n) (same v)

  pub ahead-step : (calls : List Call) (c : Call) → call_rule terms calls c ≡ None
      → (is_ahead n (next_held terms uri (held terms uri calls) c) && not (is_close uri c))
      ≡ (is_ahead n (held terms uri calls) && still_at c uri n)
  ahead-step calls (opens u m t) e =
      let none = no_some (held terms u calls) (none_row (is_some (held terms u calls)) 601 _ e).0 in
      elim (cases_Bool (bytes_eq uri u)) [
        | inl p ↦ rw (ap (λ x. held terms x calls) (uri_is uri u p) ∙ none, uri_flip u uri, p)
            (and-true (int_lt m n))
        | inr p ↦ rw (uri_flip u uri, p)
            (ap (λ b. b && true) (same_ahead (opens u m t) (λ v. refl) (held terms uri calls)))
      ]
  ahead-step calls (changes enc k u m cs) e =
      let parts = change_parts terms _ enc k m cs (held terms u calls) e in
      elim (cases_Bool (bytes_eq uri u)) [
        | inl p ↦ rw (ap (λ x. held terms x calls) (uri_is uri u p) ∙ parts.is, uri_flip u uri, p)
            (and-true (int_lt m n) ∙ lesser parts.old.number m n parts.rises)
        | inr p ↦ ap (λ b. b && true)
            (same_ahead (changes enc k u m cs) (λ v. rw p refl) (held terms uri calls))
            ∙ sym (ap (λ b. is_ahead n (held terms uri calls) && (not b || int_lt m n))
            (uri_flip u uri ∙ p))
      ]
  ahead-step calls (closes u) e =
      elim (cases_Bool (bytes_eq uri u)) [
        | inl p ↦ rw (uri_flip u uri, p) (sym (and-false (is_ahead n (held terms uri calls))))
        | inr p ↦ rw (uri_flip u uri, p)
            (ap (λ b. b && true) (same_ahead (closes u) (λ v. refl) (held terms uri calls)))
      ]
  ahead-step calls (saves u t) e =
      ap (λ b. b && true) (same_ahead (saves u t) (λ v. refl) (held terms uri calls))
  ahead-step calls (shows u m t) e =
      ap (λ b. b && true) (same_ahead (shows u m t) (λ v. refl) (held terms uri calls))

  pub waits-push : (calls after : List Call) (c : Call) → call_rule terms calls c ≡ None
      → waits terms (calls ++ c ∷ []) uri n (after ++ c ∷ [])
      ≡ (waits terms calls uri n after && still_at c uri n)
  waits-push calls after c e =
      rw (held-snoc terms uri calls c, list_any-append (is_close uri) after (c ∷ []))
      (shuffle (is_ahead n (held terms uri calls))
      (is_ahead n (next_held terms uri (held terms uri calls) c))
      (list_any (is_close uri) after) (is_close uri c) (still_at c uri n)
      (ahead-step calls c e))

-- ---- all snapshots

entry_is : (a : Bool) (x : Shown) (p : Shown → Bool)
    → (if a && p x then x ∷ [] else []) ≡ filter p (if a then x ∷ [] else [])
entry_is false x p = refl
entry_is true x p = elim (cases_Bool (p x)) [ inl h ↦ rw h refl | inr h ↦ rw h refl ]

shown_entry-push : (terms : Terms) (calls after : List Call) (c d : Call)
    → call_rule terms calls c ≡ None
    → shown_entry terms (calls ++ c ∷ []) d (after ++ c ∷ [])
    ≡ filter (still c) (shown_entry terms calls d after)
shown_entry-push terms calls after c (shows u n t) e =
    let x : Shown = record { uri = u; version = versioned n t } in
    ap (λ b. if b then x ∷ [] else []) (waits-push terms u n calls after c e)
    ∙ entry_is (waits terms calls u n after) x (still c)
shown_entry-push terms calls after c _ e = refl

waiting_in-push : (terms : Terms) (calls after : List Call) (c : Call)
    → call_rule terms calls c ≡ None
    → waiting_in terms (calls ++ c ∷ []) (after ++ c ∷ [])
    ≡ filter (still c) (waiting_in terms calls after) ++ shown_entry terms (calls ++ c ∷ []) c []
waiting_in-push terms calls [] c e = append-nil (shown_entry terms (calls ++ c ∷ []) c [])
waiting_in-push terms calls (d ∷ after) c e =
    rw (
      shown_entry-push terms calls after c d e,
      waiting_in-push terms calls after c e,
      filter-append (still c) (shown_entry terms calls d after) (waiting_in terms calls after),
    )
    (sym (append_assoc (filter (still c) (shown_entry terms calls d after)) _ _))

-- **One more call** ends the waiting of some snapshots, and one may come
pub waiting-push : (terms : Terms) (calls : List Call) (c : Call) → call_rule terms calls c ≡ None
    → waiting terms (calls ++ c ∷ [])
    ≡ filter (still c) (waiting terms calls) ++ shown_entry terms (calls ++ c ∷ []) c []
waiting-push terms calls c e = waiting_in-push terms calls calls c e

missed_from-push : (terms : Terms) (before after : List Call) (c : Call)
    → missed_from terms before (after ++ c ∷ [])
    ≡ missed_from terms before
    after + (missed_at terms (before ++ after) c + length
    (filter (ends_waiting c) (waiting terms (before ++ after))))
missed_from-push terms before [] c = rw (append-nil before) (omega arith)
missed_from-push terms before (d ∷ after) c =
    rw (missed_from-push terms (before ++ d ∷ []) after c, append_assoc before (d ∷ []) after)
    (omega arith)

pub missed-push : (terms : Terms) (calls : List Call) (c : Call)
    → missed terms (calls ++ c ∷ [])
    ≡ missed terms calls + (missed_at terms calls c + length
    (filter (ends_waiting c) (waiting terms calls)))
missed-push terms calls c = missed_from-push terms [] calls c

-- a call that is no missed snapshot
pub missed-quiet : (terms : Terms) (calls : List Call) (c : Call) → missed_at terms calls c ≡ 0
    → missed terms (calls ++ c ∷ [])
    ≡ missed terms calls + length (filter (ends_waiting c) (waiting terms calls))
missed-quiet terms calls c e = let pushed = missed-push terms calls c in omega (arith, pushed, e)

-- ---- those of one URI

module _ (uri : Bytes) (p : Shown → Bool) (q : Version → Bool)
    (same : (s : Shown) → bytes_eq uri s.uri ≡ true → p s ≡ q s.version) where
  pub versions-kept : (ws : List Shown)
      → versions_of uri (filter p ws) ≡ filter q (versions_of uri ws)
  versions-kept [] = refl
  versions-kept (s ∷ ws) =
      elim (cases_Bool (bytes_eq uri s.uri)) [
        | inl h ↦ elim (cases_Bool (q s.version)) [
          | inl k ↦ rw (same s h, k, h, k) (ap (λ l. s.version ∷ l) (versions-kept ws))
          | inr k ↦ rw (same s h, k, h, k) (versions-kept ws)
        ]
        | inr h ↦ elim (cases_Bool (p s)) [
          | inl k ↦ rw (k, h) (versions-kept ws)
          | inr k ↦ rw (k, h) (versions-kept ws)
        ]
      ]

  pub count-kept : ((s : Shown) → bytes_eq uri s.uri ≡ false → p s ≡ true) → (ws : List Shown)
      → length (filter p ws) + length (versions_of uri ws)
      ≡ length ws + length (filter q (versions_of uri ws))
  count-kept others [] = refl
  count-kept others (s ∷ ws) =
      let rest = count-kept others ws in
      elim (cases_Bool (bytes_eq uri s.uri)) [
        | inl h ↦ elim (cases_Bool (q s.version)) [
          | inl k ↦ rw (same s h, k, h, k) (omega (arith, rest))
          | inr k ↦ rw (same s h, k, h, k) (omega (arith, rest))
        ]
        | inr h ↦ rw (others s h, h) (omega (arith, rest))
      ]

  pub count-ended : ((s : Shown) → bytes_eq uri s.uri ≡ false → p s ≡ false) → (ws : List Shown)
      → length (filter p ws) ≡ length (filter q (versions_of uri ws))
  count-ended others [] = refl
  count-ended others (s ∷ ws) =
      let rest = count-ended others ws in
      elim (cases_Bool (bytes_eq uri s.uri)) [
        | inl h ↦ elim (cases_Bool (q s.version)) [
          | inl k ↦ rw (same s h, k, h, k) (omega (arith, rest))
          | inr k ↦ rw (same s h, k, h, k) rest
        ]
        | inr h ↦ rw (others s h, h) rest
      ]

pub versions_of-append : (uri : Bytes) (xs ys : List Shown)
    → versions_of uri (xs ++ ys) ≡ versions_of uri xs ++ versions_of uri ys
versions_of-append uri xs ys =
    ap (map (λ s. s.version)) (filter-append (is_of uri) xs ys)
    ∙ map-append (λ s. s.version) (filter (is_of uri) xs) (filter (is_of uri) ys)
