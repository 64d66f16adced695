-- The opening that stands after more calls, and the call that set the version that is held.
use Rattle.std.proofs.Common.{◌≡◌, ℕ, ◌+◌, Bool, true, false, ◌&&◌, ◌||◌, List, [], ◌∷◌, ◌++◌}
use Rattle.std.proofs.Common.{length, refl, sym, ap, ◌∙◌, subst, Option, Some, None, inl, inr}
use Rattle.std.proofs.Common.{append_assoc, append-nil, true≢false, arith, length-append}
use Rattle.std.specs.Prelude.{ℤ, not, is_some, if◌then◌else◌, option_map}
use Rattle.std.specs.List.{list_any}
use Rattle.std.specs.Option.{option_or}
use Rattle.std.specs.Ordering.{int_eq}
use Rattle.std.specs.Str.{bytes_eq}
use Rattle.std.proofs.lemmas.Bool.{or_parts, cases_Bool, and_parts}
use Rattle.std.proofs.lemmas.Cmp.{int_eq_equiv}
use Rattle.std.proofs.lemmas.List.Folds.{list_any-append}
use Rattle.std.proofs.lemmas.Option.{same_Some, none-some}
use Rattle.lsp_docs.specs.Calls.{Text, Bytes, Call, opens, changes, closes, saves, shows, is_close}
use Rattle.lsp_docs.specs.Documents.{Terms, Version, versioned, opening, text_or, held}
use Rattle.lsp_text.specs.Edits.{applied}
use Rattle.lsp_docs.specs.Snapshots.{kept, sets}
use Rattle.lsp_docs.specs.Rules.{call_rule, AreAcceptedFrom}
use Rattle.lsp_docs.specs.Laws.{standing, next_opening, binding, IsSet}
use Rattle.lsp_docs.proofs.Words.{no_some, int_is, unchanged, uri_is}
use Rattle.lsp_docs.proofs.HeldSteps.{next_held, held-snoc}
use Rattle.lsp_docs.proofs.WaitingSteps.{none_row, change_parts}
use Rattle.lsp_docs.proofs.Bindings.{mapped}

-- ---- the opening that stands after more calls

pub close_opens : (uri : Bytes) (c : Call) → is_close uri c ≡ true → is_some (opening uri c) ≡ false
close_opens uri (opens u n t) h = absurd (true≢false (sym h))
close_opens uri _ h = refl

map_or : (f : ℕ → ℕ) (s x : Option ℕ)
    → option_map f (option_or s x) ≡ option_or (option_map f s) (option_map f x)
map_or f None x = refl
map_or f (Some i) x = refl

abbrev some_if : Bool → ℕ → Option ℕ
some_if o n = if o then Some n else None

one : (o cl : Bool) → (cl ≡ true → o ≡ false)
    → some_if (o && not false) 0 ≡ (if cl then None else some_if o 0)
one true true h = absurd (true≢false (h refl))
one false true h = refl
one _ _ h = refl

more : (o l cl : Bool) (s x : Option ℕ)
    → (if o && not (l || (cl || false)) then Some 0 else option_map (λ i. i + 1)
    (if cl then None else option_or s x))
    ≡ (if cl then None else option_or (if o && not l then Some 0 else option_map (λ i. i + 1) s)
    (option_map (λ i. i + 1) x))
more true true false s x = map_or (λ i. i + 1) s x
more true false true s x = refl
more false true false s x = map_or (λ i. i + 1) s x
more false false false s x = map_or (λ i. i + 1) s x
more _ _ _ s x = refl

here_more : (b : Bool) (n m : ℕ) → n + 1 ≡ m
    → option_map (λ i. i + 1) (if b then Some n else None) ≡ (if b then Some m else None)
here_more true n m e = ap (λ k. let found : Option ℕ = Some k in found) e
here_more false n m e = refl

standing-snoc : (uri : Bytes) (calls : List Call) (c : Call)
    → standing uri (calls ++ c ∷ [])
    ≡ (if is_close uri c then None else option_or (standing uri calls)
    (if is_some (opening uri c) then Some (length calls) else None))
standing-snoc uri [] c = one (is_some (opening uri c)) (is_close uri c) (close_opens uri c)
standing-snoc uri (d ∷ calls) c =
    let o = is_some (opening uri d) in
    let l = list_any (is_close uri) calls in
    let cl = is_close uri c in
    let s = standing uri calls in
    let x : Option ℕ = if is_some (opening uri c) then Some (length calls) else None in
    let len : length calls + 1 ≡ length (d ∷ calls) = omega arith in
    ap (λ b. if o && not b then Some 0 else option_map (λ i. i + 1)
    (standing uri (calls ++ c ∷ []))) (list_any-append (is_close uri) calls (c ∷ []))
    ∙ (ap (λ a. if o && not (l || (cl || false)) then Some 0 else option_map (λ i. i + 1) a)
    (standing-snoc uri calls c)
    ∙ (more o l cl s x ∙ ap (λ a. if cl then None else option_or
    (if o && not l then Some 0 else option_map (λ i. i + 1) s) a)
    (here_more (is_some (opening uri c)) (length calls) (length (d ∷ calls)) len)))

-- after a call that closes nothing
standing-one : (uri : Bytes) (calls : List Call) (c : Call) (s : Option ℕ) (o : Bool)
    → is_close uri c ≡ false → standing uri calls ≡ s → is_some (opening uri c) ≡ o
    → standing uri (calls ++ c ∷ []) ≡ option_or s (if o then Some (length calls) else None)
standing-one uri calls c s o close is opened =
    standing-snoc uri calls c
    ∙ (ap (λ b. if b then None else option_or (standing uri calls)
    (if is_some (opening uri c) then Some (length calls) else None)) close
    ∙ (ap (λ a. option_or a (if is_some (opening uri c) then Some (length calls) else None)) is
    ∙ ap (λ b. option_or s (if b then Some (length calls) else None)) opened))

pub standing-kept : (uri : Bytes) (calls m : List Call) (i : ℕ) → list_any (is_close uri) m ≡ false
    → standing uri calls ≡ Some i → standing uri (calls ++ m) ≡ Some i
standing-kept uri calls [] i h e = ap (standing uri) (append-nil calls) ∙ e
standing-kept uri calls (c ∷ m) i h e =
    let closing = or_parts (is_close uri c) (list_any (is_close uri) m) h in
    ap (standing uri) (sym (append_assoc calls (c ∷ []) m))
    ∙ standing-kept uri (calls ++ c ∷ []) m i closing.1
    (standing-one uri calls c (Some i) (is_some (opening uri c)) closing.0 e refl)

next_head : (o : Bool) (rest : Option ℕ) (k : ℕ)
    → (if o then Some 0 else option_map (λ i. i + 1) rest) ≡ Some k → o ≡ true → 0 ≡ k
next_head true rest k e p = same_Some 0 k e
next_head false rest k e p = absurd (true≢false (sym p))

next_tail : (o : Bool) (rest : Option ℕ) (k : ℕ)
    → (if o then Some 0 else option_map (λ i. i + 1) rest) ≡ Some k → o ≡ false
    → (j : ℕ) × (rest ≡ Some j) × (j + 1 ≡ k)
next_tail true rest k e p = absurd (true≢false p)
next_tail false rest k e p = mapped (λ i. i + 1) rest k e

standing-next : (uri : Bytes) (calls m : List Call) (k : ℕ) → list_any (is_close uri) m ≡ false
    → standing uri calls ≡ None → next_opening uri m ≡ Some k
    → standing uri (calls ++ m) ≡ Some (length calls + k)
standing-next uri calls [] k h none e = absurd (none-some k e)
standing-next uri calls (c ∷ m) k h none e =
    let closing = or_parts (is_close uri c) (list_any (is_close uri) m) h in
    let cut = ap (standing uri) (sym (append_assoc calls (c ∷ []) m)) in
    elim (cases_Bool (is_some (opening uri c))) [
      | inl p ↦
          let zero_is = next_head (is_some (opening uri c)) (next_opening uri m) k e p in
          let at : length calls ≡ length calls + k = omega (arith, zero_is) in
          cut ∙ (standing-kept uri (calls ++ c ∷ []) m (length calls) closing.1
          (standing-one uri calls c None true closing.0 none p)
          ∙ ap (λ i. let found : Option ℕ = Some i in found) at)
      | inr p ↦
          let tail = next_tail (is_some (opening uri c)) (next_opening uri m) k e p in
          let at : length (calls ++ c ∷ []) + tail.0 ≡ length calls + k =
          omega (arith, length-append calls (c ∷ []), tail.2) in
          cut ∙ (standing-next uri (calls ++ c ∷ []) m tail.0 closing.1
          (standing-one uri calls c None false closing.0 none p) tail.1
          ∙ ap (λ i. let found : Option ℕ = Some i in found) at)
    ]

none_tail : (o : Bool) (rest : Option ℕ)
    → (if o then Some 0 else option_map (λ i. i + 1) rest) ≡ None → (o ≡ false) × (rest ≡ None)
none_tail true rest e = absurd (none-some 0 (sym e))
none_tail false None e = (refl, refl)
none_tail false (Some j) e = absurd (none-some (j + 1) (sym e))

standing-without : (uri : Bytes) (calls m : List Call) → list_any (is_close uri) m ≡ false
    → standing uri calls ≡ None → next_opening uri m ≡ None → standing uri (calls ++ m) ≡ None
standing-without uri calls [] h none e = ap (standing uri) (append-nil calls) ∙ none
standing-without uri calls (c ∷ m) h none e =
    let closing = or_parts (is_close uri c) (list_any (is_close uri) m) h in
    let tail = none_tail (is_some (opening uri c)) (next_opening uri m) e in
    ap (standing uri) (sym (append_assoc calls (c ∷ []) m))
    ∙ standing-without uri (calls ++ c ∷ []) m closing.1
    (standing-one uri calls c None false closing.0 none tail.0) tail.1

next_opening-more : (uri : Bytes) (m rest : List Call) (k : ℕ) → next_opening uri m ≡ Some k
    → next_opening uri (m ++ rest) ≡ Some k
next_opening-more uri [] rest k e = absurd (none-some k e)
next_opening-more uri (c ∷ m) rest k e =
    elim (cases_Bool (is_some (opening uri c))) [
      | inl p ↦ rw p (ap (λ i. let found : Option ℕ = Some i in found)
          (next_head (is_some (opening uri c)) (next_opening uri m) k e p))
      | inr p ↦
          let tail = next_tail (is_some (opening uri c)) (next_opening uri m) k e p in
          rw p (ap (option_map (λ i. i + 1)) (next_opening-more uri m rest tail.0 tail.1)
          ∙ ap (λ i. let found : Option ℕ = Some i in found) tail.2)
    ]

-- a snapshot is bound to the opening that stands when its version comes
pub binding-stands : (uri : Bytes) (front m rest : List Call) (u : Bytes) (n : ℤ) (t : Text) (i : ℕ)
    → list_any (is_close uri) m ≡ false → standing uri (front ++ shows u n t ∷ m) ≡ Some i
    → binding uri front (m ++ rest) ≡ Some i
binding-stands uri front m rest u n t i open_still at = go (standing uri front) refl
  where
    s : Call
    s = shows u n t

    cut : standing uri ((front ++ shows u n t ∷ []) ++ m) ≡ Some i
    cut = ap (standing uri) (append_assoc front (shows u n t ∷ []) m) ∙ at

    none_next : (x : Option ℕ) → next_opening uri m ≡ x → standing uri front ≡ None
        → binding uri front (m ++ rest) ≡ Some i
    none_next None e none =
        absurd (none-some i (sym (standing-without uri (front ++ shows u n t ∷ []) m open_still
        (standing-one uri front (shows u n t) None false refl none refl) e) ∙ cut))
    none_next (Some k) e none =
        let found = standing-next uri (front ++ shows u n t ∷ []) m k open_still
        (standing-one uri front (shows u n t) None false refl none refl) e in
        let same : length (front ++ shows u n t ∷ []) + k ≡ i =
        same_Some (length (front ++ shows u n t ∷ []) + k) i (sym found ∙ cut) in
        let place : length front + 1 + k ≡ i =
        omega (arith, length-append front (shows u n t ∷ []), same) in
        ap (λ o. option_or o (option_map (λ j. length front + 1 + j)
        (next_opening uri (m ++ rest)))) none
        ∙ (ap (option_map (λ j. length front + 1 + j)) (next_opening-more uri m rest k e)
        ∙ ap (λ j. let bound : Option ℕ = Some j in bound) place)

    go : (o : Option ℕ) → standing uri front ≡ o → binding uri front (m ++ rest) ≡ Some i
    go None e = none_next (next_opening uri m) refl e
    go (Some o) e =
        let kept = standing-kept uri (front ++ shows u n t ∷ []) m o open_still
        (standing-one uri front (shows u n t) (Some o) false refl e refl) in
        ap (λ x. option_or x (option_map (λ j. length front + 1 + j)
        (next_opening uri (m ++ rest)))) e ∙ (sym kept ∙ cut)

-- ---- a call that sets a version

pub record HeldAt (terms : Terms) (uri : Bytes) (calls : List Call) (n : ℤ) : Type 0 where
  pub version : Version
  pub is : held terms uri calls ≡ Some version
  pub number : version.number ≡ n

pub set-held : (terms : Terms) (uri : Bytes) (n : ℤ) (calls : List Call) (c : Call)
    → call_rule terms calls c ≡ None → sets uri n c ≡ true → HeldAt terms uri (calls ++ c ∷ []) n
set-held terms uri n calls (opens u m t) e h =
    let parts = and_parts (bytes_eq uri u) (int_eq m n) h in
    let none = no_some (held terms u calls) (none_row (is_some (held terms u calls)) 601 _ e).0 in
    let here : held terms uri calls ≡ None =
    ap (λ x. held terms x calls) (uri_is uri u parts.0) ∙ none in
    record {
      version = versioned m t;
      is = held-snoc terms uri calls (opens u m t)
          ∙ (ap (λ x. next_held terms uri x (opens u m t)) here ∙ rw (parts.0) refl);
      number = int_is m n parts.1;
    }
set-held terms uri n calls (changes enc k u m cs) e h =
    let both = and_parts (bytes_eq uri u) (int_eq m n) h in
    let parts = change_parts terms _ enc k m cs (held terms u calls) e in
    let here : held terms uri calls ≡ Some parts.old =
    ap (λ x. held terms x calls) (uri_is uri u both.0) ∙ parts.is in
    let new : Version = versioned m (text_or parts.old.text
    (applied terms.limit enc parts.old.text cs)) in
    let changed : next_held terms uri (Some parts.old) (changes enc k u m cs) ≡ Some new =
    rw (both.0) refl in
    record {
      version = new;
      is = held-snoc terms uri calls (changes enc k u m cs)
          ∙ (ap (λ x. next_held terms uri x (changes enc k u m cs)) here ∙ changed);
      number = int_is m n both.1;
    }
set-held terms uri n calls _ e h = absurd (true≢false (sym h))

plain : (s : Option ℕ) → option_or s None ≡ s
plain None = refl
plain (Some i) = refl

-- a call that does not set the version that is held after it leaves what is held, and closes and
-- opens nothing
left : (terms : Terms) (uri : Bytes) (calls : List Call) (c : Call) (w : Version)
    → call_rule terms calls c ≡ None → next_held terms uri (held terms uri calls) c ≡ Some w
    → sets uri w.number c ≡ false
    → (held terms uri calls ≡ Some w) × (is_close uri c ≡ false) × (is_some (opening uri c) ≡ false)
left terms uri calls (opens u m t) w e now other =
    elim (cases_Bool (bytes_eq uri u)) [
      | inl p ↦
          let none = no_some (held terms u calls)
          (none_row (is_some (held terms u calls)) 601 _ e).0 in
          let here : held terms uri calls ≡ None =
          ap (λ x. held terms x calls) (uri_is uri u p) ∙ none in
          let new : next_held terms uri None (opens u m t) ≡ Some (versioned m t) = rw p refl in
          let same = same_Some (versioned m t) w (sym
          (ap (λ x. next_held terms uri x (opens u m t)) here ∙ new) ∙ now) in
          let number : m ≡ w.number = ap (λ (x : Version). x.number) same in
          absurd (true≢false (sym (rw (p, number) (int_eq_equiv.refl w.number)) ∙ other))
      | inr p ↦
          let rest : next_held terms uri (held terms uri calls) (opens u m t)
          ≡ held terms uri calls = rw p (unchanged (held terms uri calls)) in
          (sym rest ∙ now, refl, rw p refl)
    ]
left terms uri calls (changes enc k u m cs) w e now other =
    elim (cases_Bool (bytes_eq uri u)) [
      | inl p ↦
          let parts = change_parts terms _ enc k m cs (held terms u calls) e in
          let here : held terms uri calls ≡ Some parts.old =
          ap (λ x. held terms x calls) (uri_is uri u p) ∙ parts.is in
          let new : Version = versioned m (text_or parts.old.text
          (applied terms.limit enc parts.old.text cs)) in
          let changed : next_held terms uri (Some parts.old) (changes enc k u m cs) ≡ Some new =
          rw p refl in
          let same = same_Some new w (sym (ap (λ x. next_held terms uri x (changes enc k u m cs))
          here ∙ changed) ∙ now) in
          let number : m ≡ w.number = ap (λ (x : Version). x.number) same in
          absurd (true≢false (sym (rw (p, number) (int_eq_equiv.refl w.number)) ∙ other))
      | inr p ↦
          let rest : next_held terms uri (held terms uri calls) (changes enc k u m cs)
          ≡ held terms uri calls = rw p (unchanged (held terms uri calls)) in
          (sym rest ∙ now, refl, refl)
    ]
left terms uri calls (closes u) w e now other =
    elim (cases_Bool (bytes_eq uri u)) [
      | inl p ↦ absurd (none-some w (sym (ap (λ b.
          if b then None else option_or (option_map (λ v. v) (held terms uri calls)) None) p)
          ∙ now))
      | inr p ↦
          let rest : next_held terms uri (held terms uri calls) (closes u) ≡ held terms uri calls =
          rw p (unchanged (held terms uri calls)) in
          (sym rest ∙ now, p, refl)
    ]
left terms uri calls _ w e now other = (sym (unchanged (held terms uri calls)) ∙ now, refl, refl)

-- what is held after the calls was set by one of them, and its opening has stood since
pub set-before : (terms : Terms) (uri : Bytes) (calls more : List Call)
    → AreAcceptedFrom terms calls more
    → ((v : Version) (i : ℕ) → held terms uri calls ≡ Some v → standing uri calls ≡ Some i
    → IsSet uri v.number calls i)
    → (v : Version) (i : ℕ) → held terms uri (calls ++ more) ≡ Some v
    → standing uri (calls ++ more) ≡ Some i → IsSet uri v.number (calls ++ more) i
set-before terms uri calls [] h so_far v i now at =
    subst (λ l. IsSet uri v.number l i) (sym (append-nil calls))
    (so_far v i (ap (held terms uri) (sym (append-nil calls)) ∙ now)
    (ap (standing uri) (sym (append-nil calls)) ∙ at))
set-before terms uri calls (c ∷ more) h so_far v i now at =
    let cut = append_assoc calls (c ∷ []) more in
    subst (λ l. IsSet uri v.number l i) cut
    (set-before terms uri (calls ++ c ∷ []) more h.1
    (λ w j held_now stands. step w j held_now stands) v i (ap (held terms uri) cut ∙ now)
    (ap (standing uri) cut ∙ at))
  where
    set_here : (w : Version) (j : ℕ) → standing uri (calls ++ c ∷ []) ≡ Some j
        → sets uri w.number c ≡ true → IsSet uri w.number (calls ++ c ∷ []) j
    set_here w j stands p = record {
      before = calls;
      call = c;
      after = [];
      whole = refl;
      comes = p;
      stands = stands;
    }

    step : (w : Version) (j : ℕ) → held terms uri (calls ++ c ∷ []) ≡ Some w
        → standing uri (calls ++ c ∷ []) ≡ Some j → IsSet uri w.number (calls ++ c ∷ []) j
    step w j held_now stands =
        elim (cases_Bool (sets uri w.number c)) [
          | inl p ↦ set_here w j stands p
          | inr p ↦
              let kept = left terms uri calls c w h.0 (sym (held-snoc terms uri calls c) ∙ held_now)
              p in
              let before = standing-one uri calls c (standing uri calls) false kept.1 refl kept.2 in
              let was = so_far w j kept.0 (sym (plain (standing uri calls))
              ∙ (sym before ∙ stands)) in
              record {
                before = was.before;
                call = was.call;
                after = was.after ++ c ∷ [];
                whole = ap (λ l. l ++ c ∷ []) was.whole
                    ∙ append_assoc was.before (was.call ∷ was.after) (c ∷ []);
                comes = was.comes;
                stands = was.stands;
              }
        ]
