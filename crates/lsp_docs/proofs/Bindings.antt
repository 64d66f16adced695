-- A snapshot and a prefix of the calls that belong to one opening: no close stands between them.
use Rattle.std.proofs.Common.{◌≡◌, ℕ, ◌+◌, ◌<◌, Bool, true, false, ◌&&◌, List, [], ◌∷◌, ◌++◌}
use Rattle.std.proofs.Common.{length, refl, sym, ap, ◌∙◌, subst, Option, Some, None, inl, inr}
use Rattle.std.proofs.Common.{append_assoc, append-nil, true≢false, arith, length-append}
use Rattle.std.specs.Prelude.{ℤ, not, is_some, if◌then◌else◌, option_map}
use Rattle.std.specs.List.{list_any}
use Rattle.std.specs.Option.{option_or}
use Rattle.std.specs.Str.{bytes_eq}
use Rattle.std.proofs.lemmas.Bool.{or_parts, cases_Bool}
use Rattle.std.proofs.lemmas.List.Folds.{list_any-append}
use Rattle.std.proofs.lemmas.Option.{same_Some, none-some}
use Rattle.lsp_text.specs.SameText.{SameText}
use Rattle.lsp_docs.specs.Calls.{Text, Bytes, Call, opens, changes, closes, saves, shows, is_close}
use Rattle.lsp_docs.specs.Documents.{Terms, Version, opening, held_since, held}
use Rattle.lsp_docs.specs.Rules.{call_rule, AreAcceptedFrom, AreAccepted}
use Rattle.lsp_docs.specs.Laws.{standing, next_opening, binding}
use Rattle.lsp_docs.proofs.Words.{no_some, uri_is}
use Rattle.lsp_docs.proofs.HeldSteps.{next_held, held-snoc}
use Rattle.lsp_docs.proofs.Accepted.{accepted-split}
use Rattle.lsp_docs.proofs.Agreeing.{agrees-behind, agrees-before}

-- ---- two ways to cut a list

-- the second cut's element stands before the first cut, or behind it
pub data Cuts {A : Type 0} (before after front : List A) (s : A) (back : List A) : Type 0 where
  earlier : (mid : List A) → before ≡ front ++ s ∷ mid → back ≡ mid ++ after
      → Cuts before after front s back
  later : (mid : List A) → front ≡ before ++ mid → after ≡ mid ++ s ∷ back
      → Cuts before after front s back

cuts-cons : {A : Type 0} (x : A) (before after front : List A) (s : A) (back : List A)
    → Cuts before after front s back → Cuts (x ∷ before) after (x ∷ front) s back
cuts-cons x before after front s back (earlier mid p q) = earlier mid (ap (λ l. x ∷ l) p) q
cuts-cons x before after front s back (later mid p q) = later mid (ap (λ l. x ∷ l) p) q

pub cuts : {A : Type 0} (before after front : List A) (s : A) (back : List A)
    → before ++ after ≡ front ++ s ∷ back → Cuts before after front s back
cuts [] after front s back e = later front refl e
cuts (x ∷ before) after [] s back e =
    let head : x ≡ s = cc e in
    let rest : before ++ after ≡ back = cc e in
    earlier before (ap (λ y. y ∷ before) head) (sym rest)
cuts (x ∷ before) after (y ∷ front) s back e =
    let head : x ≡ y = cc e in
    let rest : before ++ after ≡ front ++ s ∷ back = cc e in
    subst (λ z. Cuts (x ∷ before) after (z ∷ front) s back) head
    (cuts-cons x before after front s back (cuts before after front s back rest))

-- ---- the places of openings

pub mapped : (f : ℕ → ℕ) (o : Option ℕ) (k : ℕ) → option_map f o ≡ Some k
    → (j : ℕ) × (o ≡ Some j) × (f j ≡ k)
mapped f None k e = absurd (none-some k e)
mapped f (Some j) k e = (j, refl, same_Some (f j) k e)

-- an opening of the URI with no close behind it
record StandsAt (uri : Bytes) (calls : List Call) (i : ℕ) : Type 0 where
  before : List Call
  call : Call
  after : List Call
  whole : calls ≡ before ++ call ∷ after
  place : length before ≡ i
  is_opening : is_some (opening uri call) ≡ true
  still_open : list_any (is_close uri) after ≡ false

opens_still : (a b : Bool) → (a && not b) ≡ true → (a ≡ true) × (b ≡ false)
opens_still true false h = (refl, refl)
opens_still _ _ h = absurd (true≢false (sym h))

standing-at : (uri : Bytes) (calls : List Call) (i : ℕ) → standing uri calls ≡ Some i
    → StandsAt uri calls i
standing-at uri [] i e = absurd (none-some i e)
standing-at uri (c ∷ after) i e =
    elim (cases_Bool (is_some (opening uri c) && not (list_any (is_close uri) after))) [
      | inl p ↦
          let parts = opens_still (is_some (opening uri c)) (list_any (is_close uri) after) p in
          let zero_is : 0 ≡ i = same_Some 0 i (sym
          (ap (λ b. if b then Some 0 else option_map (λ j. j + 1) (standing uri after)) p)
          ∙ e) in
          record {
            before = [];
            call = c;
            after = after;
            whole = refl;
            place = zero_is;
            is_opening = parts.0;
            still_open = parts.1;
          }
      | inr p ↦
          let rest = mapped (λ j. j + 1) (standing uri after) i
          (sym (ap (λ b. if b then Some 0 else option_map (λ j. j + 1) (standing uri after)) p)
          ∙ e) in
          let there = standing-at uri after rest.0 rest.1 in
          let place : length there.before + 1 ≡ i = ap (λ j. j + 1) there.place ∙ rest.2 in
          record {
            before = c ∷ there.before;
            call = there.call;
            after = there.after;
            whole = ap (λ l. c ∷ l) there.whole;
            place = omega (arith, place);
            is_opening = there.is_opening;
            still_open = there.still_open;
          }
    ]

since_none : (terms : Terms) (uri : Bytes) (after : List Call) (o : Option Version)
    → (is_some o && not (list_any (is_close uri) after)) ≡ false
    → held_since terms uri after o ≡ None
since_none terms uri after None h = refl
since_none terms uri after (Some v) h =
    elim (cases_Bool (list_any (is_close uri) after)) [
      | inl p ↦ rw p refl
      | inr p ↦ absurd (true≢false (sym (ap (λ b. not b) p) ∙ h))
    ]

-- where no opening stands, nothing is held
standing-none : (terms : Terms) (uri : Bytes) (calls : List Call) → standing uri calls ≡ None
    → held terms uri calls ≡ None
standing-none terms uri [] e = refl
standing-none terms uri (c ∷ after) e =
    elim (cases_Bool (is_some (opening uri c) && not (list_any (is_close uri) after))) [
      | inl p ↦ absurd (none-some 0 (sym e ∙ ap
          (λ b. if b then Some 0 else option_map (λ j. j + 1) (standing uri after)) p))
      | inr p ↦
          let rest = unmapped (standing uri after)
          (sym (ap (λ b. if b then Some 0 else option_map (λ j. j + 1) (standing uri after)) p)
          ∙ e) in
          ap (λ o. option_or o (held terms uri after))
          (since_none terms uri after (opening uri c) p) ∙ standing-none terms uri after rest
    ]
  where
    unmapped : (o : Option ℕ) → option_map (λ j. j + 1) o ≡ None → o ≡ None
    unmapped None e = refl
    unmapped (Some j) e = absurd (none-some (j + 1) (sym e))

pub held-standing : (terms : Terms) (uri : Bytes) (calls : List Call) (v : Version)
    → held terms uri calls ≡ Some v → (i : ℕ) × (standing uri calls ≡ Some i)
held-standing terms uri calls v h = go (standing uri calls) refl
  where
    go : (o : Option ℕ) → standing uri calls ≡ o → (i : ℕ) × (standing uri calls ≡ Some i)
    go None e = absurd (none-some v (sym (standing-none terms uri calls e) ∙ h))
    go (Some i) e = (i, e)

-- ---- no close before the next opening

none-opens : (uri : Bytes) (m rest : List Call) (k : ℕ) → next_opening uri (m ++ rest) ≡ Some k
    → length m ≡ k → list_any (λ c. is_some (opening uri c)) m ≡ false
none-opens uri [] rest k e n = refl
none-opens uri (c ∷ m) rest k e n =
    elim (cases_Bool (is_some (opening uri c))) [
      | inl p ↦
          let here : 0 ≡ k = same_Some 0 k (sym (ap
          (λ b. if b then Some 0 else option_map (λ j. j + 1) (next_opening uri (m ++ rest))) p)
          ∙ e) in
          absurd (omega (arith, here, n))
      | inr p ↦
          let next = mapped (λ j. j + 1) (next_opening uri (m ++ rest)) k
          (sym (ap (λ b. if b then Some 0 else option_map (λ j. j + 1)
          (next_opening uri (m ++ rest))) p) ∙ e) in
          let at : length m ≡ next.0 = omega (arith, next.2, n) in
          rw p (none-opens uri m rest next.0 next.1 at)
    ]

-- a close of what is not open is refused
not_closing : (terms : Terms) (uri : Bytes) (calls : List Call) (c : Call)
    → held terms uri calls ≡ None → call_rule terms calls c ≡ None → is_close uri c ≡ false
not_closing terms uri calls (closes u) none e =
    elim (cases_Bool (bytes_eq uri u)) [
      | inl p ↦ absurd (let rule : ℕ = 602 in none-some rule
          (sym e ∙ ap (λ o. if is_some o then None else Some 602)
          (ap (λ x. held terms x calls) (sym (uri_is uri u p)) ∙ none)))
      | inr p ↦ p
    ]
not_closing terms uri calls _ none e = refl

none-closes : (terms : Terms) (uri : Bytes) (calls m : List Call) → AreAcceptedFrom terms calls m
    → held terms uri calls ≡ None → list_any (λ c. is_some (opening uri c)) m ≡ false
    → list_any (is_close uri) m ≡ false
none-closes terms uri calls [] h none opened = refl
none-closes terms uri calls (c ∷ m) h none opened =
    let parts = or_parts (is_some (opening uri c)) (list_any (λ d. is_some (opening uri d)) m)
    opened in
    let close = not_closing terms uri calls c none h.0 in
    let still : held terms uri (calls ++ c ∷ []) ≡ None = held-snoc terms uri calls c
    ∙ (ap (λ x. next_held terms uri x c) none
    ∙ (ap (λ b. if b then None else option_or None (opening uri c)) close
    ∙ no_some (opening uri c) parts.0)) in
    rw close (none-closes terms uri (calls ++ c ∷ []) m h.1 still parts.1)

-- ---- between a snapshot and a prefix of one opening no close stands

opening_closes : (uri : Bytes) (c : Call) → is_some (opening uri c) ≡ true → is_close uri c ≡ false
opening_closes uri (closes u) h = absurd (true≢false (sym h))
opening_closes uri _ h = refl

pub any_behind : (uri : Bytes) (xs ys : List Call) → list_any (is_close uri) (xs ++ ys) ≡ false
    → (list_any (is_close uri) xs ≡ false) × (list_any (is_close uri) ys ≡ false)
any_behind uri xs ys h =
    or_parts (list_any (is_close uri) xs) (list_any (is_close uri) ys)
    (sym (list_any-append (is_close uri) xs ys) ∙ h)

-- the opening stands before the snapshot
stood : (uri : Bytes) (xs front rest mid : List Call) (o s : Call)
    → xs ++ o ∷ rest ≡ front ++ s ∷ mid → length xs < length front
    → list_any (is_close uri) rest ≡ false → list_any (is_close uri) mid ≡ false
stood uri xs front rest mid o s e less still = go (cuts xs (o ∷ rest) front s mid e)
  where
    inside : (m : List Call) → front ≡ xs ++ m → o ∷ rest ≡ m ++ s ∷ mid
        → list_any (is_close uri) mid ≡ false
    inside [] p q =
        let same : length front ≡ length xs = ap length (p ∙ append-nil xs) in
        absurd (omega (arith, same, less))
    inside (x ∷ m) p q =
        let tail : rest ≡ m ++ s ∷ mid = cc q in
        (or_parts (is_close uri s) (list_any (is_close uri) mid)
        (any_behind uri m (s ∷ mid) (ap (list_any (is_close uri)) (sym tail) ∙ still)).1).1

    go : Cuts xs (o ∷ rest) front s mid → list_any (is_close uri) mid ≡ false
    go (earlier m p q) =
        let longer : length xs ≡ length (front ++ s ∷ m) = ap length p in
        absurd (omega (arith, longer, length-append front (s ∷ m), less))
    go (later m p q) = inside m p q

-- the opening comes behind the snapshot
comes : (terms : Terms) (uri : Bytes) (xs front rest mid after : List Call) (o s : Call) (k : ℕ)
    → xs ++ o ∷ rest ≡ front ++ s ∷ mid → length xs ≡ length front + 1 + k
    → AreAcceptedFrom terms (front ++ s ∷ []) mid → held terms uri (front ++ s ∷ []) ≡ None
    → next_opening uri (mid ++ after) ≡ Some k
    → is_some (opening uri o) ≡ true → list_any (is_close uri) rest ≡ false
    → list_any (is_close uri) mid ≡ false
comes terms uri xs front rest mid after o s k e n h none next is still =
    go (cuts xs (o ∷ rest) front s mid e)
  where
    go : Cuts xs (o ∷ rest) front s mid → list_any (is_close uri) mid ≡ false
    go (later m p q) =
        let longer : length front ≡ length (xs ++ m) = ap length p in
        absurd (omega (arith, longer, length-append xs m, n))
    go (earlier m p q) =
        let long : length xs ≡ length (front ++ s ∷ m) = ap length p in
        let at : length m ≡ k = omega (arith, long, length-append front (s ∷ m), n) in
        let all : next_opening uri (m ++ (o ∷ rest ++ after)) ≡ Some k =
        ap (next_opening uri) (sym (append_assoc m (o ∷ rest) after)
        ∙ ap (λ l. l ++ after) (sym q)) ∙ next in
        let first = none-closes terms uri (front ++ s ∷ []) m
        (accepted-split terms (front ++ s ∷ []) m (o ∷ rest)
        (subst (AreAcceptedFrom terms (front ++ s ∷ [])) q h)).0 none
        (none-opens uri m (o ∷ rest ++ after) k all at) in
        ap (list_any (is_close uri)) q
        ∙ (list_any-append (is_close uri) m (o ∷ rest)
        ∙ rw (first, opening_closes uri o is) still)

shown_none : (terms : Terms) (uri : Bytes) (front : List Call) (u : Bytes) (n : ℤ) (t : Text)
    → held terms uri front ≡ None → held terms uri (front ++ shows u n t ∷ []) ≡ None
shown_none terms uri front u n t none =
    held-snoc terms uri front (shows u n t) ∙ ap (λ h. next_held terms uri h (shows u n t)) none

module _ (terms : Terms) (uri : Bytes) (n : ℤ) (t : Text) where
  abbrev s : Call
  s = shows uri n t

  -- a snapshot inside the prefix
  pub behind : (front mid after : List Call) (v : Version) → AreAccepted terms (front ++ s ∷ mid)
      → held terms uri (front ++ s ∷ mid) ≡ Some v
      → binding uri front (mid ++ after) ≡ standing uri (front ++ s ∷ mid)
      → list_any (is_close uri) mid ≡ false
  behind front mid after v h now same = go (standing uri front) refl
    where
      there : (i : ℕ) × (standing uri (front ++ s ∷ mid) ≡ Some i)
      there = held-standing terms uri (front ++ s ∷ mid) v now

      at : StandsAt uri (front ++ s ∷ mid) there.0
      at = standing-at uri (front ++ s ∷ mid) there.0 there.1

      go : (o : Option ℕ) → standing uri front ≡ o → list_any (is_close uri) mid ≡ false
      go (Some j) e =
          let own = standing-at uri front j e in
          let bound : j ≡ there.0 =
          same_Some j there.0 (sym (ap (λ o. option_or o
          (option_map (λ i. length front + 1 + i) (next_opening uri (mid ++ after)))) e)
          ∙ (same ∙ there.1)) in
          let long : length front ≡ length (own.before ++ own.call ∷ own.after) =
          ap length own.whole in
          let less : length at.before < length front =
          omega (
            arith,
            long,
            length-append own.before (own.call ∷ own.after),
            own.place,
            bound,
            at.place,
          ) in
          stood uri at.before front at.after mid at.call s (sym at.whole) less at.still_open
      go None e =
          let next = mapped (λ i. length front + 1 + i) (next_opening uri (mid ++ after)) there.0
          (sym (ap (λ o. option_or o (option_map (λ i. length front + 1 + i)
          (next_opening uri (mid ++ after)))) e) ∙ (same ∙ there.1)) in
          comes terms uri at.before front at.after mid after at.call s next.0 (sym at.whole)
          (at.place ∙ sym next.2) (accepted-split terms [] front (s ∷ mid) h).1.1
          (shown_none terms uri front uri n t (standing-none terms uri front e)) next.1
          at.is_opening at.still_open

  -- a snapshot behind the prefix
  pub ahead : (before mid back : List Call) (v : Version) → held terms uri before ≡ Some v
      → binding uri (before ++ mid) back ≡ standing uri before → list_any (is_close uri) mid ≡ false
  ahead before mid back v now same = go (standing uri (before ++ mid)) refl
    where
      there : (i : ℕ) × (standing uri before ≡ Some i)
      there = held-standing terms uri before v now

      at : StandsAt uri before there.0
      at = standing-at uri before there.0 there.1

      long : length before ≡ length (at.before ++ at.call ∷ at.after)
      long = ap length at.whole

      less : there.0 < length before
      less = omega (arith, long, length-append at.before (at.call ∷ at.after), at.place)

      go : (o : Option ℕ) → standing uri (before ++ mid) ≡ o → list_any (is_close uri) mid ≡ false
      go (Some j) e =
          let own = standing-at uri (before ++ mid) j e in
          let bound : j ≡ there.0 =
          same_Some j there.0 (sym (ap (λ o. option_or o
          (option_map (λ i. length (before ++ mid) + 1 + i) (next_opening uri back))) e)
          ∙ (same ∙ there.1)) in
          cut (cuts before mid own.before own.call own.after own.whole) (own.place ∙ bound)
          own.still_open
        where
          cut : {xs rest : List Call} {o : Call} → Cuts before mid xs o rest → length xs ≡ there.0
              → list_any (is_close uri) rest ≡ false → list_any (is_close uri) mid ≡ false
          cut {xs} {rest} {o} (earlier m p q) place still =
              (any_behind uri m mid (ap (list_any (is_close uri)) (sym q) ∙ still)).1
          cut {xs} {rest} {o} (later m p q) place still =
              let longer : length xs ≡ length (before ++ m) = ap length p in
              absurd (omega (arith, longer, length-append before m, place, less))
      go None e =
          let next = mapped (λ i. length (before ++ mid) + 1 + i) (next_opening uri back) there.0
          (sym (ap (λ o. option_or o (option_map (λ i. length (before ++ mid) + 1 + i)
          (next_opening uri back))) e) ∙ (same ∙ there.1)) in
          absurd (omega (arith, next.2, length-append before mid, less))

-- **After any calls, a held text is that of each snapshot that belongs to its opening and
-- version.**
pub bound-agrees : (terms : Terms) (before after front back : List Call) (uri : Bytes) (n : ℤ)
    (t : Text) (v : Version) → AreAccepted terms (before ++ after)
    → before ++ after ≡ front ++ shows uri n t ∷ back
    → binding uri front back ≡ standing uri before → held terms uri before ≡ Some v → v.number ≡ n
    → SameText terms.line_ends v.text t
bound-agrees terms before after front back uri n t v h e same now number =
    go (cuts before after front (shows uri n t) back e)
  where
    go : Cuts before after front (shows uri n t) back → SameText terms.line_ends v.text t
    go (earlier mid p q) =
        let accepted = subst (AreAccepted terms) p (accepted-split terms [] before after h).0 in
        let held_here = ap (held terms uri) (sym p) ∙ now in
        let open_still = behind terms uri n t front mid after v accepted held_here
        (ap (binding uri front) (sym q) ∙ (same ∙ ap (standing uri) p)) in
        agrees-behind terms front mid uri n t accepted open_still v held_here number
    go (later mid p q) =
        let open_still = ahead terms uri n t before mid back v now
        (ap (λ l. binding uri l back) (sym p) ∙ same) in
        let cut : before ++ after ≡ (before ++ mid ++ shows uri n t ∷ []) ++ back =
        ap (λ l. before ++ l) q ∙ (sym (append_assoc before mid (shows uri n t ∷ back))
        ∙ sym (append_assoc (before ++ mid) (shows uri n t ∷ []) back)) in
        let accepted = (accepted-split terms [] (before ++ mid ++ shows uri n t ∷ []) back
        (subst (AreAccepted terms) cut h)).0 in
        agrees-before terms before mid uri n t v accepted open_still now number
