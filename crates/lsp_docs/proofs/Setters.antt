-- A snapshot is compared exactly where a call sets its version for its opening.
use Rattle.std.proofs.Common.{◌≡◌, ℕ, ◌+◌, ◌⊎◌, Bool, true, false, ◌&&◌, ◌||◌, List, [], ◌∷◌, ◌++◌}
use Rattle.std.proofs.Common.{length, refl, sym, ap, ◌∙◌, subst, Option, Some, None, inl, inr}
use Rattle.std.proofs.Common.{append_assoc, append-nil, true≢false}
use Rattle.std.specs.Prelude.{ℤ, not, option_map}
use Rattle.std.specs.List.{list_any}
use Rattle.std.specs.Option.{option_or}
use Rattle.std.specs.Ordering.{int_eq}
use Rattle.std.proofs.lemmas.Bool.{or_parts, or_cases}
use Rattle.std.proofs.lemmas.Cmp.{int_eq_equiv}
use Rattle.std.proofs.lemmas.List.Folds.{list_any-append}
use Rattle.std.proofs.lemmas.Option.{none-some}
use Rattle.std.proofs.Math.Bool.{or-true}
use Rattle.lsp_docs.specs.Calls.{Text, Bytes, Call, shows, is_close}
use Rattle.lsp_docs.specs.Documents.{Terms, Version, is_at, held}
use Rattle.lsp_docs.specs.Snapshots.{past, kept, holds_number, has_number, sets, comes_to}
use Rattle.lsp_docs.specs.Snapshots.{is_compared}
use Rattle.lsp_docs.specs.Rules.{show_rule, AreAccepted}
use Rattle.lsp_docs.specs.Laws.{standing, next_opening, binding, IsSet}
use Rattle.lsp_docs.proofs.Words.{int_is}
use Rattle.lsp_docs.proofs.Accepted.{accepted-split, risen}
use Rattle.lsp_docs.proofs.Rising.{Among, among-any, among-drop, among-below, among-last, any-among}
use Rattle.lsp_docs.proofs.Past.{WasHeld, past-held, past-rises-to, was-held}
use Rattle.lsp_docs.proofs.Agreeing.{shown-late}
use Rattle.lsp_docs.proofs.Unmatched.{set_opens}
use Rattle.lsp_docs.proofs.Bindings.{Cuts, earlier, later, cuts, held-standing, any_behind}
use Rattle.lsp_docs.proofs.Bindings.{behind, ahead}
use Rattle.lsp_docs.proofs.SetVersions.{standing-kept, binding-stands, set-held, set-before}

-- ---- a comparison has a setter

-- the call that brings the URI to the version before a close
record Comes (uri : Bytes) (n : ℤ) (calls : List Call) : Type 0 where
  before : List Call
  call : Call
  after : List Call
  whole : calls ≡ before ++ call ∷ after
  comes : sets uri n call ≡ true
  still_open : list_any (is_close uri) before ≡ false

come : (s cl x : Bool) → (s || (not cl && x)) ≡ true → (s ≡ true) ⊎ ((cl ≡ false) × (x ≡ true))
come true cl x h = inl refl
come false true x h = absurd (true≢false (sym h))
come false false x h = inr (refl, h)

comes_at : (uri : Bytes) (n : ℤ) (calls : List Call) → comes_to uri n calls ≡ true
    → Comes uri n calls
comes_at uri n [] h = absurd (true≢false (sym h))
comes_at uri n (c ∷ calls) h =
    elim (come (sets uri n c) (is_close uri c) (comes_to uri n calls) h) [
      | inl p ↦ record {
        before = [];
        call = c;
        after = calls;
        whole = refl;
        comes = p;
        still_open = refl;
      }
      | inr p ↦
          let rest = comes_at uri n calls p.1 in
          record {
            before = c ∷ rest.before;
            call = rest.call;
            after = rest.after;
            whole = ap (λ l. c ∷ l) rest.whole;
            comes = rest.comes;
            still_open = rw (p.0) rest.still_open;
          }
    ]

comes_there : (uri : Bytes) (n : ℤ) (mid : List Call) (c : Call) (after : List Call)
    → list_any (is_close uri) mid ≡ false → sets uri n c ≡ true
    → comes_to uri n (mid ++ c ∷ after) ≡ true
comes_there uri n [] c after h p = rw p refl
comes_there uri n (d ∷ mid) c after h p =
    let closing = or_parts (is_close uri d) (list_any (is_close uri) mid) h in
    rw (closing.0, comes_there uri n mid c after closing.1 p) (or-true (sets uri n d))

holds-number : (n : ℤ) (o : Option Version) → holds_number n o ≡ true
    → (v : Version) × (o ≡ Some v) × (v.number ≡ n)
holds-number n None h = absurd (true≢false (sym h))
holds-number n (Some v) h = (v, refl, int_is v.number n h)

or_false_parts : (f x : Bool) → (f || x) ≡ false → (f ≡ true) ⊎ (x ≡ true) → ⊥
or_false_parts false false h (inl e) = true≢false (sym e)
or_false_parts false false h (inr e) = true≢false (sym e)
or_false_parts _ _ h e = true≢false h

module _ (terms : Terms) (front back : List Call) (uri : Bytes) (n : ℤ) (t : Text)
    (h : AreAccepted terms (front ++ shows uri n t ∷ back)) where
  abbrev s : Call
  s = shows uri n t

  abbrev HasSetter : Type 0
  HasSetter = (place : ℕ) × (binding uri front back ≡ Some place)
      × IsSet uri n (front ++ s ∷ back) place

  -- the version was held after a prefix of the calls, with no close behind it
  held_then : (v : Version) → WasHeld terms uri front v → v.number ≡ n → HasSetter
  held_then v so_far number =
      let at = held-standing terms uri so_far.before v so_far.is in
      let accepted = (accepted-split terms [] so_far.before so_far.more
      (subst (AreAccepted terms) so_far.whole
      (accepted-split terms [] front (s ∷ back) h).0)).0 in
      let was = set-before terms uri [] so_far.before accepted (λ w i e. absurd (none-some w e)) v
      at.0 so_far.is at.1 in
      let stands : standing uri front ≡ Some at.0 =
      ap (standing uri) so_far.whole
      ∙ standing-kept uri so_far.before so_far.more at.0 so_far.still_open at.1 in (
        at.0,
        ap (λ o. option_or o (option_map (λ i. length front + 1 + i) (next_opening uri back)))
            stands,
        record {
          before = was.before;
          call = was.call;
          after = was.after ++ (so_far.more ++ s ∷ back);
          whole = ap (λ l. l ++ s ∷ back) so_far.whole
              ∙ (append_assoc so_far.before so_far.more (s ∷ back)
              ∙ (ap (λ l. l ++ (so_far.more ++ s ∷ back)) was.whole
              ∙ append_assoc was.before (was.call ∷ was.after) (so_far.more ++ s ∷ back)));
          comes = ap (λ x. sets uri x was.call) (sym number) ∙ was.comes;
          stands = was.stands;
        },
      )

  held_there : has_number n (kept terms uri front) (held terms uri front) ≡ true → HasSetter
  held_there p =
      elim (or_cases (list_any (is_at n) (kept terms uri front))
      (holds_number n (held terms uri front)) p) [
        | inl q ↦
            let one = any-among (is_at n) (kept terms uri front) q in
            held_then one.version (past-held terms uri front one.version
            (among-drop one.version _ (past terms uri front) one.among))
            (int_is one.version.number n one.passes)
        | inr q ↦
            let now = holds-number n (held terms uri front) q in
            held_then now.0 (record {
              before = front;
              more = [];
              whole = sym (append-nil front);
              is = now.1;
              still_open = refl;
            }) now.2
      ]

  comes_later : comes_to uri n back ≡ true → HasSetter
  comes_later p =
      let at = comes_at uri n back p in
      let m = at.before ++ at.call ∷ [] in
      let parts : back ≡ m ++ at.after =
      at.whole ∙ sym (append_assoc at.before (at.call ∷ []) at.after) in
      let still : list_any (is_close uri) m ≡ false =
      list_any-append (is_close uri) at.before (at.call ∷ [])
      ∙ rw (at.still_open, set_opens uri n at.call at.comes) refl in
      let cut : front ++ s ∷ back ≡ (front ++ s ∷ at.before) ++ (at.call ∷ at.after) =
      ap (λ l. front ++ s ∷ l) at.whole
      ∙ sym (append_assoc front (s ∷ at.before) (at.call ∷ at.after)) in
      let accepted = (accepted-split terms [] (front ++ s ∷ at.before) (at.call ∷ at.after)
      (subst (AreAccepted terms) cut h)).1.0 in
      let now = set-held terms uri n (front ++ s ∷ at.before) at.call accepted at.comes in
      let stands = held-standing terms uri ((front ++ s ∷ at.before) ++ at.call ∷ []) now.version
      now.is in
      let place : standing uri (front ++ s ∷ m) ≡ Some stands.0 =
      ap (standing uri) (sym (append_assoc front (s ∷ at.before) (at.call ∷ [])))
      ∙ stands.1 in (
        stands.0,
        ap (binding uri front) parts
            ∙ binding-stands uri front m at.after uri n t stands.0 still place,
        record {
          before = front ++ s ∷ at.before;
          call = at.call;
          after = at.after;
          whole = cut;
          comes = at.comes;
          stands = stands.1;
        },
      )

  pub has-setter : is_compared terms front uri n back ≡ true → HasSetter
  has-setter p = elim (or_cases (has_number n (kept terms uri front) (held terms uri front))
      (comes_to uri n back) p) [ inl q ↦ held_there q | inr q ↦ comes_later q ]

  -- ---- a setter brings a comparison

  set_behind : (place : ℕ) (mid : List Call) (c : Call) (after : List Call)
      → back ≡ mid ++ c ∷ after → sets uri n c ≡ true → binding uri front back ≡ Some place
      → standing uri ((front ++ s ∷ mid) ++ c ∷ []) ≡ Some place → comes_to uri n back ≡ true
  set_behind place mid c after q p bound stands =
      let cut : front ++ s ∷ back ≡ (front ++ s ∷ mid) ++ (c ∷ after) =
      ap (λ l. front ++ s ∷ l) q ∙ sym (append_assoc front (s ∷ mid) (c ∷ after)) in
      let parts = accepted-split terms [] (front ++ s ∷ mid) (c ∷ after)
      (subst (AreAccepted terms) cut h) in
      let now = set-held terms uri n (front ++ s ∷ mid) c parts.1.0 p in
      let join : (front ++ s ∷ mid) ++ c ∷ [] ≡ front ++ s ∷ (mid ++ c ∷ []) =
      append_assoc front (s ∷ mid) (c ∷ []) in
      let ends : (front ++ s ∷ mid) ++ (c ∷ after) ≡ ((front ++ s ∷ mid) ++ c ∷ []) ++ after =
      sym (append_assoc (front ++ s ∷ mid) (c ∷ []) after) in
      let accepted = subst (AreAccepted terms) join
      (accepted-split terms [] ((front ++ s ∷ mid) ++ c ∷ []) after
      (subst (AreAccepted terms) (cut ∙ ends) h)).0 in
      let same : binding uri front ((mid ++ c ∷ []) ++ after)
      ≡ standing uri (front ++ s ∷ (mid ++ c ∷ [])) =
      ap (binding uri front) (append_assoc mid (c ∷ []) after ∙ sym q)
      ∙ (bound ∙ (sym stands ∙ ap (standing uri) join)) in
      let still = behind terms uri n t front (mid ++ c ∷ []) after now.version accepted
      (ap (held terms uri) (sym join) ∙ now.is) same in
      ap (comes_to uri n) q ∙ comes_there uri n mid c after (any_behind uri mid (c ∷ []) still).0 p

  set_ahead : (place : ℕ) (before mid : List Call) (c : Call) → front ≡ (before ++ c ∷ []) ++ mid
      → sets uri n c ≡ true → binding uri front back ≡ Some place
      → standing uri (before ++ c ∷ []) ≡ Some place
      → has_number n (kept terms uri front) (held terms uri front) ≡ true
  set_ahead place before mid c q p bound stands =
      let parts = accepted-split terms [] front (s ∷ back) h in
      let own = accepted-split terms [] (before ++ c ∷ []) mid
      (subst (AreAccepted terms) q parts.0) in
      let now = set-held terms uri n before c (accepted-split terms [] before (c ∷ []) own.0).1.0
      p in
      let still = ahead terms uri n t (before ++ c ∷ []) mid back now.version now.is
      (ap (λ l. binding uri l back) (sym q) ∙ (bound ∙ sym stands)) in
      let r = risen terms uri (before ++ c ∷ []) mid now.version own.1 still now.is in
      let here : held terms uri front ≡ Some r.version = ap (held terms uri) q ∙ r.held in
      let ks = kept terms uri front in
      let rule : show_rule terms.line_ends n t ks (Some r.version) ≡ None =
      subst (λ o. show_rule terms.line_ends n t ks o ≡ None) here parts.1.0 in
      elim (subst (λ l. (held terms uri l ≡ Some now.version)
      ⊎ Among now.version (past terms uri l)) (sym q)
      (was-held terms uri (before ++ c ∷ []) mid now.version own.1 still (inl now.is))) [
        | inl same ↦ has_held ks (held terms uri front)
            (ap (holds_number n) same ∙ (ap (λ m. int_eq m n) now.number ∙ int_eq_equiv.refl n))
        | inr m ↦
            let rising = past-rises-to terms uri front r.version parts.0 here in
            elim (among-last terms.kept (past terms uri front) (r.version ∷ []) now.version rising
            m) [
              | inl k ↦ has_kept ks (held terms uri front)
                  (among-any (is_at n) now.version ks k
                  (ap (λ m. int_eq m n) now.number ∙ int_eq_equiv.refl n))
              | inr below ↦ absurd (shown-late terms.line_ends n t ks r.version rule now.version
                  below (among-below (past terms uri front) now.version r.version rising m)
                  now.number)
            ]
      ]
    where
      has_held : (ks : List Version) (o : Option Version) → holds_number n o ≡ true
          → has_number n ks o ≡ true
      has_held ks o e = ap (λ b. list_any (is_at n) ks || b) e ∙ or-true (list_any (is_at n) ks)

      has_kept : (ks : List Version) (o : Option Version) → list_any (is_at n) ks ≡ true
          → has_number n ks o ≡ true
      has_kept ks o e = ap (λ b. b || holds_number n o) e

  pub no-setter : is_compared terms front uri n back ≡ false → (place : ℕ)
      → binding uri front back ≡ Some place → IsSet uri n (front ++ s ∷ back) place → ⊥
  no-setter none place bound set =
      go (cuts set.before (set.call ∷ set.after) front s back (sym set.whole))
    where
      inside : (mid : List Call) → front ≡ set.before ++ mid
          → set.call ∷ set.after ≡ mid ++ s ∷ back → ⊥
      inside [] p q =
          let same : set.call ≡ s = cc q in
          true≢false (sym set.comes ∙ ap (sets uri n) same)
      inside (x ∷ mid) p q =
          let same : set.call ≡ x = cc q in
          let cut : front ≡ (set.before ++ set.call ∷ []) ++ mid =
          p ∙ (ap (λ c. set.before ++ c ∷ mid) (sym same)
          ∙ sym (append_assoc set.before (set.call ∷ []) mid)) in
          or_false_parts (has_number n (kept terms uri front) (held terms uri front))
          (comes_to uri n back) none
          (inl (set_ahead place set.before mid set.call cut set.comes bound set.stands))

      go : Cuts set.before (set.call ∷ set.after) front s back → ⊥
      go (earlier mid p q) =
          or_false_parts (has_number n (kept terms uri front) (held terms uri front))
          (comes_to uri n back) none
          (inr (set_behind place mid set.call set.after q set.comes bound
          (ap (λ l. standing uri (l ++ set.call ∷ [])) (sym p) ∙ set.stands)))
      go (later mid p q) = inside mid p q
