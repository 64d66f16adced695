-- What is held of the text from which one document may have drifted, with one change or text more.
use Rattle.std.specs.Prelude.{ℤ, int_lt, if◌then◌else◌, MatchOption}
use Rattle.std.specs.List.{find, list_all}
use Rattle.std.specs.Option.{option_or}
use Rattle.std.proofs.Common.{◌≡◌, ◌⊎◌, Bool, true, false, List, [], ◌∷◌, ◌++◌, Option, Some, None}
use Rattle.std.proofs.Common.{refl, sym, ap, ◌∙◌, arith, append_assoc, inl, inr, subst, true≢false}
use Rattle.std.proofs.lemmas.Bool.{and_parts}
use Rattle.std.proofs.lemmas.Int.{ints}
use Rattle.std.proofs.lemmas.List.Folds.{find-append}
use Rattle.std.proofs.lemmas.Option.{none-some, same_Some}
use Rattle.lsp_docs.proofs.Words.{int_is, less_behind}
use Rattle.lsp_docs.specs.Calls.{Text}
use Rattle.lsp_replay.specs.Common.{has_number, is_after, is_at, rises, Terms, Version}
use Rattle.lsp_trail.specs.Bases.{AddedBy, AddsTo, Begins, HoldsBase, HoldsFrom, HoldsMore}
use Rattle.lsp_trail.specs.Bases.{IsNewBase, MayBeEqual, Outgrows, base_in, later, numbered}
use Rattle.lsp_trail.specs.SentEdits.{SentEdits, are_few}
use Rattle.lsp_trail.specs.Bases as spec
use Rattle.lsp_trail.specs.declared.base.Base.{Base}
use Rattle.lsp_trail.specs.declared.mark.VersionEvent.{VersionEvent}
use Rattle.lsp_trail.proofs.LaterChanges.{AreRising, AreWithin, few-later, itself, later-append}
use Rattle.lsp_trail.proofs.LaterChanges.{later_all, later_behind, later_last, later_with}
use Rattle.lsp_trail.proofs.LaterChanges.{many-back, many-front, not_before, reaches}

-- ---- the version from which a document may have drifted

pub found_passes : (p q : Version → Bool) (vs : List Version) (w : Version) → list_all p vs ≡ true
    → find q vs ≡ Some w → p w ≡ true
found_passes p q [] w all found = absurd (none-some w found)
found_passes p q (v ∷ vs) w all found =
    by_test (q v) refl (found_passes p q vs w (and_parts (p v) (list_all p vs) all).1)
  where
    by_test : (b : Bool) → q v ≡ b → (find q vs ≡ Some w → p w ≡ true) → p w ≡ true
    by_test true passes rest =
        let own : Some v ≡ Some w =
        sym (ap (λ (b : Bool). if b then Some v else find q vs) passes) ∙ found in
        ap p (sym (same_Some v w own)) ∙ (and_parts (p v) (list_all p vs) all).0
    by_test false fails rest =
        rest (sym (ap (λ (b : Bool). if b then Some v else find q vs) fails) ∙ found)

pub found_is : (q : Version → Bool) (vs : List Version) (w : Version) → find q vs ≡ Some w
    → q w ≡ true
found_is q [] w found = absurd (none-some w found)
found_is q (v ∷ vs) w found = by_test (q v) refl (found_is q vs w)
  where
    by_test : (b : Bool) → q v ≡ b → (find q vs ≡ Some w → q w ≡ true) → q w ≡ true
    by_test true passes rest =
        let own : Some v ≡ Some w =
        sym (ap (λ (b : Bool). if b then Some v else find q vs) passes) ∙ found in
        ap q (sym (same_Some v w own)) ∙ passes
    by_test false fails rest =
        rest (sym (ap (λ (b : Bool). if b then Some v else find q vs) fails) ∙ found)

-- one of the last of those that rise is the first of its number
pub numbered-last : (xs ys : List Version) (n : ℤ) (w : Version) → rises (xs ++ ys) ≡ true
    → numbered ys n ≡ Some w → numbered (xs ++ ys) n ≡ Some w
numbered-last [] ys n w rise found = found
numbered-last (x ∷ xs) ys n w rise found =
    by_test (is_at n x) refl (numbered-last xs ys n w (parts rise).1 found)
  where
    parts : rises (x ∷ xs ++ ys) ≡ true
        → (list_all (is_after x.number) (xs ++ ys) ≡ true) × (rises (xs ++ ys) ≡ true)
    parts all = and_parts (list_all (is_after x.number) (xs ++ ys)) (rises (xs ++ ys)) all

    by_test : (b : Bool) → is_at n x ≡ b → numbered (xs ++ ys) n ≡ Some w
        → (if b then Some x else find (is_at n) (xs ++ ys)) ≡ Some w
    by_test true here rest =
        let behind : int_lt x.number w.number ≡ true =
        found_passes (is_after x.number) (is_at n) (xs ++ ys) w (parts rise).0 rest in
        let same : x.number ≡ w.number =
        int_is x.number n here
        ∙ sym (int_is w.number n (found_is (is_at n) (xs ++ ys) w rest)) in
        absurd (true≢false (sym behind ∙ ap (int_lt x.number) (sym same) ∙ itself x.number))
    by_test false other rest = rest

pub numbered-front : (xs ys : List Version) (n : ℤ) (w : Version) → numbered xs n ≡ Some w
    → numbered (xs ++ ys) n ≡ Some w
numbered-front xs ys n w found =
    find-append (is_at n) xs ys ∙ ap (λ (o : Option Version). option_or o (find (is_at n) ys)) found

-- it stays with one version more
pub base_stays : (equal : Option VersionEvent) (xs : List Version) (v base : Version)
    → base_in equal xs ≡ Some base → base_in equal (xs ++ v ∷ []) ≡ Some base
base_stays (Some shown) xs v base is = numbered-front xs (v ∷ []) shown.version base is
base_stays None [] v base is = absurd (none-some base is)
base_stays None (x ∷ xs) v base is = numbered-front (x ∷ xs) (v ∷ []) x.number base is

-- ---- the same of what is held

above-later : (n : ℤ) (sent : List SentEdits) (front : List SentEdits) (last : SentEdits)
    (behind : List SentEdits) → later n sent ≡ front ++ last ∷ behind
    → int_lt n last.number ≡ true
above-later n [] [] last behind is = absurd (cc is)
above-later n [] (x ∷ front) last behind is = absurd (cc is)
above-later n (s ∷ sent) front last behind is =
    by_test (int_lt n s.number) refl front is
    (λ (f : List SentEdits). above-later n sent f last behind)
  where
    by_test : (b : Bool) → int_lt n s.number ≡ b → (f : List SentEdits)
        → (if b then s ∷ later n sent else later n sent) ≡ f ++ last ∷ behind
        → ((g : List SentEdits) → later n sent ≡ g ++ last ∷ behind → int_lt n last.number ≡ true)
        → int_lt n last.number ≡ true
    by_test true p [] e rest =
        let same : s ≡ last = cc e in
        ap (λ (x : SentEdits). int_lt n x.number) (sym same) ∙ p
    by_test true p (x ∷ f) e rest =
        let same : later n sent ≡ f ++ last ∷ behind = cc e in
        rest f same
    by_test false p f e rest = rest f e

within_mid : (n : ℤ) (before : List SentEdits) (s : SentEdits) (behind : List SentEdits)
    → AreWithin n (before ++ s ∷ behind) → int_lt n s.number ≡ false
within_mid n [] s behind within = within.0
within_mid n (x ∷ before) s behind within = within_mid n before s behind within.1

-- the base is no later than the changes that are held
pub base_first : (number since : ℤ) (o : Option Text) (t : Text)
    → MatchOption o (int_lt number since ≡ true) (λ u. (since ≡ number) × (u ≡ t))
    → int_lt since number ≡ false
base_first number since None t is = less_behind since number is
base_first number since (Some u) t is = ap (λ n. int_lt n number) is.0 ∙ itself number

-- a later change comes after it
base_before : (number since own : ℤ) → int_lt since number ≡ false → int_lt since own ≡ true
    → int_lt number own ≡ true
base_before number since own first less = grind (arith, ints)

-- ---- one change more

-- this was held of a document, which is changed so
module _ (terms : Terms) (base v w : Version) (kept now : List Version) (all : List SentEdits)
    (more : SentEdits) (rise : AreRising (all ++ more ∷ [])) (number : w.number ≡ more.number)
    (within : AreWithin w.number (all ++ more ∷ [])) (less : int_lt v.number more.number ≡ true)
    (kept_less : (n : ℤ) → has_number n now (Some w) ≡ true
    → (n ≡ more.number) ⊎ (has_number n kept (Some v) ≡ true)) where
  -- those of a version before it were not few, nor are they with it
  many_more : (n : ℤ) → are_few (later n all) ≡ false → are_few (later n (all ++ more ∷ [])) ≡ false
  many_more n many =
      ap are_few (later-append n all (more ∷ []))
      ∙ many-front (later n all) (later n (more ∷ [])) many

  module _ (b new : Base) (holds : HoldsBase base kept v all b) where
    behind_since : int_lt b.since more.number ≡ true
    behind_since = not_before b.since v.number more.number holds.within less

    with_all : spec.sent_in b ++ more ∷ [] ≡ later b.since (all ++ more ∷ [])
    with_all =
        ap (λ (l : List SentEdits). l ++ more ∷ []) holds.sent
        ∙ ap (λ (l : List SentEdits). later b.since all ++ l)
        (sym (later_all b.since (more ∷ []) (behind_since, tt)))
        ∙ sym (later-append b.since all (more ∷ []))

    held_more : are_few (spec.sent_in new) ≡ true → HoldsMore more b new
        → HoldsBase base now w (all ++ more ∷ []) new
    held_more few stays = record {
      few = few;
      sent = stays.sent ∙ with_all ∙ ap (λ n. later n (all ++ more ∷ [])) (sym stays.since);
      within = ap (int_lt w.number) stays.since ∙ ap (λ n. int_lt n b.since) number
          ∙ less_behind more.number b.since behind_since;
      text = subst (λ o. MatchOption o (int_lt base.number new.since ≡ true)
          (λ t. (new.since ≡ base.number) × (t ≡ base.text))) (sym stays.text)
          (subst (λ n. MatchOption (spec.text_in b) (int_lt base.number n ≡ true)
          (λ t. (n ≡ base.number) × (t ≡ base.text))) (sym stays.since) holds.text);
      since_base = λ h. many_more base.number
          (holds.since_base (ap (int_lt base.number) (sym stays.since) ∙ h));
      since_others = λ n may h. by_number n may (ap (int_lt n) (sym stays.since) ∙ h)
          (kept_less n may.1);
    }
      where
        by_number : (n : ℤ) → MayBeEqual base now w n → int_lt n b.since ≡ true
            → (n ≡ more.number) ⊎ (has_number n kept (Some v) ≡ true)
            → are_few (later n (all ++ more ∷ [])) ≡ false
        by_number n may h (inl own) =
            absurd (true≢false (sym h ∙ ap (λ m. int_lt m b.since) own
            ∙ less_behind more.number b.since behind_since))
        by_number n may h (inr old) = many_more n (holds.since_others n (may.0, old) h)

    held_less : are_few (spec.sent_in new) ≡ true → Outgrows more b new
        → HoldsBase base now w (all ++ more ∷ []) new
    held_less few gone =
        let behind = spec.sent_in new in
        let cut = later_last b.since (all ++ more ∷ []) rise in
        let part : later b.since (all ++ more ∷ []) ≡ gone.front ++ gone.last ∷ behind =
        sym with_all ∙ gone.all in
        let whole : all ++ more ∷ [] ≡ (cut.0 ++ gone.front) ++ gone.last ∷ behind =
        cut.1 ∙ ap (λ (l : List SentEdits). cut.0 ++ l) part
        ∙ sym (append_assoc cut.0 gone.front (gone.last ∷ behind)) in
        let rises_so = subst AreRising whole rise in
        let own : int_lt b.since gone.last.number ≡ true =
        above-later b.since (all ++ more ∷ []) gone.front gone.last behind part in
        let later_many : (n : ℤ) → int_lt n gone.last.number ≡ true
        → are_few (later n (all ++ more ∷ [])) ≡ false =
        λ n h. ap (λ l. are_few (later n l)) whole
        ∙ ap are_few (later_with (cut.0 ++ gone.front) gone.last behind rises_so n h)
        ∙ many-back (later n (cut.0 ++ gone.front)) (gone.last ∷ behind) gone.many in
        record {
          few = few;
          sent = sym (later_behind (cut.0 ++ gone.front) gone.last behind rises_so)
              ∙ ap (later gone.last.number) (sym whole)
              ∙ ap (λ n. later n (all ++ more ∷ [])) (sym gone.since);
          within = ap (int_lt w.number) gone.since
              ∙ within_mid w.number (cut.0 ++ gone.front) gone.last behind
              (subst (AreWithin w.number) whole within);
          text = subst (λ o. MatchOption o (int_lt base.number new.since ≡ true)
              (λ t. (new.since ≡ base.number) × (t ≡ base.text))) (sym gone.text)
              (ap (int_lt base.number) gone.since
              ∙ base_before base.number b.since gone.last.number
              (base_first base.number b.since (spec.text_in b) base.text holds.text) own);
          since_base = λ h. later_many base.number (ap (int_lt base.number) (sym gone.since) ∙ h);
          since_others = λ n may h. later_many n (ap (int_lt n) (sym gone.since) ∙ h);
        }

    held_added : AddsTo more b new → HoldsBase base now w (all ++ more ∷ []) new
    held_added adds =
        elim adds.how [
          | inl stays ↦ held_more adds.few stays
          | inr gone ↦ held_less adds.few gone
        ]

  -- **what is held with one change more**
  pub held_changed : (old new : Option Base) → (now ≡ [] → terms.kept ≡ 0)
      → HoldsFrom terms base kept v all old → AddedBy more now old new
      → HoldsFrom terms base now w (all ++ more ∷ []) new
  held_changed None new none_kept holds added =
      subst (HoldsFrom terms base now w (all ++ more ∷ [])) (sym added) (record {
        none_kept = holds.none_kept;
        many = many_more base.number holds.many;
      })
  held_changed (Some b) new none_kept holds (one, adds, inl is) =
      subst (HoldsFrom terms base now w (all ++ more ∷ [])) (sym is) (held_added b one holds adds)
  held_changed (Some b) new none_kept holds (one, adds, inr (is, lost, empty)) =
      let held = held_added b one holds adds in
      let gone : int_lt base.number one.since ≡ true =
      subst (λ o. MatchOption o (int_lt base.number one.since ≡ true)
      (λ t. (one.since ≡ base.number) × (t ≡ base.text))) lost held.text in
      subst (HoldsFrom terms base now w (all ++ more ∷ [])) (sym is) (record {
        none_kept = none_kept empty;
        many = held.since_base gone;
      })

-- ---- a text that is known

-- of this version, which is held or kept
module _ (base w v : Version) (kept : List Version) (all : List SentEdits) (n : ℤ) (t : Text)
    (number : w.number ≡ n) (text : w.text ≡ t) (within : int_lt v.number n ≡ false) where
  held_text : (b : Base) → b.since ≡ n → spec.text_in b ≡ Some t
      → MatchOption (spec.text_in b) (int_lt w.number b.since ≡ true)
      (λ u. (b.since ≡ w.number) × (u ≡ w.text))
  held_text b since is =
      subst (λ o. MatchOption o (int_lt w.number b.since ≡ true)
      (λ u. (b.since ≡ w.number) × (u ≡ w.text))) (sym is)
      (since ∙ sym number, sym text)

  none_before : (b : Base) → b.since ≡ n → (m : ℤ) → int_lt m w.number ≡ false
      → int_lt m b.since ≡ true → are_few (later m all) ≡ false
  none_before b since m first h =
      absurd (true≢false (sym h ∙ ap (int_lt m) (since ∙ sym number) ∙ first))

  -- nothing was held before
  pub held_first : (b : Base) → IsNewBase n t b → later n all ≡ [] → HoldsBase w kept v all b
  held_first b new none = record {
    few = ap are_few new.sent ∙ refl;
    sent = new.sent ∙ sym none ∙ ap (λ m. later m all) (sym new.since);
    within = ap (int_lt v.number) new.since ∙ within;
    text = held_text b new.since new.text;
    since_base = none_before b new.since w.number (itself w.number);
    since_others = λ m may. none_before b new.since m may.0;
  }

  -- these changes of it were held
  pub held_again : (old b : Base) → are_few (spec.sent_in old) ≡ true
      → later n (spec.sent_in old) ≡ later n all → Begins n t old b → HoldsBase w kept v all b
  held_again old b few same begins = record {
    few = ap are_few begins.sent ∙ few-later n (spec.sent_in old) few;
    sent = begins.sent ∙ same ∙ ap (λ m. later m all) (sym begins.since);
    within = ap (int_lt v.number) begins.since ∙ within;
    text = held_text b begins.since begins.text;
    since_base = none_before b begins.since w.number (itself w.number);
    since_others = λ m may. none_before b begins.since m may.0;
  }

-- ---- the base becomes a later version, after which changes are no longer held

pub held_moved : (base w v : Version) (kept : List Version) (all : List SentEdits) (b : Base)
    → int_lt w.number base.number ≡ false → has_number w.number kept (Some v) ≡ true
    → int_lt w.number b.since ≡ true → HoldsBase base kept v all b → HoldsBase w kept v all b
held_moved base w v kept all b later_one has early holds = record {
  few = holds.few;
  sent = holds.sent;
  within = holds.within;
  text = by_text (spec.text_in b) holds.text;
  since_base = holds.since_others w.number (later_one, has);
  since_others = λ m may. holds.since_others m
      (reaches base.number w.number m later_one may.0, may.1);
}
  where
    by_text : (o : Option Text)
        → MatchOption o (int_lt base.number b.since ≡ true)
        (λ t. (b.since ≡ base.number) × (t ≡ base.text))
        → MatchOption o (int_lt w.number b.since ≡ true)
        (λ t. (b.since ≡ w.number) × (t ≡ w.text))
    by_text None h = early
    by_text (Some t) h =
        absurd (true≢false (sym early ∙ ap (int_lt w.number) h.0 ∙ later_one))
