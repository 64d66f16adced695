-- A call that breaks 608 or 702 compares two texts, and they differ.
use Rattle.std.proofs.Common.{◌≡◌, ℕ, [], ◌∷◌, List, Option, length, ap, subst, ◌∙◌, ℤ, true, false}
use Rattle.std.proofs.Common.{Some, None, inl, inr, refl, sym, true≢false, Result, Ok, Err, arith, ◌≤◌}
use Rattle.std.proofs.lemmas.Option.{same_Some, none-some}
use Rattle.std.specs.Prelude.{codes, option_map, option_and_then, if◌then◌else◌, Bool, is_some}
use Rattle.std.specs.Prelude.{nat_lt, slice_get}
use Rattle.std.specs.List.{list_any}
use Rattle.std.specs.Result.{result_ok}
use Rattle.std.proofs.lemmas.Slice.Eq.{bytes_eq-Decides}
use Rattle.lsp_replay.specs.Common.{applied, byte_len, Call, call_rule, change_rule, changes}
use Rattle.lsp_replay.specs.Common.{closes, differs, Edit, Encoding, held, line_around}
use Rattle.lsp_replay.specs.Common.{line_before_place, LineEnds, opens, other_than, Position}
use Rattle.lsp_replay.specs.Common.{same_text, saves, shows, SyncKind, Terms, text_rule, Version}
use Rattle.lsp_replay.specs.Common.{versioned, versions_of, waiting}
use Rattle.lsp_text.specs.Difference.{DifferFirst, position_at}
use Rattle.lsp_text.proofs.Differing.Differences.{one_place}
use Rattle.lsp_text.specs.SameText.{compared as compared_text}
use Rattle.lsp_docs.specs.Calls.{Text}
use Rattle.lsp_docs.specs.Snapshots.{kept}
use Rattle.lsp_docs.specs.Rules.{save_rule, show_rule}
use Rattle.lsp_docs.specs.Rules.{version_rule}
use Rattle.lsp_facts.specs.DocumentFacts.{FindsDifference, AreOfDifference, differs_at, AreApart}
use Rattle.lsp_facts.specs.Fact.{Fact, counts_in, differing_codes, part_line, Part}
use Rattle.lsp_facts.specs.Fact.{part_around, part_at}
use Rattle.lsp_facts.specs.Refuting.{made_text}
use Rattle.lsp_facts.specs.TwoTexts.{TextsDiffer, TwoTexts, against, compared, is_of_texts}
use Rattle.lsp_facts.specs.TwoTexts.{recorded, texts_of, two_texts}
use Rattle.lsp_facts.proofs.DocumentRules.{IsOther, not_this, other_apart, same_number, show_breaks}
use Rattle.lsp_facts.proofs.DocumentRules.{text_breaks, texts_least, version_breaks, waiting_apart}
use Rattle.lsp_facts.proofs.DocumentRules.{waiting_some}
use Rattle.lsp_facts.proofs.FailingChanges.{fails_by}
use Rattle.lsp_facts.proofs.LinePlaces.{char_at_place}

-- the line of a text at the place where two texts first differ, and its front, found by themselves
pub part_there : (a b t x front : Text)
    → DifferFirst a b (λ n. x ≡ line_around t n)
    → DifferFirst a b (λ n. front ≡ line_before_place t n)
    → DifferFirst a b (λ n. part_at (length front) x ≡ part_around t n)
part_there a b t x front h k =
    let n = h.0 in
    let before : front ≡ line_before_place t n =
    k.2 ∙ ap (line_before_place t) (one_place a b k.0 n k.1 h.1) in (
      n,
      h.1,
      ap (λ (l : Text). part_at (length l) x) before
          ∙ ap (part_at (length (line_before_place t n))) h.2,
    )

-- and its character there
pub char_there : (a b t x front : Text)
    → DifferFirst a b (λ n. x ≡ line_around t n)
    → DifferFirst a b (λ n. front ≡ line_before_place t n)
    → DifferFirst a b (λ n. slice_get x (length front) ≡ slice_get t n)
char_there a b t x front h k =
    let n = h.0 in
    let before : front ≡ line_before_place t n =
    k.2 ∙ ap (line_before_place t) (one_place a b k.0 n k.1 h.1) in (
      n,
      h.1,
      ap (λ (l : Text). slice_get x (length l)) before
          ∙ ap (λ (l : Text). slice_get l (length (line_before_place t n))) h.2
          ∙ char_at_place t n,
    )

-- the facts on two texts that differ, the characters `x` and `y` there
abbrev pub apart_facts : Encoding → List ℕ → Position → Part → Part → Option ℕ → Option ℕ
    → List Fact
apart_facts enc key at p q x y =
    counts_in enc ∷ differs_at at ∷ part_line (codes "by-messages") p ∷ part_line key q
    ∷ differing_codes x y ∷ []

-- the same, each found by itself
pub are_apart : (enc : Encoding) (a b : Text) (key : List ℕ) (at : Position) (p q : Part)
    (x y : Option ℕ)
    → DifferFirst a b (λ n. at ≡ position_at enc a n)
    → DifferFirst a b (λ n. p ≡ part_around a n) → DifferFirst a b (λ n. q ≡ part_around b n)
    → DifferFirst a b (λ n. x ≡ slice_get a n) → DifferFirst a b (λ n. y ≡ slice_get b n)
    → AreOfDifference enc a b key (apart_facts enc key at p q x y)
are_apart enc a b key at p q x y h k l v w =
    let n = h.0 in
    let held : p ≡ part_around a n = k.2 ∙ ap (part_around a) (one_place a b k.0 n k.1 h.1) in
    let other : q ≡ part_around b n = l.2 ∙ ap (part_around b) (one_place a b l.0 n l.1 h.1) in
    let first : x ≡ slice_get a n = v.2 ∙ ap (slice_get a) (one_place a b v.0 n v.1 h.1) in
    let second : y ≡ slice_get b n = w.2 ∙ ap (slice_get b) (one_place a b w.0 n w.1 h.1) in
    (n, h.1, λ i. apart_facts enc key (h.2 i) (held i) (other i) (first i) (second i))

-- the same of texts that equal these
pub found_moved : (enc : Encoding) (key : List ℕ) (found : Option (List Fact)) (x y a b : Text)
    → x ≡ a → y ≡ b → FindsDifference enc x y key found → FindsDifference enc a b key found
found_moved enc key found x y a b p q told =
    subst (λ (v : Text). FindsDifference enc a v key found) q
    (subst (λ (u : Text). FindsDifference enc u y key found) p told)

-- the facts on texts that equal these
pub apart_moved : (enc : Encoding) (was_equal : Bool) (a ends : LineEnds) (t u other : Text)
    (k key : List ℕ) (facts : List Fact) → a ≡ ends → t ≡ u → k ≡ key → IsOther ends u other
    → (IsOther a t other → AreApart a enc was_equal t other k facts)
    → AreApart ends enc was_equal u other key facts
apart_moved enc was_equal a ends t u other k key facts p q r differ told =
    subst (λ (x : LineEnds). IsOther x u other → AreApart x enc was_equal u other key facts) p
    (subst (λ (x : Text). IsOther a x other → AreApart a enc was_equal x other key facts) q
    (subst (λ (x : List ℕ). IsOther a t other → AreApart a enc was_equal t other x facts) r told))
    differ

-- ---- what a call compares

-- there are two texts, which differ
abbrev Differ : LineEnds → Option TwoTexts → Type 0
Differ ends found =
    (texts : TwoTexts) × (found ≡ Some texts) × IsOther ends texts.by_messages texts.in_editor

close_breaks : (b : Bool) (rule : ℕ) → (if b then None else Some 602) ≡ Some rule → rule ≡ 602
close_breaks true rule e = absurd (cc)
close_breaks false rule e = sym (same_number 602 rule e)

module _ (terms : Terms) (before : List Call) (rule : ℕ) (of : is_of_texts rule ≡ true) where
  abbrev ends : LineEnds
  ends = terms.line_ends

  not_by : (n : ℕ) → is_of_texts n ≡ false → rule ≡ n → ⊥
  not_by n other is = not_this rule n other is of

  module _ (uri : List ℕ) where
    abbrev waits : List Version
    waits = versions_of uri (waiting terms before)

    against_differs : (v : Version) → version_rule ends waits v ≡ Some rule
        → Differ ends (against terms before uri v)
    against_differs v e =
        let breaks = version_breaks (list_any (differs ends v) waits) rule e in
        let other = waiting_some ends v waits breaks.1 in (
          two_texts v.text other.0,
          ap (option_map (two_texts v.text)) other.1,
          waiting_apart ends v.text other.0 _ other.1,
        )

    opening_differs : (v : Version) (b c : Bool)
        → (if b then Some 601
        else (if c then Some 607 else (if true then version_rule ends waits v else None)))
        ≡ Some rule → Differ ends (against terms before uri v)
    opening_differs v true c e = absurd (not_by 601 refl (sym (same_number 601 rule e)))
    opening_differs v false true e = absurd (not_by 607 refl (sym (same_number 607 rule e)))
    opening_differs v false false e = against_differs v e

    change_differs : (enc : Encoding) (kind : SyncKind) (number : ℤ) (cs : List Edit)
        (h : Option Version) → change_rule terms waits enc kind number cs h ≡ Some rule
        → Differ ends (option_and_then (against terms before uri)
        (option_map (versioned number) (made_text terms enc cs h)))
    change_differs enc kind number cs None e =
        absurd (not_by 602 refl (sym (same_number 602 rule e)))
    change_differs enc kind number cs (Some v) e =
        by_text (applied terms.limit enc v.text cs) refl
        (text_breaks terms waits enc kind number cs rule (not_by 603 refl) (not_by 604 refl)
        (Some v) v.text refl e)
      where
        by_text : (r : Result Text ℕ) → applied terms.limit enc v.text cs ≡ r
            → text_rule ends waits number r ≡ Some rule
            → Differ ends (option_and_then (against terms before uri)
            (option_map (versioned number) (result_ok r)))
        by_text (Err own) is broken =
            let fails = fails_by terms.limit enc v.text cs own is in
            let same : own ≡ rule = same_number own rule broken in
            let least : 608 ≤ rule = texts_least rule of in
            absurd (omega (arith, fails.1, same, least))
        by_text (Ok t) is broken = against_differs (versioned number t) broken

  saved_differs : (text : Option Text) (h : Option Version) → save_rule ends text h ≡ Some rule
      → Differ ends (option_and_then
      (λ t. recorded t (option_map (λ (v : Version). v.text) h)) text)
  saved_differs (Some t) (Some v) e = by_test (same_text ends v.text t) refl e
    where
      by_test : (b : Bool) → same_text ends v.text t ≡ b
          → (if b then None else Some 608) ≡ Some rule
          → Differ ends (Some (two_texts v.text t))
      by_test true is h = absurd cc
      by_test false is h = (
        two_texts v.text t,
        refl,
        λ same. true≢false (sym ((bytes_eq-Decides (compared_text ends v.text)
            (compared_text ends t)).1 same) ∙ is),
      )
  saved_differs _ _ e = absurd cc

  shown_differs : (number : ℤ) (text : Text) (ks : List Version) (h : Option Version)
      → show_rule ends number text ks h ≡ Some rule
      → Differ ends (recorded text (other_than ends (versioned number text) ks h))
  shown_differs number text ks h e =
      elim (show_breaks ends number text ks h rule e) [
        | inl late ↦ absurd (not_by 701 refl late)
        | inr found ↦ (
          two_texts found.1 text,
          ap (recorded text) found.2,
          other_apart ends (versioned number text) ks h found.1 found.2,
        )
      ]

  by_call : (call : Call) → call_rule terms before call ≡ Some rule
      → Differ ends (compared terms before call)
  by_call (opens uri number text) e = opening_differs uri (versioned number text)
      (is_some (held terms uri before)) (nat_lt terms.limit (byte_len text)) e
  by_call (changes enc kind uri number edits) e =
      change_differs uri enc kind number edits (held terms uri before) e
  by_call (closes uri) e =
      absurd (not_by 602 refl (close_breaks (is_some (held terms uri before)) rule e))
  by_call (saves uri text) e = saved_differs text (held terms uri before) e
  by_call (shows uri number text) e =
      shown_differs number text (kept terms uri before) (held terms uri before) e

-- **there are two, and they differ**
pub texts_differ : TextsDiffer
texts_differ terms before call rule of e = by_call terms before rule of call e

-- ---- the texts that are found

module _ (terms : Terms) (before : List Call) (call : Call) (rule : ℕ)
    (breaks : call_rule terms before call ≡ Some rule) where
  abbrev found : Bool → Option TwoTexts
  found b = if b then compared terms before call else None

  -- two that are found differ
  pub found_differ : (texts : TwoTexts) → texts_of terms before call rule ≡ Some texts
      → IsOther terms.line_ends texts.by_messages texts.in_editor
  found_differ texts is = by_test (is_of_texts rule) refl is
    where
      by_test : (b : Bool) → is_of_texts rule ≡ b → found b ≡ Some texts
          → IsOther terms.line_ends texts.by_messages texts.in_editor
      by_test true of e =
          let own = texts_differ terms before call rule of breaks in
          subst (λ (t : TwoTexts). IsOther terms.line_ends t.by_messages t.in_editor)
          (same_Some own.0 texts (sym own.1 ∙ e)) own.2
      by_test false of e = absurd cc

  -- there are none only where the rule compares none
  pub none_found : texts_of terms before call rule ≡ None → is_of_texts rule ≡ false
  none_found is = by_test (is_of_texts rule) refl is
    where
      by_test : (b : Bool) → is_of_texts rule ≡ b → found b ≡ None → is_of_texts rule ≡ false
      by_test true of e =
          let own = texts_differ terms before call rule of breaks in
          absurd (none-some own.0 (sym e ∙ own.1))
      by_test false of e = of
