-- What is said of a document by a message that breaks a rule on documents.
use Rattle.std.proofs.Common.{◌≡◌, ◌≤◌, ℕ, List, Option, Some, None, false, refl, sym, ap, ◌∙◌}
use Rattle.std.proofs.Common.{subst, arith, ◌⊎◌, Bool, true, cond, ◌&&◌, ◌||◌, [], ◌∷◌, ◌++◌, length}
use Rattle.std.proofs.Common.{Result, Ok, Err, inl, inr, true≢false}
use Rattle.std.specs.Prelude.{option_and_then, ℤ, int_lt, not, if◌then◌else◌, slice_get}
use Rattle.std.specs.Prelude.{option_to_list}
use Rattle.std.specs.Option.{option_or, option_map}
use Rattle.std.proofs.lemmas.Bool.Decides.{nat_tests}
use Rattle.std.proofs.lemmas.Option.{same_Some}
use Rattle.std.specs.List.{find, list_any, list_all}
use Rattle.std.specs.Ordering.{int_eq}
use Rattle.std.proofs.lemmas.Slice.Eq.{bytes_eq-Decides}
use Rattle.std.proofs.lemmas.List.Folds.{list_any-append}
use Rattle.std.proofs.lemmas.Bool.{cases_Bool, and_parts}
use Rattle.std.proofs.Math.Bool.{or-false}
use Rattle.lsp_replay.specs.Common.{applied, AreTriedOn, Call, call_at, call_rule, calls}
use Rattle.lsp_replay.specs.Common.{change_rule, changed, changes, compared, differs, Edit}
use Rattle.lsp_replay.specs.Common.{Encoding, Event, held, is_after, IsMade, LineEnds, message}
use Rattle.lsp_replay.specs.Common.{offence, other_than, same_text, SameText, Sent, sent_in, shows}
use Rattle.lsp_replay.specs.Common.{SyncKind, Terms, text_rule, Version, versioned}
use Rattle.lsp_docs.specs.Calls.{Text}
use Rattle.lsp_docs.specs.Rules.{fits_kind, show_rule}
use Rattle.lsp_docs.specs.Rules.{differs_from, text_at}
use Rattle.lsp_docs.specs.Tried.{Made, IsRejected}
use Rattle.lsp_docs.specs.Snapshots.{kept, texts_at}
use Rattle.lsp_docs.specs.State as docs
use Rattle.lsp_docs.proofs.SameVersions.{differs-texts}
use Rattle.lsp_docs.proofs.Others.{held-at}
use Rattle.lsp_session.proofs.LeastRuleLemmas.{rules_end}
use Rattle.lsp_session.specs.Rules.{rule_after}
use Rattle.lsp_verdict.specs.Verdict.{document_rule}
use Rattle.lsp_facts.specs.DocumentFacts.{AreOfChange, AreOfRule, IsRefused}
use Rattle.lsp_facts.specs.Fact.{Fact}
use Rattle.lsp_facts.specs.Refuting.{first_other, is_other}
use Rattle.lsp_facts.specs.TwoTexts.{is_of_texts}
use Rattle.lsp_facts.proofs.MadeChanges.{fails_there, makes_all}

-- the message says something of a document that breaks the rule
pub record BreaksCall (terms : Terms) (kept : List Event) (m : Sent) (rule : ℕ) : Type 0 where
  pub call : Call
  pub says : call_at kept (message m) ≡ Some call
  pub breaks : call_rule terms (calls kept) call ≡ Some rule

by_call : (terms : Terms) (kept : List Event) (m : Sent) (rule : ℕ) (said : Option Call) → call_at kept (message m) ≡ said → option_and_then (call_rule terms (calls kept)) said ≡ Some rule → BreaksCall terms kept m rule
by_call terms kept m rule None is e = absurd cc
by_call terms kept m rule (Some call) is e = record { call = call; says = is; breaks = e }

by_rule : (terms : Terms) (kept : List Event) (m : Sent) (rule : ℕ) → 601 ≤ rule → (o : Option ℕ) → rule_after (sent_in kept) m ≡ o → option_or o (document_rule terms kept (message m)) ≡ Some rule → BreaksCall terms kept m rule
by_rule terms kept m rule least (Some r) is e =
    let same : r ≡ rule = same_Some r rule e in
    let below = rules_end (sent_in kept) m r is in
    absurd (omega (arith, same, below, least))
by_rule terms kept m rule least None is e = by_call terms kept m rule (call_at kept (message m)) refl e

pub breaks_call : (terms : Terms) (kept : List Event) (m : Sent) (rule : ℕ) → 601 ≤ rule → offence terms kept (message m) ≡ Some rule → BreaksCall terms kept m rule
breaks_call terms kept m rule least e = by_rule terms kept m rule least (rule_after (sent_in kept) m) refl e

pub same_number : (a b : ℕ) → (let o : Option ℕ = Some a in o) ≡ Some b → a ≡ b
same_number a b h = cc

-- ---- texts that differ

find_passes : {X : Type 0} (p : X → Bool) (xs : List X) (x : X) → find p xs ≡ Some x → p x ≡ true
find_passes p [] x h = absurd (cc)
find_passes p (y ∷ ys) x h =
    elim (cases_Bool (p y)) [
      | inl e ↦ (let at : cond (p y) (Some y) (find p ys) ≡ Some y = rw e refl in let same : y ≡ x = (let k : Some y ≡ Some x = sym at ∙ h in cc) in ap p (sym same) ∙ e)
      | inr e ↦ (let at : cond (p y) (Some y) (find p ys) ≡ find p ys = rw e refl in find_passes p ys x (sym at ∙ h))
    ]

find_some : {X : Type 0} (p : X → Bool) (xs : List X) → list_any p xs ≡ true → (x : X) × (find p xs ≡ Some x)
find_some p [] h = absurd (true≢false (sym h))
find_some p (y ∷ ys) h =
    elim (cases_Bool (p y)) [
      | inl e ↦ (y, rw e refl)
      | inr e ↦ (let more : list_any p ys ≡ true = rw e at h in let r = find_some p ys more in (r.0, rw e r.1))
    ]

-- two texts are not the same
abbrev pub IsOther : LineEnds → Text → Text → Type 0
IsOther ends t u = SameText ends t u → ⊥

not_same : (ends : LineEnds) (t u : Text) → not (same_text ends t u) ≡ true → IsOther ends t u
not_same ends t u other = λ e.
    true≢false (sym other ∙ ap not ((bytes_eq-Decides (compared ends t) (compared ends u)).1 e))

differ_apart : (ends : LineEnds) (v s : Version) → differs ends v s ≡ true
    → IsOther ends v.text s.text
differ_apart ends v s h =
    not_same ends v.text s.text
    (and_parts (int_eq v.number s.number) (not (same_text ends v.text s.text)) h).1

taken_apart : (ends : LineEnds) (s : Version) (o : Option Version) (t : Text)
    → ((v : Version) → o ≡ Some v → differs ends v s ≡ true)
    → option_map (λ (v : Version). v.text) o ≡ Some t → IsOther ends t s.text
taken_apart ends s None t h e = absurd (cc)
taken_apart ends s (Some v) t h e = λ same.
    let is : v.text ≡ t = (let k : Some v.text ≡ Some t = e in cc) in
    differ_apart ends v s (h v refl) (ap (compared ends) is ∙ same)

-- the text that is held or kept of a snapshot's version is another
pub other_apart : (ends : LineEnds) (s : Version) (ks : List Version) (h : Option Version)
    (t : Text) → other_than ends s ks h ≡ Some t → IsOther ends t s.text
other_apart ends s ks h t e =
    taken_apart ends s (find (differs_from ends s) (ks ++ option_to_list h)) t
    (λ v k. find_passes (differs_from ends s) (ks ++ option_to_list h) v k) e

-- a text that is another one
pub waiting_apart : (ends : LineEnds) (t u : Text) (us : List Text)
    → first_other ends t us ≡ Some u → IsOther ends t u
waiting_apart ends t u us h = not_same ends t u (find_passes (is_other ends t) us u h)

-- where a snapshot differs, a text is another one
pub waiting_some : (ends : LineEnds) (v : Version) (ws : List Version)
    → list_any (differs ends v) ws ≡ true
    → (u : Text) × (first_other ends v.text (texts_at v.number ws) ≡ Some u)
waiting_some ends v ws any =
    find_some (is_other ends v.text) (texts_at v.number ws) (sym (differs-texts ends v ws) ∙ any)

-- ---- snapshots

row_breaks : (b c : Bool) (rule : ℕ) → (if b then Some 701 else (if c then Some 702 else None)) ≡ Some rule → (rule ≡ 701) ⊎ ((rule ≡ 702) × (c ≡ true))
row_breaks true c rule h = inl (sym (same_number 701 rule h))
row_breaks false true rule h = inr (sym (same_number 702 rule h), refl)
row_breaks false false rule h = absurd (cc)

some_text : (o : Option Version) (v : Version) → o ≡ Some v → option_map (λ (w : Version). w.text) o ≡ Some v.text
some_text o v h = ap (option_map (λ (w : Version). w.text)) h

-- what refuses a snapshot: 701, or 702 with a text that is held or kept
pub show_breaks : (ends : LineEnds) (number : ℤ) (t : Text) (ks : List Version)
    (h : Option Version) (rule : ℕ) → show_rule ends number t ks h ≡ Some rule
    → (rule ≡ 701)
    ⊎ ((rule ≡ 702) × (u : Text) × (other_than ends (versioned number t) ks h ≡ Some u))
show_breaks ends number t ks None rule e = absurd (cc)
show_breaks ends number t ks (Some v) rule e =
    let s = versioned number t in
    let from = differs_from ends s in
    elim (row_breaks (list_all (is_after number) ks && int_lt number v.number)
    (list_any (λ w. differs ends w s) ks || differs ends v s) rule e) [
      | inl is ↦ inl is
      | inr is ↦ (
          let some : list_any (differs_from ends s) (ks ++ v ∷ []) ≡ true =
          list_any-append (differs_from ends s) ks (v ∷ [])
          ∙ (ap (λ b. list_any (differs_from ends s) ks || b) (or-false (differs ends v s))
          ∙ is.1) in
          let found = find_some (differs_from ends s) (ks ++ v ∷ []) some in
          inr (is.0, found.0.text, some_text (find from (ks ++ v ∷ [])) found.0 found.1)
          )
    ]

-- the one of its number
pub shown_other : (d : docs.State) (calls : List Call) → docs.Stands d calls → (uri : List ℕ)
    (number : ℤ) (t : Text) (rule : ℕ) → (rule ≡ 701 → ⊥)
    → call_rule d.terms calls (shows uri number t) ≡ Some rule → (o : Option Text)
    → o ≡ text_at number (kept d.terms uri calls) (held d.terms uri calls)
    → o ≡ other_than d.terms.line_ends (versioned number t) (kept d.terms uri calls)
    (held d.terms uri calls)
shown_other d calls stands uri number t rule no701 e o is =
    let ends = d.terms.line_ends in
    let ks = kept d.terms uri calls in
    let h = held d.terms uri calls in
    elim (show_breaks ends number t ks h rule e) [
      | inl late ↦ absurd (no701 late)
      | inr found ↦ is ∙ held-at d.terms uri calls ends number t found.1 stands.accepted found.2
          ∙ sym found.2
    ]

-- ---- changes

later_rule : (b c : Bool) (o : Option ℕ) (rule : ℕ) → (rule ≡ 603 → ⊥) → (rule ≡ 604 → ⊥) → (if b then Some 603 else (if c then Some 604 else (if true then o else None))) ≡ Some rule → o ≡ Some rule
later_rule true c o rule no603 no604 h = absurd (no603 (sym (same_number 603 rule h)))
later_rule false true o rule no603 no604 h = absurd (no604 (sym (same_number 604 rule h)))
later_rule false false o rule no603 no604 h = h

-- where neither 603 nor 604 is broken, no rule is that does not look at the text
early_row : (b c : Bool) (o : Option ℕ) (rule : ℕ) → (rule ≡ 603 → ⊥) → (rule ≡ 604 → ⊥)
    → (if b then Some 603 else (if c then Some 604 else (if true then o else None))) ≡ Some rule
    → (if b then Some 603 else (if c then Some 604 else (if true then None else None))) ≡ (let none : Option ℕ = None in none)
early_row true c o rule no603 no604 h = absurd (no603 (sym (same_number 603 rule h)))
early_row false true o rule no603 no604 h = absurd (no604 (sym (same_number 604 rule h)))
early_row false false o rule no603 no604 h = refl

pub early_none : (terms : Terms) (ws : List Version) (enc : Encoding) (kind : SyncKind)
    (number : ℤ) (cs : List Edit) (rule : ℕ) → (rule ≡ 603 → ⊥) → (rule ≡ 604 → ⊥)
    → (h : Option Version) (t : Text) → Some t ≡ option_map (λ (v : Version). v.text) h
    → change_rule terms ws enc kind number cs h ≡ Some rule
    → docs.early_rule kind number cs h ≡ None
early_none terms ws enc kind number cs rule no603 no604 None t holds e = absurd (cc)
early_none terms ws enc kind number cs rule no603 no604 (Some v) t holds e =
    early_row (not (int_lt v.number number)) (not (fits_kind kind cs))
    (text_rule terms.line_ends ws number (applied terms.limit enc v.text cs)) rule no603 no604 e

-- then the changes break it
pub text_breaks : (terms : Terms) (ws : List Version) (enc : Encoding) (kind : SyncKind)
    (number : ℤ) (cs : List Edit) (rule : ℕ) → (rule ≡ 603 → ⊥) → (rule ≡ 604 → ⊥)
    → (h : Option Version) (t : Text) → Some t ≡ option_map (λ (v : Version). v.text) h
    → change_rule terms ws enc kind number cs h ≡ Some rule
    → text_rule terms.line_ends ws number (applied terms.limit enc t cs) ≡ Some rule
text_breaks terms ws enc kind number cs rule no603 no604 None t holds e = absurd (cc)
text_breaks terms ws enc kind number cs rule no603 no604 (Some v) t holds e =
    let same : v.text ≡ t = (let k : Some t ≡ Some v.text = holds in cc) in
    ap (λ (x : Text). text_rule terms.line_ends ws number (applied terms.limit enc x cs)) (sym same)
    ∙ later_rule (not (int_lt v.number number)) (not (fits_kind kind cs))
    (text_rule terms.line_ends ws number (applied terms.limit enc v.text cs)) rule no603 no604 e

pub version_breaks : (b : Bool) (rule : ℕ) → (if b then Some 702 else None) ≡ Some rule → (rule ≡ 702) × (b ≡ true)
version_breaks true rule h = (sym (same_number 702 rule h), refl)
version_breaks false rule h = absurd (cc)

-- ---- the facts on a change

module _ (terms : Terms) (ws ks : List Version) (enc : Encoding) (kind : SyncKind)
    (uri : List ℕ) (number : ℤ) (cs : List Edit) (rule : ℕ) (facts : List Fact) where
  abbrev Says : Option Version → Type 0
  Says h = AreOfRule terms.limit h ks (changes enc kind uri number cs) rule facts

  -- of no text
  pub of_none : (h : Option Version) → None ≡ option_map (λ (v : Version). v.text) h → facts ≡ []
      → Says h
  of_none None holds are = are
  of_none (Some v) holds are = absurd (cc)

  -- of a text that is held
  pub of_text : (h : Option Version) (t : Text) → Some t ≡ option_map (λ (v : Version). v.text) h
      → AreOfChange terms.limit enc kind t cs rule facts → Says h
  of_text None t holds says = absurd (cc)
  of_text (Some v) t holds says =
      let same : t ≡ v.text = (let k : Some t ≡ Some v.text = holds in cc) in
      subst (λ (x : Text). AreOfChange terms.limit enc kind x cs rule facts) same says

  module _ (n : ℕ) (text : Text) (no603 : rule ≡ 603 → ⊥) (no604 : rule ≡ 604 → ⊥)
      (h : Option Version) (t : Text) (holds : Some t ≡ option_map (λ (v : Version). v.text) h)
      (e : change_rule terms ws enc kind number cs h ≡ Some rule)
      (tried : docs.early_rule kind number cs h ≡ None → IsMade terms.limit enc t cs n text) where
    made : IsMade terms.limit enc t cs n text
    made = tried (early_none terms ws enc kind number cs rule no603 no604 h t holds e)

    broken : text_rule terms.line_ends ws number (applied terms.limit enc t cs) ≡ Some rule
    broken = text_breaks terms ws enc kind number cs rule no603 no604 h t holds e

    -- a change fails
    pub change_fails : (edit : Edit) → slice_get cs n ≡ Some edit
        → (changed enc text edit.span edit.text terms.limit ≡ Err rule
        → IsRefused terms.limit enc text n edit rule facts) → Says h
    change_fails edit here explained =
        let next : IsRejected terms.limit enc text (Some edit) =
        subst (IsRejected terms.limit enc text) here made.next in
        let all : applied terms.limit enc t cs ≡ Err next.0 =
        fails_there terms.limit enc t cs n text edit next.0 made.made here next.1 in
        let same : next.0 ≡ rule = same_number next.0 rule
        (sym (ap (text_rule terms.line_ends ws number) all) ∙ broken) in
        let failed : changed enc text edit.span edit.text terms.limit ≡ Err rule =
        next.1 ∙ ap (λ (x : ℕ). let r : Result Text ℕ = Err x in r) same in
        of_text h t holds (inr (inr (record {
          n = n;
          text = text;
          made = made.made;
          edit = edit;
          here = here;
          failed = failed;
          refused = explained failed;
        })))

    -- all can be made only where a snapshot refutes what they make
    pub all_made : length cs ≤ n → is_of_texts rule ≡ false → Says h
    all_made le other =
        let all : applied terms.limit enc t cs ≡ Ok text =
        makes_all terms.limit enc t cs n text made le in
        let breaks = version_breaks (list_any (differs terms.line_ends (versioned number text)) ws)
        rule (sym (ap (text_rule terms.line_ends ws number) all) ∙ broken) in
        absurd (true≢false (ap is_of_texts (sym breaks.0) ∙ other))

-- ---- a rule that compares two texts

-- a rule that is not one of those
pub not_this : (rule n : ℕ) → is_of_texts n ≡ false → rule ≡ n → is_of_texts rule ≡ true → ⊥
not_this rule n other is of = true≢false (sym of ∙ ap is_of_texts is ∙ other)

-- what was tried of changes under such a rule
pub tried_change : (terms : Terms) (ws : List Version) (enc : Encoding) (kind : SyncKind)
    (number : ℤ) (cs : List Edit) (rule : ℕ) (tried : Option Made) (h : Option Version)
    → is_of_texts rule ≡ true → change_rule terms ws enc kind number cs h ≡ Some rule
    → (docs.early_rule kind number cs h ≡ None → AreTriedOn terms.limit enc h cs tried)
    → AreTriedOn terms.limit enc h cs tried
tried_change terms ws enc kind number cs rule tried None of e told = tt
tried_change terms ws enc kind number cs rule tried (Some v) of e told =
    told (early_none terms ws enc kind number cs rule (λ is. not_this rule 603 refl is of)
    (λ is. not_this rule 604 refl is of) (Some v) v.text refl e)

-- a rule that compares two texts is one on documents
pub texts_least : (rule : ℕ) → is_of_texts rule ≡ true → 608 ≤ rule
texts_least rule of = grind (arith, nat_tests)
