-- The versions that an opening held before the present one.
use Rattle.std.proofs.Common.{◌≡◌, ◌⊎◌, Bool, true, false, ◌&&◌, ◌||◌, List, [], ◌∷◌, ◌++◌, refl}
use Rattle.std.proofs.Common.{sym, ap, ◌∙◌, subst, Option, Some, None, inl, inr, append_assoc}
use Rattle.std.proofs.Common.{append-nil, true≢false}
use Rattle.std.specs.Prelude.{ℤ, int_lt, not, is_some, if◌then◌else◌, option_map, option_to_list}
use Rattle.std.specs.List.{list_any}
use Rattle.std.specs.Option.{option_or}
use Rattle.std.specs.Str.{bytes_eq}
use Rattle.std.proofs.lemmas.Bool.{or_parts, cases_Bool, or_cases}
use Rattle.std.proofs.lemmas.List.Folds.{list_any-append}
use Rattle.std.proofs.lemmas.Option.{none-some}
use Rattle.lsp_docs.specs.Calls.{Text, Bytes, Call, opens, changes, closes, saves, shows, is_close}
use Rattle.lsp_docs.specs.Calls.{is_change}
use Rattle.lsp_docs.specs.Documents.{Terms, Version, versioned, is_at, opening, text_or, revised}
use Rattle.lsp_docs.specs.Documents.{held}
use Rattle.lsp_text.specs.Edits.{applied}
use Rattle.lsp_docs.specs.Snapshots.{past_entry, past_in, past, last_of, kept, is_ahead}
use Rattle.lsp_docs.specs.Snapshots.{holds_number, has_number, comes_to, is_compared}
use Rattle.lsp_docs.specs.Rules.{show_rule, call_rule, AreAcceptedFrom, AreAccepted}
use Rattle.lsp_docs.specs.Laws.{rises, held_rule}
use Rattle.lsp_docs.proofs.Words.{no_some, int_is, unchanged, uri_is, equal_behind, less_behind}
use Rattle.lsp_docs.proofs.HeldSteps.{next_held, held-snoc}
use Rattle.lsp_docs.proofs.WaitingSteps.{none_row, change_parts}
use Rattle.lsp_docs.proofs.Accepted.{next}
use Rattle.lsp_docs.proofs.Rising.{Among, among-front, among-back, among-split, among-drop}
use Rattle.lsp_docs.proofs.Rising.{among-below, any-among, rises-snoc, last-none, last-empty}
use Rattle.lsp_docs.proofs.Rising.{last-rises}

-- ---- one more call

-- what an opening held before the present version after one more call
abbrev pub next_past : Bytes → List Version → Option Version → Call → List Version
next_past uri ps h c = if is_close uri c then [] else
    ps ++ (if is_change uri c then option_to_list h else [])

pub close_changes : (uri : Bytes) (c : Call) → is_close uri c ≡ true → is_change uri c ≡ false
close_changes uri (changes enc k u n cs) h = absurd (true≢false (sym h))
close_changes uri _ h = refl

change_closes : (uri : Bytes) (c : Call) → is_change uri c ≡ true → is_close uri c ≡ false
change_closes uri (closes u) h = absurd (true≢false (sym h))
change_closes uri _ h = refl

entry_last : (cl ch : Bool) (xs : List Version) → (cl ≡ true → ch ≡ false)
    → (if ch && not false then xs else []) ++ [] ≡ (if cl then [] else (if ch then xs else []))
entry_last true true xs h = absurd (true≢false (h refl))
entry_last true false xs h = refl
entry_last false true xs h = append-nil xs
entry_last false false xs h = refl

entry_more : (ch l cl : Bool) (xs ys zs : List Version)
    → (if ch && not (l || (cl || false)) then xs else []) ++ (if cl then [] else ys ++ zs)
    ≡ (if cl then [] else ((if ch && not l then xs else []) ++ ys) ++ zs)
entry_more true true true xs ys zs = refl
entry_more true false false xs ys zs = sym (append_assoc xs ys zs)
entry_more false true true xs ys zs = refl
entry_more false false true xs ys zs = refl
entry_more _ _ _ xs ys zs = refl

past_in-snoc : (terms : Terms) (uri : Bytes) (before after : List Call) (c : Call)
    → past_in terms uri before (after ++ c ∷ [])
    ≡ next_past uri (past_in terms uri before after) (held terms uri (before ++ after)) c
past_in-snoc terms uri before [] c =
    entry_last (is_close uri c) (is_change uri c) (option_to_list (held terms uri before))
    (close_changes uri c)
    ∙ ap (λ l. next_past uri [] (held terms uri l) c) (sym (append-nil before))
past_in-snoc terms uri before (d ∷ after) c =
    let ch = is_change uri d in
    let xs = option_to_list (held terms uri before) in
    let rest = past_in terms uri (before ++ d ∷ []) after in
    let new : List Version =
    if is_change uri c then option_to_list (held terms uri ((before ++ d ∷ []) ++ after)) else
    [] in
    ap (λ b. (if ch && not b then xs else []) ++ past_in terms uri (before ++ d ∷ [])
    (after ++ c ∷ [])) (list_any-append (is_close uri) after (c ∷ []))
    ∙ (ap (λ l. (if ch && not (list_any (is_close uri) after || (is_close uri c || false)) then xs
    else []) ++ l) (past_in-snoc terms uri (before ++ d ∷ []) after c)
    ∙ (entry_more ch (list_any (is_close uri) after) (is_close uri c) xs rest new
    ∙ ap (λ l. next_past uri (past_in terms uri before (d ∷ after)) (held terms uri l) c)
    (append_assoc before (d ∷ []) after)))

-- **One more call** adds the version that it replaces, or closes the opening
pub past-snoc : (terms : Terms) (uri : Bytes) (calls : List Call) (c : Call)
    → past terms uri (calls ++ c ∷ [])
    ≡ next_past uri (past terms uri calls) (held terms uri calls) c
past-snoc terms uri calls c = past_in-snoc terms uri [] calls c

-- a call that neither closes nor changes the document
pub past-same : (terms : Terms) (uri : Bytes) (calls : List Call) (c : Call)
    → is_close uri c ≡ false → is_change uri c ≡ false
    → past terms uri (calls ++ c ∷ []) ≡ past terms uri calls
past-same terms uri calls c p q =
    past-snoc terms uri calls c ∙ rw (p, q) (append-nil (past terms uri calls))

-- a change of the document
pub past-changed : (terms : Terms) (uri : Bytes) (calls : List Call) (c : Call) (v : Version)
    → is_change uri c ≡ true → held terms uri calls ≡ Some v
    → past terms uri (calls ++ c ∷ []) ≡ past terms uri calls ++ v ∷ []
past-changed terms uri calls c v p now =
    past-snoc terms uri calls c
    ∙ (ap (λ h. next_past uri (past terms uri calls) h c) now ∙ rw (change_closes uri c p, p) refl)

pub past-closed : (terms : Terms) (uri : Bytes) (calls : List Call) (c : Call)
    → is_close uri c ≡ true → past terms uri (calls ++ c ∷ []) ≡ []
past-closed terms uri calls c p = past-snoc terms uri calls c ∙ rw p refl

-- ---- where nothing is held, nothing was held before

no_past : (cl ch : Bool) (ps : List Version) (h o : Option Version) (f : Version → Version)
    → (h ≡ None → ps ≡ []) → (if cl then None else option_or (option_map f h) o) ≡ None
    → (if cl then [] else ps ++ (if ch then option_to_list h else [])) ≡ []
no_past true ch ps h o f so e = refl
no_past false true ps None o f so e = ap (λ l. l ++ []) (so refl)
no_past false false ps None o f so e = ap (λ l. l ++ []) (so refl)
no_past false ch ps (Some v) o f so e = absurd (none-some (f v) (sym e))

no_past-on : (terms : Terms) (uri : Bytes) (calls more : List Call)
    → (held terms uri calls ≡ None → past terms uri calls ≡ [])
    → held terms uri (calls ++ more) ≡ None → past terms uri (calls ++ more) ≡ []
no_past-on terms uri calls [] so e =
    ap (past terms uri) (append-nil calls) ∙ so (ap (held terms uri) (sym (append-nil calls)) ∙ e)
no_past-on terms uri calls (c ∷ more) so e =
    let cut = append_assoc calls (c ∷ []) more in
    sym (ap (past terms uri) cut)
    ∙ no_past-on terms uri (calls ++ c ∷ []) more
    (λ none. past-snoc terms uri calls c
    ∙ no_past (is_close uri c) (is_change uri c) (past terms uri calls) (held terms uri calls)
    (opening uri c) (λ v. revised terms uri v c) so (sym (held-snoc terms uri calls c) ∙ none))
    (ap (held terms uri) cut ∙ e)

pub nothing-past : (terms : Terms) (uri : Bytes) (calls : List Call) → held terms uri calls ≡ None
    → past terms uri calls ≡ []
nothing-past terms uri calls e = no_past-on terms uri [] calls (λ n. refl) e

-- ---- what was held before rises

abbrev all_rise : List Version → Option Version → Bool
all_rise ps h = rises (ps ++ option_to_list h)

module _ (terms : Terms) (uri : Bytes) where
  -- a call that leaves what is held
  left_rises : (ps : List Version) (h : Option Version) → all_rise ps h ≡ true
      → all_rise (ps ++ []) (option_or (option_map (λ v. v) h) None) ≡ true
  left_rises ps h so = ap (λ p. all_rise p (option_or (option_map (λ v. v) h) None)) (append-nil ps)
      ∙ (ap (all_rise ps) (unchanged h) ∙ so)

  step_rises : (calls : List Call) (c : Call) → call_rule terms calls c ≡ None
      → all_rise (past terms uri calls) (held terms uri calls) ≡ true
      → all_rise (next_past uri (past terms uri calls) (held terms uri calls) c)
      (next_held terms uri (held terms uri calls) c) ≡ true
  step_rises calls (opens u n t) e so =
      elim (cases_Bool (bytes_eq uri u)) [
        | inl p ↦
            let none = no_some (held terms u calls)
            (none_row (is_some (held terms u calls)) 601 _ e).0 in
            let here : held terms uri calls ≡ None =
            ap (λ x. held terms x calls) (uri_is uri u p) ∙ none in
            ap (λ h. all_rise (past terms uri calls ++ []) (next_held terms uri h (opens u n t)))
            here
            ∙ (ap (λ ps. all_rise (ps ++ []) (next_held terms uri None (opens u n t)))
            (nothing-past terms uri calls here) ∙ rw p refl)
        | inr p ↦ rw p (left_rises (past terms uri calls) (held terms uri calls) so)
      ]
  step_rises calls (changes enc k u n cs) e so =
      elim (cases_Bool (bytes_eq uri u)) [
        | inl p ↦
            let c = changes enc k u n cs in
            let parts = change_parts terms _ enc k n cs (held terms u calls) e in
            let here : held terms uri calls ≡ Some parts.old =
            ap (λ x. held terms x calls) (uri_is uri u p) ∙ parts.is in
            let new : Version = versioned n (text_or parts.old.text
            (applied terms.limit enc parts.old.text cs)) in
            let now : next_held terms uri (Some parts.old) c ≡ Some new = rw p refl in
            let was : next_past uri (past terms uri calls) (Some parts.old) c
            ≡ past terms uri calls ++ parts.old ∷ [] = rw p refl in
            ap (λ h. all_rise (next_past uri (past terms uri calls) h c) (next_held terms uri h c))
            here
            ∙ (ap (all_rise (next_past uri (past terms uri calls) (Some parts.old) c)) now
            ∙ (ap (λ ps. all_rise ps (Some new)) was
            ∙ rises-snoc (past terms uri calls) parts.old new
            (sym (ap (all_rise (past terms uri calls)) here) ∙ so) parts.rises))
        | inr p ↦ rw p (left_rises (past terms uri calls) (held terms uri calls) so)
      ]
  step_rises calls (closes u) e so =
      elim (cases_Bool (bytes_eq uri u)) [
        | inl p ↦ rw p refl
        | inr p ↦ rw p (left_rises (past terms uri calls) (held terms uri calls) so)
      ]
  step_rises calls _ e so = left_rises (past terms uri calls) (held terms uri calls) so

  rises-on : (calls more : List Call) → AreAcceptedFrom terms calls more
      → all_rise (past terms uri calls) (held terms uri calls) ≡ true
      → all_rise (past terms uri (calls ++ more)) (held terms uri (calls ++ more)) ≡ true
  rises-on calls [] h so =
      subst (λ l. all_rise (past terms uri l) (held terms uri l) ≡ true) (sym (append-nil calls)) so
  rises-on calls (c ∷ more) h so =
      let one : all_rise (past terms uri (calls ++ c ∷ [])) (held terms uri (calls ++ c ∷ []))
      ≡ true =
      ap (λ ps. all_rise ps (held terms uri (calls ++ c ∷ []))) (past-snoc terms uri calls c)
      ∙ (ap (all_rise (next_past uri (past terms uri calls) (held terms uri calls) c))
      (held-snoc terms uri calls c) ∙ step_rises calls c h.0 so) in
      subst (λ l. all_rise (past terms uri l) (held terms uri l) ≡ true)
      (append_assoc calls (c ∷ []) more) (rises-on (calls ++ c ∷ []) more h.1 one)

-- **What an opening held rises up to what it holds.**
pub past-rises : (terms : Terms) (uri : Bytes) (calls : List Call) → AreAccepted terms calls
    → rises (past terms uri calls ++ option_to_list (held terms uri calls)) ≡ true
past-rises terms uri calls h = rises-on terms uri [] calls h refl

pub past-rises-to : (terms : Terms) (uri : Bytes) (calls : List Call) (v : Version)
    → AreAccepted terms calls → held terms uri calls ≡ Some v
    → rises (past terms uri calls ++ v ∷ []) ≡ true
past-rises-to terms uri calls v h now =
    sym (ap (λ o. rises (past terms uri calls ++ option_to_list o)) now)
    ∙ past-rises terms uri calls h

pub kept-rises : (terms : Terms) (uri : Bytes) (calls : List Call) → AreAccepted terms calls
    → rises (kept terms uri calls ++ option_to_list (held terms uri calls)) ≡ true
kept-rises terms uri calls h =
    last-rises terms.kept (past terms uri calls) (option_to_list (held terms uri calls))
    (past-rises terms uri calls h)

-- ---- what was held is held or among what was held before

pub was-held : (terms : Terms) (uri : Bytes) (calls more : List Call) (v : Version)
    → AreAcceptedFrom terms calls more → list_any (is_close uri) more ≡ false
    → (held terms uri calls ≡ Some v) ⊎ Among v (past terms uri calls)
    → (held terms uri (calls ++ more) ≡ Some v) ⊎ Among v (past terms uri (calls ++ more))
was-held terms uri calls [] v h open_still so =
    subst (λ l. (held terms uri l ≡ Some v) ⊎ Among v (past terms uri l)) (sym (append-nil calls))
    so
was-held terms uri calls (c ∷ more) v h open_still so =
    let closing = or_parts (is_close uri c) (list_any (is_close uri) more) open_still in
    subst (λ l. (held terms uri l ≡ Some v) ⊎ Among v (past terms uri l))
    (append_assoc calls (c ∷ []) more)
    (was-held terms uri (calls ++ c ∷ []) more v h.1 closing.1 (step closing.0 so))
  where
    step : is_close uri c ≡ false → (held terms uri calls ≡ Some v) ⊎ Among v (past terms uri calls)
        → (held terms uri (calls ++ c ∷ []) ≡ Some v) ⊎ Among v (past terms uri (calls ++ c ∷ []))
    step p (inl now) =
        elim (cases_Bool (is_change uri c)) [
          | inl q ↦ inr (subst (Among v) (sym (past-changed terms uri calls c v q now))
              (among-back v (past terms uri calls) (v ∷ []) (inl refl)))
          | inr q ↦
              let one = next terms uri calls v now c h.0 p in
              inl (one.held ∙ ap (λ w. Some w) (sym (one.stays q)))
        ]
    step p (inr m) =
        let grown = past-snoc terms uri calls c
        ∙ ap (λ b. if b then [] else past terms uri
        calls ++ (if is_change uri c then option_to_list (held terms uri calls) else [])) p in
        inr (subst (Among v) (sym grown)
        (among-front v (past terms uri calls)
        (if is_change uri c then option_to_list (held terms uri calls) else []) m))

-- a prefix of the calls after which the version was held, with no close behind it
pub record WasHeld (terms : Terms) (uri : Bytes) (calls : List Call) (v : Version) : Type 0 where
  pub before : List Call
  pub more : List Call
  pub whole : calls ≡ before ++ more
  pub is : held terms uri before ≡ Some v
  pub still_open : list_any (is_close uri) more ≡ false

entry_held : (ch l : Bool) (h : Option Version) (v : Version)
    → Among v (if ch && not l then option_to_list h else [])
    → (ch ≡ true) × (l ≡ false) × (h ≡ Some v)
entry_held true false (Some w) v (inl e) = (refl, refl, ap (λ x. Some x) (sym e))
entry_held true false (Some w) v (inr m) = absurd m
entry_held true false None v m = absurd m
entry_held true true h v m = absurd m
entry_held false l h v m = absurd m

past_in-held : (terms : Terms) (uri : Bytes) (before after : List Call) (v : Version)
    → Among v (past_in terms uri before after) → WasHeld terms uri (before ++ after) v
past_in-held terms uri before [] v m = absurd m
past_in-held terms uri before (c ∷ after) v m =
    elim (among-split v (past_entry terms uri before c after)
    (past_in terms uri (before ++ c ∷ []) after) m) [
      | inl k ↦
          let parts = entry_held (is_change uri c) (list_any (is_close uri) after)
          (held terms uri before) v k in
          record {
            before = before;
            more = c ∷ after;
            whole = refl;
            is = parts.2;
            still_open = rw (change_closes uri c parts.0, parts.1) refl;
          }
      | inr k ↦ subst (λ l. WasHeld terms uri l v) (append_assoc before (c ∷ []) after)
          (past_in-held terms uri (before ++ c ∷ []) after v k)
    ]

pub past-held : (terms : Terms) (uri : Bytes) (calls : List Call) (v : Version)
    → Among v (past terms uri calls) → WasHeld terms uri calls v
past-held terms uri calls v m = past_in-held terms uri [] calls v m

-- ---- a version that is held or kept is not ahead

pub reached-number : (terms : Terms) (uri : Bytes) (calls : List Call) (n : ℤ)
    → AreAccepted terms calls → has_number n (kept terms uri calls) (held terms uri calls) ≡ true
    → is_ahead n (held terms uri calls) ≡ false
reached-number terms uri calls n h e = go (held terms uri calls) refl
  where
    go : (o : Option Version) → held terms uri calls ≡ o → is_ahead n (held terms uri calls) ≡ false
    go None now =
        let nothing : kept terms uri calls ≡ [] =
        ap (last_of terms.kept) (nothing-past terms uri calls now) ∙ last-empty terms.kept in
        absurd (true≢false (sym e ∙ (ap (λ ks. has_number n ks (held terms uri calls)) nothing
        ∙ ap (holds_number n) now)))
    go (Some v) now =
        ap (is_ahead n) now
        ∙ elim (or_cases (list_any (is_at n) (kept terms uri calls))
        (holds_number n (held terms uri calls)) e) [
          | inl p ↦
              let one = any-among (is_at n) (kept terms uri calls) p in
              let less = among-below (past terms uri calls) one.version v
              (past-rises-to terms uri calls v h now)
              (among-drop one.version _ (past terms uri calls) one.among) in
              ap (int_lt v.number) (sym (int_is one.version.number n one.passes))
              ∙ less_behind v.number one.version.number less
          | inr p ↦ equal_behind v.number n (sym (ap (holds_number n) now) ∙ p)
        ]

-- ---- where no version is kept

none_kept : (terms : Terms) (uri : Bytes) (calls : List Call) → terms.kept ≡ 0
    → kept terms uri calls ≡ []
none_kept terms uri calls none =
    ap (λ m. last_of m (past terms uri calls)) none ∙ last-none (past terms uri calls)

pub rule-none_kept : (terms : Terms) (calls : List Call) (uri : Bytes) (n : ℤ) (t : Text)
    → terms.kept ≡ 0
    → call_rule terms calls (shows uri n t) ≡ held_rule terms.line_ends n t (held terms uri calls)
rule-none_kept terms calls uri n t none =
    ap (λ ks. show_rule terms.line_ends n t ks (held terms uri calls))
    (none_kept terms uri calls none) ∙ same (held terms uri calls)
  where
    same : (o : Option Version)
        → show_rule terms.line_ends n t [] o ≡ held_rule terms.line_ends n t o
    same None = refl
    same (Some v) = refl

pub compared-none_kept : (terms : Terms) (front back : List Call) (uri : Bytes) (n : ℤ)
    → terms.kept ≡ 0
    → is_compared terms front uri n back
    ≡ (holds_number n (held terms uri front) || comes_to uri n back)
compared-none_kept terms front back uri n none =
    ap (λ ks. has_number n ks (held terms uri front) || comes_to uri n back)
    (none_kept terms uri front none)
