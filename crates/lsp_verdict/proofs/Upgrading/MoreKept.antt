-- Calls that are accepted with no versions kept are accepted where some are, and come to the same.
use Rattle.std.proofs.Common.{◌≡◌, ◌+◌, Bool, true, false, not, List, [], ◌∷◌, ◌++◌, Option, Some, None, refl, sym, ap, ◌∙◌, arith}
use Rattle.std.specs.Prelude.{ℕ, ℤ, int_lt, nat_lt, is_some, ◌&&◌, ◌||◌, if◌then◌else◌, option_to_list}
use Rattle.std.specs.List.{list_any, list_all}
use Rattle.std.specs.Option.{option_or}
use Rattle.std.specs.Ordering.{int_eq}
use Rattle.std.specs.Str.{bytes_eq}
use Rattle.std.proofs.lemmas.Int.{ints}
use Rattle.std.proofs.lemmas.Bool.{and_parts, or_parts}
use Rattle.std.proofs.Math.Bool.{and-false}
use Rattle.lsp_types.specs.declared.position.Encoding.{Encoding}
use Rattle.lsp_types.specs.declared.change.SyncKind.{SyncKind}
use Rattle.lsp_text.specs.Edits.{Edit, applied}
use Rattle.lsp_types.specs.declared.line_ends.LineEnds.{LineEnds}
use Rattle.lsp_text.specs.SameText.{same_text}
use Rattle.lsp_docs.specs.Calls.{Bytes, Call, opens, changes, closes, saves, shows, is_close, Text}
use Rattle.lsp_docs.specs.Calls.{byte_len}
use Rattle.lsp_docs.specs.Documents.{Version, versioned, is_after, is_at, opening, text_or, revised}
use Rattle.lsp_docs.specs.Documents.{revised_by, held_since, held, as_held, held_entry, documents}
use Rattle.lsp_docs.specs.Documents.{Terms}
use Rattle.lsp_docs.specs.Snapshots.{last_of, kept, is_ahead, shown_entry, waiting_in, waiting}
use Rattle.lsp_docs.specs.Snapshots.{versions_of, holds_number, has_number, comes_to, is_compared}
use Rattle.lsp_docs.specs.Snapshots.{unmatched_entry, unmatched_in, unmatched}
use Rattle.lsp_docs.specs.Laws.{held_rule, rises}
use Rattle.lsp_docs.specs.Rules.{differs, first_row, version_rule, fits_kind, text_rule, show_rule}
use Rattle.lsp_docs.specs.Rules.{change_rule, save_rule, call_rule, AreAcceptedFrom, AreAccepted}
use Rattle.lsp_docs.proofs.Past.{nothing-past, kept-rises, rule-none_kept, compared-none_kept}
use Rattle.lsp_docs.proofs.Rising.{last-empty}
use Rattle.lsp_docs.proofs.Standing.{accepted_from-push}

module _ (t u : Terms) (same : t.limit ≡ u.limit) where
  -- ---- what is held doesn't depend on how many are kept

  revised_same : (uri : Bytes) (v : Version) (c : Call) → revised t uri v c ≡ revised u uri v c
  revised_same uri v (changes enc kind x number cs) = ap (λ l. if bytes_eq uri x then versioned number (text_or v.text (applied l enc v.text cs)) else v) same
  revised_same uri v _ = refl

  revised_by_same : (uri : Bytes) (v : Version) (cs : List Call) → revised_by t uri v cs ≡ revised_by u uri v cs
  revised_by_same uri v [] = refl
  revised_by_same uri v (c ∷ cs) = ap (λ w. revised_by t uri w cs) (revised_same uri v c) ∙ revised_by_same uri (revised u uri v c) cs

  held_since_same : (uri : Bytes) (after : List Call) (o : Option Version) → held_since t uri after o ≡ held_since u uri after o
  held_since_same uri after None = refl
  held_since_same uri after (Some v) = ap (λ w. if list_any (is_close uri) after then None else Some w) (revised_by_same uri v after)

  pub held_same : (uri : Bytes) (calls : List Call) → held t uri calls ≡ held u uri calls
  held_same uri [] = refl
  held_same uri (c ∷ after) = ap (λ o. option_or o (held t uri after)) (held_since_same uri after (opening uri c)) ∙ ap (option_or (held_since u uri after (opening uri c))) (held_same uri after)

  held_entry_same : (c : Call) (after : List Call) → held_entry t c after ≡ held_entry u c after
  held_entry_same (opens uri number text) after = ap (as_held uri) (held_since_same uri after (Some (versioned number text)))
  held_entry_same _ after = refl

  pub documents_same : (calls : List Call) → documents t calls ≡ documents u calls
  documents_same [] = refl
  documents_same (c ∷ after) = ap (λ d. d ++ documents t after) (held_entry_same c after) ∙ ap (λ d. held_entry u c after ++ d) (documents_same after)

  -- nor what waits

  shown_entry_same : (all : List Call) (c : Call) (after : List Call) → shown_entry t all c after ≡ shown_entry u all c after
  shown_entry_same all (shows uri number text) after =
      ap (λ h. if is_ahead number h && not (list_any (is_close uri) after) then record { uri = uri; version = versioned number text } ∷ [] else []) (held_same uri all)
  shown_entry_same all _ after = refl

  waiting_in_same : (all calls : List Call) → waiting_in t all calls ≡ waiting_in u all calls
  waiting_in_same all [] = refl
  waiting_in_same all (c ∷ after) = ap (λ w. w ++ waiting_in t all after) (shown_entry_same all c after) ∙ ap (λ w. shown_entry u all c after ++ w) (waiting_in_same all after)

  waiting_same : (calls : List Call) → waiting t calls ≡ waiting u calls
  waiting_same calls = waiting_in_same calls calls

-- ---- no kept version is that of a snapshot that is not late

behind : (w v n : ℤ) → int_lt w v ≡ true → int_lt n v ≡ false → int_eq w n ≡ false
behind w v n less late = grind (arith, ints)

last_after : (m : ℤ) (xs : List Version) (x : Version) → list_all (is_after m) (xs ++ x ∷ []) ≡ true → int_lt m x.number ≡ true
last_after m [] x e = (and_parts (int_lt m x.number) true e).0
last_after m (y ∷ xs) x e = last_after m xs x (and_parts (int_lt m y.number) (list_all (is_after m) (xs ++ x ∷ [])) e).1

none_at : (ks : List Version) (v : Version) (n : ℤ) → rises (ks ++ v ∷ []) ≡ true → int_lt n v.number ≡ false → list_any (is_at n) ks ≡ false
none_at [] v n up late = refl
none_at (k ∷ ks) v n up late =
    let parts = and_parts (list_all (is_after k.number) (ks ++ v ∷ [])) (rises (ks ++ v ∷ [])) up in
    let first = behind k.number v.number n (last_after k.number ks v parts.0) late in
    ap (λ b. b || list_any (is_at n) ks) first ∙ none_at ks v n parts.1 late

none_differs : (ends : LineEnds) (ks : List Version) (n : ℤ) (text : Text)
    → list_any (is_at n) ks ≡ false
    → list_any (λ w. differs ends w (versioned n text)) ks ≡ false
none_differs ends [] n text none = refl
none_differs ends (k ∷ ks) n text none =
    let parts = or_parts (int_eq k.number n) (list_any (is_at n) ks) none in
    ap (λ b. (b && not (same_text ends k.text text))
    || list_any (λ w. differs ends w (versioned n text)) ks) parts.0
    ∙ none_differs ends ks n text parts.1

rows_pass : (a b : Bool) → first_row ((a, Some 701) ∷ (b, Some 702) ∷ []) ≡ None → (a ≡ false) × (b ≡ false)
rows_pass false false e = (refl, refl)
rows_pass _ _ e = absurd cc

-- a snapshot that the held version alone lets pass
shown_passes : (ends : LineEnds) (n : ℤ) (text : Text) (ks : List Version) (h : Option Version)
    → rises (ks ++ option_to_list h) ≡ true → held_rule ends n text h ≡ None
    → show_rule ends n text ks h ≡ None
shown_passes ends n text ks None up none = refl
shown_passes ends n text ks (Some v) up none =
    let own = differs ends v (versioned n text) in
    let rows = rows_pass (int_lt n v.number) own none in
    let late : (list_all (is_after n) ks && int_lt n v.number) ≡ false = ap (λ b. list_all (is_after n) ks && b) rows.0 ∙ and-false (list_all (is_after n) ks) in
    let other : (list_any (λ w. differs ends w (versioned n text)) ks || own) ≡ false =
    ap (λ b. b || own) (none_differs ends ks n text (none_at ks v n up rows.0)) ∙ rows.1 in
    ap (λ b. first_row ((b, Some 701)
    ∷ (list_any (λ w. differs ends w (versioned n text)) ks || own, Some 702) ∷ [])) late
    ∙ ap (λ b. first_row ((false, Some 701) ∷ (b, Some 702) ∷ [])) other

-- is of no kept version
shown_at : (ends : LineEnds) (n : ℤ) (text : Text) (ks : List Version) (h : Option Version)
    → rises (ks ++ option_to_list h) ≡ true → (h ≡ None → ks ≡ [])
    → held_rule ends n text h ≡ None → has_number n ks h ≡ holds_number n h
shown_at ends n text ks None up empty none = ap (λ vs. list_any (is_at n) vs || false) (empty refl)
shown_at ends n text ks (Some v) up empty none =
    let rows = rows_pass (int_lt n v.number) (differs ends v (versioned n text)) none in
    ap (λ b. b || int_eq v.number n) (none_at ks v n up rows.0)

-- ---- with nothing kept, and with more

module _ (t u : Terms) (same : t.limit ≡ u.limit) (ends : t.line_ends ≡ u.line_ends)
    (none_kept : t.kept ≡ 0) where
  change_same : (ws : List Version) (enc : Encoding) (kind : SyncKind) (n : ℤ) (cs : List Edit) (h : Option Version) → change_rule t ws enc kind n cs h ≡ change_rule u ws enc kind n cs h
  change_same ws enc kind n cs None = refl
  change_same ws enc kind n cs (Some v) =
      ap (λ e. first_row ((not (int_lt v.number n), Some 603) ∷ (not (fits_kind kind cs), Some 604)
      ∷ (true, text_rule e ws n (applied t.limit enc v.text cs)) ∷ [])) ends
      ∙ ap (λ l. first_row ((not (int_lt v.number n), Some 603) ∷ (
        not (fits_kind kind cs),
        Some 604,
      )
      ∷ (true, text_rule u.line_ends ws n (applied l enc v.text cs)) ∷ [])) same

  waits_same : (uri : Bytes) (before : List Call) → versions_of uri (waiting t before) ≡ versions_of uri (waiting u before)
  waits_same uri before = ap (versions_of uri) (waiting_same t u same before)

  held_here : (uri : Bytes) (n : ℤ) (text : Text) (before : List Call)
      → held_rule u.line_ends n text (held u uri before)
      ≡ held_rule t.line_ends n text (held t uri before)
  held_here uri n text before =
      ap (λ x. held_rule x n text (held u uri before)) (sym ends)
      ∙ ap (held_rule t.line_ends n text) (sym (held_same t u same uri before))

  -- a call that is accepted with nothing kept is accepted
  call_passes : (before : List Call) (c : Call) → AreAccepted u before → call_rule t before c ≡ None → call_rule u before c ≡ None
  call_passes before (opens uri n text) accepted e =
      (λ i. opening_rule ((sym ends) i) ((sym same) i) ((sym (held_same t u same uri before)) i)
      ((sym (waits_same uri before)) i))
      ∙ e
    where
      opening_rule : LineEnds → ℕ → Option Version → List Version → Option ℕ
      opening_rule ends limit h ws =
          first_row ((is_some h, Some 601) ∷ (nat_lt limit (byte_len text), Some 607)
          ∷ (true, version_rule ends ws (versioned n text)) ∷ [])
  call_passes before (changes enc kind uri n cs) accepted e =
      sym (
      ap (change_rule t (versions_of uri (waiting t before)) enc kind n cs) (held_same t u same uri before)
      ∙ change_same (versions_of uri (waiting t before)) enc kind n cs (held u uri before)
      ∙ ap (λ w. change_rule u w enc kind n cs (held u uri before)) (waits_same uri before))
      ∙ e
  call_passes before (closes uri) accepted e = ap (λ h. if is_some h then None else Some 602) (sym (held_same t u same uri before)) ∙ e
  call_passes before (saves uri text) accepted e =
      ap (λ x. save_rule x text (held u uri before)) (sym ends)
      ∙ (ap (save_rule t.line_ends text) (sym (held_same t u same uri before)) ∙ e)
  call_passes before (shows uri n text) accepted e =
      shown_passes u.line_ends n text (kept u uri before) (held u uri before)
      (kept-rises u uri before accepted)
      (held_here uri n text before ∙ sym (rule-none_kept t before uri n text none_kept) ∙ e)

  -- and so are all
  pub calls_pass : (before after : List Call) → AreAccepted u before → AreAcceptedFrom t before after → AreAcceptedFrom u before after
  calls_pass before [] accepted from = tt
  calls_pass before (c ∷ after) accepted from =
      let one = call_passes before c accepted from.0 in
      (one, calls_pass (before ++ c ∷ []) after (accepted_from-push u [] before c accepted one) from.1)

  none_past : (uri : Bytes) (before : List Call) → held u uri before ≡ None → kept u uri before ≡ []
  none_past uri before none = ap (last_of u.kept) (nothing-past u uri before none) ∙ last-empty u.kept

  entry_same : (before : List Call) (c : Call) (after : List Call) → AreAccepted u before → call_rule t before c ≡ None → unmatched_entry t before c after ≡ unmatched_entry u before c after
  entry_same before (shows uri n text) after accepted e =
      let own =
      held_here uri n text before ∙ sym (rule-none_kept t before uri n text none_kept) ∙ e in
      let here : has_number n (kept u uri before) (held u uri before)
      ≡ holds_number n (held u uri before) =
      shown_at u.line_ends n text (kept u uri before) (held u uri before)
      (kept-rises u uri before accepted) (none_past uri before) own in
      let compared : is_compared t before uri n after ≡ is_compared u before uri n after =
      compared-none_kept t before after uri n none_kept
      ∙ ap (λ h. holds_number n h || comes_to uri n after) (held_same t u same uri before)
      ∙ ap (λ b. b || comes_to uri n after) (sym here) in
      ap (λ b. if b then 0 else 1) compared
  entry_same before _ after accepted e = refl

  unmatched_from : (before after : List Call) → AreAccepted u before → AreAcceptedFrom t before after → unmatched_in t before after ≡ unmatched_in u before after
  unmatched_from before [] accepted from = refl
  unmatched_from before (c ∷ after) accepted from =
      let one = call_passes before c accepted from.0 in
      ap (λ n. n + unmatched_in t (before ++ c ∷ []) after) (entry_same before c after accepted from.0)
      ∙ ap (λ n. unmatched_entry u before c after + n) (unmatched_from (before ++ c ∷ []) after (accepted_from-push u [] before c accepted one) from.1)

  pub unmatched_same : (calls : List Call) → AreAccepted t calls → unmatched t calls ≡ unmatched u calls
  unmatched_same calls accepted = unmatched_from [] calls tt accepted
