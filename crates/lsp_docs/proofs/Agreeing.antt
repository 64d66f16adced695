-- Snapshots agree with what is held of their opening at their version.
use Rattle.std.proofs.Common.{◌≡◌, Bool, true, false, ◌&&◌, ◌||◌, List, [], ◌∷◌, ◌++◌, refl, sym}
use Rattle.std.proofs.Common.{ap, ◌∙◌, subst, Option, Some, None, inl, inr, append_assoc}
use Rattle.std.proofs.Common.{append-nil, true≢false}
use Rattle.std.specs.Prelude.{ℤ, int_lt, not, is_some, nat_lt}
use Rattle.std.specs.List.{list_any, list_all}
use Rattle.std.specs.Ordering.{int_eq}
use Rattle.std.specs.Str.{bytes_eq}
use Rattle.lsp_types.specs.declared.line_ends.LineEnds.{LineEnds}
use Rattle.lsp_text.specs.SameText.{SameText, compared, same_text}
use Rattle.std.proofs.lemmas.Bool.{or_parts, cases_Bool}
use Rattle.std.proofs.lemmas.Cmp.{int_eq_equiv}
use Rattle.std.proofs.lemmas.List.Folds.{list_any-append}
use Rattle.std.proofs.lemmas.Option.{same_Some}
use Rattle.std.proofs.lemmas.Slice.Eq.{bytes_eq-Decides}
use Rattle.lsp_docs.specs.Calls.{Text, byte_len, Bytes, Call, opens, changes, closes, saves, shows}
use Rattle.lsp_docs.specs.Calls.{is_close}
use Rattle.lsp_docs.specs.Documents.{Terms, Version, versioned, is_after, text_or, held}
use Rattle.lsp_text.specs.Edits.{applied}
use Rattle.lsp_docs.specs.Snapshots.{past, kept, is_ahead, waits, shown_entry, waiting_in, waiting}
use Rattle.lsp_docs.specs.Snapshots.{versions_of}
use Rattle.lsp_docs.specs.Rules.{differs, version_rule, show_rule, call_rule, AreAcceptedFrom}
use Rattle.lsp_docs.specs.Rules.{AreAccepted}
use Rattle.lsp_docs.proofs.Words.{no_some, unchanged, uri_is, uri_same}
use Rattle.lsp_docs.proofs.HeldSteps.{next_held, held-snoc}
use Rattle.lsp_docs.proofs.WaitingSteps.{none_row, change_parts, versions_of-append}
use Rattle.lsp_docs.proofs.Accepted.{accepted-split, risen}
use Rattle.lsp_docs.proofs.Rising.{Among, among-none, among-below, among-last}
use Rattle.lsp_docs.proofs.Past.{past-rises-to, was-held}

-- where the held version is the snapshot's, the texts agree
abbrev pub Agrees : Terms → Bytes → ℤ → Text → List Call → Type 0
Agrees terms uri n t calls =
    (v : Version) → held terms uri calls ≡ Some v → v.number ≡ n → SameText terms.line_ends v.text t

second : (a b : Bool) → (a && not b) ≡ false → a ≡ true → b ≡ true
second true true e p = refl
second true false e p = absurd (true≢false e)
second false b e p = absurd (true≢false (sym p))

same-text : (ends : LineEnds) (v s : Version) → differs ends v s ≡ false → v.number ≡ s.number
    → SameText ends v.text s.text
same-text ends v s e same =
    (bytes_eq-Decides (compared ends v.text) (compared ends s.text)).0
    (second (int_eq v.number s.number) (same_text ends v.text s.text) e
    (ap (int_eq v.number) (sym same) ∙ int_eq_equiv.refl v.number))

-- a snapshot that waits is among those that wait
in-waiting : (q : Version → Bool) (terms : Terms) (all front mid : List Call) (uri : Bytes) (n : ℤ)
    (t : Text) → waits terms all uri n mid ≡ true
    → list_any q (versions_of uri (waiting_in terms all (front ++ shows uri n t ∷ mid))) ≡ false
    → q (versioned n t) ≡ false
in-waiting q terms all [] mid uri n t is e =
    (or_parts (q (versioned n t)) (list_any q (versions_of uri (waiting_in terms all mid)))
    (sym (rw (is, uri_same uri) refl) ∙ e)).0
in-waiting q terms all (d ∷ front) mid uri n t is e =
    let rest = waiting_in terms all (front ++ shows uri n t ∷ mid) in
    let one = shown_entry terms all d (front ++ shows uri n t ∷ mid) in
    let split : list_any q (versions_of uri (one ++ rest))
    ≡ (list_any q (versions_of uri one) || list_any q (versions_of uri rest)) =
    ap (list_any q) (versions_of-append uri one rest)
    ∙ list_any-append q (versions_of uri one) (versions_of uri rest) in
    in-waiting q terms all front mid uri n t is
    (or_parts (list_any q (versions_of uri one)) (list_any q (versions_of uri rest))
    (sym split ∙ e)).1

-- a version that no waiting snapshot refutes has the text of one that waits for it
comes-to : (terms : Terms) (front mid : List Call) (uri : Bytes) (n : ℤ) (t : Text) (v : Version)
    → waits terms (front ++ shows uri n t ∷ mid) uri n mid ≡ true
    → version_rule terms.line_ends
    (versions_of uri (waiting terms (front ++ shows uri n t ∷ mid))) v ≡ None
    → v.number ≡ n → SameText terms.line_ends v.text t
comes-to terms front mid uri n t v is none same =
    let p = front ++ shows uri n t ∷ mid in
    let ends = terms.line_ends in
    let quiet =
    (none_row (list_any (differs ends v) (versions_of uri (waiting terms p))) 702 None none).0 in
    same-text ends v (versioned n t)
    (in-waiting (differs ends v) terms p front mid uri n t is quiet) same

ahead : (terms : Terms) (uri : Bytes) (n : ℤ) (mid p : List Call) (h : Option Version)
    → held terms uri p ≡ h → is_ahead n h ≡ true → list_any (is_close uri) mid ≡ false
    → waits terms p uri n mid ≡ true
ahead terms uri n mid p h is before open_still = rw (is, before, open_still) refl

module _ (terms : Terms) (front mid : List Call) (uri : Bytes) (n : ℤ) (t : Text)
    (open_still : list_any (is_close uri) mid ≡ false)
    (so_far : Agrees terms uri n t (front ++ shows uri n t ∷ mid)) where
  abbrev here : List Call
  here = front ++ shows uri n t ∷ mid

  -- a call that leaves what is held
  keeps : (c : Call) → next_held terms uri (held terms uri here) c ≡ held terms uri here
      → Agrees terms uri n t (here ++ c ∷ [])
  keeps c same v is number = so_far v (sym (held-snoc terms uri here c ∙ same) ∙ is) number

  -- one more accepted call that doesn't close the opening
  step : (c : Call) → is_close uri c ≡ false → call_rule terms here c ≡ None
      → Agrees terms uri n t (here ++ c ∷ [])
  step (opens u m s) stays e =
      elim (cases_Bool (bytes_eq uri u)) [
        | inl p ↦ λ v is number.
            let rule : call_rule terms here (opens uri m s) ≡ None =
            subst (λ x. call_rule terms here (opens x m s) ≡ None) (sym (uri_is uri u p)) e in
            let first = none_row (is_some (held terms uri here)) 601 _ rule in
            let nothing = no_some (held terms uri here) first.0 in
            let quiet = (none_row (nat_lt terms.limit (byte_len s)) 607 _ first.1).1 in
            let now : Some (versioned m s) ≡ Some v =
            sym (held-snoc terms uri here (opens u m s) ∙ rw (nothing, p) refl) ∙ is in
            let at = same_Some (versioned m s) v now in
            sym (ap (λ w. compared terms.line_ends w.text) at)
            ∙ comes-to terms front mid uri n t (versioned m s)
            (ahead terms uri n mid here None nothing refl open_still) quiet
            (ap (λ w. w.number) at ∙ number)
        | inr p ↦ keeps (opens u m s) (rw p (unchanged (held terms uri here)))
      ]
  step (changes enc k u m cs) stays e =
      elim (cases_Bool (bytes_eq uri u)) [
        | inl p ↦ λ v is number.
            let rule : call_rule terms here (changes enc k uri m cs) ≡ None =
            subst (λ x. call_rule terms here (changes enc k x m cs) ≡ None)
            (sym (uri_is uri u p)) e in
            let parts = change_parts terms _ enc k m cs (held terms uri here) rule in
            let changed : next_held terms uri (Some parts.old) (changes enc k u m cs)
            ≡ Some (versioned m (text_or parts.old.text
            (applied terms.limit enc parts.old.text cs))) = rw p refl in
            let now = sym (held-snoc terms uri here (changes enc k u m cs)
            ∙ (ap (λ h. next_held terms uri h (changes enc k u m cs)) parts.is ∙ changed))
            ∙ is in
            let at : versioned m parts.text ≡ v =
            ap (λ r. versioned m (text_or parts.old.text r)) (sym parts.made)
            ∙ same_Some _ v now in
            let number_is = ap (λ w. w.number) at ∙ number in
            sym (ap (λ w. compared terms.line_ends w.text) at)
            ∙ comes-to terms front mid uri n t (versioned m parts.text)
            (ahead terms uri n mid here (Some parts.old) parts.is
            (ap (int_lt parts.old.number) (sym number_is) ∙ parts.rises) open_still)
            parts.agrees number_is
        | inr p ↦ keeps (changes enc k u m cs) (rw p (unchanged (held terms uri here)))
      ]
  step (closes u) stays e = keeps (closes u) (rw stays (unchanged (held terms uri here)))
  step (saves u s) stays e = keeps (saves u s) (unchanged (held terms uri here))
  step (shows u m s) stays e = keeps (shows u m s) (unchanged (held terms uri here))

follows : (terms : Terms) (front mid back : List Call) (uri : Bytes) (n : ℤ) (t : Text)
    → list_any (is_close uri) mid ≡ false → list_any (is_close uri) back ≡ false
    → AreAcceptedFrom terms (front ++ shows uri n t ∷ mid) back
    → Agrees terms uri n t (front ++ shows uri n t ∷ mid)
    → Agrees terms uri n t (front ++ shows uri n t ∷ (mid ++ back))
follows terms front mid [] uri n t open_still stays h so_far =
    subst (λ l. Agrees terms uri n t (front ++ shows uri n t ∷ l)) (sym (append-nil mid)) so_far
follows terms front mid (c ∷ back) uri n t open_still stays h so_far =
    let s = shows uri n t in
    let closing = or_parts (is_close uri c) (list_any (is_close uri) back) stays in
    let cut = append_assoc front (s ∷ mid) (c ∷ []) in
    let more = step terms front mid uri n t open_still so_far c closing.0 h.0 in
    let still = list_any-append (is_close uri) mid (c ∷ []) ∙ rw (open_still, closing.0) refl in
    subst (λ l. Agrees terms uri n t (front ++ s ∷ l)) (append_assoc mid (c ∷ []) back)
    (follows terms front (mid ++ c ∷ []) back uri n t still closing.1
    (subst (λ l. AreAcceptedFrom terms l back) cut h.1)
    (subst (λ l. Agrees terms uri n t l) cut more))

-- a snapshot that is accepted where its version is held or kept has the text of that version
module _ (ends : LineEnds) (n : ℤ) (t : Text) (ks : List Version) (v : Version)
    (e : show_rule ends n t ks (Some v) ≡ None) where
  rows : ((list_all (is_after n) ks && int_lt n v.number) ≡ false)
      × ((list_any (λ w. differs ends w (versioned n t)) ks || differs ends v (versioned n t))
      ≡ false)
  rows =
      let late = none_row (list_all (is_after n) ks && int_lt n v.number) 701 _ e in (
        late.0,
        (none_row (list_any (λ w. differs ends w (versioned n t)) ks
            || differs ends v (versioned n t)) 702 None late.1).0,
      )

  parted : (list_any (λ w. differs ends w (versioned n t)) ks ≡ false)
      × (differs ends v (versioned n t) ≡ false)
  parted =
      or_parts (list_any (λ w. differs ends w (versioned n t)) ks)
      (differs ends v (versioned n t)) rows.1

  pub shown : v.number ≡ n → SameText ends v.text t
  shown number = same-text ends v (versioned n t) parted.1 number

  pub shown-kept : (w : Version) → Among w ks → w.number ≡ n → SameText ends w.text t
  shown-kept w m number =
      same-text ends w (versioned n t)
      (among-none (λ x. differs ends x (versioned n t)) w ks parted.0 m) number

  -- and its version is not below each of these
  pub shown-late : (w : Version) → list_all (is_after w.number) ks ≡ true
      → int_lt w.number v.number ≡ true → w.number ≡ n → ⊥
  shown-late w below less number =
      let all : list_all (is_after n) ks ≡ true =
      ap (λ m. list_all (is_after m) ks) (sym number) ∙ below in
      let ahead : int_lt n v.number ≡ true = ap (λ m. int_lt m v.number) (sym number) ∙ less in
      true≢false (sym (rw (all, ahead) refl) ∙ rows.0)

-- **What is held of an opening at a snapshot's version, at or behind the snapshot, is the
-- snapshot's text.**
pub agrees-behind : (terms : Terms) (front back : List Call) (uri : Bytes) (n : ℤ) (t : Text)
    → AreAccepted terms (front ++ shows uri n t ∷ back) → list_any (is_close uri) back ≡ false
    → Agrees terms uri n t (front ++ shows uri n t ∷ back)
agrees-behind terms front back uri n t h stays =
    let parts = accepted-split terms [] front (shows uri n t ∷ back) h in
    let start : Agrees terms uri n t (front ++ shows uri n t ∷ []) = λ v is number.
    let now = sym (held-snoc terms uri front (shows uri n t) ∙ unchanged (held terms uri front))
    ∙ is in
    shown terms.line_ends n t (kept terms uri front) v
    (subst (λ o. show_rule terms.line_ends n t (kept terms uri front) o ≡ None) now parts.1.0)
    number in
    follows terms front [] back uri n t refl stays parts.1.1 start

-- **And a snapshot of the same opening that is shown later has the text that was held at its
-- version.**
pub agrees-before : (terms : Terms) (before between : List Call) (uri : Bytes) (n : ℤ) (t : Text)
    (v : Version) → AreAccepted terms (before ++ between ++ shows uri n t ∷ [])
    → list_any (is_close uri) between ≡ false → held terms uri before ≡ Some v → v.number ≡ n
    → SameText terms.line_ends v.text t
agrees-before terms before between uri n t v h stays now number =
    let parts = accepted-split terms [] (before ++ between) (shows uri n t ∷ []) h in
    let later = accepted-split terms [] before between parts.0 in
    let r = risen terms uri before between v later.1 stays now in
    let ks = kept terms uri (before ++ between) in
    let ends = terms.line_ends in
    let rule = subst (λ o. show_rule ends n t ks o ≡ None) r.held parts.1.0 in
    elim (was-held terms uri before between v later.1 stays (inl now)) [
      | inl same ↦
          let is : v ≡ r.version = same_Some v r.version (sym same ∙ r.held) in
          ap (λ w. compared ends w.text) is
          ∙ shown ends n t ks r.version rule (ap (λ w. w.number) (sym is) ∙ number)
      | inr m ↦
          let rising = past-rises-to terms uri (before ++ between) r.version parts.0 r.held in
          elim (among-last terms.kept (past terms uri (before ++ between)) (r.version ∷ []) v rising
          m) [
            | inl k ↦ shown-kept ends n t ks r.version rule v k number
            | inr below ↦ absurd (shown-late ends n t ks r.version rule v below
                (among-below (past terms uri (before ++ between)) v r.version rising m) number)
          ]
    ]
