-- The changes of a document since it was opened, with one call more.
use Rattle.std.specs.Prelude.{ℕ, ℤ, int_lt, if◌then◌else◌}
use Rattle.std.specs.List.{cons_option, filter_map}
use Rattle.std.specs.Str.{bytes_eq}
use Rattle.std.proofs.Common.{◌≡◌, Bool, true, false, List, [], ◌∷◌, ◌++◌, Option, Some, None, refl}
use Rattle.std.proofs.Common.{sym, ap, ◌∙◌, append-nil, append_assoc, subst}
use Rattle.std.proofs.lemmas.List.Elements.{filter_map-append}
use Rattle.std.proofs.lemmas.Option.{none-some, same_Some}
use Rattle.lsp_docs.proofs.HeldSteps.{held-snoc, next_held}
use Rattle.lsp_docs.proofs.Past.{past-changed, past-same}
use Rattle.lsp_docs.proofs.WaitingSteps.{change_parts}
use Rattle.lsp_docs.proofs.Words.{uri_is}
use Rattle.lsp_replay.specs.Common.{applied, AreAccepted, Bytes, Call, call_rule, changes, closes}
use Rattle.lsp_replay.specs.Common.{Edit, Encoding, held, opens, past, saves, shows, SyncKind}
use Rattle.lsp_replay.specs.Common.{Terms, uri_of, Version, versioned}
use Rattle.lsp_docs.specs.Documents.{text_or}
use Rattle.lsp_docs.specs.Rules.{AreAcceptedFrom}
use Rattle.lsp_trail.proofs.History.{since_last-push}
use Rattle.lsp_trail.proofs.LaterChanges.{AreRising, AreWithin, itself, rises-snoc, within-more}
use Rattle.lsp_trail.proofs.LaterChanges.{within-snoc}
use Rattle.lsp_trail.specs.Bases.{is_opening, sent_by, sent_since}
use Rattle.lsp_trail.specs.SentEdits.{SentEdits, sent_edits}
use Rattle.lsp_trail.specs.History.{since_last}

-- ---- one call more

pub sent-push : (uri : Bytes) (before : List Call) (c : Call)
    → sent_since uri (before ++ c ∷ [])
    ≡ (if is_opening uri c then [] else sent_since uri before ++ filter_map (sent_by uri) (c ∷ []))
sent-push uri before c =
    ap (filter_map (sent_by uri)) (since_last-push (is_opening uri) before c)
    ∙ by_test (is_opening uri c)
  where
    by_test : (b : Bool)
        → filter_map (sent_by uri) (if b then [] else since_last (is_opening uri) before ++ c ∷ [])
        ≡ (if b then [] else sent_since uri before ++ filter_map (sent_by uri) (c ∷ []))
    by_test true = refl
    by_test false = filter_map-append (sent_by uri) (since_last (is_opening uri) before) (c ∷ [])

pub sent_opened : (uri : Bytes) (before : List Call) (c : Call) → is_opening uri c ≡ true
    → sent_since uri (before ++ c ∷ []) ≡ []
sent_opened uri before c own =
    sent-push uri before c
    ∙ ap (λ (b : Bool). if b then []
    else sent_since uri before ++ filter_map (sent_by uri) (c ∷ [])) own

pub sent_with : (uri : Bytes) (before : List Call) (c : Call) (o : Option SentEdits)
    → is_opening uri c ≡ false → sent_by uri c ≡ o
    → sent_since uri (before ++ c ∷ []) ≡ sent_since uri before ++ cons_option o []
sent_with uri before c o other is =
    sent-push uri before c
    ∙ ap (λ (b : Bool). if b then []
    else sent_since uri before ++ filter_map (sent_by uri) (c ∷ [])) other
    ∙ ap (λ (p : Option SentEdits). sent_since uri before ++ cons_option p []) is

pub sent_same : (uri : Bytes) (before : List Call) (c : Call) → is_opening uri c ≡ false
    → sent_by uri c ≡ None → sent_since uri (before ++ c ∷ []) ≡ sent_since uri before
sent_same uri before c other none =
    sent_with uri before c None other none ∙ append-nil (sent_since uri before)

-- ---- a call that leaves a document

-- what is held of it stays, what was held before, and its changes
pub record Leaves (terms : Terms) (uri : Bytes) (before : List Call) (c : Call) : Type 0 where
  pub held_same : held terms uri (before ++ c ∷ []) ≡ held terms uri before
  pub past_same : past terms uri (before ++ c ∷ []) ≡ past terms uri before
  pub sent_alike : sent_since uri (before ++ c ∷ []) ≡ sent_since uri before

module _ (terms : Terms) (uri : Bytes) where
  other_next : (c : Call) → bytes_eq uri (uri_of c) ≡ false → (h : Option Version)
      → next_held terms uri h c ≡ h
  other_next (opens u n t) p None = rw p refl
  other_next (changes enc k u n cs) p (Some v) = rw p refl
  other_next (closes u) p None = rw p refl
  other_next (closes u) p (Some v) = rw p refl
  other_next (saves u t) p None = refl
  other_next (shows u n t) p None = refl
  other_next _ p _ = refl

  -- one of another document
  pub leaves_other : (before : List Call) (c : Call) → bytes_eq uri (uri_of c) ≡ false
      → Leaves terms uri before c
  leaves_other before (opens u n t) p = record {
    held_same = held-snoc terms uri before (opens u n t)
        ∙ other_next (opens u n t) p (held terms uri before);
    past_same = past-same terms uri before (opens u n t) refl refl;
    sent_alike = sent_same uri before (opens u n t) (rw p refl) refl;
  }
  leaves_other before (changes enc k u n cs) p = record {
    held_same = held-snoc terms uri before (changes enc k u n cs)
        ∙ other_next (changes enc k u n cs) p (held terms uri before);
    past_same = past-same terms uri before (changes enc k u n cs) refl p;
    sent_alike = sent_same uri before (changes enc k u n cs) refl (rw p refl);
  }
  leaves_other before (closes u) p = record {
    held_same = held-snoc terms uri before (closes u)
        ∙ other_next (closes u) p (held terms uri before);
    past_same = past-same terms uri before (closes u) p refl;
    sent_alike = sent_same uri before (closes u) refl refl;
  }
  leaves_other before (saves u t) p = record {
    held_same = held-snoc terms uri before (saves u t)
        ∙ other_next (saves u t) p (held terms uri before);
    past_same = past-same terms uri before (saves u t) refl refl;
    sent_alike = sent_same uri before (saves u t) refl refl;
  }
  leaves_other before (shows u n t) p = record {
    held_same = held-snoc terms uri before (shows u n t)
        ∙ other_next (shows u n t) p (held terms uri before);
    past_same = past-same terms uri before (shows u n t) refl refl;
    sent_alike = sent_same uri before (shows u n t) refl refl;
  }

  saved_next : (u : Bytes) (t : Option (List ℕ)) (h : Option Version)
      → next_held terms uri h (saves u t) ≡ h
  saved_next u t None = refl
  saved_next u t (Some v) = refl

  -- one that saves it
  pub leaves_saved : (before : List Call) (u : Bytes) (t : Option (List ℕ))
      → Leaves terms uri before (saves u t)
  leaves_saved before u t = record {
    held_same = held-snoc terms uri before (saves u t) ∙ saved_next u t (held terms uri before);
    past_same = past-same terms uri before (saves u t) refl refl;
    sent_alike = sent_same uri before (saves u t) refl refl;
  }

  shown_next : (u : Bytes) (n : ℤ) (t : List ℕ) (h : Option Version)
      → next_held terms uri h (shows u n t) ≡ h
  shown_next u n t None = refl
  shown_next u n t (Some v) = refl

  -- a snapshot of it
  pub leaves_shown : (before : List Call) (u : Bytes) (n : ℤ) (t : List ℕ)
      → Leaves terms uri before (shows u n t)
  leaves_shown before u n t = record {
    held_same = held-snoc terms uri before (shows u n t) ∙ shown_next u n t (held terms uri before);
    past_same = past-same terms uri before (shows u n t) refl refl;
    sent_alike = sent_same uri before (shows u n t) refl refl;
  }

-- ---- a change of it

-- **what a change of a document makes of it**
pub record IsChanged (terms : Terms) (uri : Bytes) (before : List Call) (c : Call) (n : ℤ)
    (more : SentEdits) : Type 0 where
  pub old : Version
  pub new : Version
  pub was : held terms uri before ≡ Some old
  pub is : held terms uri (before ++ c ∷ []) ≡ Some new
  pub number : new.number ≡ n
  pub rises : int_lt old.number n ≡ true
  pub past_more : past terms uri (before ++ c ∷ []) ≡ past terms uri before ++ old ∷ []
  pub sent_more : sent_since uri (before ++ c ∷ []) ≡ sent_since uri before ++ more ∷ []

pub changed_so : (terms : Terms) (uri : Bytes) (before : List Call) (enc : Encoding)
    (k : SyncKind) (u : Bytes) (n : ℤ) (cs : List Edit) → bytes_eq uri u ≡ true
    → call_rule terms before (changes enc k u n cs) ≡ None
    → IsChanged terms uri before (changes enc k u n cs) n (sent_edits n cs)
changed_so terms uri before enc k u n cs p kept =
    let c = changes enc k u n cs in
    let parts = change_parts terms _ enc k n cs (held terms u before) kept in
    let was : held terms uri before ≡ Some parts.old =
    ap (λ x. held terms x before) (uri_is uri u p) ∙ parts.is in
    record {
      old = parts.old;
      new = versioned n (text_or parts.old.text (applied terms.limit enc parts.old.text cs));
      was = was;
      is = held-snoc terms uri before c ∙ ap (λ h. next_held terms uri h c) was ∙ rw p refl;
      number = refl;
      rises = parts.rises;
      past_more = past-changed terms uri before c parts.old p was;
      sent_more = sent_with uri before c (Some (sent_edits n cs)) refl (rw p refl);
    }

-- ---- they rise up to the held version

abbrev pub SentRise : Terms → Bytes → List Call → Type 0
SentRise terms uri before =
    (v : Version) → held terms uri before ≡ Some v
    → AreRising (sent_since uri before) × AreWithin v.number (sent_since uri before)

-- a call that leaves it
rise_stay : (terms : Terms) (uri : Bytes) (before : List Call) (c : Call)
    → Leaves terms uri before c → SentRise terms uri before → SentRise terms uri (before ++ c ∷ [])
rise_stay terms uri before c leaves so v now =
    subst (λ (l : List SentEdits). AreRising l × AreWithin v.number l) (sym leaves.sent_alike)
    (so v (sym leaves.held_same ∙ now))

-- a change of it
rise_changed : (terms : Terms) (uri : Bytes) (before : List Call) (c : Call) (n : ℤ)
    (more : SentEdits) → more.number ≡ n → IsChanged terms uri before c n more
    → SentRise terms uri before → SentRise terms uri (before ++ c ∷ [])
rise_changed terms uri before c n more own is so v now =
    let was = so is.old is.was in
    let number : v.number ≡ n =
    ap (λ (w : Version). w.number) (same_Some v is.new (sym now ∙ is.is)) ∙ is.number in
    let less : int_lt is.old.number more.number ≡ true =
    ap (int_lt is.old.number) own ∙ is.rises in
    let all = sent_since uri before ++ more ∷ [] in
    subst (λ (l : List SentEdits). AreRising l × AreWithin v.number l) (sym is.sent_more)
    (subst (λ (m : ℤ). AreRising all × AreWithin m all) (own ∙ sym number) (
      rises-snoc is.old.number (sent_since uri before) more was.0 was.1 less,
      within-snoc more.number (sent_since uri before) more
          (within-more more.number is.old.number (sent_since uri before) less was.1)
          (itself more.number),
    ))

module _ (terms : Terms) (uri : Bytes) (before : List Call) (so : SentRise terms uri before) where
  rise_step : (c : Call) → call_rule terms before c ≡ None → SentRise terms uri (before ++ c ∷ [])
  rise_step (opens u n t) kept = by_test (bytes_eq uri u) refl
    where
      by_test : (b : Bool) → bytes_eq uri u ≡ b → SentRise terms uri (before ++ opens u n t ∷ [])
      by_test true p = λ v now.
          subst (λ (l : List SentEdits). AreRising l × AreWithin v.number l)
          (sym (sent_opened uri before (opens u n t) (rw p refl))) (tt, tt)
      by_test false p =
          rise_stay terms uri before (opens u n t)
          (leaves_other terms uri before (opens u n t) p) so
  rise_step (changes enc k u n cs) kept = by_test (bytes_eq uri u) refl
    where
      by_test : (b : Bool) → bytes_eq uri u ≡ b
          → SentRise terms uri (before ++ changes enc k u n cs ∷ [])
      by_test true p =
          rise_changed terms uri before (changes enc k u n cs) n (sent_edits n cs) refl
          (changed_so terms uri before enc k u n cs p kept) so
      by_test false p =
          rise_stay terms uri before (changes enc k u n cs)
          (leaves_other terms uri before (changes enc k u n cs) p) so
  rise_step (closes u) kept = by_test (bytes_eq uri u) refl
    where
      by_test : (b : Bool) → bytes_eq uri u ≡ b → SentRise terms uri (before ++ closes u ∷ [])
      by_test true p = λ v now.
          absurd (none-some v (sym (held-snoc terms uri before (closes u) ∙ rw p refl) ∙ now))
      by_test false p =
          rise_stay terms uri before (closes u) (leaves_other terms uri before (closes u) p) so
  rise_step (saves u t) kept =
      rise_stay terms uri before (saves u t) (leaves_saved terms uri before u t) so
  rise_step (shows u n t) kept =
      rise_stay terms uri before (shows u n t) (leaves_shown terms uri before u n t) so

rise_on : (terms : Terms) (uri : Bytes) (before more : List Call)
    → AreAcceptedFrom terms before more → SentRise terms uri before
    → SentRise terms uri (before ++ more)
rise_on terms uri before [] h so = subst (SentRise terms uri) (sym (append-nil before)) so
rise_on terms uri before (c ∷ more) h so =
    subst (SentRise terms uri) (append_assoc before (c ∷ []) more)
    (rise_on terms uri (before ++ c ∷ []) more h.1 (rise_step terms uri before so c h.0))

-- **The changes of an opening rise up to the held version.**
pub sent_rise : (terms : Terms) (uri : Bytes) (calls : List Call) → AreAccepted terms calls
    → SentRise terms uri calls
sent_rise terms uri calls h = rise_on terms uri [] calls h (λ v now. absurd (none-some v now))
