-- What stands for a list of calls, from one accepted call to the next.
use Rattle.std.proofs.Common.{◌≡◌, ℕ, ◌+◌, ◌≤◌, Bool, true, false, ◌&&◌, List, [], ◌∷◌, ◌++◌}
use Rattle.std.proofs.Common.{length, refl, sym, ap, ◌∙◌, Option, Some, None, inl, inr, append-nil}
use Rattle.std.proofs.Common.{subst, Ok}
use Rattle.std.proofs.lemmas.Bool.{cases_Bool}
use Rattle.std.specs.Prelude.{if◌then◌else◌, ℤ, not, is_some, option_to_list}
use Rattle.std.specs.Str.{bytes_eq}
use Rattle.std.proofs.lemmas.Option.{none-some}
use Rattle.lsp_types.specs.declared.position.Encoding.{Encoding}
use Rattle.lsp_types.specs.declared.change.SyncKind.{SyncKind}
use Rattle.lsp_types.specs.declared.fault.Fault.{Fault}
use Rattle.lsp_types.specs.declared.fault.Fault.TheVariants.{Rule}
use Rattle.lsp_docs.specs.Calls.{Text, Bytes, Call, opens, changes, closes, saves, shows, uri_of}
use Rattle.lsp_docs.specs.Calls.{is_close, is_change}
use Rattle.lsp_docs.specs.Documents.{Terms, Version, versioned, held, Held, documents}
use Rattle.lsp_text.specs.Edits.{Edit, applied}
use Rattle.lsp_docs.specs.Snapshots.{past, last_of, kept, is_ahead, has_number, shown_entry}
use Rattle.lsp_docs.specs.Snapshots.{waiting, versions_of, missed_at}
use Rattle.lsp_types.specs.declared.line_ends.LineEnds.{LineEnds}
use Rattle.lsp_text.specs.SameText.{same_text}
use Rattle.lsp_docs.specs.Rules.{rule_of, call_rule}
use Rattle.lsp_docs.specs.State.{State, Waits, held_in, set_in, without, queue_of, reached}
use Rattle.lsp_docs.specs.State.{missed_one, Queue, KeepsSame, KeepsOn, KeepsNone, Stands}
use Rattle.lsp_docs.specs.State.{rule_at, text_in, IsAdded, IsReleased, AreWaits}
use Rattle.lsp_docs.specs.State.{capped, Allows, Accepts, Refuses}
use Rattle.lsp_docs.specs.Stored.{IsChanged, Opened, answer_of, IsAnswer}
use Rattle.lsp_types.specs.Fault.{Names}
use Rattle.lsp_docs.specs.declared.snapshot.Match.{Match}
use Rattle.lsp_docs.specs.declared.snapshot.Match.TheVariants as matches
use Rattle.lsp_docs.proofs.Words.{uri_is, uri_flip, unchanged}
use Rattle.lsp_docs.proofs.HeldSteps.{held-snoc}
use Rattle.lsp_docs.proofs.DocumentSteps.{documents-push, held-documents, all_stay, all_saved}
use Rattle.lsp_docs.proofs.DocumentSteps.{all_shown, closed_is, changed_is}
use Rattle.lsp_docs.proofs.WaitingSteps.{change_parts}
use Rattle.lsp_docs.proofs.Standing.{accepted-push, documents-distinct, waits-opened, waits-changed}
use Rattle.lsp_docs.proofs.Standing.{waits-closed, waits-kept, waits-shown, waits-missed}
use Rattle.lsp_docs.proofs.Rising.{last-few, last-empty, last-snoc}
use Rattle.lsp_docs.proofs.SameVersions.{rule-same}
use Rattle.lsp_docs.proofs.Past.{past-same, past-changed, past-closed, reached-number}

-- ---- readers

pub held-stands : (s : State) (calls : List Call) (u : Bytes) → Stands s calls
    → held_in u s.documents ≡ held s.terms u calls
held-stands s calls u h = ap (held_in u) h.documents ∙ sym (held-documents s.terms u calls)

pub rule-stands : (s : State) (calls : List Call) (c : Call) → Stands s calls
    → rule_at s c ≡ call_rule s.terms calls c
rule-stands s calls c h =
    ap (λ o. rule_of s.terms o (queue_of (uri_of c) s.kept) (queue_of (uri_of c) s.waits.queues) c)
    (held-stands s calls (uri_of c) h)
    ∙ (ap (λ ks. rule_of s.terms (held s.terms (uri_of c) calls) ks
    (queue_of (uri_of c) s.waits.queues) c) (h.kept (uri_of c))
    ∙ rule-same (queue_of (uri_of c) s.waits.queues)
    (versions_of (uri_of c) (waiting s.terms calls)) (h.waits.queues (uri_of c)) s.terms
    (held s.terms (uri_of c) calls) (kept s.terms (uri_of c) calls) c)

pub allows : (s : State) (c : Call) → rule_at s c ≡ None → Allows s c
allows s c e calls h = sym (rule-stands s calls c h) ∙ e

pub refuses : (s : State) (c : Call) (f : Fault) → Names (rule_at s c) f → Refuses s c f
refuses s c f n calls h = subst (λ r. Names r f) (rule-stands s calls c h) n

pub breaks : (s : State) (c : Call) (n : ℕ) → rule_at s c ≡ Some n → Refuses s c (Rule n)
breaks s c n e = refuses s c (Rule n) e

pub answers : (s : State) (u : Bytes) (n : ℤ) (m : Match)
    → m ≡ answer_of n (queue_of u s.kept) (held_in u s.documents) → IsAnswer s u n m
answers s u n m e calls h =
    e ∙ (ap (answer_of n (queue_of u s.kept)) (held-stands s calls u h)
    ∙ ap (λ ks. answer_of n ks (held s.terms u calls)) (h.kept u))

-- ---- steps

abbrev pub terms_in : ℕ → ℕ → LineEnds → Terms
terms_in limit kept ends = record { limit = limit; kept = kept; line_ends = ends }

abbrev pub stated : Terms → List Held → List Queue → Waits → State
stated terms hs ks w = record { terms = terms; documents = hs; kept = ks; waits = w }

-- a call that neither closes nor changes a document leaves what is kept of it
kept-same : (s : State) (calls : List Call) (c : Call) (ks : List Queue)
    → ((uri : Bytes) → is_close uri c ≡ false) → ((uri : Bytes) → is_change uri c ≡ false)
    → KeepsSame s.kept ks → Stands s calls → (uri : Bytes)
    → queue_of uri ks ≡ kept s.terms uri (calls ++ c ∷ [])
kept-same s calls c ks p q same h uri =
    same uri ∙ (h.kept uri ∙ ap (last_of s.terms.kept)
    (sym (past-same s.terms uri calls c (p uri) (q uri))))

-- the held version of the changed document is kept from now on
kept-changed : (s : State) (calls : List Call) (enc : Encoding) (k : SyncKind) (u : Bytes) (n : ℤ)
    (cs : List Edit) (v : Version) (ks : List Queue)
    → held_in u s.documents ≡ Some v → KeepsOn s.terms.kept u (held_in u s.documents) s.kept ks
    → Stands s calls
    → (uri : Bytes) → queue_of uri ks ≡ kept s.terms uri (calls ++ changes enc k u n cs ∷ [])
kept-changed s calls enc k u n cs v ks there keeps h uri =
    keeps few uri
    ∙ elim (cases_Bool (bytes_eq u uri)) [
      | inl p ↦
          let now : held s.terms uri calls ≡ Some v =
          ap (λ x. held s.terms x calls) (sym (uri_is u uri p))
          ∙ (sym (held-stands s calls u h) ∙ there) in
          rw p (ap (λ o. last_of most (queue_of uri s.kept ++ option_to_list o)) there
          ∙ (ap (λ l. last_of most (l ++ v ∷ [])) (h.kept uri)
          ∙ (last-snoc most (past s.terms uri calls) v
          ∙ ap (last_of most) (sym (past-changed s.terms uri calls c v (uri_flip uri u ∙ p) now)))))
      | inr p ↦ rw p (h.kept uri ∙ ap (last_of most)
          (sym (past-same s.terms uri calls c refl (uri_flip uri u ∙ p))))
    ]
  where
    most : ℕ
    most = s.terms.kept

    c : Call
    c = changes enc k u n cs

    few : length (queue_of u s.kept) ≤ most
    few = subst (λ l. length l ≤ most) (sym (h.kept u)) (last-few most (past s.terms u calls))

-- nothing is kept of a closed document
kept-closed : (s : State) (calls : List Call) (u : Bytes) (ks : List Queue) → KeepsNone u s.kept ks
    → Stands s calls → (uri : Bytes) → queue_of uri ks ≡ kept s.terms uri (calls ++ closes u ∷ [])
kept-closed s calls u ks drops h uri =
    drops uri
    ∙ elim (cases_Bool (bytes_eq u uri)) [
      | inl p ↦ rw p (sym (ap (last_of s.terms.kept)
          (past-closed s.terms uri calls (closes u) (uri_flip uri u ∙ p))
          ∙ last-empty s.terms.kept))
      | inr p ↦ rw p (h.kept uri ∙ ap (last_of s.terms.kept)
          (sym (past-same s.terms uri calls (closes u) (uri_flip uri u ∙ p) refl)))
    ]

accepts : (s : State) (c : Call) (hs : List Held) (ks : List Queue) (w : Waits)
    → rule_at s c ≡ None
    → ((calls : List Call) → Stands s calls → call_rule s.terms calls c ≡ None
    → (hs ≡ documents s.terms (calls ++ c ∷ []))
    × ((uri : Bytes) → queue_of uri ks ≡ kept s.terms uri (calls ++ c ∷ []))
    × AreWaits s.terms w (calls ++ c ∷ []))
    → Accepts s (stated s.terms hs ks w) c
accepts s c hs ks w e then_stands = record {
  accepted = allows s c e;
  stands = λ calls h.
      let rule = allows s c e calls h in
      let now = then_stands calls h rule in
      record {
        accepted = accepted-push s.terms calls c h.accepted rule;
        documents = now.0;
        kept = now.1;
        waits = now.2;
      };
  terms = refl;
}

pub accepts-opened : (s : State) (u : Bytes) (n : ℤ) (t : Text) (hs : List Held) (ks : List Queue)
    (w : Waits) → rule_at s (opens u n t) ≡ None
    → hs ≡ s.documents ++ record { uri = u; version = versioned n t } ∷ [] → KeepsSame s.kept ks
    → w ≡ reached u n s.waits → Accepts s (stated s.terms hs ks w) (opens u n t)
accepts-opened s u n t hs ks w e opened same reaches =
    let c = opens u n t in
    let new : Held = record { uri = u; version = versioned n t } in
    accepts s c hs ks w e (λ calls h rule. (
      opened ∙ (ap (λ l. l ++ new ∷ []) (h.documents
          ∙ sym (all_stay s.terms u n t (documents s.terms calls)))
          ∙ sym (documents-push s.terms calls c)),
      kept-same s calls c ks (λ x. refl) (λ x. refl) same h,
      subst (λ v. AreWaits s.terms v (calls ++ c ∷ [])) (sym reaches)
          (waits-opened s.terms s.waits calls u n t h.waits rule),
    ))

pub accepts-changed : (s : State) (enc : Encoding) (k : SyncKind) (u : Bytes) (n : ℤ)
    (cs : List Edit) (broken : Option ℕ) (new : Opened) (w : Waits)
    → rule_at s (changes enc k u n cs) ≡ None
    → IsChanged broken (applied s.terms.limit enc (text_in (held_in u s.documents)) cs) s.terms.kept
    u n (record { held = s.documents; kept = s.kept }) new → w ≡ reached u n s.waits
    → Accepts s (stated s.terms new.held new.kept w) (changes enc k u n cs)
accepts-changed s enc k u n cs broken new w e made reaches =
    let c = changes enc k u n cs in
    let parts = change_parts s.terms (queue_of u s.waits.queues) enc k n cs (held_in u s.documents)
    e in
    let text : applied s.terms.limit enc parts.old.text cs ≡ Ok made.text =
    ap (λ o. applied s.terms.limit enc (text_in o) cs) (sym parts.is) ∙ made.is_made in
    accepts s c new.held new.kept w e (λ calls h rule. (
      made.held ∙ (ap (set_in u (versioned n made.text)) h.documents
          ∙ (sym (changed_is s.terms enc k u n cs parts.old made.text text
          (documents s.terms calls) (documents-distinct s.terms calls h.accepted)
          (sym (ap (held_in u) h.documents) ∙ parts.is))
          ∙ (sym (append-nil _) ∙ sym (documents-push s.terms calls c)))),
      kept-changed s calls enc k u n cs parts.old new.kept parts.is made.kept h,
      subst (λ v. AreWaits s.terms v (calls ++ c ∷ [])) (sym reaches)
          (waits-changed s.terms s.waits calls enc k u n cs h.waits rule),
    ))

pub accepts-closed : (s : State) (u : Bytes) (hs : List Held) (ks : List Queue) (w : Waits)
    → rule_at s (closes u) ≡ None → hs ≡ without u s.documents → KeepsNone u s.kept ks
    → IsReleased u s.waits.queues w.queues
    → w.missed ≡ capped (s.waits.missed + length (queue_of u s.waits.queues))
    → Accepts s (stated s.terms hs ks w) (closes u)
accepts-closed s u hs ks w e closed drops left counted =
    accepts s (closes u) hs ks w e (λ calls h rule. (
      closed ∙ (ap (without u) h.documents
          ∙ (sym (closed_is s.terms u (documents s.terms calls)
          (documents-distinct s.terms calls h.accepted))
          ∙ (sym (append-nil _) ∙ sym (documents-push s.terms calls (closes u))))),
      kept-closed s calls u ks drops h,
      waits-closed s.terms s.waits calls u w h.waits rule left counted,
    ))

pub accepts-saved : (s : State) (u : Bytes) (t : Option Text) → rule_at s (saves u t) ≡ None
    → Accepts s s (saves u t)
accepts-saved s u t e =
    let c = saves u t in
    accepts s c s.documents s.kept s.waits e (λ calls h rule. (
      h.documents ∙ (sym (all_saved s.terms u t (documents s.terms calls))
          ∙ (sym (append-nil _) ∙ sym (documents-push s.terms calls c))),
      kept-same s calls c s.kept (λ x. refl) (λ x. refl) (λ x. refl) h,
      waits-kept s.terms s.waits calls c h.waits rule refl refl (λ x. refl) (λ x. refl),
    ))

pub held-shown : (terms : Terms) (calls : List Call) (u : Bytes) (n : ℤ) (t : Text)
    → held terms u (calls ++ shows u n t ∷ []) ≡ held terms u calls
held-shown terms calls u n t =
    held-snoc terms u calls (shows u n t) ∙ unchanged (held terms u calls)

-- ---- answers

abbrev answered : Bool → Bool → Match
answered f a = if f then matches.Equal else (if a then matches.Waits else matches.Missed)

is_equal : (f a : Bool) → answered f a ≡ matches.Equal → f ≡ true
is_equal true a e = refl
is_equal false true e = let clash : matches.Waits ≡ matches.Equal = e in absurd cc
is_equal false false e = let clash : matches.Missed ≡ matches.Equal = e in absurd cc

is_waiting : (f a : Bool) → answered f a ≡ matches.Waits → (f ≡ false) × (a ≡ true)
is_waiting true a e = let clash : matches.Equal ≡ matches.Waits = e in absurd cc
is_waiting false true e = (refl, refl)
is_waiting false false e = let clash : matches.Missed ≡ matches.Waits = e in absurd cc

is_passed : (f a : Bool) → answered f a ≡ matches.Missed → (f ≡ false) × (a ≡ false)
is_passed true a e = let clash : matches.Equal ≡ matches.Missed = e in absurd cc
is_passed false true e = let clash : matches.Waits ≡ matches.Missed = e in absurd cc
is_passed false false e = (refl, refl)

module _ (s : State) (u : Bytes) (n : ℤ) (t : Text) where
  abbrev c : Call
  c = shows u n t

  -- what is read off the state
  abbrev is_ahead_in : Bool
  is_ahead_in = is_ahead n (held_in u s.documents)

  abbrev has_in : Bool
  has_in = has_number n (queue_of u s.kept) (held_in u s.documents)

  -- and off the calls
  module _ (calls : List Call) (h : Stands s calls) where
    ahead_now : (b : Bool) → is_ahead_in ≡ b → is_ahead n (held s.terms u (calls ++ c ∷ [])) ≡ b
    ahead_now b p =
        ap (is_ahead n) (held-shown s.terms calls u n t ∙ sym (held-stands s calls u h)) ∙ p

    has_now : (b : Bool) → has_in ≡ b
        → has_number n (kept s.terms u calls) (held s.terms u calls) ≡ b
    has_now b p = ap (λ ks. has_number n ks (held s.terms u calls)) (sym (h.kept u))
        ∙ (ap (has_number n (queue_of u s.kept)) (sym (held-stands s calls u h)) ∙ p)

    missed_now : (a f : Bool) → is_ahead_in ≡ a → has_in ≡ f
        → missed_at s.terms calls c ≡ (if not a && not f then 1 else 0)
    missed_now a f p q = rw (has_now f q, ap (is_ahead n) (sym (held-stands s calls u h)) ∙ p) refl

    entry_now : (a : Bool) → is_ahead_in ≡ a
        → shown_entry s.terms (calls ++ c ∷ []) c [] ≡ (if a && true then record {
          uri = u;
          version = versioned n t;
        } ∷ [] else [])
    entry_now a p = ap (λ b. if b && true then record { uri = u; version = versioned n t } ∷ [] else
        []) (ahead_now a p)

  -- the documents and what is kept of them stay
  accepts-shown : (w : Waits) → rule_at s c ≡ None
      → ((calls : List Call) → Stands s calls → call_rule s.terms calls c ≡ None
      → AreWaits s.terms w (calls ++ c ∷ []))
      → Accepts s (stated s.terms s.documents s.kept w) c
  accepts-shown w e waits = accepts s c s.documents s.kept w e (λ calls h rule. (
    h.documents ∙ (sym (all_shown s.terms u n t (documents s.terms calls))
        ∙ (sym (append-nil _) ∙ sym (documents-push s.terms calls c))),
    kept-same s calls c s.kept (λ x. refl) (λ x. refl) (λ x. refl) h,
    waits calls h rule,
  ))

  pub accepts-equal : rule_at s c ≡ None → answered has_in is_ahead_in ≡ matches.Equal
      → Accepts s s c
  accepts-equal e is =
      let equal = is_equal has_in is_ahead_in is in
      accepts-shown s.waits e (λ calls h rule.
      let behind : is_ahead_in ≡ false =
      ap (is_ahead n) (held-stands s calls u h)
      ∙ reached-number s.terms u calls n h.accepted (has_now calls h true equal) in
      waits-kept s.terms s.waits calls c h.waits rule (entry_now calls h false behind)
      (missed_now calls h false true behind equal) (λ x. refl) (λ x. refl))

  pub accepts-waiting : (w : Waits) → rule_at s c ≡ None
      → answered has_in is_ahead_in ≡ matches.Waits
      → IsAdded u (versioned n t) s.waits.queues w.queues → w.missed ≡ s.waits.missed
      → Accepts s (stated s.terms s.documents s.kept w) c
  accepts-waiting w e is added counted =
      let said = is_waiting has_in is_ahead_in is in
      accepts-shown w e (λ calls h rule.
      waits-shown s.terms s.waits calls u n t w h.waits rule (entry_now calls h true said.1)
      (missed_now calls h true false said.1 said.0) added counted)

  pub accepts-missed : (w : Waits) → rule_at s c ≡ None
      → answered has_in is_ahead_in ≡ matches.Missed → w ≡ missed_one s.waits
      → Accepts s (stated s.terms s.documents s.kept w) c
  accepts-missed w e is missing =
      let said = is_passed has_in is_ahead_in is in
      accepts-shown w e (λ calls h rule.
      subst (λ v. AreWaits s.terms v (calls ++ c ∷ [])) (sym missing)
      (waits-missed s.terms s.waits calls u n t h.waits rule (entry_now calls h false said.1)
      (missed_now calls h false false said.1 said.0)))

-- ---- rules of a close, a save and a snapshot

pub close-none : (terms : Terms) (o : Option Version) (ks ws : List Version) (u : Bytes)
    → is_some o ≡ false → rule_of terms o ks ws (closes u) ≡ Some 602
close-none terms o ks ws u p = rw p refl

pub close-some : (terms : Terms) (o : Option Version) (ks ws : List Version) (u : Bytes)
    → is_some o ≡ true → rule_of terms o ks ws (closes u) ≡ None
close-some terms o ks ws u p = rw p refl

pub save-differs : (terms : Terms) (o : Option Version) (ks ws : List Version) (u : Bytes)
    (v : Version) (t : Text)
    → o ≡ Some v → same_text terms.line_ends v.text t ≡ false
    → rule_of terms o ks ws (saves u (Some t)) ≡ Some 608
save-differs terms o ks ws u v t is p = rw (is, p) refl

pub save-same : (terms : Terms) (o : Option Version) (ks ws : List Version) (u : Bytes)
    (v : Version) (t : Text)
    → o ≡ Some v → same_text terms.line_ends v.text t ≡ true
    → rule_of terms o ks ws (saves u (Some t)) ≡ None
save-same terms o ks ws u v t is p = rw (is, p) refl

pub save-no-text : (terms : Terms) (o : Option Version) (ks ws : List Version) (u : Bytes)
    → rule_of terms o ks ws (saves u None) ≡ None
save-no-text terms None ks ws u = refl
save-no-text terms (Some v) ks ws u = refl

pub save-closed : (terms : Terms) (o : Option Version) (ks ws : List Version) (u : Bytes)
    (t : Option Text) → o ≡ None → rule_of terms o ks ws (saves u t) ≡ None
save-closed terms None ks ws u None e = refl
save-closed terms None ks ws u (Some t) e = refl
save-closed terms (Some v) ks ws u t e = absurd (none-some v (sym e))
