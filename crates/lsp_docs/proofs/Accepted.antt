-- Lists of accepted calls: their parts, and what one accepted call does to what is held.
use Rattle.std.proofs.Common.{◌≡◌, true, false, ◌||◌, List, [], ◌∷◌, ◌++◌, refl, sym, ap, ◌∙◌}
use Rattle.std.proofs.Common.{subst, Some, None, inl, inr, append_assoc, append-nil, true≢false}
use Rattle.std.specs.Prelude.{int_lt, if◌then◌else◌}
use Rattle.std.specs.List.{list_any}
use Rattle.std.specs.Option.{option_or}
use Rattle.std.specs.Str.{bytes_eq}
use Rattle.std.proofs.lemmas.Bool.{or_parts, cases_Bool}
use Rattle.std.proofs.lemmas.Option.{same_Some}
use Rattle.lsp_text.specs.Edits.{applied}
use Rattle.lsp_docs.specs.Documents.{Terms, Version, versioned, text_or, held}
use Rattle.lsp_docs.specs.Calls.{Bytes, Call, opens, changes, closes, saves, shows, is_close}
use Rattle.lsp_docs.specs.Calls.{is_change}
use Rattle.lsp_docs.specs.Rules.{call_rule, AreAcceptedFrom}
use Rattle.lsp_docs.proofs.Words.{uri_is, lt_trans}
use Rattle.lsp_docs.proofs.HeldSteps.{next_held, held-snoc}
use Rattle.lsp_docs.proofs.WaitingSteps.{change_parts}

pub accepted-split : (terms : Terms) (before xs ys : List Call)
    → AreAcceptedFrom terms before (xs ++ ys)
    → AreAcceptedFrom terms before xs × AreAcceptedFrom terms (before ++ xs) ys
accepted-split terms before [] ys h =
    (tt, subst (λ l. AreAcceptedFrom terms l ys) (sym (append-nil before)) h)
accepted-split terms before (x ∷ xs) ys h =
    let parts = accepted-split terms (before ++ x ∷ []) xs ys h.1 in (
      (h.0, parts.0),
      subst (λ l. AreAcceptedFrom terms l ys) (append_assoc before (x ∷ []) xs)
          parts.1,
    )

-- ---- what an accepted call that closes nothing makes of a held version

pub record Next (terms : Terms) (uri : Bytes) (calls : List Call) (c : Call) (v : Version) : Type 0
  where
    pub version : Version
    pub held : held terms uri (calls ++ c ∷ []) ≡ Some version
    pub rises : is_change uri c ≡ true → int_lt v.number version.number ≡ true
    pub stays : is_change uri c ≡ false → v ≡ version

module _ (terms : Terms) (uri : Bytes) (calls : List Call) (v : Version)
    (now : held terms uri calls ≡ Some v) where
  next-is : (c : Call) → next_held terms uri (held terms uri calls) c
      ≡ next_held terms uri (Some v) c
  next-is c = ap (λ h. next_held terms uri h c) now

  pub next : (c : Call) → call_rule terms calls c ≡ None → is_close uri c ≡ false
      → Next terms uri calls c v
  next (opens u n t) e open_still = record {
    version = v;
    held = held-snoc terms uri calls (opens u n t) ∙ next-is (opens u n t);
    rises = λ p. absurd (true≢false (sym p));
    stays = λ p. refl;
  }
  next (changes enc k u n cs) e open_still =
      elim (cases_Bool (bytes_eq uri u)) [
        | inl p ↦
            let parts = change_parts terms _ enc k n cs (held terms u calls) e in
            let same : parts.old ≡ v =
            same_Some parts.old v (sym parts.is ∙ (ap (λ x. held terms x calls)
            (sym (uri_is uri u p)) ∙ now)) in
            record {
              version = versioned n (text_or v.text (applied terms.limit enc v.text cs));
              held = held-snoc terms uri calls (changes enc k u n cs)
                  ∙ (next-is (changes enc k u n cs) ∙ rw p refl);
              rises = λ q. ap (λ w. int_lt w.number n) (sym same) ∙ parts.rises;
              stays = λ q. absurd (true≢false (sym p ∙ q));
            }
        | inr p ↦ record {
          version = v;
          held = held-snoc terms uri calls (changes enc k u n cs)
              ∙ (next-is (changes enc k u n cs) ∙ rw p refl);
          rises = λ q. absurd (true≢false (sym q ∙ p));
          stays = λ q. refl;
        }
      ]
  next (closes u) e open_still = record {
    version = v;
    held = held-snoc terms uri calls (closes u)
        ∙ (next-is (closes u) ∙ ap (λ b. if b then None else option_or (Some v) None) open_still);
    rises = λ p. absurd (true≢false (sym p));
    stays = λ p. refl;
  }
  next (saves u t) e open_still = record {
    version = v;
    held = held-snoc terms uri calls (saves u t) ∙ next-is (saves u t);
    rises = λ p. absurd (true≢false (sym p));
    stays = λ p. refl;
  }
  next (shows u n t) e open_still = record {
    version = v;
    held = held-snoc terms uri calls (shows u n t) ∙ next-is (shows u n t);
    rises = λ p. absurd (true≢false (sym p));
    stays = λ p. refl;
  }

-- ---- and what accepted calls make of it

pub record Risen (terms : Terms) (uri : Bytes) (calls more : List Call) (v : Version) : Type 0 where
  pub version : Version
  pub held : held terms uri (calls ++ more) ≡ Some version
  pub rises : list_any (is_change uri) more ≡ true → int_lt v.number version.number ≡ true
  pub stays : list_any (is_change uri) more ≡ false → v ≡ version

-- **Each change raises the version of an opening, and nothing else touches it.**
pub risen : (terms : Terms) (uri : Bytes) (calls more : List Call) (v : Version)
    → AreAcceptedFrom terms calls more → list_any (is_close uri) more ≡ false
    → held terms uri calls ≡ Some v → Risen terms uri calls more v
risen terms uri calls [] v h open_still now = record {
  version = v;
  held = ap (held terms uri) (append-nil calls) ∙ now;
  rises = λ p. absurd (true≢false (sym p));
  stays = λ p. refl;
}
risen terms uri calls (c ∷ more) v h open_still now =
    let closing = or_parts (is_close uri c) (list_any (is_close uri) more) open_still in
    let one = next terms uri calls v now c h.0 closing.0 in
    let rest = risen terms uri (calls ++ c ∷ []) more one.version h.1 closing.1 one.held in
    record {
      version = rest.version;
      held = ap (held terms uri) (sym (append_assoc calls (c ∷ []) more)) ∙ rest.held;
      rises = λ p. elim (cases_Bool (is_change uri c)) [
        | inl q ↦ elim (cases_Bool (list_any (is_change uri) more)) [
          | inl r ↦ lt_trans v.number one.version.number rest.version.number (one.rises q)
              (rest.rises r)
          | inr r ↦ ap (λ w. int_lt v.number w.number) (sym (rest.stays r)) ∙ one.rises q
        ]
        | inr q ↦ ap (λ w. int_lt w.number rest.version.number) (one.stays q)
            ∙ rest.rises (ap (λ b. b || list_any (is_change uri) more) (sym q) ∙ p)
      ];
      stays = λ p. let parts = or_parts (is_change uri c) (list_any (is_change uri) more) p in
          one.stays parts.0 ∙ rest.stays parts.1;
    }
