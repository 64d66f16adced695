-- What one more call does to the list of the open documents.
use Rattle.std.proofs.Common.{◌≡◌, Bool, true, false, List, [], ◌∷◌, ◌++◌, map, filter, refl, sym}
use Rattle.std.proofs.Common.{ap, ◌∙◌, Option, Some, None, inl, inr, append_assoc, append-nil}
use Rattle.std.proofs.Common.{subst, Ok, true≢false}
use Rattle.std.specs.Prelude.{if◌then◌else◌, ℤ, not}
use Rattle.std.specs.Str.{bytes_eq}
use Rattle.std.specs.Option.{option_or}
use Rattle.std.proofs.lemmas.Option.{none-some, same_Some}
use Rattle.std.proofs.lemmas.Bool.{cases_Bool}
use Rattle.std.proofs.lemmas.List.Elements.{filter-append}
use Rattle.std.proofs.lemmas.List.{map-append}
use Rattle.lsp_types.specs.declared.position.Encoding.{Encoding}
use Rattle.lsp_types.specs.declared.change.SyncKind.{SyncKind}
use Rattle.lsp_docs.specs.Calls.{Text, Bytes, Call, opens, changes, closes, saves, shows, is_close}
use Rattle.lsp_docs.specs.Documents.{Terms, Version, versioned, revised, held_since, held, Held}
use Rattle.lsp_docs.specs.Documents.{as_held, held_entry, documents}
use Rattle.lsp_text.specs.Edits.{Edit, applied}
use Rattle.lsp_docs.specs.State.{held_in, set_in, without}
use Rattle.lsp_docs.proofs.Words.{uri_is, uri_flip}
use Rattle.lsp_docs.proofs.HeldSteps.{since, held_since-snoc}
use Rattle.lsp_docs.proofs.WaitingSteps.{none_row}

abbrev pub stays : Call → Held → Bool
stays c h = not (is_close h.uri c)

abbrev pub revised_held : Terms → Call → Held → Held
revised_held terms c h = record { uri = h.uri; version = revised terms h.uri h.version c }

as_since : (terms : Terms) (u : Bytes) (o : Option Version) (c : Call)
    → as_held u (since terms u o (is_close u c) c)
    ≡ map (revised_held terms c) (filter (stays c) (as_held u o))
as_since terms u None c = elim (cases_Bool (is_close u c)) [ inl p ↦ rw p refl | inr p ↦ rw p refl ]
as_since terms u (Some v) c =
    elim (cases_Bool (is_close u c)) [ inl p ↦ rw p refl | inr p ↦ rw p refl ]

held_entry-push : (terms : Terms) (c : Call) (later : List Call) (m : Call)
    → held_entry terms c (later ++ m ∷ [])
    ≡ map (revised_held terms m) (filter (stays m) (held_entry terms c later))
held_entry-push terms (opens u n t) later m =
    ap (as_held u) (held_since-snoc terms u later m (Some (versioned n t)))
    ∙ as_since terms u (held_since terms u later (Some (versioned n t))) m
held_entry-push terms _ later m = refl

abbrev pub after_call : Terms → Call → List Held → List Held
after_call terms m hs = map (revised_held terms m) (filter (stays m) hs)

after_call-append : (terms : Terms) (m : Call) (xs ys : List Held)
    → after_call terms m (xs ++ ys) ≡ after_call terms m xs ++ after_call terms m ys
after_call-append terms m xs ys =
    ap (map (revised_held terms m)) (filter-append (stays m) xs ys)
    ∙ map-append (revised_held terms m) (filter (stays m) xs) (filter (stays m) ys)

-- **One more call** closes, changes and opens
pub documents-push : (terms : Terms) (calls : List Call) (m : Call)
    → documents terms (calls ++ m ∷ [])
    ≡ after_call terms m (documents terms calls) ++ held_entry terms m []
documents-push terms [] m = append-nil (held_entry terms m [])
documents-push terms (c ∷ calls) m =
    rw (
      held_entry-push terms c calls m,
      documents-push terms calls m,
      after_call-append terms m (held_entry terms c calls) (documents terms calls),
    )
    (sym (append_assoc (after_call terms m (held_entry terms c calls))
    (after_call terms m (documents terms calls)) (held_entry terms m [])))

-- ---- what is held of a URI stands in the list

held_in-as : (uri u : Bytes) (o : Option Version) (rest : List Held)
    → held_in uri (as_held u o ++ rest)
    ≡ (if bytes_eq uri u then option_or o (held_in uri rest) else held_in uri rest)
held_in-as uri u None rest =
    elim (cases_Bool (bytes_eq uri u)) [ inl p ↦ rw p refl | inr p ↦ rw p refl ]
held_in-as uri u (Some v) rest =
    elim (cases_Bool (bytes_eq uri u)) [ inl p ↦ rw p refl | inr p ↦ rw p refl ]

pub held-documents : (terms : Terms) (uri : Bytes) (calls : List Call)
    → held terms uri calls ≡ held_in uri (documents terms calls)
held-documents terms uri [] = refl
held-documents terms uri (opens u n t ∷ calls) =
    let rest = held-documents terms uri calls in
    let o = held_since terms u calls (Some (versioned n t)) in
    elim (cases_Bool (bytes_eq uri u)) [
      | inl p ↦ rw (held_in-as uri u o (documents terms calls), p, rest, uri_is uri u p) refl
      | inr p ↦ rw (held_in-as uri u o (documents terms calls), p, rest) refl
    ]
held-documents terms uri (changes enc k u n cs ∷ calls) = held-documents terms uri calls
held-documents terms uri (closes u ∷ calls) = held-documents terms uri calls
held-documents terms uri (saves u t ∷ calls) = held-documents terms uri calls
held-documents terms uri (shows u n t ∷ calls) = held-documents terms uri calls

-- ---- each URI is open once

abbrev pub IsDistinct : List Held → Type 0
IsDistinct [] = Unit {0}
IsDistinct (h ∷ hs) = (held_in h.uri hs ≡ None) × IsDistinct hs

-- what each kind of call does, where each URI is open once

pub all_stay : (terms : Terms) (u : Bytes) (n : ℤ) (t : Text) (hs : List Held)
    → after_call terms (opens u n t) hs ≡ hs
all_stay terms u n t [] = refl
all_stay terms u n t (h ∷ hs) = ap (λ l. h ∷ l) (all_stay terms u n t hs)

pub all_saved : (terms : Terms) (u : Bytes) (t : Option Text) (hs : List Held)
    → after_call terms (saves u t) hs ≡ hs
all_saved terms u t [] = refl
all_saved terms u t (h ∷ hs) = ap (λ l. h ∷ l) (all_saved terms u t hs)

pub all_shown : (terms : Terms) (u : Bytes) (n : ℤ) (t : Text) (hs : List Held)
    → after_call terms (shows u n t) hs ≡ hs
all_shown terms u n t [] = refl
all_shown terms u n t (h ∷ hs) = ap (λ l. h ∷ l) (all_shown terms u n t hs)

pub here : {A : Type 0} (b : Bool) (x y : A) (rest : Option A)
    → (if b then Some x else rest) ≡ Some y → b ≡ true → x ≡ y
here true x y rest h p = same_Some x y h
here false x y rest h p = absurd (true≢false (sym p))

pub there : {A : Type 0} (b : Bool) (x y : A) (rest : Option A)
    → (if b then Some x else rest) ≡ Some y → b ≡ false → rest ≡ Some y
there true x y rest h p = absurd (true≢false p)
there false x y rest h p = h

pub closed_none : (terms : Terms) (u : Bytes) (hs : List Held) → held_in u hs ≡ None
    → after_call terms (closes u) hs ≡ hs
closed_none terms u [] e = refl
closed_none terms u (h ∷ hs) e =
    let parts = none_row (bytes_eq u h.uri) h.version (held_in u hs) e in
    rw (uri_flip h.uri u ∙ parts.0) (ap (λ l. h ∷ l) (closed_none terms u hs parts.1))

pub closed_is : (terms : Terms) (u : Bytes) (hs : List Held) → IsDistinct hs
    → after_call terms (closes u) hs ≡ without u hs
closed_is terms u [] d = refl
closed_is terms u (h ∷ hs) d =
    elim (cases_Bool (bytes_eq u h.uri)) [
      | inl p ↦ rw (uri_flip h.uri u, p)
          (closed_none terms u hs (subst (λ x. held_in x hs ≡ None) (sym (uri_is u h.uri p)) d.0))
      | inr p ↦ rw (uri_flip h.uri u, p) (ap (λ l. h ∷ l) (closed_is terms u hs d.1))
    ]

module _ (terms : Terms) (enc : Encoding) (k : SyncKind) (u : Bytes) (n : ℤ) (cs : List Edit) where
  pub changed_none : (hs : List Held) → held_in u hs ≡ None
      → after_call terms (changes enc k u n cs) hs ≡ hs
  changed_none [] e = refl
  changed_none (h ∷ hs) e =
      let parts = none_row (bytes_eq u h.uri) h.version (held_in u hs) e in
      rw (uri_flip h.uri u ∙ parts.0) (ap (λ l. h ∷ l) (changed_none hs parts.1))

  pub changed_is : (v : Version) (t : Text) → applied terms.limit enc v.text cs ≡ Ok t
      → (hs : List Held) → IsDistinct hs → held_in u hs ≡ Some v
      → after_call terms (changes enc k u n cs) hs ≡ set_in u (versioned n t) hs
  changed_is v t made [] d e = absurd (none-some v e)
  changed_is v t made (h ∷ hs) d e =
      elim (cases_Bool (bytes_eq u h.uri)) [
        | inl p ↦
            let same : h.version ≡ v = here (bytes_eq u h.uri) h.version v (held_in u hs) e p in
            rw (uri_flip h.uri u, p, same, made) (ap (λ l. record {
              uri = h.uri;
              version = versioned n t;
            } ∷ l) (changed_none hs (subst (λ x. held_in x hs ≡ None) (sym (uri_is u h.uri p))
            d.0)))
        | inr p ↦ rw (uri_flip h.uri u, p)
            (ap (λ l. h ∷ l) (changed_is v t made hs d.1
            (there (bytes_eq u h.uri) h.version v (held_in u hs) e p)))
      ]
