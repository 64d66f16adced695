-- The open documents under their URIs, and the lists that they stand for.
use Rattle.std.proofs.Common.{◌≡◌, ℕ, ◌≤◌, List, [], ◌∷◌, ◌++◌, map, length, Option, Some, None}
use Rattle.std.proofs.Common.{option_map, is_some, inl, inr, false, true≢false, refl, sym, ap, ◌∙◌}
use Rattle.std.proofs.Common.{subst, string_bytes, String, Global, Bor}
use Rattle.std.specs.Prelude.{if◌then◌else◌}
use Rattle.std.proofs.lemmas.Option.{none-some, same_Some}
use Rattle.std.specs.List.{AllByRecursion, IsDistinct}
use Rattle.std.specs.Option.{option_copied}
use Rattle.std.specs.String.{string_eq}
use Rattle.std.specs.Map.{keys_of, lookup, remove_entry, set_value}
use Rattle.std.specs.Str.{bytes_eq}
use Rattle.std.proofs.lemmas.Bool.{cases_Bool}
use Rattle.lsp_types.specs.Texts.{is_text}
use Rattle.lsp_docs.specs.Calls.{Bytes}
use Rattle.lsp_docs.specs.Documents.{Version}
use Rattle.lsp_docs.specs.Snapshots.{last_of}
use Rattle.lsp_docs.specs.State.{held_in, queue_of, set_in, without, KeepsSame, KeepsOn, KeepsNone}
use Rattle.lsp_docs.specs.Stored.{held_of, kept_of}
use Rattle.lsp_docs.proofs.Queues.{queue_of-there, written-others, written-there}
use Rattle.lsp_docs.proofs.Words.{uri_is, uri_flip}

pub copied-map : {D R : Type 0} (f : D → R) (r : Option (Bor D))
    → option_map (λ x. f x.now) r ≡ option_map f (option_copied r)
copied-map f None = refl
copied-map f (Some x) = refl

pub unmapped : {D R : Type 0} (f : D → R) (o : Option D) → option_map f o ≡ None → o ≡ None
unmapped f None e = refl
unmapped f (Some d) e = absurd (none-some (f d) (sym e))

pub is_some-mapped : {D R : Type 0} (f : D → R) (o : Option D)
    → is_some (option_map f o) ≡ is_some o
is_some-mapped f None = refl
is_some-mapped f (Some d) = refl

module _ {D : Type 0} where
  pub absent-removed : (uri : Bytes) (es : List (String Global × D))
      → is_some (lookup (is_text uri) es) ≡ false → remove_entry (is_text uri) es ≡ es
  absent-removed uri [] h = refl
  absent-removed uri (e ∷ es) h = elim (cases_Bool (is_text uri e.0)) [
    | inl p ↦ absurd (true≢false (rw p at h))
    | inr p ↦ rw p (ap (λ l. e ∷ l) (absent-removed uri es (rw p at h)))
  ]

  module _ (seen : D → Version) where
    pub uris-held : (es : List (String Global × D))
        → map (λ h. h.uri) (held_of seen es) ≡ map (λ e. string_bytes e.0) es
    uris-held [] = refl
    uris-held (e ∷ es) = ap (λ l. string_bytes e.0 ∷ l) (uris-held es)

    pub held_in-of : (uri : Bytes) (es : List (String Global × D))
        → held_in uri (held_of seen es) ≡ option_map seen (lookup (is_text uri) es)
    held_in-of uri [] = refl
    held_in-of uri (e ∷ es) =
        elim (cases_Bool (is_text uri e.0)) [ inl p ↦ rw p refl | inr p ↦ rw p (held_in-of uri es) ]

    pub held-push : (es : List (String Global × D)) (k : String Global) (d : D)
        → held_of seen (es ++ (k, d) ∷ []) ≡ held_of seen es ++ record {
          uri = string_bytes k;
          version = seen d;
        } ∷ []
    held-push [] k d = refl
    held-push (e ∷ es) k d =
        ap (λ l. record { uri = string_bytes e.0; version = seen e.1 } ∷ l) (held-push es k d)

    pub held-set : (uri : Bytes) (d : D) (es : List (String Global × D))
        → held_of seen (set_value (is_text uri) es d) ≡ set_in uri (seen d) (held_of seen es)
    held-set uri d [] = refl
    held-set uri d (e ∷ es) = elim (cases_Bool (is_text uri e.0)) [
      | inl p ↦ rw p refl
      | inr p ↦ rw p (ap (λ l. record {
        uri = string_bytes e.0;
        version = seen e.1;
      } ∷ l) (held-set uri d es))
    ]

    pub held-without : (uri : Bytes) (es : List (String Global × D))
        → held_of seen (remove_entry (is_text uri) es) ≡ without uri (held_of seen es)
    held-without uri [] = refl
    held-without uri (e ∷ es) = elim (cases_Bool (is_text uri e.0)) [
      | inl p ↦ rw p refl
      | inr p ↦ rw p (ap (λ l. record {
        uri = string_bytes e.0;
        version = seen e.1;
      } ∷ l) (held-without uri es))
    ]

  module _ (keeps : D → List Version) where
    -- of a document that was opened nothing is kept
    pub kept-push : (k : String Global) (d : D) → keeps d ≡ [] → (es : List (String Global × D))
        → KeepsSame (kept_of keeps es) (kept_of keeps (es ++ (k, d) ∷ []))
    kept-push k d nothing [] u =
        elim (cases_Bool (bytes_eq u (string_bytes k))) [ inl p ↦ rw p nothing | inr p ↦ rw p refl ]
    kept-push k d nothing (e ∷ es) u =
        elim (cases_Bool (bytes_eq u (string_bytes e.0)))
        [ inl p ↦ rw p refl | inr p ↦ rw p (kept-push k d nothing es u) ]

    -- the held version joins those that are kept of the URI
    pub keeps-on : (most : ℕ) (h : Option Version) (was : Version) (uri : Bytes) (d v : D)
        (es : List (String Global × D)) → lookup (is_text uri) es ≡ Some v → h ≡ Some was
        → (length (keeps v) ≤ most → keeps d ≡ last_of most (keeps v ++ was ∷ []))
        → KeepsOn most uri h (kept_of keeps es) (kept_of keeps (set_value (is_text uri) es d))
    keeps-on most h was uri d v es there is joins few u =
        let here = queue_of-there keeps uri es v there in
        let now = queue_of-there keeps uri (set_value (is_text uri) es d) d
        (written-there keeps uri v d es there) in
        elim (cases_Bool (bytes_eq uri u)) [
          | inl p ↦ rw (p, is, ← uri_is uri u p, here)
              (now ∙ joins (subst (λ l. length l ≤ most) here few))
          | inr p ↦ rw p (written-others keeps uri u d (uri_flip u uri ∙ p) es)
        ]

    none-kept : (uri : Bytes) (k : String Global) (es : List (String Global × D))
        → uri ≡ string_bytes k → AllByRecursion (λ y. string_eq k y ≡ false) (keys_of es)
        → queue_of uri (kept_of keeps es) ≡ []
    none-kept uri k [] is d = refl
    none-kept uri k (e ∷ es) is d =
        rw (ap (λ x. bytes_eq x (string_bytes e.0)) is ∙ d.0) (none-kept uri k es is d.1)

    pub keeps-none : (uri : Bytes) (es : List (String Global × D))
        → IsDistinct string_eq (keys_of es)
        → KeepsNone uri (kept_of keeps es) (kept_of keeps (remove_entry (is_text uri) es))
    unfolding IsDistinct
    keeps-none uri [] d u = elim (cases_Bool (bytes_eq uri u))
        [ inl q ↦ rw q refl | inr q ↦ rw q refl ]
    keeps-none uri (e ∷ es) d u = elim (cases_Bool (is_text uri e.0)) [
      | inl p ↦
          let is = uri_is uri (string_bytes e.0) p in
          rw p (elim (cases_Bool (bytes_eq uri u)) [
            | inl q ↦ rw q (none-kept u e.0 es (sym (uri_is uri u q) ∙ is) d.0)
            | inr q ↦ rw (q, ap (bytes_eq u) (sym is) ∙ (uri_flip u uri ∙ q)) refl
          ])
      | inr p ↦ rw p (elim (cases_Bool (bytes_eq uri u)) [
        | inl q ↦ rw (ap (λ x. bytes_eq x (string_bytes e.0)) (sym (uri_is uri u q)) ∙ p)
            (keeps-none uri es d.1 u ∙ rw q refl)
        | inr q ↦ elim (cases_Bool (bytes_eq u (string_bytes e.0))) [
          | inl r ↦ rw (r, q) refl
          | inr r ↦ rw r (keeps-none uri es d.1 u ∙ rw q refl)
        ]
      ])
    ]
