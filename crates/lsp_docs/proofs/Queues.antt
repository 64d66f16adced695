-- The snapshots that wait, as queues by URI: what is kept, and what is added.
use Rattle.std.proofs.Common.{◌≡◌, ◌+◌, Bool, false, List, [], ◌∷◌, filter, length, refl, sym, ap}
use Rattle.std.proofs.Common.{◌∙◌, inl, inr, arith, ℕ, ◌++◌, map, Option, Some, None, true, cond}
use Rattle.std.proofs.Common.{string_bytes, String, Global, true≢false, subst, length-append, zero}
use Rattle.std.proofs.Common.{suc}
use Rattle.std.specs.Str.{bytes_eq}
use Rattle.std.proofs.lemmas.Bool.{cases_Bool}
use Rattle.std.proofs.lemmas.Option.{same_Some, none-some}
use Rattle.std.specs.String.{string_eq}
use Rattle.std.specs.Map.{lookup, set_value, keys_of, values_of, KeepsOthers}
use Rattle.std.specs.Prelude.{option_map, slice_get, unwrap_or}
use Rattle.std.specs.List.{position, sum_by, swap_remove}
use Rattle.std.proofs.Math.ListN.{get_or}
use Rattle.std.proofs.lemmas.List.Sums.{sum_by-cons, sum_by-swap_remove}
use Rattle.indexmap.specs.IndexMap.{insert_entry, swap_remove_entry}
use Rattle.indexmap.proofs.MapLemmas.{Found-position, Missing-position, swap_remove_entry-found}
use Rattle.lsp_types.specs.Texts.{is_text}
use Rattle.lsp_docs.specs.Calls.{Bytes}
use Rattle.lsp_docs.specs.Documents.{Version}
use Rattle.lsp_docs.specs.State.{Queue, queue_of, keep_in, total, SameOrder, IsAdded, IsReleased}
use Rattle.lsp_docs.proofs.Words.{uri_is, uri_same}
use Rattle.lsp_docs.specs.Stored.{queues_in}
use Rattle.lsp_docs.proofs.SameVersions.{order-length, order-of}

pub queue-kept : (u : Bytes) (p : Version → Bool) (ns : List Queue)
    → queue_of u (keep_in u p ns) ≡ filter p (queue_of u ns)
queue-kept u p [] = refl
queue-kept u p (n ∷ ns) =
    elim (cases_Bool (bytes_eq u n.uri))
    [ inl h ↦ rw (h, h) refl | inr h ↦ rw (h, h) (queue-kept u p ns) ]

pub queue-others : (x u : Bytes) (p : Version → Bool) (ns : List Queue) → bytes_eq x u ≡ false
    → queue_of x (keep_in u p ns) ≡ queue_of x ns
queue-others x u p [] e = refl
queue-others x u p (n ∷ ns) e =
    elim (cases_Bool (bytes_eq u n.uri)) [
      | inl h ↦ rw (h, ap (bytes_eq x) (sym (uri_is u n.uri h)) ∙ e) refl
      | inr h ↦ rw h (elim (cases_Bool (bytes_eq x n.uri))
          [ inl k ↦ rw k refl | inr k ↦ rw k (queue-others x u p ns e) ])
    ]

pub total-kept : (u : Bytes) (p : Version → Bool) (ns : List Queue)
    → total (keep_in u p ns) + length (queue_of u ns) ≡ total ns + length (filter p (queue_of u ns))
total-kept u p [] = refl
total-kept u p (n ∷ ns) =
    elim (cases_Bool (bytes_eq u n.uri)) [
      | inl h ↦ rw h (omega arith)
      | inr h ↦ rw h (omega (arith, total-kept u p ns))
    ]

-- ---- the map that holds them, beside the queues that it stands for

-- a key other than the first entry's finds what it finds in the rest
pub rest_of : {D : Type 0} (b : Bool) (d : D) (rest x : Option D) → cond b (Some d) rest ≡ x
    → b ≡ false → rest ≡ x
rest_of true d rest x h p = absurd (true≢false p)
rest_of false d rest x h p = h

pub head_is : {D : Type 0} (b : Bool) (d : D) (rest : Option D) (e : D)
    → cond b (Some d) rest ≡ Some e → b ≡ true → d ≡ e
head_is true d rest e h p = same_Some d e h
head_is false d rest e h p = absurd (true≢false (sym p))

pub not_head : {D : Type 0} (b : Bool) (d : D) (rest : Option D) → cond b (Some d) rest ≡ None
    → b ≡ false
not_head true d rest h = absurd (none-some d (sym h))
not_head false d rest h = refl

-- what a function makes of the entries, where one is written that it does not tell from the old one
pub written-same : {D X : Type 0} (f : String Global × D → X) (uri : Bytes) (d v : D)
    → ((k : String Global) → f (k, d) ≡ f (k, v)) → (es : List (String Global × D))
    → lookup (is_text uri) es ≡ Some v
    → map f (set_value (is_text uri) es d) ≡ map f es
written-same f uri d v same [] h = absurd (none-some v h)
written-same f uri d v same (e ∷ es) h = elim (cases_Bool (is_text uri e.0)) [
  | inl p ↦ rw p (ap (λ x. x ∷ map f es) (same e.0
      ∙ ap (λ x. f (e.0, x)) (sym (same_Some e.1 v (rw p at h)))))
  | inr p ↦ rw p (ap (λ l. f e ∷ l) (written-same f uri d v same es (rw p at h)))
]

module _ {D : Type 0} (versions : D → List Version) where
  abbrev pub queued : String Global × D → Queue
  queued e = record { uri = string_bytes e.0; versions = versions e.1 }

  pub queue_of-found : (uri : List ℕ) (es : List (String Global × D))
      → queue_of uri (map queued es)
      ≡ unwrap_or (option_map versions (lookup (λ key. bytes_eq uri (string_bytes key)) es)) []
  queue_of-found uri [] = refl
  queue_of-found uri (e ∷ es) =
      elim (cases_Bool (bytes_eq uri (string_bytes e.0)))
      [ inl p ↦ rw p refl | inr p ↦ rw p (queue_of-found uri es) ]

  module _ (uri : List ℕ) where
    abbrev pub is_key : String Global → Bool
    is_key k = bytes_eq uri (string_bytes k)

    pub queue_of-there : (es : List (String Global × D)) (d : D) → lookup is_key es ≡ Some d
        → queue_of uri (map queued es) ≡ versions d
    queue_of-there es d h = queue_of-found uri es ∙ ap (λ o. unwrap_or (option_map versions o) []) h

    pub queue_of-absent : (es : List (String Global × D)) → lookup is_key es ≡ None
        → queue_of uri (map queued es) ≡ []
    queue_of-absent es h = queue_of-found uri es ∙ ap (λ o. unwrap_or (option_map versions o) []) h

    pub keep_in-there : (p : Version → Bool) (d w : D) → versions w ≡ filter p (versions d)
        → (es : List (String Global × D)) → lookup is_key es ≡ Some d
        → map queued (set_value is_key es w) ≡ keep_in uri p (map queued es)
    keep_in-there q d w same [] h = refl
    keep_in-there q d w same (e ∷ es) h =
        elim (cases_Bool (is_key e.0)) [
          | inl p ↦ let found = head_is (is_key e.0) e.1 (lookup is_key es) d h p in
              rw (p, same ∙ ap (λ x. filter q (versions x)) (sym found)) refl
          | inr p ↦ rw p (ap (λ l. queued e ∷ l) (keep_in-there q d w same es
              (rest_of (is_key e.0) e.1 (lookup is_key es) (Some d) h p)))
        ]

    pub keep_in-absent : (p : Version → Bool) (es : List (String Global × D))
        → lookup is_key es ≡ None → map queued es ≡ keep_in uri p (map queued es)
    keep_in-absent q [] h = refl
    keep_in-absent q (e ∷ es) h =
        let p = not_head (is_key e.0) e.1 (lookup is_key es) h in
        rw p (ap (λ l. queued e ∷ l) (keep_in-absent q es
        (rest_of (is_key e.0) e.1 (lookup is_key es) None h p)))

    pub written-there : (d w : D) (es : List (String Global × D)) → lookup is_key es ≡ Some d
        → lookup is_key (set_value is_key es w) ≡ Some w
    written-there d w [] h = absurd (none-some d h)
    written-there d w (e ∷ es) h =
        elim (cases_Bool (is_key e.0)) [
          | inl p ↦ rw (p, p) refl
          | inr p ↦ rw (p, p) (written-there d w es
              (rest_of (is_key e.0) e.1 (lookup is_key es) (Some d) h p))
        ]

    pub written-others : (u : List ℕ) (w : D) → bytes_eq u uri ≡ false
        → (es : List (String Global × D))
        → queue_of u (map queued (set_value is_key es w)) ≡ queue_of u (map queued es)
    written-others u w apart [] = refl
    written-others u w apart (e ∷ es) =
        elim (cases_Bool (is_key e.0)) [
          | inl p ↦ rw (p, ap (bytes_eq u) (sym (uri_is uri (string_bytes e.0) p)) ∙ apart) refl
          | inr p ↦ rw p (elim (cases_Bool (bytes_eq u (string_bytes e.0)))
              [ inl k ↦ rw k refl | inr k ↦ rw k (written-others u w apart es) ])
        ]

    pub written-count : (d w : D) → length (versions w) ≡ length (versions d) + 1
        → (es : List (String Global × D)) → lookup is_key es ≡ Some d
        → total (map queued (set_value is_key es w)) ≡ total (map queued es) + 1
    written-count d w more [] h = absurd (none-some d h)
    written-count d w more (e ∷ es) h =
        elim (cases_Bool (is_key e.0)) [
          | inl p ↦ let own = ap (λ x. length (versions x))
              (head_is (is_key e.0) e.1 (lookup is_key es) d h p) in
              rw p (omega (arith, own, more))
          | inr p ↦ rw p (omega (
            arith,
            written-count d w more es
                (rest_of (is_key e.0) e.1 (lookup is_key es) (Some d) h p),
          ))
        ]

    -- one more in a queue that is there
    pub added-there : (v : Version) (d w : D) → SameOrder (versions d ++ v ∷ []) (versions w)
        → (es : List (String Global × D)) → lookup is_key es ≡ Some d
        → IsAdded uri v (map queued es) (map queued (set_value is_key es w))
    added-there v d w order es h =
        let more : length (versions w) ≡ length (versions d) + 1 =
        sym (order-length (versions d ++ v ∷ []) (versions w) order)
        ∙ length-append (versions d) (v ∷ []) in
        record {
          own = subst (λ l. SameOrder (l ++ v ∷ [])
              (queue_of uri (map queued (set_value is_key es w)))) (sym (queue_of-there es d h))
              (subst (SameOrder (versions d ++ v ∷ []))
              (sym (queue_of-there (set_value is_key es w) w (written-there d w es h))) order);
          others = λ u apart. written-others u w apart es;
          count = written-count d w more es h;
        }

    -- the first of a URI
    module _ (v : Version) (k : String Global) (w : D) (own : string_bytes k ≡ uri)
        (one : versions w ≡ v ∷ []) where
      abbrev put : List (String Global × D) → List (String Global × D)
      put es = insert_entry string_eq es k w

      put_is : (es : List (String Global × D)) → lookup is_key es ≡ None
          → put es ≡ es ++ (k, w) ∷ []
      put_is [] h = refl
      put_is (e ∷ es) h =
          let p = not_head (is_key e.0) e.1 (lookup is_key es) h in
          rw (ap (λ b. bytes_eq b (string_bytes e.0)) own ∙ p)
          (ap (λ l. e ∷ l) (put_is es (rest_of (is_key e.0) e.1 (lookup is_key es) None h p)))

      end_own : (es : List (String Global × D)) → lookup is_key es ≡ None
          → queue_of uri (map queued (es ++ (k, w) ∷ [])) ≡ v ∷ []
      end_own [] h = rw (ap (bytes_eq uri) own ∙ uri_same uri) one
      end_own (e ∷ es) h =
          let p = not_head (is_key e.0) e.1 (lookup is_key es) h in
          rw p (end_own es (rest_of (is_key e.0) e.1 (lookup is_key es) None h p))

      end_others : (u : List ℕ) → bytes_eq u uri ≡ false → (es : List (String Global × D))
          → queue_of u (map queued (es ++ (k, w) ∷ [])) ≡ queue_of u (map queued es)
      end_others u apart [] = rw (ap (bytes_eq u) own ∙ apart) refl
      end_others u apart (e ∷ es) =
          elim (cases_Bool (bytes_eq u (string_bytes e.0)))
          [ inl p ↦ rw p refl | inr p ↦ rw p (end_others u apart es) ]

      end_count : (es : List (String Global × D))
          → total (map queued (es ++ (k, w) ∷ [])) ≡ total (map queued es) + 1
      end_count [] = rw one refl
      end_count (e ∷ es) = omega (arith, end_count es)

      pub added-new : (es : List (String Global × D)) → lookup is_key es ≡ None
          → IsAdded uri v (map queued es) (map queued (put es))
      added-new es h =
          subst (λ l. IsAdded uri v (map queued es) (map queued l)) (sym (put_is es h)) (record {
            own = subst (λ l. SameOrder (l ++ v ∷ [])
                (queue_of uri (map queued (es ++ (k, w) ∷ [])))) (sym (queue_of-absent es h))
                (order-of (v ∷ []) _ (sym (end_own es h)));
            others = λ u apart. end_others u apart es;
            count = end_count es;
          })

    -- ---- all of a URI leave

    abbrev size : String Global × D → ℕ
    size e = length (versions e.1)

    total-sum : (es : List (String Global × D)) → total (map queued es) ≡ sum_by size es
    total-sum [] = refl
    total-sum (e ∷ es) = ap (λ n. length (versions e.1) + n) (total-sum es)
        ∙ sym (sum_by-cons size e es)

    at_place : (es : List (String Global × D)) (i : ℕ) (d : D) (x : String Global × D)
        → slice_get (values_of es) i ≡ Some d → (get_or es i x).1 ≡ d
    at_place [] i d x h = absurd (none-some d h)
    at_place (e ∷ es) zero d x h = same_Some e.1 d h
    at_place (e ∷ es) (suc i) d x h = at_place es i d x h

    left_at : (es : List (String Global × D)) (d : D) (o : Option ℕ)
        → position is_key (keys_of es) ≡ o → lookup is_key es ≡ Some d → String Global × D
        → total (map queued (swap_remove_entry is_key es)) + length (versions d)
        ≡ total (map queued es)
    left_at es d None e h x = absurd (none-some d (sym (Missing-position is_key es e).value ∙ h))
    left_at es d (Some i) e h x =
        let found = Found-position is_key es i e in
        let sums = sum_by-swap_remove size es i x found.within in
        let own = ap (λ y. length (versions y)) (at_place es i d x (sym found.value ∙ h)) in
        let after = ap (λ l. total (map queued l)) (swap_remove_entry-found is_key es i x e)
        ∙ total-sum (swap_remove es i x) in
        omega (arith, sums, own, after, total-sum es)

    pub count-left : (es : List (String Global × D)) (d : D) → lookup is_key es ≡ Some d
        → total (map queued (swap_remove_entry is_key es)) + length (versions d)
        ≡ total (map queued es)
    count-left [] d h = absurd (none-some d h)
    count-left (e ∷ es) d h = left_at (e ∷ es) d (position is_key (keys_of (e ∷ es))) refl h e

    pub others-left : (es fs : List (String Global × D)) → KeepsOthers string_eq is_key es fs
        → (u : List ℕ) → bytes_eq u uri ≡ false
        → queue_of u (map queued fs) ≡ queue_of u (map queued es)
    unfolding KeepsOthers
    others-left es fs keeps u apart =
        queue_of-found u fs
        ∙ (ap (λ o. unwrap_or (option_map versions o) [])
        (keeps (λ key. bytes_eq u (string_bytes key))
        (λ x y h. ap (λ b. bytes_eq b (string_bytes y)) (uri_is u (string_bytes x) h))
        (λ k h. ap (λ b. bytes_eq u b) (sym (uri_is uri (string_bytes k) h)) ∙ apart))
        ∙ sym (queue_of-found u es))

    -- all of a URI left a map
    pub released : (es fs : List (String Global × D)) (d : D) → lookup is_key es ≡ Some d
        → fs ≡ swap_remove_entry is_key es → lookup is_key fs ≡ None
        → KeepsOthers string_eq is_key es fs
        → IsReleased uri (map queued es) (map queued fs)
    released es fs d h is gone keeps = record {
      own = queue_of-absent fs gone;
      others = others-left es fs keeps;
      count = ap (λ l. total (map queued l) + length (queue_of uri (map queued es))) is
          ∙ (ap (λ l. total (map queued (swap_remove_entry is_key es)) + length l)
          (queue_of-there es d h) ∙ count-left es d h);
    }

    -- none of the URI was there
    pub released-none : (es fs : List (String Global × D)) → lookup is_key es ≡ None → fs ≡ es
        → IsReleased uri (map queued es) (map queued fs)
    released-none es fs h is = record {
      own = ap (λ l. queue_of uri (map queued l)) is ∙ queue_of-absent es h;
      others = λ u apart. ap (λ l. queue_of u (map queued l)) is;
      count = let none : length (queue_of uri (map queued es)) ≡ 0 =
          ap length (queue_of-absent es h) in let same =
          ap (λ l. total (map queued l)) is in omega (arith, none, same);
    }

-- the snapshots of all queues
abbrev pub lengths : List (List Version) → ℕ
lengths [] = 0
lengths (v ∷ vs) = length v + lengths vs

pub lengths-total : (es : List (String Global × List Version))
    → lengths (map (λ e. e.1) es) ≡ total (queues_in es)
lengths-total [] = refl
lengths-total (e ∷ es) = ap (λ n. length e.1 + n) (lengths-total es)
