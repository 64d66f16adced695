-- The open requests that a `Pending` stands for, and those that it keeps by their ids.
use Rattle.std.proofs.Common.{◌≡◌, List, [], ◌∷◌, ◌++◌, Option, Some, None, option_map, is_some}
use Rattle.std.proofs.Common.{inl, inr, Bool, true, false, true≢false, refl, sym, ap, ◌∙◌}
use Rattle.std.specs.List.{AllByRecursion, IsDistinct}
use Rattle.std.specs.Map.{keys_of, lookup, remove_entry, set_value}
use Rattle.std.proofs.lemmas.Bool.{cases_Bool, or_parts}
use Rattle.std.proofs.lemmas.Option.{none-some, same_Some}
use Rattle.lsp_rpc.specs.Ident.{Ident, id_view, same_id}
use Rattle.lsp_rpc.specs.declared.message.Id.{Id}
use Rattle.lsp_rpc.proofs.IdLemmas.{same_id-refl, same_id-true}
use Rattle.lsp_session.specs.Entry.{Entry, AllNamed, IdsDiffer, cancel, entries_in, entry_of}
use Rattle.lsp_session.specs.Entry.{has_id, request_view, without}
use Rattle.lsp_session.specs.declared.pending.OpenRequest.{OpenRequest}

-- ---- entries alone

without-absent : (id : Ident) (es : List Entry) → has_id id es ≡ false → without id es ≡ es
without-absent id [] h = refl
without-absent id (e ∷ es) h =
    rw ((or_parts (same_id id e.id) _ h).0)
    (ap (λ l. e ∷ l) (without-absent id es (or_parts (same_id id e.id) _ h).1))

cancel-absent : (id : Ident) (es : List Entry) → has_id id es ≡ false → cancel id es ≡ es
cancel-absent id [] h = refl
cancel-absent id (e ∷ es) h =
    rw ((or_parts (same_id id e.id) _ h).0)
    (ap (λ l. e ∷ l) (cancel-absent id es (or_parts (same_id id e.id) _ h).1))

-- ---- the entries of what is kept, where a test finds an id

module _ (eq : Id → Id → Bool) (agrees : (a b : Id) → eq a b ≡ same_id (id_view a) (id_view b))
  where
    module _ (id : Id) where
      named : (e : Id × OpenRequest) → id_view e.1.id ≡ id_view e.0
          → same_id (id_view id) (request_view e.1).id ≡ eq id e.0
      named e h = ap (same_id (id_view id)) h ∙ sym (agrees id e.0)

      pub has_id-kept : (es : List (Id × OpenRequest)) → AllNamed es
          → is_some (lookup (eq id) es) ≡ has_id (id_view id) (entries_in es)
      has_id-kept [] h = refl
      has_id-kept (e ∷ es) h = elim (cases_Bool (eq id e.0)) [
        | inl p ↦ rw (named e h.0, p) refl
        | inr p ↦ rw (named e h.0, p) (has_id-kept es h.1)
      ]

      pub entry_of-kept : (es : List (Id × OpenRequest)) → AllNamed es
          → option_map request_view (lookup (eq id) es) ≡ entry_of (id_view id) (entries_in es)
      entry_of-kept [] h = refl
      entry_of-kept (e ∷ es) h = elim (cases_Bool (eq id e.0)) [
        | inl p ↦ rw (named e h.0, p) refl
        | inr p ↦ rw (named e h.0, p) (entry_of-kept es h.1)
      ]

      -- after a key with the id, none has it
      none-after : (k : Id) (es : List (Id × OpenRequest)) → AllNamed es → eq id k ≡ true
          → AllByRecursion (λ y. eq k y ≡ false) (keys_of es)
          → has_id (id_view id) (entries_in es) ≡ false
      none-after k [] h p d = refl
      none-after k (e ∷ es) h p d =
          let is = same_id-true (id_view id) (id_view k) (sym (agrees id k) ∙ p) in
          rw (ap (same_id (id_view id)) h.0
          ∙ (ap (λ x. same_id x (id_view e.0)) is ∙ (sym (agrees k e.0) ∙ d.0)))
          (none-after k es h.1 p d.1)

      pub without-kept : (es : List (Id × OpenRequest)) → AllNamed es → IsDistinct eq (keys_of es)
          → entries_in (remove_entry (eq id) es) ≡ without (id_view id) (entries_in es)
      unfolding IsDistinct
      without-kept [] h d = refl
      without-kept (e ∷ es) h d = elim (cases_Bool (eq id e.0)) [
        | inl p ↦ rw (named e h.0, p)
            (sym (without-absent (id_view id) (entries_in es) (none-after e.0 es h.1 p d.0)))
        | inr p ↦ rw (named e h.0, p) (ap (λ l. request_view e.1 ∷ l) (without-kept es h.1 d.1))
      ]

      pub AllNamed-without : (es : List (Id × OpenRequest)) → AllNamed es
          → AllNamed (remove_entry (eq id) es)
      AllNamed-without [] h = tt
      AllNamed-without (e ∷ es) h =
          elim (cases_Bool (eq id e.0))
          [ inl p ↦ rw p h.1 | inr p ↦ rw p (h.0, AllNamed-without es h.1) ]

      pub cancel-kept : (v w : OpenRequest)
          → request_view w ≡ record (request_view v) { cancelled = true }
          → (es : List (Id × OpenRequest)) → AllNamed es → IsDistinct eq (keys_of es)
          → lookup (eq id) es ≡ Some v
          → entries_in (set_value (eq id) es w) ≡ cancel (id_view id) (entries_in es)
      unfolding IsDistinct
      cancel-kept v w flag [] h d found = absurd (none-some v found)
      cancel-kept v w flag (e ∷ es) h d found = elim (cases_Bool (eq id e.0)) [
        | inl p ↦
            let is : e.1 ≡ v = same_Some e.1 v (rw p at found) in
            rw (named e h.0, p)
            (ap (λ x. x ∷ entries_in es) (flag ∙ ap (λ r. record (request_view r) {
              cancelled = true;
            }) (sym is))
            ∙ ap (λ l. record (request_view e.1) {
              cancelled = true;
            } ∷ l) (sym (cancel-absent (id_view id) (entries_in es) (none-after e.0 es h.1 p d.0))))
        | inr p ↦ rw (named e h.0, p)
            (ap (λ l. request_view e.1 ∷ l) (cancel-kept v w flag es h.1 d.1 (rw p at found)))
      ]

      pub AllNamed-cancel : (v w : OpenRequest) → id_view w.id ≡ id_view v.id
          → (es : List (Id × OpenRequest)) → AllNamed es → lookup (eq id) es ≡ Some v
          → AllNamed (set_value (eq id) es w)
      AllNamed-cancel v w same [] h found = tt
      AllNamed-cancel v w same (e ∷ es) h found = elim (cases_Bool (eq id e.0)) [
        | inl p ↦ rw p (
          same ∙ (ap (λ r. id_view r.id) (sym (same_Some e.1 v (rw p at found))) ∙ h.0),
          h.1,
        )
        | inr p ↦ rw p (h.0, AllNamed-cancel v w same es h.1 (rw p at found))
      ]

      pub nothing-cancelled : (es : List (Id × OpenRequest)) → AllNamed es
          → lookup (eq id) es ≡ None
          → entries_in es ≡ cancel (id_view id) (entries_in es)
      nothing-cancelled es h none =
          sym (cancel-absent (id_view id) (entries_in es)
          (sym (has_id-kept es h) ∙ ap is_some none))

    -- no id stands twice
    pub differ-kept : (es : List (Id × OpenRequest)) → AllNamed es → IsDistinct eq (keys_of es)
        → IdsDiffer (entries_in es)
    unfolding IsDistinct
    differ-kept [] h d = tt
    differ-kept (e ∷ es) h d = (
      ap (λ x. has_id x (entries_in es)) h.0
          ∙ none-after e.0 e.0 es h.1 (agrees e.0 e.0 ∙ same_id-refl (id_view e.0)) d.0,
      differ-kept es h.1 d.1,
    )

pub AllNamed-push : (es : List (Id × OpenRequest)) (k : Id) (r : OpenRequest) → AllNamed es
    → id_view r.id ≡ id_view k → AllNamed (es ++ (k, r) ∷ [])
AllNamed-push [] k r h own = (own, tt)
AllNamed-push (e ∷ es) k r h own = (h.0, AllNamed-push es k r h.1 own)

pub entries-push : (es : List (Id × OpenRequest)) (k : Id) (r : OpenRequest)
    → entries_in (es ++ (k, r) ∷ []) ≡ entries_in es ++ request_view r ∷ []
entries-push [] k r = refl
entries-push (e ∷ es) k r = ap (λ l. request_view e.1 ∷ l) (entries-push es k r)

pub no-entry : {A : Type 0} (o : Option A) → is_some o ≡ false → o ≡ None
no-entry None h = refl
no-entry (Some x) h = absurd (true≢false h)
