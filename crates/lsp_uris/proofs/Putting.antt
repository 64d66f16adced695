-- A map with what it holds under one URI, or under the id of one request, changed.
use Rattle.std.proofs.Common.{◌≡◌, ℕ, Bool, cond, true, false, List, Option, option_map, inl, inr}
use Rattle.std.proofs.Common.{refl, sym, ap, ◌∙◌, subst, string_bytes, String, Global, [], ◌∷◌}
use Rattle.std.specs.Prelude.{if◌then◌else◌, is_some}
use Rattle.std.specs.String.{string_eq}
use Rattle.std.specs.Map.{lookup, KeepsOthers}
use Rattle.std.specs.Str.{bytes_eq}
use Rattle.std.proofs.lemmas.Bool.{cases_Bool}
use Rattle.lsp_rpc.specs.Ident.{Ident, id_view, same_id}
use Rattle.lsp_rpc.specs.declared.message.Id.{Id}
use Rattle.lsp_docs.proofs.Words.{uri_is, uri_flip}
use Rattle.lsp_uris.specs.Held.{asked_in, held_by, has_uri}

-- ---- choices

if_of : {A B : Type 0} (f : A → B) (b : Bool) (x y : A)
    → f (if b then x else y) ≡ (if b then f x else f y)
if_of f true x y = refl
if_of f false x y = refl

-- ---- a map with what it holds under one URI changed

-- this is held under the URI, and under every other what was
abbrev pub PutsUnder : {R : Type 0} → List ℕ → Option R → (List ℕ → Option R)
    → (List ℕ → Option R) → Type 0
PutsUnder uri w held next = (u : List ℕ) → next u ≡ (if bytes_eq uri u then w else held u)

-- what the map's own words say of a change, by a name that each key has
pub puts_by : {K D : Type 0} (name : K → List ℕ) (w : Option D) (es new : List (K × D))
    (uri : List ℕ) → lookup (λ key. bytes_eq uri (name key)) new ≡ w
    → KeepsOthers (λ x y. bytes_eq (name x) (name y)) (λ key. bytes_eq uri (name key)) es new
    → PutsUnder uri w (λ u. lookup (λ key. bytes_eq u (name key)) es)
    (λ u. lookup (λ key. bytes_eq u (name key)) new)
unfolding KeepsOthers
puts_by name w es new uri at keeps u =
    elim (cases_Bool (bytes_eq uri u)) [
      | inl p ↦
          ap (λ x. lookup (λ key. bytes_eq x (name key)) new) (sym (uri_is uri u p))
          ∙ (at ∙ sym (ap (λ b. if b then w else lookup (λ key. bytes_eq u (name key)) es) p))
      | inr p ↦
          keeps (λ key. bytes_eq u (name key))
          (λ x y h. ap (λ b. bytes_eq b (name y)) (uri_is u (name x) h))
          (λ k h. ap (λ b. bytes_eq u b) (sym (uri_is uri (name k) h)) ∙ (uri_flip u uri ∙ p))
          ∙ sym (ap (λ b. if b then w else lookup (λ key. bytes_eq u (name key)) es) p)
    ]

module _ {D R : Type 0} (f : D → R) (w : Option D) (es new : List (String Global × D)) where
  -- the same of a map by URIs, of which the values are seen so
  pub puts : (uri : List ℕ) → lookup (λ key. bytes_eq uri (string_bytes key)) new ≡ w
      → KeepsOthers string_eq (λ key. bytes_eq uri (string_bytes key)) es new
      → PutsUnder uri (option_map f w) (held_by f es) (held_by f new)
  puts uri at keeps u = ap (option_map f) (puts_by string_bytes w es new uri at keeps u)
      ∙ if_of (option_map f) (bytes_eq uri u) w (lookup (λ key. bytes_eq u (string_bytes key)) es)

  -- the same under a key that bears the URI
  pub puts-key : (key : String Global) (uri : List ℕ) → string_bytes key ≡ uri
      → lookup (λ k. bytes_eq (string_bytes key) (string_bytes k)) new ≡ w
      → KeepsOthers string_eq (λ k. bytes_eq (string_bytes key) (string_bytes k)) es new
      → PutsUnder uri (option_map f w) (held_by f es) (held_by f new)
  puts-key key uri own at keeps =
      subst (λ b. PutsUnder b (option_map f w) (held_by f es) (held_by f new)) own
      (puts (string_bytes key) at keeps)

-- ---- URIs

-- one of them is put, or taken away
pub some_put : {X : Type 0} (u uri : List ℕ) (o : Option X) (old : List (String Global × X))
    → is_some (if bytes_eq uri u then o else held_by (λ x. x) old u)
    ≡ (if bytes_eq uri u then is_some o else has_uri old u)
some_put u uri o old = if_of is_some (bytes_eq uri u) o (held_by (λ x. x) old u)

-- ---- maps by the ids of requests, with one more

pub lookup_in : {X : Type 0} (t : Id → Bool) (id : Ident) → ((k : Id) → t k ≡ same_id id (id_view k))
    → (es : List (Id × X)) → lookup t es ≡ asked_in es id
lookup_in t id agrees [] = refl
lookup_in t id agrees (e ∷ es) =
    elim (cases_Bool (t e.0)) [
      | inl p ↦ rw (p, sym (agrees e.0) ∙ p) refl
      | inr p ↦ rw (p, sym (agrees e.0) ∙ p) (lookup_in t id agrees es)
    ]

-- what the map's own words say of a change
pub updates_in : {X : Type 0} (eq : Id → Id → Bool) → ((a b : Id) → eq a b ≡ same_id (id_view a) (id_view b))
    → (id : Ident) (t : Id → Bool) → ((q : Id) → t q ≡ same_id id (id_view q))
    → (w : Option X) (old new : List (Id × X))
    → ((q : Id) → lookup (eq q) new ≡ cond (t q) w (lookup (eq q) old))
    → (k : Id) → asked_in new (id_view k) ≡ (if same_id id (id_view k) then w else asked_in old
    (id_view k))
updates_in {X} eq agrees id t at w old new says k =
    sym (lookup_in (eq k) (id_view k) (agrees k) new)
    ∙ says k
    ∙ ap (λ (b : Bool). cond b w (lookup (eq k) old)) (at k)
    ∙ ap (λ (o : Option X). cond (same_id id (id_view k)) w o)
    (lookup_in (eq k) (id_view k) (agrees k) old)
