-- Changes made one after another.
use Rattle.std.proofs.Common.{◌≡◌, ◌<◌, ◌+◌, ℕ, List, [], ◌∷◌, ◌++◌, length, take, drop, get_or, Result, Ok, Err, Some, refl, sym, ap, subst, ◌∙◌}
use Rattle.std.proofs.lemmas.List.{at_drop_more, map_more, take-map}
use Rattle.std.proofs.lemmas.Option.{slice_get-map, slice_get-get_or}
use Rattle.std.specs.Option.{option_map}
use Rattle.std.specs.Result.{OnOk}
use Rattle.lsp_types.specs.declared.position.Encoding.{Encoding}
use Rattle.lsp_types.specs.declared.change.Change.{Change}
use Rattle.lsp_types.specs.declared.fault.Fault.{Fault}
use Rattle.lsp_types.specs.declared.fault.Fault.TheVariants.{Rule, Memory}
use Rattle.lsp_text.specs.Edits.{Edit, changed, and_then, applied, IsFaultOf, FailsAfter}
use Rattle.lsp_text.specs.Changes.{edit_of, edits_of}

after_first : (r : Result (List ℕ) ℕ) (limit : ℕ) (enc : Encoding) (xs ys : List Edit) →
    ((u : List ℕ) → applied limit enc u (xs ++ ys) ≡ and_then (applied limit enc u xs) (λ v. applied limit enc v ys)) →
    and_then r (λ u. applied limit enc u (xs ++ ys)) ≡ and_then (and_then r (λ u. applied limit enc u xs)) (λ v. applied limit enc v ys)
after_first (Err rule) limit enc xs ys h = refl
after_first (Ok u) limit enc xs ys h = h u

pub applied-append : (limit : ℕ) (enc : Encoding) (t : List ℕ) (xs ys : List Edit) → applied limit enc t (xs ++ ys) ≡ and_then (applied limit enc t xs) (λ u. applied limit enc u ys)
applied-append limit enc t [] ys = refl
applied-append limit enc t (x ∷ xs) ys = after_first (changed enc t x.span x.text limit) limit enc xs ys (λ u. applied-append limit enc u xs ys)

-- the first n changes make `u`, and the others go on from there
pub record AreMade (limit : ℕ) (enc : Encoding) (t : List ℕ) (cs : List Change) (n : ℕ) (u : List ℕ) : Type 0 where
  pub made : applied limit enc t (edits_of (take n cs)) ≡ Ok u
  pub rest : applied limit enc t (edits_of cs) ≡ applied limit enc u (edits_of (drop n cs))

pub none_made : (limit : ℕ) (enc : Encoding) (t : List ℕ) (cs : List Change) → AreMade limit enc t cs 0 t
none_made limit enc t cs = record { made = refl; rest = refl }

next_first : (limit : ℕ) (enc : Encoding) (u : List ℕ) (cs : List Change) (n : ℕ) (c : Change) → n < length cs → c ≡ get_or cs n c →
    applied limit enc u (edits_of (drop n cs)) ≡ and_then (changed enc u (edit_of c).span (edit_of c).text limit) (λ v. applied limit enc v (edits_of (drop (n + 1) cs)))
next_first limit enc u cs n c lt is =
    at_drop_more (λ x. applied limit enc u (edits_of x)) cs n c lt
    ∙ ap (λ (x : Change). and_then (changed enc u (edit_of x).span (edit_of x).text limit) (λ v. applied limit enc v (edits_of (drop (n + 1) cs)))) (sym is)

pub one_more_made : (limit : ℕ) (enc : Encoding) (t u v : List ℕ) (cs : List Change) (n : ℕ) (c : Change) → n < length cs → c ≡ get_or cs n c → AreMade limit enc t cs n u →
    changed enc u (edit_of c).span (edit_of c).text limit ≡ Ok v → AreMade limit enc t cs (n + 1) v
one_more_made limit enc t u v cs n c lt is h step =
    let last : applied limit enc u (edit_of c ∷ []) ≡ Ok v = ap (λ r. and_then r (λ x. let all : Result (List ℕ) ℕ = Ok x in all)) step in
    record {
      made =
          ap (applied limit enc t) (map_more edit_of cs n c lt ∙ ap (λ (x : Change). edits_of (take n cs) ++ edit_of x ∷ []) (sym is))
          ∙ applied-append limit enc t (edits_of (take n cs)) (edit_of c ∷ []) ∙ ap (λ r. and_then r (λ x. applied limit enc x (edit_of c ∷ []))) h.made ∙ last;
      rest = h.rest ∙ next_first limit enc u cs n c lt is ∙ ap (λ r. and_then r (λ x. applied limit enc x (edits_of (drop (n + 1) cs)))) step;
    }

-- what holds in any case holds of a success
pub on_ok_always : {T E : Type 0} (made : Result T E) (P : Type 0) → P → OnOk made P
on_ok_always (Ok u) P h = h
on_ok_always (Err fault) P h = tt

-- what holds of a success, where there is no fault
pub on_success : (made : Result (Unit {0}) Fault) (P : Type 0) → OnOk made P
    → ((fault : Fault) → made ≡ Err fault → ⊥) → P
on_success (Ok u) P h none = h
on_success (Err fault) P h none = absurd (none fault refl)

-- the change that fails, on what those before it made
pub fails_after : (limit : ℕ) (enc : Encoding) (t u v : List ℕ) (cs : List Change) (n : ℕ) (c : Change)
    (fault : Fault) → AreMade limit enc t cs n u → n < length cs → c ≡ get_or cs n c → v ≡ u
    → IsFaultOf (changed enc u (edit_of c).span (edit_of c).text limit) fault
    → FailsAfter limit enc t (edits_of cs) v (record { made = n; fault = fault })
fails_after limit enc t u v cs n c fault h lt is same f =
    record {
      edit = edit_of c;
      there = slice_get-map edit_of cs n
          ∙ ap (option_map edit_of) (slice_get-get_or cs n c lt ∙ ap Some (sym is));
      made = ap (applied limit enc t) (take-map edit_of n cs) ∙ h.made
          ∙ ap (λ (x : List ℕ). let r : Result (List ℕ) ℕ = Ok x in r) (sym same);
      fails = subst (λ (x : List ℕ). IsFaultOf
          (changed enc x (edit_of c).span (edit_of c).text limit) fault) (sym same) f;
    }

-- so do all
pub fails_all : (limit : ℕ) (enc : Encoding) (t u : List ℕ) (cs : List Change) (n : ℕ) (c : Change)
    (fault : Fault) → AreMade limit enc t cs n u → n < length cs → c ≡ get_or cs n c
    → IsFaultOf (changed enc u (edit_of c).span (edit_of c).text limit) fault
    → IsFaultOf (applied limit enc t (edits_of cs)) fault
fails_all limit enc t u cs n c Memory h lt is f = tt
fails_all limit enc t u cs n c (Rule rule) h lt is f =
    h.rest ∙ next_first limit enc u cs n c lt is
    ∙ ap (λ r. and_then r (λ v. applied limit enc v (edits_of (drop (n + 1) cs)))) f
