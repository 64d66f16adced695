-- What was tried of changes that are refused.
use Rattle.std.proofs.Common.{◌≡◌, ◌≤◌, ℕ, zero, suc, List, [], ◌∷◌, length, take, get_or, Option, Some, None}
use Rattle.std.proofs.Common.{Result, Ok, Err, refl, sym, ap, subst, ◌∙◌, arith}
use Rattle.std.proofs.lemmas.List.{take_all}
use Rattle.std.specs.List.{slice_get}
use Rattle.lsp_types.specs.declared.change.Change.{Change}
use Rattle.lsp_types.specs.declared.position.Encoding.{Encoding}
use Rattle.lsp_text.specs.Changes.{edit_of, edits_of}
use Rattle.lsp_text.specs.Edits.{Edit, FailsAfter, IsFaultOf, and_then, applied, changed}
use Rattle.lsp_text.specs.declared.changes.ChangeFault.{ChangeFault}
use Rattle.lsp_text.proofs.Positions.{slice_get-past}
use Rattle.lsp_types.specs.Fault.{IsRule}
use Rattle.lsp_docs.specs.Calls.{Text}
use Rattle.lsp_docs.specs.Tried.{IsMade, IsRejected}
use Rattle.lsp_types.specs.declared.fault.Fault.{Fault}
use Rattle.lsp_types.specs.declared.fault.Fault.TheVariants.{Rule, Memory}

there_within : (cs : List Edit) (n : ℕ) (edit : Edit) → slice_get cs n ≡ Some edit → n ≤ length cs
there_within [] n edit h = absurd (cc)
there_within (c ∷ cs) zero edit h = omega arith
there_within (c ∷ cs) (suc n) edit h = omega (arith, there_within cs n edit h)

-- the edit of a lone change
pub one_edit : (cs : List Change) (c : Change) → length cs ≡ 1 → c ≡ get_or cs 0 c
    → edits_of cs ≡ edit_of c ∷ []
one_edit (x ∷ []) c one is = ap (λ (y : Change). edit_of y ∷ []) (sym is)
one_edit _ c one is = absurd (omega (arith, one))

-- those before the one that fails
pub tried_before : (limit : ℕ) (enc : Encoding) (t u : Text) (cs : List Edit) (failed : ChangeFault)
    → FailsAfter limit enc t cs u failed → IsRule failed.fault
    → IsMade limit enc t cs failed.made u
tried_before limit enc t u cs failed h rule = record {
  within = there_within cs failed.made h.edit h.there;
  made = h.made;
  next = subst (IsRejected limit enc u) (sym h.there) (rejected failed.fault h.fails rule);
} where
  rejected : (fault : Fault) → IsFaultOf (changed enc u h.edit.span h.edit.text limit) fault
      → IsRule fault → IsRejected limit enc u (Some h.edit)
  rejected (Rule r) f rule = (r, f)
  rejected Memory f rule = absurd rule

-- all of them
pub tried_all : (limit : ℕ) (enc : Encoding) (t u : Text) (cs : List Edit)
    → applied limit enc t cs ≡ Ok u → IsMade limit enc t cs (length cs) u
tried_all limit enc t u cs h = record {
  within = omega arith;
  made = ap (applied limit enc t) (take_all (length cs) cs (omega arith)) ∙ h;
  next = subst (IsRejected limit enc u) (sym (slice_get-past cs (length cs) (omega arith))) tt;
}

-- none, where there is one and it fails
pub tried_none : (limit : ℕ) (enc : Encoding) (t : Text) (edit : Edit) (fault : Fault)
    → IsFaultOf (applied limit enc t (edit ∷ [])) fault → IsRule fault
    → IsMade limit enc t (edit ∷ []) 0 t
tried_none limit enc t edit Memory breaks rule = absurd rule
tried_none limit enc t edit (Rule r) breaks rule = record {
  within = omega arith;
  made = refl;
  next = rejected (changed enc t edit.span edit.text limit) refl;
} where
  rejected : (made : Result Text ℕ) → changed enc t edit.span edit.text limit ≡ made
      → (s : ℕ) × (changed enc t edit.span edit.text limit ≡ Err s)
  rejected (Err s) is = (s, is)
  rejected (Ok v) is =
      let all : Ok v ≡ Err r =
      sym (ap (λ (m : Result Text ℕ). and_then m (λ u. Ok u)) is) ∙ breaks in absurd (cc all)
