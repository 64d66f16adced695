-- Ids are one exactly where they are equal.
use Rattle.std.proofs.Common.{◌≡◌, true, true≢false, refl, sym, ap, subst}
use Rattle.std.proofs.lemmas.Bool.Decides.{Decides-int_eq}
use Rattle.std.proofs.lemmas.Slice.Eq.{bytes_eq-Decides}
use Rattle.lsp_rpc.specs.Ident.{Ident, number, text, same_id}
use Rattle.lsp_rpc.specs.Laws.{SameIdIsEquality}

pub same_id-true : (a b : Ident) → same_id a b ≡ true → a ≡ b
same_id-true (number a) (number b) h = ap number ((Decides-int_eq a b).0 h)
same_id-true (text s) (text t) h = ap text ((bytes_eq-Decides s t).0 h)
same_id-true _ _ h = absurd (true≢false (sym h))

pub same_id-refl : (a : Ident) → same_id a a ≡ true
same_id-refl (number a) = (Decides-int_eq a a).1 refl
same_id-refl (text s) = (bytes_eq-Decides s s).1 refl

same_id-equal : (a b : Ident) → a ≡ b → same_id a b ≡ true
same_id-equal a b e = subst (λ (x : Ident). same_id a x ≡ true) e (same_id-refl a)

pub same_id_is_equality : SameIdIsEquality
same_id_is_equality a b = (same_id-true a b, same_id-equal a b)
