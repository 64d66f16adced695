-- The place of an element in a list that goes on.
use Rattle.std.proofs.Common.{◌≡◌, ℕ, ◌<◌, List, ◌∷◌, ◌++◌, length, get_or, Some, slice_get, refl}
use Rattle.std.proofs.Common.{sym, ap, ◌∙◌, arith}
use Rattle.std.proofs.Math.Seq.{get_or-append_seam}
use Rattle.std.proofs.lemmas.List.{length-append, get_or_append_left}
use Rattle.std.proofs.lemmas.Option.{slice_get_within, get_or_from_slice_get, slice_get_read}

-- after so many others
pub at_place : {A : Type 0} (xs ys : List A) (x : A) (n : ℕ) → n ≡ length xs
    → slice_get (xs ++ x ∷ ys) n ≡ Some x
at_place xs ys x n is =
    let within : n < length (xs ++ x ∷ ys) = omega (arith, is, length-append xs (x ∷ ys)) in
    slice_get_read (xs ++ x ∷ ys) (length (xs ++ x ∷ ys)) n x refl within
    (sym (ap (λ k. get_or (xs ++ x ∷ ys) k x) is ∙ get_or-append_seam xs x ys x))

-- what comes after leaves it
pub still_at : {A : Type 0} (xs ys : List A) (x : A) (n : ℕ) → slice_get xs n ≡ Some x
    → slice_get (xs ++ ys) n ≡ Some x
still_at xs ys x n is =
    let inside = slice_get_within xs n x is in
    let within : n < length (xs ++ ys) = omega (arith, inside, length-append xs ys) in
    slice_get_read (xs ++ ys) (length (xs ++ ys)) n x refl within
    (sym (get_or_append_left xs ys x n inside ∙ get_or_from_slice_get xs n x x is))
