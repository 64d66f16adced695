-- The front of a list that grows at its end.
use Rattle.std.proofs.Common.{◌≡◌, ◌≤◌, ◌+◌, ◌-◌, ◌++◌, ◌∙◌, ℕ, List, length, take, min, ap, sym, arith}
use Rattle.std.proofs.Math.Seq.{take-append-add}
use Rattle.std.proofs.lemmas.List.{take_min}

-- a front of n bytes takes of the bytes behind it as many as there is room for up to m
pub front_more : (front given : List ℕ) (n m : ℕ) → length front ≡ n → n ≤ m
    → front ++ take (min (m - n) (length given)) given ≡ take m (front ++ given)
front_more front given n m len fits =
    let whole : length front + (m - n) ≡ m = omega (arith, len, fits) in
    ap (λ rest. front ++ rest) (take_min (m - n) given)
    ∙ sym (take-append-add front given (m - n))
    ∙ ap (λ k. take k (front ++ given)) whole
