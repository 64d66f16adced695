-- A line of two numbers that was filled from its end.
use Rattle.std.specs.Prelude.{codes, decimal}
use Rattle.std.proofs.Common.{◌≡◌, ℕ, ◌+◌, ◌-◌, ◌≤◌, List, [], ◌∷◌, ◌++◌, length, take, drop, set}
use Rattle.std.proofs.Common.{replicate, refl, ap, ◌∙◌, length-drop, arith}
use Rattle.std.proofs.lemmas.List.{drop-set, take_all}

end_left : (end : ℕ) → drop 41 (replicate 42 end) ≡ end ∷ []
end_left end = refl

pub line_is : (frame len end size start : ℕ) (first third : List ℕ) → 1 ≤ size → size ≤ length first
    → length third ≡ 42 → drop size first ≡ decimal len ++ drop 41 (replicate 42 end)
    → drop start third ≡ decimal frame ++ drop (size - 1) (set first (size - 1) 32)
    → take (42 - start) (drop start third) ≡ decimal frame ++ (codes " " ++ decimal len ++ end ∷ [])
line_is frame len end size start first third some within whole back front =
    let next : size - 1 + 1 ≡ size = omega (arith, some) in
    let space : drop (size - 1) (set first (size - 1) 32) ≡ 32 ∷ (decimal len ++ end ∷ []) =
    drop-set first (size - 1) 32 (omega (arith, some, within)) ∙ ap (λ n. 32 ∷ drop n first) next
    ∙ ap (λ (w : List ℕ). 32 ∷ w)
    (back ∙ ap (λ (w : List ℕ). decimal len ++ w) (end_left end)) in
    take_all (42 - start) (drop start third) (omega (arith, whole, length-drop start third)) ∙ front
    ∙ ap (λ (w : List ℕ). decimal frame ++ w) space
