use Rattle.std.proofs.Common.{◌≡◌, ◌-◌, ◌++◌, ℕ, Bool, true, List, length, take, drop, eqb}
use Rattle.std.proofs.Common.{refl, sym, ap, ap₂, ◌∙◌, arith, append_assoc, length-drop}
use Rattle.std.proofs.lemmas.Bool.Decides.{Decides-eqb}
use Rattle.std.proofs.lemmas.List.{take_all, take-append-drop, drop_at, drop-append-le}
use Rattle.std.proofs.lemmas.Slice.Eq.{starts_is}
use Rattle.std.specs.List.{starts_with}
use Rattle.lsp_text.specs.Parting.{AreSameTo}
use Rattle.lsp_text.proofs.stretches.begins_with.Goals as goal

-- what the rest of a slice is
all_of : (n : ℕ) (l : List ℕ) → take (length l - n) (drop n l) ≡ drop n l
all_of n l = take_all (length l - n) (drop n l) (omega (arith, length-drop n l))

-- whether a text begins with a front, by what comes after some bytes that are the same
begins : (text front : List ℕ) (n : ℕ) → AreSameTo text front n → (r : Bool)
    → r ≡ starts_with eqb (take (length text - n) (drop n text)) (take (length front - n) (drop n front))
    → (r ≡ true → text ≡ front ++ drop (length front) text)
    × ((rest : List ℕ) → text ≡ front ++ rest → r ≡ true)
begins text front n same r is =
    let tail = starts_is Decides-eqb (drop n text) (drop n front) r
    (is ∙ ap₂ (starts_with eqb) (all_of n text) (all_of n front)) in (
      λ t.
          let rest = drop (length (drop n front)) (drop n text) in
          let whole : text ≡ front ++ rest = sym (take-append-drop n text)
          ∙ ap₂ (λ p q. p ++ q) same.same (tail.0 t)
          ∙ sym (append_assoc (take n front) (drop n front) rest)
          ∙ ap (λ p. p ++ rest) (take-append-drop n front) in
          whole ∙ ap (λ q. front ++ q) (sym (ap (drop (length front)) whole ∙ drop_at front rest (length front) refl)),
      λ rest e. tail.1 rest (ap (drop n) e ∙ drop-append-le n front rest same.right),
    )

pub returns-clause-yes : goal.returns-clause-yes
returns-clause-yes c =
    (begins c.args.bytes.now c.args.front.now c.same_stretches-same.result
    c.same_stretches-same.ensures c.starts_with.result c.starts_with.ensures.value).0

pub returns-clause-no : goal.returns-clause-no
returns-clause-no c =
    (begins c.args.bytes.now c.args.front.now c.same_stretches-same.result
    c.same_stretches-same.ensures c.starts_with.result c.starts_with.ensures.value).1
