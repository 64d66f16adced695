-- Places that are moved, one after another.
use Rattle.std.proofs.Common.{◌≡◌, ◌<◌, ◌≤◌, ◌+◌, ◌-◌, ℕ, List, [], ◌∷◌, ◌++◌, length, map, take}
use Rattle.std.proofs.Common.{drop, get_or, set, sym, ap, ◌∙◌, arith, append_assoc}
use Rattle.std.proofs.lemmas.List.{append-nil, length-map, length-take-le, get_or-append_right, get_or-drop, set-append_right, drop_more, map_more, take_all, drop_all}
use Rattle.std.proofs.lemmas.Bool.{cond-true, cond-false, lt-ltb, le-ltb}
use Rattle.lsp_lined.specs.Ends.{moved_place}

-- some places are moved, and those after them not yet
abbrev pub moved_to : (ℕ → ℕ) → List ℕ → ℕ → List ℕ
moved_to f old i = map f (take i old) ++ drop i old

front_len : (f : ℕ → ℕ) (old : List ℕ) (i : ℕ) → i ≤ length old → length (map f (take i old)) ≡ i
front_len f old i le = length-map (take i old) f ∙ length-take-le i old le

-- the next one
pub next_place : (f : ℕ → ℕ) (old now : List ℕ) (i : ℕ) → now ≡ moved_to f old i → i < length old → get_or now i 0 ≡ get_or old i 0
next_place f old now i is lt =
    let xs = map f (take i old) in
    let z : i - i ≡ 0 = omega arith in
    let n : i + 0 ≡ i = omega arith in
    ap (λ (x : List ℕ). get_or x i 0) is ∙ get_or-append_right xs (drop i old) i i 0 (front_len f old i (omega arith)) (omega arith) ∙ ap (λ (k : ℕ). get_or (drop i old) k 0) z
    ∙ get_or-drop i old 0 0 ∙ ap (λ (k : ℕ). get_or old k 0) n

pushed : (f : ℕ → ℕ) (old : List ℕ) (i y : ℕ) → i < length old → y ≡ f (get_or old i 0) → map f (take i old) ++ (y ∷ drop (i + 1) old) ≡ moved_to f old (i + 1)
pushed f old i y lt is =
    ap (λ (x : ℕ). map f (take i old) ++ (x ∷ drop (i + 1) old)) is ∙ sym (append_assoc (map f (take i old)) (f (get_or old i 0) ∷ []) (drop (i + 1) old))
    ∙ ap (λ (x : List ℕ). x ++ drop (i + 1) old) (sym (map_more f old i 0 lt))

-- it is written
pub one_moved : (f : ℕ → ℕ) (old now : List ℕ) (i y : ℕ) → now ≡ moved_to f old i → i < length old → y ≡ f (get_or now i 0) → set now i y ≡ moved_to f old (i + 1)
one_moved f old now i y is lt e =
    let xs = map f (take i old) in
    let z : i - i ≡ 0 = omega arith in
    ap (λ (x : List ℕ). set x i y) is ∙ set-append_right xs (drop i old) i i y (front_len f old i (omega arith)) (omega arith)
    ∙ ap (λ (k : ℕ). xs ++ set (drop i old) k y) z ∙ ap (λ (x : List ℕ). xs ++ set x 0 y) (drop_more old i 0 lt) ∙ pushed f old i y lt (e ∙ ap f (next_place f old now i is lt))

pub all_moved : (f : ℕ → ℕ) (old now : List ℕ) (i : ℕ) → now ≡ moved_to f old i → length old ≤ i → now ≡ map f old
all_moved f old now i is le =
    is ∙ ap (λ (x : List ℕ). map f x ++ drop i old) (take_all i old le) ∙ ap (λ (x : List ℕ). map f old ++ x) (drop_all i old le) ∙ append-nil (map f old)

pub moved_behind : (from removed inserted place : ℕ) → from < place → place - removed + inserted ≡ moved_place from removed inserted place
moved_behind from removed inserted place lt = sym (cond-true _ _ _ (lt-ltb from place lt))

pub moved_before : (from removed inserted place : ℕ) → place ≤ from → place ≡ moved_place from removed inserted place
moved_before from removed inserted place le = sym (cond-false _ _ _ (le-ltb from place le))
