-- What an object that is read token by token tells, member by member, and an array of changes, item
-- by item.
use Rattle.std.proofs.Common.{◌≡◌, ℕ, ℤ, pos, ◌^◌, ◌<◌, List, [], ◌∷◌, ◌++◌, true, Option, Some}
use Rattle.std.proofs.Common.{None, option_map, nat_lt, refl, sym, ap, ◌∙◌, append_assoc, arith}
use Rattle.std.proofs.lemmas.Bool.Decides.{nat_tests}
use Rattle.serde_json.specs.Data.{Data, null, boolean, number, string, array, object, unsigned}
use Rattle.serde_json.specs.Data.{Items, item}
use Rattle.serde_json.proofs.Views.{get_member-put, get_member-put_other}
use Rattle.lsp_rpc.specs.Ident as ident
use Rattle.lsp_rpc.specs.Params.{all_of}
use Rattle.lsp_rpc.specs.Shape.{as_id, as_integer}

pub small_natural : (n : ℕ) → n < 2 ^ 31 → as_integer (number (unsigned n)) ≡ Some (pos n)
small_natural n h =
    let long : nat_lt n (2 ^ 63) ≡ true = grind (arith, nat_tests) in
    let short : nat_lt n (2 ^ 31) ≡ true = grind (arith, nat_tests) in
    rw (long, short)

-- an integer is an id
pub number_id : (d : Data) (z : ℤ) → as_integer d ≡ Some z → as_id d ≡ Some (ident.number z)
number_id (number n) z h = ap (option_map ident.number) h
number_id _ z h = absurd (cc)

-- ---- members

-- what is found of a name once one more member came
pub ruleset members = (get_member-put, get_member-put_other)

-- ---- changes

behind : {X : Type 0} (done : List X) (x : X) (o : Option (List X))
    → option_map (λ more. done ++ more) (option_map (λ more. x ∷ more) o)
    ≡ option_map (λ more. (done ++ x ∷ []) ++ more) o
behind done x None = refl
behind done x (Some more) = ap Some (sym (append_assoc done (x ∷ []) more))

pub none_done : {X : Type 0} (done : List X) (o : Option (List X)) → done ≡ []
    → o ≡ option_map (λ more. done ++ more) o
none_done done None h = refl
none_done done (Some more) h = ap (λ xs. Some (xs ++ more)) (sym h)

-- with one more item, what it reads as stands behind the rest
pub one_more : {X : Type 0} (shape : Data → Option X) (front : Items → Items) (done : List X)
    (d : Data) (x : X) → shape d ≡ Some x
    → ((rest : Items) → all_of shape (front rest)
    ≡ option_map (λ more. done ++ more) (all_of shape rest))
    → (rest : Items) → all_of shape (front (item d rest))
    ≡ option_map (λ more. (done ++ x ∷ []) ++ more) (all_of shape rest)
one_more shape front done d x reads before rest =
    let read : all_of shape (item d rest) ≡ option_map (λ more. x ∷ more) (all_of shape rest) =
    rw reads in
    before (item d rest) ∙ ap (option_map (λ more. done ++ more)) read
    ∙ behind done x (all_of shape rest)
