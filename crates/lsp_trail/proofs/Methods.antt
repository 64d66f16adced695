-- The table of the code says of a method what the standard does.
use Rattle.std.specs.Prelude.{if◌then◌else◌, map}
use Rattle.std.specs.Str.{bytes_eq}
use Rattle.std.proofs.Common.{◌≡◌, ◌∙◌, ℕ, Bool, true, false, List, [], ◌∷◌, Option, Some, None}
use Rattle.std.proofs.Common.{refl, sym, subst}
use Rattle.std.proofs.lemmas.Slice.Eq.{bytes_eq-Decides}
use Rattle.lsp_trail.specs.StandardMethods.{MethodsHaveRows, Row, RowsAreStandard}
use Rattle.lsp_trail.specs.StandardMethods.{standard, table, use_among, use_of}
use Rattle.lsp_trail.specs.declared.standard_methods.MethodUse.{MethodUse}

-- these rows say the same of each method of those
abbrev AreIn : List Row → List Row → Type 0
AreIn rows ones =
    map (λ (one : Row). use_among rows one.0) ones ≡ map (λ (one : Row). Some one.1) ones

found : (rows ones : List Row) → AreIn rows ones → (name : List ℕ) (has : MethodUse)
    → use_among ones name ≡ Some has → use_among rows name ≡ Some has
unfolding use_among
found rows [] all name has e = absurd cc
found rows (one ∷ ones) all name has e =
    let later : AreIn rows ones = cc all in
    by_test (λ f. found rows ones later name has f) (bytes_eq one.0 name) refl e
  where
    by_test : (use_among ones name ≡ Some has → use_among rows name ≡ Some has) → (b : Bool)
        → bytes_eq one.0 name ≡ b → (if b then Some one.1 else use_among ones name) ≡ Some has
        → use_among rows name ≡ Some has
    by_test others true is f = subst (λ (m : List ℕ). use_among rows m ≡ Some has)
        ((bytes_eq-Decides one.0 name).0 is)
        (let here : use_among rows one.0 ≡ Some one.1 = cc all in here ∙ f)
    by_test others false is f = others f

-- two tables that say the same of each other's methods say the same of every name
agree : (a b : List Row)
    → ((name : List ℕ) (has : MethodUse)
    → use_among a name ≡ Some has → use_among b name ≡ Some has)
    → ((name : List ℕ) (has : MethodUse)
    → use_among b name ≡ Some has → use_among a name ≡ Some has)
    → (name : List ℕ) → use_among a name ≡ use_among b name
agree a b to from name = by_answer (use_among b name) refl
  where
    by_none : (o : Option MethodUse) → use_among a name ≡ o → use_among b name ≡ None
        → use_among a name ≡ use_among b name
    by_none None is none = is ∙ sym none
    by_none (Some has) is none = absurd (cc (sym none ∙ to name has is))

    by_answer : (o : Option MethodUse) → use_among b name ≡ o
        → use_among a name ≡ use_among b name
    by_answer None is = by_none (use_among a name) refl is
    by_answer (Some has) is = from name has is ∙ sym is

pub methods_have_rows : MethodsHaveRows
unfolding use_of use_among standard table
methods_have_rows = found table standard refl

pub rows_are_standard : RowsAreStandard
unfolding use_of use_among standard table
rows_are_standard = found standard table refl

-- **what the table says is what has the method**
pub use_is : (name : List ℕ) → use_among table name ≡ use_of name
unfolding use_of
use_is = agree table standard rows_are_standard methods_have_rows
