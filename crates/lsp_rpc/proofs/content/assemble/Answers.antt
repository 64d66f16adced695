use Rattle.std.proofs.Common.{◌≡◌, ℕ, Bool, true, false, List, [], ◌∷◌, Some, drop, not, arith}
use Rattle.lsp_rpc.specs.Reading.{rules_on, least_broken, version_is_2, method_is_string}
use Rattle.lsp_rpc.specs.View.{parts_view}
use Rattle.lsp_rpc.proofs.content.assemble.Goals as goal

-- the least of the first two rules is that of all
least_of_all : (a b : ℕ × Bool) (rest : List (ℕ × Bool)) (rule : ℕ) → least_broken (a ∷ b ∷ []) ≡ Some rule → least_broken (a ∷ b ∷ rest) ≡ Some rule
least_of_all (r, false) (s, false) rest rule h = absurd (cc)
least_of_all _ _ rest rule h = h

pub returns-in_err-method-clause-rule : goal.returns-in_err-method-clause-rule
returns-in_err-method-clause-rule c =
    let p = parts_view c.args.parts in
    let broken = c.in_err-method.field-0.0 in
    let named : least_broken (rules_on p) ≡ Some broken.0 = least_of_all (203, not (version_is_2 p)) (204, not (method_is_string p)) (drop 2 (rules_on p)) broken.0 c.in_err-method.ensures.rule in
    grind arith
