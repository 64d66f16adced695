use Rattle.std.proofs.Common.{◌≡◌, ◌==◌, ◌||◌, ℕ, ◌+◌, Bool, true, false, drop, get_or, refl, sym}
use Rattle.std.proofs.Common.{ap, ◌∙◌, arith}
use Rattle.std.proofs.lemmas.Bool.{eqb-true, true≢false}
use Rattle.std.proofs.lemmas.List.{drop_more}
use Rattle.json.specs.Word.{is_space}
use Rattle.json.specs.Lex.{class, space, lex, between}
use Rattle.lsp_walk.proofs.Lexing.{lex_space}
use Rattle.lsp_walk.proofs.bytes.spaces_end.Goals as goal

one_of : {P : Type 0} (a b c e : Bool) → (a ≡ true → P) → (b ≡ true → P) → (c ≡ true → P)
    → (e ≡ true → P) → (a || b || c || e) ≡ true → P
one_of true b c e p q r s h = p refl
one_of false true c e p q r s h = q refl
one_of false false true e p q r s h = r refl
one_of false false false true p q r s h = s refl
one_of false false false false p q r s h = absurd (true≢false (sym h))

space_class : (x : ℕ) → is_space x ≡ true → class x ≡ space
space_class x = one_of (x == 32) (x == 9) (x == 10) (x == 13) (λ e. ap class (eqb-true x 32 e))
    (λ e. ap class (eqb-true x 9 e)) (λ e. ap class (eqb-true x 10 e))
    (λ e. ap class (eqb-true x 13 e))

pub spaces-preserved : goal.spaces-preserved
spaces-preserved c =
    let d = c.args.bytes.now in
    let at = c.spaces.at in
    let x = get_or d at 0 in
    let is : class x ≡ space = space_class x (sym c.is_space.ensures ∙ c.if-is_space.true) in
    record {
      same = sym (ap (lex between) (drop_more d at 0 c.spaces-test.true)
          ∙ lex_space x (drop (at + 1) d) is) ∙ c.spaces.invariant.same;
      forward = omega arith;
      within = omega arith;
    }
