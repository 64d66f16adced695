-- The character by which two texts stay apart, as the code finds it.
use Rattle.std.proofs.Common.{◌≡◌, ℕ, ◌+◌, ◌<◌, ◌==◌, List, [], ◌∷◌, length, drop, get_or}
use Rattle.std.proofs.Common.{Option, Some, None, IsUtf8, refl, subst, sym, ap, ◌∙◌, arith, if◌then◌else◌}
use Rattle.std.specs.Prelude.{chars}
use Rattle.std.specs.Str.Iter.{chars_rest, chars_steps}
use Rattle.std.specs.declared.str.Chars.{Chars}
use Rattle.std.proofs.lemmas.Bool.Decides.{nat_tests}
use Rattle.std.proofs.lemmas.List.{at_drop_more, drop_all}
use Rattle.std.proofs.lemmas.Str.{IsUtf8-past_char, chars-nil, chars_past_char}
use Rattle.lsp_redact.specs.Characters.{first_other}

nothing_left : (xs : List ℕ) → length xs ≡ 0 → xs ≡ []
nothing_left [] h = refl
nothing_left (x ∷ xs) h = absurd (omega (arith, h))

-- nothing came
pub none_came : (s u : Chars) (o : Option ℕ) → ((d : ℕ) → o ≡ Some d → ⊥) → chars_steps s o u
    → chars_steps s None u
none_came s u None other step = step
none_came s u (Some d) other step = absurd (other d refl)

-- this came
pub this_came : (s u : Chars) (o : Option ℕ) (d : ℕ) → o ≡ Some d → chars_steps s o u
    → chars_steps s (Some d) u
this_came s u o d is step = subst (λ (r : Option ℕ). chars_steps s r u) is step

-- the other text is over
pub all_same : (text other : List ℕ) (n : ℕ) → n ≡ length other
    → first_other text (drop n other) ≡ None
all_same text other n is = ap (first_other text) (drop_all n other (omega (arith, is)))

-- the first text ends here
pub ends_here : (cs : List ℕ) (s u : Chars) (n c : ℕ) → chars_steps s None u
    → (n < length cs) × (c ≡ get_or cs n c)
    → first_other (chars (chars_rest s)) (drop n cs) ≡ Some c
ends_here cs s u n c step turn =
    ap (λ (t : List ℕ). first_other t (drop n cs))
    (ap chars (nothing_left (chars_rest s) step.0.0) ∙ chars-nil)
    ∙ at_drop_more (first_other []) cs n c turn.0
    ∙ ap (λ (x : ℕ). let o : Option ℕ = Some x in o) (sym turn.1)

after_here : (cs : List ℕ) (s u : Chars) (n c d : ℕ) → IsUtf8 (chars_rest s)
    → chars_steps s (Some d) u → (n < length cs) × (c ≡ get_or cs n c)
    → first_other (chars (chars_rest s)) (drop n cs)
    ≡ (if d == c then first_other (chars (chars_rest u)) (drop (n + 1) cs) else Some c)
after_here cs s u n c d utf8 step turn =
    ap (λ (t : List ℕ). first_other t (drop n cs)) (chars_past_char (chars_rest s) (chars_rest u) d utf8 step.0)
    ∙ at_drop_more (first_other (d ∷ chars (chars_rest u))) cs n c turn.0
    ∙ ap (λ (x : ℕ). if d == x then first_other (chars (chars_rest u)) (drop (n + 1) cs) else Some x)
    (sym turn.1)

-- they differ here
pub differs_here : (cs : List ℕ) (s u : Chars) (n c d : ℕ) → IsUtf8 (chars_rest s)
    → chars_steps s (Some d) u → (n < length cs) × (c ≡ get_or cs n c) → (d ≡ c → ⊥)
    → first_other (chars (chars_rest s)) (drop n cs) ≡ Some c
differs_here cs s u n c d utf8 step turn other =
    after_here cs s u n c d utf8 step turn ∙ grind (arith, nat_tests)

-- they are the same here
pub same_here : (cs : List ℕ) (s u : Chars) (n c d : ℕ) → IsUtf8 (chars_rest s)
    → chars_steps s (Some d) u → (n < length cs) × (c ≡ get_or cs n c) → d ≡ c
    → first_other (chars (chars_rest s)) (drop n cs)
    ≡ first_other (chars (chars_rest u)) (drop (n + 1) cs)
same_here cs s u n c d utf8 step turn same =
    after_here cs s u n c d utf8 step turn ∙ grind (arith, nat_tests)

-- the rest is UTF-8 still
pub rest_utf8 : (s u : Chars) (d : ℕ) → IsUtf8 (chars_rest s) → chars_steps s (Some d) u
    → IsUtf8 (chars_rest u)
rest_utf8 s u d utf8 step = IsUtf8-past_char (chars_rest s) (chars_rest u) d utf8 step.0
