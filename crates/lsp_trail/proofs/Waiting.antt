-- The snapshots that wait, kept by version, beside what they stand for.
use Rattle.std.specs.Prelude.{ℤ, int_lt, not, IsSome}
use Rattle.std.specs.Global.{Global}
use Rattle.std.specs.Map.{lookup}
use Rattle.std.specs.Ordering.{int_eq, int_cmp, is_gt}
use Rattle.std.proofs.lemmas.Int.{ints}
use Rattle.std.proofs.Common.{◌≡◌, true, false, List, Option, Some, None, Vec, refl, sym, ◌∙◌}
use Rattle.std.proofs.Common.{arith, true≢false}
use Rattle.lsp_trail.specs.Marking.{waiting_in}
use Rattle.lsp_replay.specs.declared.heard.EventPlace.{EventPlace}

abbrev Entries : Type 0
Entries = List (ℤ × Vec EventPlace Global)

-- ---- the least ones are dropped

pub record IsDropping (version : ℤ) (first now : Entries) : Type 0 where
  pub keeps : (number : ℤ) → int_lt version number ≡ true
      → waiting_in now number ≡ waiting_in first number

-- none is below the least, and the least is not reached
above_least : (version least number : ℤ) → not (int_lt version least) ≡ false
    → int_lt version number ≡ false → is_gt (int_cmp least number) ≡ true
above_least version least number reached less = grind (arith, ints)

pub none_reached : (version least : ℤ) (es : Entries) → not (int_lt version least) ≡ false
    → ((q : ℤ) → IsSome (lookup (int_eq q) es) → is_gt (int_cmp least q) ≡ false)
    → (number : ℤ) → int_lt version number ≡ false → lookup (int_eq number) es ≡ None
none_reached version least es reached lower number less =
    by_look (lookup (int_eq number) es) (lower number)
  where
    by_look : (o : Option (Vec EventPlace Global))
        → (IsSome o → is_gt (int_cmp least number) ≡ false)
        → o ≡ None
    by_look None h = refl
    by_look (Some v) h = absurd (true≢false
        (sym (above_least version least number reached less) ∙ h refl))
