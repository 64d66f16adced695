-- Small facts about tests.
use Rattle.std.proofs.Common.{◌≡◌, Bool, true, false, not, ◌&&◌, ◌||◌, true≢false, refl, sym, ap}

pub or_split : (a b : Bool) → (a || b) ≡ true → a ≡ false → b ≡ true
or_split true b h k = absurd (true≢false k)
or_split false b h k = h

pub and_right_false : (a b : Bool) → (a && not b) ≡ true → b ≡ false
and_right_false true false h = refl
and_right_false _ _ h = absurd (true≢false (sym h))

pub and_false : (a b : Bool) → b ≡ true → (a && not b) ≡ false
and_false true b h = ap not h
and_false false b h = refl
