-- What no record begins with ends the records for one reason alone.
use Rattle.std.proofs.Common.{◌≡◌, ℕ, ◌<◌, ◌≤◌, true, false, List, [], ◌∷◌, ◌++◌, length, take, Option, Some, None, refl, sym, ap, ◌∙◌, append_assoc, inl, inr, arith}
use Rattle.std.specs.Prelude.{if◌then◌else◌}
use Rattle.std.specs.List.{flat_map}
use Rattle.std.proofs.lemmas.List.{length-append}
use Rattle.std.proofs.lemmas.Bool.{cond-true, cond-false}
use Rattle.lsp_frame.specs.Bounds.{Bounds, IsInRange}
use Rattle.lsp_log.specs.Log.{Flaw, bad_line, bad_number, cut_short, bad_end, not_utf8, EndsWith, Breaks, HasLine, parts_flaw, lengths_of, in_range, is_writable, Head, head_line, head_of, parts_of, with_feed, holds_feed}
use Rattle.lsp_log.proofs.LogLemmas.{cut_one, same_head, head_holds_no, head_short, holds_near, holds_cut, parts_stand, range_writable, clash}

-- what is wrong behind a head that can be written, as far as the text is not looked at
abbrev head_flaw : Bounds → Head → List ℕ → Option Flaw
head_flaw limits head after = if in_range limits head then parts_flaw (lengths_of head) after else Some bad_number

abbrev seen : Flaw → Option Flaw
seen not_utf8 = None
seen flaw = Some flaw

data Reason (limits : Bounds) (xs : List ℕ) (flaw : Flaw) : Type 0 where
  long : flaw ≡ bad_line → 64 ≤ length xs → holds_feed (take 64 xs) ≡ false → Reason limits xs flaw
  ended : flaw ≡ cut_short → 0 < length xs → length xs < 64 → holds_feed xs ≡ false → Reason limits xs flaw
  formless : (line after : List ℕ) → HasLine xs line after → ((head : Head) → is_writable head ≡ true → line ≡ head_line head → ⊥) → flaw ≡ bad_line → Reason limits xs flaw
  headed : (head : Head) (after : List ℕ) → HasLine xs (head_line head) after → is_writable head ≡ true → head_flaw limits head after ≡ seen flaw → Reason limits xs flaw

reason : (limits : Bounds) → IsInRange limits → (xs : List ℕ) (flaw : Flaw) → Breaks limits xs flaw → Reason limits xs flaw
reason limits sizes xs bad_line (inl b) = long refl b.0 b.1
reason limits sizes xs bad_line (inr b) = formless b.0 b.1 b.2 b.3 refl
reason limits sizes xs bad_number b = headed b.0 b.1 b.2 b.3 (cond-false (in_range limits b.0) (parts_flaw (lengths_of b.0) b.1) (Some bad_number) b.4)
reason limits sizes xs cut_short (inl b) = ended refl b.0 b.1 b.2
reason limits sizes xs cut_short (inr b) = headed b.0 b.1 b.2.line (range_writable limits sizes b.0 b.2.range) (cond-true (in_range limits b.0) (parts_flaw (lengths_of b.0) b.1) (Some bad_number) b.2.range ∙ b.3)
reason limits sizes xs bad_end b = headed b.0 b.1 b.2.line (range_writable limits sizes b.0 b.2.range) (cond-true (in_range limits b.0) (parts_flaw (lengths_of b.0) b.1) (Some bad_number) b.2.range ∙ b.3)
reason limits sizes xs not_utf8 b =
    let head = head_of b.0 in
    let after = flat_map with_feed (parts_of b.0) ++ b.1 in
    let writable = range_writable limits sizes head b.3 in
    let line : HasLine xs (head_line head) after = record { whole = b.2 ∙ append_assoc (with_feed (head_line head)) (flat_map with_feed (parts_of b.0)) b.1; short = head_short limits sizes head b.3; one = head_holds_no head writable } in
    headed head after line writable (cond-true (in_range limits head) (parts_flaw (lengths_of head) after) (Some bad_number) b.3 ∙ parts_stand b.0 b.1)

one_line : (xs line after lines afters : List ℕ) → HasLine xs line after → HasLine xs lines afters → (line ≡ lines) × (after ≡ afters)
one_line xs line after lines afters a b =
    cut_one 10 line lines after afters a.one b.one (sym (append_assoc line (10 ∷ []) after) ∙ sym a.whole ∙ b.whole ∙ append_assoc lines (10 ∷ []) afters)

line_near : {X : Type 0} (xs line after : List ℕ) → HasLine xs line after → holds_feed (take 64 xs) ≡ false → X
line_near xs line after h none = clash (holds_feed (take 64 xs)) none (ap (λ (w : List ℕ). holds_feed (take 64 w)) h.whole ∙ holds_near 64 line after h.short)

line_there : {X : Type 0} (xs line after : List ℕ) → HasLine xs line after → holds_feed xs ≡ false → X
line_there xs line after h none = clash (holds_feed xs) none (ap holds_feed h.whole ∙ holds_cut line after)

-- no head spells the line of this one
formless_head : {X : Type 0} (xs line after afters : List ℕ) (head : Head) → HasLine xs line after → ((head : Head) → is_writable head ≡ true → line ≡ head_line head → ⊥) → HasLine xs (head_line head) afters → is_writable head ≡ true → X
formless_head xs line after afters head a none b writable = absurd (none head writable (one_line xs line after (head_line head) afters a b).0)

seen_one : (f g : Flaw) → seen f ≡ seen g → f ≡ g
seen_one f g e = sym (back f) ∙ ap unseen e ∙ back g
  where
    unseen : Option Flaw → Flaw
    unseen None = not_utf8
    unseen (Some flaw) = flaw

    back : (flaw : Flaw) → unseen (seen flaw) ≡ flaw
    back bad_line = refl
    back _ = refl

one_head : (limits : Bounds) (xs : List ℕ) (f g : Flaw) (h k : Head) (after afters : List ℕ) → HasLine xs (head_line h) after → is_writable h ≡ true → head_flaw limits h after ≡ seen f → HasLine xs (head_line k) afters → is_writable k ≡ true → head_flaw limits k afters ≡ seen g → f ≡ g
one_head limits xs f g h k after afters a w p b v q =
    let one = same_head h k after afters w v (sym a.whole ∙ b.whole) in
    seen_one f g (sym p ∙ ap (λ (x : Head). head_flaw limits x after) one.0 ∙ ap (head_flaw limits k) one.1 ∙ q)

one_reason : (limits : Bounds) (xs : List ℕ) (f g : Flaw) → Reason limits xs f → Reason limits xs g → f ≡ g
one_reason limits xs f g (long p most none) (long q more nothing) = p ∙ sym q
one_reason limits xs f g (long p most none) (ended q some less nothing) = absurd (omega (arith, most, less))
one_reason limits xs f g (long p most none) (formless line after a none_is q) = line_near xs line after a none
one_reason limits xs f g (long p most none) (headed head after a w q) = line_near xs (head_line head) after a none
one_reason limits xs f g (ended p some less none) (long q most nothing) = absurd (omega (arith, most, less))
one_reason limits xs f g (ended p some less none) (ended q more lesser nothing) = p ∙ sym q
one_reason limits xs f g (ended p some less none) (formless line after a none_is q) = line_there xs line after a none
one_reason limits xs f g (ended p some less none) (headed head after a w q) = line_there xs (head_line head) after a none
one_reason limits xs f g (formless line after a none_is p) (long q most none) = line_near xs line after a none
one_reason limits xs f g (formless line after a none_is p) (ended q some less none) = line_there xs line after a none
one_reason limits xs f g (formless line after a none_is p) (formless lines afters b nor_is q) = p ∙ sym q
one_reason limits xs f g (formless line after a none_is p) (headed head afters b w q) = formless_head xs line after afters head a none_is b w
one_reason limits xs f g (headed head after a w p) (long q most none) = line_near xs (head_line head) after a none
one_reason limits xs f g (headed head after a w p) (ended q some less none) = line_there xs (head_line head) after a none
one_reason limits xs f g (headed head after a w p) (formless lines afters b nor_is q) = formless_head xs lines afters after head b nor_is a w
one_reason limits xs f g (headed head after a w p) (headed k afters b v q) = one_head limits xs f g head k after afters a w p b v q

line_some : (xs line after : List ℕ) → HasLine xs line after → 0 < length xs
line_some xs line after h = omega (arith, ap length h.whole, length-append (with_feed line) after, length-append line (10 ∷ []))

reason_some : (limits : Bounds) (xs : List ℕ) (f : Flaw) → Reason limits xs f → 0 < length xs
reason_some limits xs f (long p most none) = omega (arith, most)
reason_some limits xs f (ended p some less none) = some
reason_some limits xs f (formless line after a none_is p) = line_some xs line after a
reason_some limits xs f (headed head after a w p) = line_some xs (head_line head) after a

pub one_end : (limits : Bounds) → IsInRange limits → (xs : List ℕ) (f g : Option Flaw) → EndsWith limits xs f → EndsWith limits xs g → f ≡ g
one_end limits sizes xs None None a b = refl
one_end limits sizes xs None (Some g) a b = absurd (omega (arith, ap length a, reason_some limits xs g (reason limits sizes xs g b)))
one_end limits sizes xs (Some f) None a b = absurd (omega (arith, ap length b, reason_some limits xs f (reason limits sizes xs f a)))
one_end limits sizes xs (Some f) (Some g) a b = ap Some (one_reason limits xs f g (reason limits sizes xs f a) (reason limits sizes xs g b))
