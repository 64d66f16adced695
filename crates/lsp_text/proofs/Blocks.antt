-- Units of a text, byte by byte.
use Rattle.std.proofs.Common.{◌≡◌, ◌≢◌, ◌<◌, ◌≤◌, ◌+◌, ◌-◌, ℕ, Bool, false, List, length, take}
use Rattle.std.proofs.Common.{drop, get_or, refl, sym, ap, subst, ◌∙◌, ⊎_elim, arith, take-add}
use Rattle.std.proofs.lemmas.List.{take_all, take_more}
use Rattle.std.proofs.lemmas.List.Sums.{sum_by-append, sum_by_push}
use Rattle.std.proofs.lemmas.Bool.{cases_lt, false≢true}
use Rattle.std.specs.Bool.{IsTrue}
use Rattle.std.proofs.lemmas.Bool.Decides.{nat_tests}
use Rattle.std.proofs.lemmas.Str.{IsUtf8-take}
use Rattle.std.specs.List.{sum_by}
use Rattle.std.specs.Str.{IsUtf8, IsCharBoundary}
use Rattle.lsp_types.specs.declared.position.Encoding.{Encoding}
use Rattle.lsp_types.specs.declared.position.Encoding.TheVariants.{Utf8, Utf16, Utf32}
use Rattle.lsp_text.specs.Offsets.{byte_units, IsPassed, IsSkipped}
use Rattle.lsp_text.proofs.ByteUnits.{units_by_bytes}

pub none_passed : (enc : Encoding) (bs : List ℕ) (column : ℕ) → IsPassed enc bs column 0 column
none_passed enc bs column = record {
  within = omega arith;
  left_is = (let e : 0 + column ≡ column = omega arith in e);
}

-- one more block
pub block_passed : (enc : Encoding) (bs : List ℕ) (column at left width : ℕ)
    → IsPassed enc bs column at left → at + 32 ≤ length bs
    → width ≡ sum_by (byte_units enc) (take 32 (drop at bs)) → width ≤ left
    → IsPassed enc bs column (at + 32) (left - width)
block_passed enc bs column at left width h within is le =
    record {
      within = within;
      left_is =
          omega (
            arith,
            h.left_is,
            is,
            le,
            ap (sum_by (byte_units enc)) (take-add at 32 bs),
            sum_by-append (byte_units enc) (take at bs) (take 32 (drop at bs)),
          );
    }

-- two more blocks
pub pair_passed : (enc : Encoding) (bs : List ℕ) (column at left width : ℕ)
    → IsPassed enc bs column at left → at + 64 ≤ length bs
    → width ≡ sum_by (byte_units enc) (take 32 (drop at bs))
    + sum_by (byte_units enc) (take 32 (drop (at + 32) bs)) → width ≤ left
    → IsPassed enc bs column (at + 64) (left - width)
pair_passed enc bs column at left width h within is le =
    let a = sum_by (byte_units enc) (take 32 (drop at bs)) in
    let b = sum_by (byte_units enc) (take 32 (drop (at + 32) bs)) in
    let one = block_passed enc bs column at left a h (omega arith) refl (omega arith) in
    let two = block_passed enc bs column (at + 32) (left - a) b one (omega arith) refl (omega arith)
    in
    let place : at + 64 ≡ at + 32 + 32 = omega arith in
    record {
      within = within;
      left_is =
          omega (
            arith,
            two.left_is,
            ap (λ n. sum_by (byte_units enc) (take n bs)) place,
            is,
            le,
          );
    }

-- none of the last bytes, of a line that brings this much
pub last_passed : (enc : Encoding) (bs : List ℕ) (width : ℕ) → width ≡ sum_by (byte_units enc) bs
    → IsPassed enc bs width (length bs) 0
last_passed enc bs width is = record {
  within = omega arith;
  left_is = omega (arith, is, ap (sum_by (byte_units enc)) (take_all (length bs) bs (omega arith)));
}

-- two blocks fewer
pub pair_behind : (enc : Encoding) (bs : List ℕ) (width at behind more : ℕ)
    → IsPassed enc bs width at behind → 64 ≤ at
    → more ≡ sum_by (byte_units enc) (take 32 (drop (at - 64) bs))
    + sum_by (byte_units enc) (take 32 (drop (at - 64 + 32) bs))
    → IsPassed enc bs width (at - 64) (behind + more)
pair_behind enc bs width at behind more h some is =
    let f = byte_units enc in
    let k = at - 64 in
    let place : k + 32 + 32 ≡ at = omega arith in
    record {
      within = omega (arith, h.within);
      left_is =
          omega (
            arith,
            h.left_is,
            is,
            ap (λ n. sum_by f (take n bs)) place,
            ap (sum_by f) (take-add (k + 32) 32 bs),
            sum_by-append f (take (k + 32) bs) (take 32 (drop (k + 32) bs)),
            ap (sum_by f) (take-add k 32 bs),
            sum_by-append f (take k bs) (take 32 (drop k bs)),
          );
    }

-- a byte that goes on with a character brings nothing
inside_byte : (enc : Encoding) (x : ℕ) → enc ≢ Utf8 → 128 ≤ x → x < 192 → byte_units enc x ≡ 0
inside_byte Utf8 x wide low high = absurd (wide refl)
inside_byte _ x wide low high = grind (arith, nat_tests)

pub byte_passed : (enc : Encoding) (bs : List ℕ) (column at left : ℕ) → enc ≢ Utf8
    → IsPassed enc bs column at left → at < length bs → 128 ≤ get_or bs at 0 → get_or bs at 0 < 192
    → IsPassed enc bs column (at + 1) left
byte_passed enc bs column at left wide h lt low high =
    let x = get_or bs at 0 in
    record {
      within = omega arith;
      left_is =
          omega (
            arith,
            h.left_is,
            ap (sum_by (byte_units enc)) (take_more bs at 0 lt),
            sum_by_push (byte_units enc) (take at bs) x,
            inside_byte enc x wide low high,
          );
    }

-- at the end of a character
passed_whole : (enc : Encoding) (bs : List ℕ) (column at left : ℕ) → IsUtf8 bs
    → IsPassed enc bs column at left → IsCharBoundary bs at → IsSkipped enc bs column at left
passed_whole enc bs column at left u h b = record {
  boundary = b;
  left_is = omega (arith, h.left_is, units_by_bytes enc (take at bs) (IsUtf8-take bs at u b));
}

-- a byte that does not go on with a character begins one
begins : (b : Bool) (x : ℕ) → ((128 ≤ x) × (x < 192) → IsTrue b) → b ≡ false → 128 ≤ x → 192 ≤ x
begins b x all off low =
    ⊎_elim (λ lt. absurd (false≢true (sym off ∙ all (low, lt)))) (λ ge. ge) (cases_lt x 192)

pub passed_at_start : (enc : Encoding) (line bs : List ℕ) (column at left : ℕ) (b : Bool)
    → IsUtf8 line → bs ≡ line → IsPassed enc bs column at left → at < length bs →
    ((128 ≤ get_or bs at 0) × (get_or bs at 0 < 192) → IsTrue b) → b ≡ false
    → IsSkipped enc line column at left
passed_at_start enc line bs column at left b u same h lt all off =
    subst (λ (x : List ℕ). IsSkipped enc x column at left) same
    (passed_whole enc bs column at left (subst (λ (x : List ℕ). IsUtf8 x) (sym same) u) h
    (h.within, λ less low. begins b (get_or bs at 0) all off low))

pub passed_at_end : (enc : Encoding) (line bs : List ℕ) (column at left : ℕ) → IsUtf8 line
    → bs ≡ line → IsPassed enc bs column at left → length bs ≤ at
    → IsSkipped enc line column at left
passed_at_end enc line bs column at left u same h ge =
    let w = h.within in
    subst (λ (x : List ℕ). IsSkipped enc x column at left) same
    (passed_whole enc bs column at left (subst (λ (x : List ℕ). IsUtf8 x) (sym same) u) h
    (w, λ less. absurd (omega (arith, less, ge))))
