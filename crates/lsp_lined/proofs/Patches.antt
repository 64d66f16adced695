-- What is left to replace where a text and the bytes that it replaces begin or end alike.
use Rattle.std.proofs.Common.{◌≡◌, ◌≤◌, ◌+◌, ◌-◌, ℕ, List, [], ◌++◌, length, take, drop}
use Rattle.std.proofs.Common.{refl, sym, ap, ap₂, subst, ◌∙◌, arith, OnOk, OnErr}
use Rattle.std.proofs.Common.{length-append, length-drop, append_assoc, take-add}
use Rattle.std.proofs.lemmas.List.{append-nil, take-append-drop, take_all, take_at}
use Rattle.std.proofs.lemmas.List.{drop-drop, drop-take, take-take, length-take-le}
use Rattle.std.specs.declared.result.Result.{Result}
use Rattle.std.specs.declared.result.Result.TheVariants.{Ok, Err}
use Rattle.std.specs.List.{replace_range}
use Rattle.std.specs.Str.{chars, IsUtf8, IsCharBoundary}
use lib.Utf8.{encodes}
use Rattle.std.proofs.lemmas.Str.{encodes-chars, IsUtf8-nil, IsUtf8-take, IsUtf8-drop}
use Rattle.std.proofs.lemmas.Str.{IsUtf8-between, IsCharBoundary-from_rest}
use Rattle.std.proofs.lemmas.Str.{IsCharBoundary-from_take, IsCharBoundary-at_seam}
use Rattle.lsp_text.specs.Parting.{AreSameFrom}
use Rattle.lsp_text.specs.Spans.{bytes_between}
use Rattle.lsp_lined.specs.Patches.{BeginsAs, IsPatch, PartsIn}
use Rattle.lsp_lined.specs.declared.lined.patch.Patch.{Patch}
use Rattle.lsp_lined.specs.declared.walk.Differs.{Differs}
use Rattle.lsp_text.proofs.CommonEnds.{IsUtf8-rest}

-- ---- what is the same in the text and in the bytes that it replaces

-- what is the same at the front is left out
pub front_out : (bs text rest : List ℕ) (from to at : ℕ) → from ≤ at
    → text ≡ bytes_between bs from at ++ rest
    → replace_range bs at to rest ≡ replace_range bs from to text
front_out bs text rest from to at le e =
    let m = bytes_between bs from at in
    let sum : at ≡ from + (at - from) = omega arith in
    let front : take at bs ≡ take from bs ++ m =
    ap (λ n. take n bs) sum ∙ take-add from (at - from) bs in
    ap (λ (x : List ℕ). x ++ drop to bs) (ap (λ (x : List ℕ). x ++ rest) front
    ∙ append_assoc (take from bs) m rest ∙ ap (λ (x : List ℕ). take from bs ++ x) (sym e))

-- and what is the same at the back
pub back_out : (bs text rest : List ℕ) (from to at : ℕ) → at ≤ to
    → text ≡ rest ++ bytes_between bs at to
    → replace_range bs from at rest ≡ replace_range bs from to text
back_out bs text rest from to at le e =
    let m = bytes_between bs at to in
    let a = take from bs in
    let sum : at + (to - at) ≡ to = omega arith in
    let back : drop at bs ≡ m ++ drop to bs =
    sym (take-append-drop (to - at) (drop at bs))
    ∙ ap (λ (x : List ℕ). m ++ x) (drop-drop (to - at) at bs ∙ ap (λ n. drop n bs) sum) in
    ap (λ (x : List ℕ). (a ++ rest) ++ x) back
    ∙ sym (append_assoc (a ++ rest) m (drop to bs))
    ∙ ap (λ (x : List ℕ). x ++ drop to bs) (append_assoc a rest m
    ∙ ap (λ (x : List ℕ). a ++ x) (sym e))

-- ---- bytes between others

pub between_front : (bs : List ℕ) (a b c : ℕ) → a ≤ b → b ≤ c
    → take (b - a) (bytes_between bs a c) ≡ bytes_between bs a b
between_front bs a b c first second = take-take (b - a) (c - a) (drop a bs) (omega arith)

pub between_back : (bs : List ℕ) (a b c : ℕ) → a ≤ b → b ≤ c
    → drop (b - a) (bytes_between bs a c) ≡ bytes_between bs b c
between_back bs a b c first second =
    let sum : c - a ≡ (b - a) + (c - b) = omega arith in
    let at : a + (b - a) ≡ b = omega arith in
    ap (λ n. drop (b - a) (take n (drop a bs))) sum ∙ drop-take (b - a) (c - b) (drop a bs)
    ∙ ap (take (c - b)) (drop-drop (b - a) a bs ∙ ap (λ n. drop n bs) at)

-- a place in the bytes between two others
pub boundary_between : (bs : List ℕ) (a b c : ℕ) → IsUtf8 bs → a ≤ b → b ≤ c
    → IsCharBoundary bs a → IsCharBoundary bs c → IsCharBoundary (bytes_between bs a c) (b - a)
    → IsCharBoundary bs b
boundary_between bs a b c u first second left right k =
    let at : a + (b - a) ≡ b = omega arith in
    let within : c ≤ length bs = right.0 in
    let front : IsUtf8 (take (b - a) (drop a bs)) =
    subst IsUtf8 (between_front bs a b c first second)
    (IsUtf8-take (bytes_between bs a c) (b - a)
    (IsUtf8-between bs a c u (omega arith) left right) k) in
    subst (IsCharBoundary bs) at
    (IsCharBoundary-from_rest bs a (b - a) (omega arith)
    (IsCharBoundary-from_take (drop a bs) (b - a) (IsUtf8-drop bs a u left)
    (omega (arith, length-drop a bs)) front))

-- ---- a text in the place of all bytes, without its characters at both ends

-- equal characters are equal bytes
pub begins_all : (bs text : List ℕ) → IsUtf8 bs → IsUtf8 text → chars bs ≡ chars text
    → BeginsAs bs text []
begins_all bs text u v e =
    record {
      count = length bs;
      within = omega arith;
      begins =
          sym (encodes-chars text v) ∙ sym (ap encodes e) ∙ encodes-chars bs u
          ∙ sym (take_all (length bs) bs (omega arith))
          ∙ sym (append-nil (take (length bs) bs));
      utf8 = IsUtf8-nil;
    }

-- what a text begins with, whether a walk over all went to its end or stopped
pub begun : (bs text rest : List ℕ) (len : ℕ) (result : Result Unit Differs) → IsUtf8 bs
    → IsUtf8 text → len ≡ length bs
    → OnOk result (text ≡ bytes_between bs 0 len ++ rest)
    → OnErr result (PartsIn (bytes_between bs 0 len) text rest)
    → BeginsAs bs text rest
begun bs text rest len (Ok u) v w is all parts =
    let none : len - 0 ≡ length bs = omega arith in
    record {
      count = length bs;
      within = omega arith;
      begins = all ∙ ap (λ (k : ℕ). take k bs ++ rest) none;
      utf8 =
          IsUtf8-rest bs text rest v w
          (all ∙ ap (λ (x : List ℕ). x ++ rest) (take_all (len - 0) bs (omega arith)));
    }
begun bs text rest len (Err e) v w is all parts =
    let n = parts.first.count in
    let whole : take (len - 0) bs ≡ bs = take_all (len - 0) bs (omega arith) in
    record {
      count = n;
      within = omega (arith, parts.first.within, ap length whole);
      begins =
          parts.first.begins
          ∙ ap (λ (x : List ℕ). take n x ++ rest) whole;
      utf8 = parts.first.utf8;
    }

-- where it does is a boundary
pub begun_boundary : (bs text rest : List ℕ) → IsUtf8 bs → IsUtf8 text → BeginsAs bs text rest
    → IsCharBoundary bs (length text - length rest)
begun_boundary bs text rest u v b =
    let n = b.count in
    let front = take n bs in
    let size : length front ≡ n = length-take-le n bs b.within in
    let at : n ≡ length text - length rest =
    omega (arith, ap length b.begins, length-append front rest, size) in
    let utf8 : IsUtf8 front =
    subst IsUtf8
    (ap (take (length front)) b.begins ∙ take_at front rest (length front) refl)
    (IsUtf8-take text (length front) v (IsCharBoundary-at_seam text front rest b.begins b.utf8)) in
    subst (IsCharBoundary bs) at (IsCharBoundary-from_take bs n u b.within utf8)

-- the characters at both ends are left out
pub ends_out : (bs text rest short : List ℕ) (len from back : ℕ) (p : Patch)
    → IsUtf8 bs → IsUtf8 text → len ≡ length bs → BeginsAs bs text rest
    → from ≡ length text - length rest → AreSameFrom bs rest back → from + back ≤ length bs
    → short ≡ take (length rest - back) rest → p.from ≡ from → p.to ≡ len - back
    → p.text.now ≡ short → IsPatch bs 0 (length bs) text p
ends_out bs text rest short len from back p u v len_is b from_is ends room short_is at end is =
    let n = b.count in
    let within = b.within in
    let front = take n bs in
    let size : length front ≡ n = length-take-le n bs within in
    let sum : length text ≡ n + length rest =
    omega (arith, ap length b.begins, length-append front rest, size) in
    let starts : p.from ≡ n = omega (arith, at, from_is) in
    let stop = length bs - back in
    let stops : p.to ≡ stop = omega (arith, end, len_is) in
    let none : n - 0 ≡ n = omega arith in
    let whole : text ≡ bytes_between bs 0 n ++ rest =
    b.begins ∙ ap (λ (k : ℕ). take k bs ++ rest) (sym none) in
    let less : back ≤ length bs = ends.ends.left in
    let last : length bs - stop ≡ length (drop stop bs) = omega (arith, length-drop stop bs) in
    let behind : drop (length rest - back) rest ≡ bytes_between bs stop (length bs) =
    sym ends.ends.same
    ∙ sym (take_all (length bs - stop) (drop stop bs) (omega (arith, last))) in
    let cut : rest ≡ short ++ bytes_between bs stop (length bs) =
    sym (take-append-drop (length rest - back) rest)
    ∙ ap₂ (λ (x y : List ℕ). x ++ y) (sym short_is) behind in
    record {
      can =
          record {
            order = omega (arith, starts, stops);
            first =
                subst (IsCharBoundary bs) (sym (at ∙ from_is))
                (begun_boundary bs text rest u v b);
            second = subst (IsCharBoundary bs) (sym stops) ends.left;
          };
      same =
          ap (λ (x : List ℕ). replace_range bs p.from p.to x) is
          ∙ ap₂ (λ i j. replace_range bs i j short) starts stops
          ∙ back_out bs rest short n (length bs) stop (omega arith) cut
          ∙ front_out bs text rest 0 (length bs) n (omega arith) whole;
    }
