-- What comes after a place in its block, and the pieces that a loop over it takes.
use Rattle.std.proofs.Common.{◌≡◌, ◌<◌, ◌≤◌, ◌+◌, ◌-◌, ℕ, false, List, ◌++◌, length, take}
use Rattle.std.proofs.Common.{drop, get_or, refl, sym, ap, subst, ⊎_elim, ◌∙◌, arith}
use Rattle.std.proofs.Common.{length-append, length-drop, append_assoc, take-add}
use Rattle.std.proofs.lemmas.Bool.{cases_lt}
use Rattle.std.proofs.lemmas.List.{append-nil, take-append-drop, drop-drop, length-take-le}
use Rattle.std.proofs.lemmas.List.{get_or_append_left, get_or-append_right}
use Rattle.std.specs.Str.{IsCharBoundary}
use Rattle.std.proofs.lemmas.Str.{IsUtf8-take}
use Rattle.lsp_types.specs.declared.position.Encoding.TheVariants.{Utf8}
use Rattle.lsp_lined.specs.Ends.{ends_in, joins, places_behind, IsCountUpTo, IsRest}
use Rattle.lsp_lined.specs.Parts.{joined, part_at, AreParts, IsFound, IsSeam}
use Rattle.lsp_text.specs.Spans.{bytes_between}
use Rattle.lsp_lined.specs.declared.part.Found.{Found}
use Rattle.lsp_lined.specs.declared.sums.Measure.TheVariants.{Units}
use Rattle.lsp_lined.proofs.EndCounts.{ends_in-append, sums_at_most, length-places_behind}
use Rattle.lsp_lined.proofs.EndCounts.{places_behind-append}
use Rattle.lsp_lined.proofs.EndPlaces.{places_within}
use Rattle.lsp_lined.proofs.Parts.{joined-at, joins-front, joins-back, joins-nearer, IsUtf8-joined}
use Rattle.lsp_lined.proofs.PartPlaces.{before_part, after_part, after_last, part_between}
use Rattle.lsp_lined.proofs.PartPlaces.{take-inside, drop-inside, found_units}

-- ---- in the part that is found

-- a place and the part that it is found in
record IsCutAt (ps : List (List ℕ)) (offset : ℕ) (f : Found) : Type 0 where
  within : f.left ≤ length (part_at ps f.index)
  boundary : IsCharBoundary (part_at ps f.index) f.left
  front : take offset (joined ps) ≡ before_part ps f.index ++ take f.left (part_at ps f.index)
  back : drop offset (joined ps) ≡ drop f.left (part_at ps f.index) ++ after_part ps f.index

cut_at : (ps : List (List ℕ)) (offset : ℕ) (f : Found) → AreParts ps
    → IsFound ps (Units Utf8) offset f → IsCharBoundary (joined ps) offset → IsCutAt ps offset f
cut_at ps offset f h k b =
    let i = f.index in
    let a = before_part ps i in
    let p = part_at ps i in
    let c = after_part ps i in
    let place = found_units ps offset f h k b in
    let text : joined ps ≡ a ++ (p ++ c) = joined-at ps i k.index in
    let at : offset ≡ length a + f.left =
    sym (sym (ap (λ (m : ℕ). m + f.left) k.bytes_are) ∙ place.place) in
    record {
      within = place.within;
      boundary = place.boundary;
      front =
          ap (λ (m : ℕ). take m (joined ps)) at ∙ ap (take (length a + f.left)) text
          ∙ take-inside a p c f.left place.within;
      back =
          ap (λ (m : ℕ). drop m (joined ps)) at ∙ ap (drop (length a + f.left)) text
          ∙ drop-inside a p c f.left place.within;
    }

pub found_rest : (ps : List (List ℕ)) (offset : ℕ) (f : Found) (rest : List ℕ) → AreParts ps
    → IsFound ps (Units Utf8) offset f → IsCharBoundary (joined ps) offset
    → IsRest (drop f.left (part_at ps f.index)) rest → IsRest (drop offset (joined ps)) rest
found_rest ps offset f rest h k b r =
    let i = f.index in
    let p = part_at ps i in
    let c = after_part ps i in
    let d = drop f.left p in
    let cut = cut_at ps offset f h k b in
    let part = part_between ps i h k.index in
    let behind : joins d c ≡ false =
    joins-back (take f.left p) d c
    (ap (λ (x : List ℕ). joins x c) (take-append-drop f.left p) ∙ part.back_apart) in
    record {
      utf8 = r.utf8;
      more = r.more ++ c;
      begins = cut.back ∙ ap (λ (x : List ℕ). x ++ c) r.begins ∙ append_assoc rest r.more c;
      some =
          λ some.
          ⊎_elim
          (λ (more : i + 1 < length ps).
          let inside : f.left < length p = k.inside more in
          r.some (omega (arith, inside, length-drop f.left p)))
          (λ (last : length ps ≤ i + 1).
          let same : drop offset (joined ps) ≡ d =
          cut.back ∙ ap (λ (x : List ℕ). d ++ x) (after_last ps i last) ∙ append-nil d in
          r.some (subst (λ (x : List ℕ). 0 < length x) same some))
          (cases_lt (i + 1) (length ps));
      apart =
          joins-nearer rest r.more c r.apart
          (ap (λ (x : List ℕ). joins x c) (sym r.begins) ∙ behind);
    }

-- a place at which a text may be cut is one of the part
pub record IsSeamIn (ps : List (List ℕ)) (offset : ℕ) (f : Found) : Type 0 where
  pub seam : IsSeam (part_at ps f.index) f.left
  pub ends : ends_in (take offset (joined ps))
      ≡ ends_in (before_part ps f.index) + ends_in (take f.left (part_at ps f.index))
  pub most : ends_in (take offset (joined ps)) ≤ length (joined ps)

pub found_seam : (ps : List (List ℕ)) (offset : ℕ) (f : Found) → AreParts ps
    → IsFound ps (Units Utf8) offset f → IsSeam (joined ps) offset → IsSeamIn ps offset f
found_seam ps offset f h k seam =
    let i = f.index in
    let a = before_part ps i in
    let p = part_at ps i in
    let c = after_part ps i in
    let t = take f.left p in
    let d = drop f.left p in
    let cut = cut_at ps offset f h k seam.boundary in
    let part = part_between ps i h k.index in
    let whole : joins (a ++ t) (d ++ c) ≡ false =
    ap (joins (a ++ t)) (sym cut.back)
    ∙ ap (λ (x : List ℕ). joins x (drop offset (joined ps))) (sym cut.front) ∙ seam.apart in
    let first : joins a t ≡ false =
    joins-front a t (d ++ c)
    (ap (joins a) (sym (append_assoc t d c)
    ∙ ap (λ (x : List ℕ). x ++ c) (take-append-drop f.left p)) ∙ part.front_apart) in
    let all = sums_at_most (take offset (joined ps))
    (IsUtf8-take (joined ps) offset (IsUtf8-joined ps h) seam.boundary) in
    record {
      seam =
          record {
            boundary = cut.boundary;
            apart = joins-front t d c (joins-back a t (d ++ c) whole);
          };
      ends = ap ends_in cut.front ∙ ends_in-append a t first;
      most =
          omega (
            arith,
            all.ends,
            length-take-le offset (joined ps) seam.boundary.0,
            seam.boundary.0,
          );
    }

-- ---- bytes from one place to another

pub between_split : (bs : List ℕ) (a b c : ℕ) → a ≤ b → b ≤ c
    → bytes_between bs a c ≡ bytes_between bs a b ++ bytes_between bs b c
between_split bs a b c first second =
    let sum : c - a ≡ (b - a) + (c - b) = omega arith in
    let at : a + (b - a) ≡ b = omega arith in
    ap (λ (n : ℕ). take n (drop a bs)) sum ∙ take-add (b - a) (c - b) (drop a bs)
    ∙ ap (λ (x : List ℕ). bytes_between bs a b ++ take (c - b) x)
    (drop-drop (b - a) a bs ∙ ap (λ (n : ℕ). drop n bs) at)

-- what is before a place that a text may be cut at stands apart from what is after it
pub apart_between : (bs : List ℕ) (a b c : ℕ) → a ≤ b → b ≤ c → IsSeam bs b
    → joins (bytes_between bs a b) (bytes_between bs b c) ≡ false
apart_between bs a b c first second seam =
    let m = bytes_between bs a b in
    let sum : b ≡ a + (b - a) = omega arith in
    let front : take b bs ≡ take a bs ++ m =
    ap (λ (n : ℕ). take n bs) sum ∙ take-add a (b - a) bs in
    joins-front m (bytes_between bs b c) (drop (c - b) (drop b bs))
    (ap (joins m) (take-append-drop (c - b) (drop b bs))
    ∙ joins-back (take a bs) m (drop b bs)
    (ap (λ (x : List ℕ). joins x (drop b bs)) (sym front) ∙ seam.apart))

-- ---- a loop over the bytes of a span

-- how far it has come
pub record IsOn (bs : List ℕ) (from to at : ℕ) : Type 0 where
  pub first : from ≤ at
  pub last : at ≤ to
  pub seam : IsSeam bs at

-- ---- line ends before a place, in a table

-- **As many of the places are up to a place as there are line ends before it.**
pub count_up_to : (bs places : List ℕ) (offset count : ℕ) → places ≡ places_behind 0 bs
    → IsSeam bs offset → IsCountUpTo places offset count → count ≡ ends_in (take offset bs)
count_up_to bs places offset count are seam h =
    let a = take offset bs in
    let b = drop offset bs in
    let within : offset ≤ length bs = seam.boundary.0 in
    let size : length a ≡ offset = length-take-le offset bs within in
    let first = places_behind 0 a in
    let second = places_behind (0 + length a) b in
    let split : places ≡ first ++ second =
    are ∙ ap (places_behind 0) (sym (take-append-drop offset bs))
    ∙ places_behind-append 0 a b seam.apart in
    let counted : length first ≡ ends_in a = length-places_behind 0 a in
    let most : count ≤ length first + length second =
    omega (arith, h.within, ap length split, length-append first second) in
    ⊎_elim
    (λ (less : count < length first).
    let here : count < length places = omega (arith, ap length split, length-append first second) in
    let e : get_or places count 0 ≡ get_or first count 0 =
    ap (λ (xs : List ℕ). get_or xs count 0) split
    ∙ get_or_append_left first second 0 count less in
    absurd (omega (arith, h.over here, e, (places_within 0 a count less).1, size)))
    (λ (ge : length first ≤ count).
    ⊎_elim
    (λ (more : length first < count).
    let k = length first in
    let some : k - k < length second = omega arith in
    let e : get_or places k 0 ≡ get_or second (k - k) 0 =
    ap (λ (xs : List ℕ). get_or xs k 0) split
    ∙ get_or-append_right first second k k 0 refl (omega arith) in
    let low = (places_within (0 + length a) b (k - k) some).0 in
    absurd (omega (arith, h.up_to k more, e, low, size)))
    (λ (le : count ≤ length first). omega (arith, counted))
    (cases_lt (length first) count))
    (cases_lt count (length first))
