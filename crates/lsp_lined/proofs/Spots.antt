-- A text in the place of some bytes of a text in parts.
use Rattle.std.proofs.Common.{◌≡◌, ◌⊎◌, ◌<◌, ◌≤◌, ◌+◌, ◌&&◌, ℕ, Bool, false, List, [], ◌∷◌, ◌++◌, length, take, drop, set, suc, refl, sym, ap, subst, inl, inr, ⊎_elim, ◌∙◌, arith, length-append, length-drop, append_assoc}
use Rattle.std.proofs.lemmas.Bool.{and_right, cases_lt}
use Rattle.std.proofs.lemmas.List.{take-append-drop, length-take-le, set_split}
use Rattle.std.specs.List.{replace_range}
use Rattle.std.specs.Str.{IsUtf8, IsCharBoundary}
use Rattle.lsp_types.specs.declared.position.Encoding.TheVariants.{Utf8}
use Rattle.lsp_text.specs.Lines.{starts_with_feed}
use Rattle.lsp_text.proofs.Splices.{IsUtf8-replace_range}
use Rattle.lsp_lined.specs.Ends.{ends_with_return, joins}
use Rattle.lsp_lined.specs.Sums.{sums_of}
use Rattle.lsp_lined.specs.Parts.{joined, AreParts, part_at, IsFound, IsFoundBefore, IsSpot}
use Rattle.lsp_text.specs.Spans.{CanReplace}
use Rattle.lsp_lined.specs.declared.sums.Sums.{Sums}
use Rattle.lsp_lined.specs.declared.sums.Measure.TheVariants.{Units}
use Rattle.lsp_lined.specs.declared.part.Found.{Found}
use Rattle.lsp_lined.specs.declared.part.Spot.{Spot}
use Rattle.lsp_lined.proofs.Parts.{joined-append, joined-at, ends_with_return-append, joins-front, joins-farther, AreParts-append, has_part}
use Rattle.lsp_lined.proofs.PartPlaces.{before_part, after_part, part_between, after_last, boundary-of_inside, take-inside, drop-inside}
use Rattle.lsp_lined.proofs.PartSteps.{found_within}
use Rattle.lsp_lined.proofs.Exchanges.{IsExchange, exchange}

-- ---- joints that stay

-- a text that begins as another does stands apart as that does
joins-begins : (a x y z : List ℕ) → 0 < length x → joins a (x ++ y) ≡ joins a (x ++ z)
joins-begins a [] y z some = absurd (omega arith)
joins-begins a (b ∷ x) y z some = refl

-- and so does one that ends as another does
joins-ends : (x y z c : List ℕ) → 0 < length z → joins (x ++ z) c ≡ joins (y ++ z) c
joins-ends x y [] c some = absurd (omega arith)
joins-ends x y (b ∷ z) c some = ap (λ (v : Bool). v && starts_with_feed c) (ends_with_return-append false x (b ∷ z) ∙ sym (ends_with_return-append false y (b ∷ z)))

pub joins-nothing : (a c : List ℕ) → c ≡ [] → joins a c ≡ false
joins-nothing a c e = ap (joins a) e ∙ and_right (ends_with_return false a) false refl

nothing-joins : (a c : List ℕ) → a ≡ [] → joins a c ≡ false
nothing-joins a c e = ap (λ (x : List ℕ). joins x c) e

-- what stands before bytes that keep a first byte, or that nothing stands before
pub front_apart : (a p x : List ℕ) (n : ℕ) → n ≤ length p → (0 < n) ⊎ (a ≡ []) → joins a p ≡ false → joins a (take n p ++ x) ≡ false
front_apart a p x n le h apart =
    ⊎_elim
    (λ (some : 0 < n).
    joins-begins a (take n p) x (drop n p) (omega (arith, length-take-le n p le)) ∙ ap (joins a) (take-append-drop n p) ∙ apart)
    (λ (e : a ≡ []). nothing-joins a (take n p ++ x) e)
    h

-- what stands after bytes that keep a last byte, or that nothing comes after
pub back_apart : (p x c : List ℕ) (n : ℕ) → n ≤ length p → (n < length p) ⊎ (c ≡ []) → joins p c ≡ false → joins (x ++ drop n p) c ≡ false
back_apart p x c n le h apart =
    ⊎_elim
    (λ (some : n < length p).
    joins-ends x (take n p) (drop n p) c (omega (arith, length-drop n p)) ∙ ap (λ (y : List ℕ). joins y c) (take-append-drop n p) ∙ apart)
    (λ (e : c ≡ []). joins-nothing (x ++ drop n p) c e)
    h

-- ---- a part is replaced

-- the whole, with a text in the place of bytes of what stands between two others
pub replace_range-inside : (a p c text : List ℕ) (from to : ℕ) → from ≤ length p → to ≤ length p →
    replace_range (a ++ (p ++ c)) (length a + from) (length a + to) text ≡ a ++ (replace_range p from to text ++ c)
replace_range-inside a p c text from to le1 le2 =
    ap (λ (x : List ℕ). (x ++ text) ++ drop (length a + to) (a ++ (p ++ c))) (take-inside a p c from le1)
    ∙ ap (λ (x : List ℕ). ((a ++ take from p) ++ text) ++ x) (drop-inside a p c to le2)
    ∙ sym (append_assoc ((a ++ take from p) ++ text) (drop to p) c)
    ∙ ap (λ (x : List ℕ). (x ++ drop to p) ++ c) (append_assoc a (take from p) text)
    ∙ ap (λ (x : List ℕ). x ++ c) (append_assoc a (take from p ++ text) (drop to p))
    ∙ append_assoc a (replace_range p from to text) c

-- the parts with another in the place of one
pub joined-set : (ps : List (List ℕ)) (i : ℕ) (q : List ℕ) → i < length ps → joined (set ps i q) ≡ before_part ps i ++ (q ++ after_part ps i)
joined-set ps i q lt =
    let e : suc i ≡ i + 1 = omega arith in
    ap joined (set_split ps i q lt) ∙ joined-append (take i ps) (q ∷ drop (suc i) ps) ∙ ap (λ n. before_part ps i ++ (q ++ joined (drop n ps))) e

pub AreParts-set : (ps : List (List ℕ)) (i : ℕ) (q : List ℕ) → AreParts ps → i < length ps → IsUtf8 q → joins (before_part ps i) (q ++ after_part ps i) ≡ false → joins q (after_part ps i) ≡ false →
    AreParts (set ps i q)
AreParts-set ps i q h lt u first second =
    let e : i + 1 ≡ suc i = omega arith in
    let k = has_part ps i h lt in
    let rest : AreParts (q ∷ drop (i + 1) ps) = (u, second, k.after) in
    let all : AreParts (take i ps ++ (q ∷ drop (i + 1) ps)) = AreParts-append (take i ps) (q ∷ drop (i + 1) ps) k.before rest first in
    subst AreParts (ap (λ n. take i ps ++ (q ∷ drop n ps)) e ∙ sym (set_split ps i q lt)) all

abbrev pub part_with : List (List ℕ) → Spot → List ℕ → List ℕ
part_with ps s text = replace_range (part_at ps s.index) s.from s.to text

-- a text may take the place of bytes of one part, and the parts and their sums then
pub record IsSpotPart (ps : List (List ℕ)) (from to : ℕ) (s : Spot) (text : List ℕ) : Type 0 where
  pub can : CanReplace (part_at ps s.index) s.from s.to
  pub text_is : joined (set ps s.index (part_with ps s text)) ≡ replace_range (joined ps) from to text
  pub parts : AreParts (set ps s.index (part_with ps s text))
  pub sums : (whole old new : Sums) → whole ≡ sums_of (joined ps) → old ≡ sums_of (part_at ps s.index) → new ≡ sums_of (part_with ps s text) → IsExchange whole old new (joined (set ps s.index (part_with ps s text)))
  pub within : length (part_with ps s text) ≤ length (replace_range (joined ps) from to text)

-- **An edit that stays in one part leaves the other parts and their joints.**
pub spot_part : (ps : List (List ℕ)) (from to : ℕ) (s : Spot) (text : List ℕ) → AreParts ps → IsUtf8 text → IsSpot ps from to s → CanReplace (joined ps) from to → IsSpotPart ps from to s text
spot_part ps from to s text h u spot can =
    let i = s.index in
    let a = before_part ps i in
    let p = part_at ps i in
    let c = after_part ps i in
    let q = part_with ps s text in
    let lt = spot.index in
    let order = can.order in
    let from_is = spot.from_is in
    let to_is = spot.to_is in
    let to_le = spot.within in
    let from_le : s.from ≤ length p = omega arith in
    let b = part_between ps i h spot.index in
    let whole : joined ps ≡ a ++ (p ++ c) = joined-at ps i spot.index in
    let boundary : (n k : ℕ) → IsCharBoundary (joined ps) k → length a + n ≡ k → n ≤ length p → IsCharBoundary p n =
    λ n k bk e le. boundary-of_inside a p c n le (subst (λ (x : List ℕ). IsCharBoundary x (length a + n)) whole (subst (λ j. IsCharBoundary (joined ps) j) (sym e) bk)) in
    let first : IsCharBoundary p s.from = boundary s.from from can.first spot.from_is from_le in
    let second : IsCharBoundary p s.to = boundary s.to to can.second spot.to_is spot.within in
    let utf8 : IsUtf8 q = IsUtf8-replace_range p text s.from s.to b.utf8 u first second in
    let nothing : (s.to < length p) ⊎ (c ≡ []) = elim spot.back [ inl k ↦ inl k | inr e ↦ inr (after_last ps i (omega arith)) ] in
    let back : joins q c ≡ false = back_apart p (take s.from p ++ text) c s.to spot.within nothing b.back_apart in
    let pieces : q ++ c ≡ take s.from p ++ ((text ++ drop s.to p) ++ c) =
    ap (λ (x : List ℕ). x ++ c) (append_assoc (take s.from p) text (drop s.to p)) ∙ append_assoc (take s.from p) (text ++ drop s.to p) c in
    let front : joins a (q ++ c) ≡ false = ap (joins a) pieces ∙ front_apart a p ((text ++ drop s.to p) ++ c) s.from from_le spot.front (joins-front a p c b.front_apart) in
    let after : joined (set ps i q) ≡ a ++ (q ++ c) = joined-set ps i q spot.index in
    let text_is : joined (set ps i q) ≡ replace_range (joined ps) from to text =
    after ∙ sym (replace_range-inside a p c text s.from s.to from_le spot.within)
    ∙ ap (λ (x : List ℕ). replace_range x (length a + s.from) (length a + s.to) text) (sym whole)
    ∙ ap (λ n. replace_range (joined ps) n (length a + s.to) text) spot.from_is
    ∙ ap (λ n. replace_range (joined ps) from n text) spot.to_is in
    record {
      can = record { order = omega arith; first = first; second = second };
      text_is = text_is;
      parts = AreParts-set ps i q h spot.index utf8 front back;
      sums = λ x old new w o n.
          subst (λ (t : List ℕ). IsExchange x old new t) (append_assoc a q c ∙ sym after)
          (exchange a p q c b.front_utf8 b.utf8 utf8 b.back_utf8 (joins-front a p c b.front_apart) (joins-farther a p c b.front_apart b.back_apart) (joins-front a q c front) (joins-farther a q c front back) x old new
          (w ∙ ap sums_of (whole ∙ sym (append_assoc a p c))) o n);
      within = omega (arith, ap length (sym text_is ∙ after), length-append a (q ++ c), length-append q c);
    }

-- ---- parts are cut anew

-- the parts before a place, others, and the parts after a place
pub record AreSpliced (ps qs fresh : List (List ℕ)) (text : List ℕ) (from to i j : ℕ) : Type 0 where
  pub parts : AreParts ((take i ps ++ fresh) ++ drop (j + 1) qs)
  pub text_is : joined ((take i ps ++ fresh) ++ drop (j + 1) qs) ≡ (take from (joined ps) ++ text) ++ drop to (joined qs)

abbrev pub recut : List (List ℕ) → List (List ℕ) → List ℕ → Found → Found → List ℕ
recut ps qs text a b = (take a.left (part_at ps a.index) ++ text) ++ drop b.left (part_at qs b.index)

regrouped : (h t x d l : List ℕ) → (h ++ ((t ++ x) ++ d)) ++ l ≡ ((h ++ t) ++ x) ++ (d ++ l)
regrouped h t x d l = simp append_assoc

-- the bytes before a place, and those after one, by the parts that were found
pub front_of : (ps : List (List ℕ)) (from : ℕ) (a : Found) → IsFoundBefore ps from a → take from (joined ps) ≡ before_part ps a.index ++ take a.left (part_at ps a.index)
front_of ps from a h =
    let at : from ≡ length (before_part ps a.index) + a.left = sym (sym (ap (λ n. n + a.left) h.bytes_are) ∙ h.place_is) in
    ap (λ n. take n (joined ps)) at ∙ ap (take (length (before_part ps a.index) + a.left)) (joined-at ps a.index h.index)
    ∙ take-inside (before_part ps a.index) (part_at ps a.index) (after_part ps a.index) a.left h.within

pub back_of : (qs : List (List ℕ)) (to : ℕ) (b : Found) → IsFound qs (Units Utf8) to b → to ≤ length (joined qs) → drop to (joined qs) ≡ drop b.left (part_at qs b.index) ++ after_part qs b.index
back_of qs to b h le =
    let place = found_within qs to b h le in
    let at : to ≡ length (before_part qs b.index) + b.left = sym (sym (ap (λ n. n + b.left) h.bytes_are) ∙ place.0) in
    ap (λ n. drop n (joined qs)) at ∙ ap (drop (length (before_part qs b.index) + b.left)) (joined-at qs b.index h.index)
    ∙ drop-inside (before_part qs b.index) (part_at qs b.index) (after_part qs b.index) b.left place.1

pub boundary_before : (ps : List (List ℕ)) (from : ℕ) (a : Found) → IsFoundBefore ps from a → IsCharBoundary (joined ps) from → IsCharBoundary (part_at ps a.index) a.left
boundary_before ps from a h b =
    let at : from ≡ length (before_part ps a.index) + a.left = sym (sym (ap (λ n. n + a.left) h.bytes_are) ∙ h.place_is) in
    let p = part_at ps a.index in
    boundary-of_inside (before_part ps a.index) p (after_part ps a.index) a.left h.within
    (subst (λ (x : List ℕ). IsCharBoundary x (length (before_part ps a.index) + a.left)) (joined-at ps a.index h.index) (subst (λ n. IsCharBoundary (joined ps) n) at b))

-- **Fresh parts in the place of those that an edit touches leave the joints.**
pub spliced_parts : (ps qs fresh : List (List ℕ)) (text : List ℕ) (a b : Found) (from to : ℕ) → AreParts ps → AreParts qs → AreParts fresh → IsFoundBefore ps from a → IsFound qs (Units Utf8) to b → to ≤ length (joined qs) →
    joined fresh ≡ recut ps qs text a b → AreSpliced ps qs fresh text from to a.index b.index
spliced_parts ps qs fresh text a b from to hp hq hf before found to_le is =
    let i = a.index in
    let j = b.index in
    let head = before_part ps i in
    let p = part_at ps i in
    let q = part_at qs j in
    let tail = after_part qs j in
    let mid = recut ps qs text a b in
    let first = part_between ps i hp before.index in
    let last = part_between qs j hq found.index in
    let place = found_within qs to b found to_le in
    let nothing : (b.left < length q) ⊎ (tail ≡ []) = ⊎_elim (λ (more : j + 1 < length qs). inl (found.inside more)) (λ (end : length qs ≤ j + 1). inr (after_last qs j end)) (cases_lt (j + 1) (length qs)) in
    let second : joins mid tail ≡ false = back_apart q (take a.left p ++ text) tail b.left place.1 nothing last.back_apart in
    let pieces : mid ++ tail ≡ take a.left p ++ ((text ++ drop b.left q) ++ tail) =
    ap (λ (x : List ℕ). x ++ tail) (append_assoc (take a.left p) text (drop b.left q)) ∙ append_assoc (take a.left p) (text ++ drop b.left q) tail in
    let front : joins head (mid ++ tail) ≡ false = ap (joins head) pieces ∙ front_apart head p ((text ++ drop b.left q) ++ tail) a.left before.within before.front (joins-front head p (after_part ps i) first.front_apart) in
    let begun : joined (take i ps ++ fresh) ≡ head ++ mid = joined-append (take i ps) fresh ∙ ap (λ (x : List ℕ). head ++ x) is in
    let both : AreParts (take i ps ++ fresh) = AreParts-append (take i ps) fresh (has_part ps i hp before.index).before hf (ap (joins head) is ∙ joins-front head mid tail front) in
    let joint : joins (joined (take i ps ++ fresh)) tail ≡ false = ap (λ (x : List ℕ). joins x tail) begun ∙ joins-farther head mid tail front second in
    record {
      parts = AreParts-append (take i ps ++ fresh) (drop (j + 1) qs) both (has_part qs j hq found.index).after joint;
      text_is =
          joined-append (take i ps ++ fresh) (drop (j + 1) qs) ∙ ap (λ (x : List ℕ). x ++ tail) begun ∙ regrouped head (take a.left p) text (drop b.left q) tail
          ∙ ap (λ (x : List ℕ). (x ++ text) ++ (drop b.left q ++ tail)) (sym (front_of ps from a before))
          ∙ ap (λ (x : List ℕ). (take from (joined ps) ++ text) ++ x) (sym (back_of qs to b found to_le));
    }
