-- Parts that are put in chunks, and parts that are cut anew at an edit.
use Rattle.std.proofs.Common.{◌≡◌, ◌<◌, ◌≤◌, ◌+◌, ◌^◌, ℕ, false, List, [], ◌∷◌, ◌++◌, length, map, take, drop, sym, ap, subst, ⊎_elim, ◌∙◌, arith, length-append, length-drop, append_assoc}
use Rattle.std.specs.List.{splice, drop-map}
use Rattle.std.proofs.lemmas.Bool.{cases_lt}
use Rattle.std.proofs.lemmas.List.{take-append-drop, take-take, length-take-le, take-map, map-append}
use Rattle.std.specs.Str.{IsCharBoundary}
use Rattle.lsp_types.specs.declared.position.Encoding.TheVariants.{Utf8}
use Rattle.lsp_lined.specs.Ends.{joins}
use Rattle.lsp_lined.specs.Sums.{sums_of}
use Rattle.lsp_lined.specs.Parts.{joined, AreParts, part_at, IsFound, IsFoundBefore, IsReplacedIn, MakeUp, AreKept}
use Rattle.lsp_lined.specs.declared.sums.Sums.{Sums}
use Rattle.lsp_lined.specs.declared.sums.Measure.TheVariants.{Units}
use Rattle.lsp_lined.specs.declared.part.Found.{Found}
use Rattle.lsp_lined.proofs.Parts.{joined-append, joined-more, joins-front, joins-farther, AreApart-from_parts, IsUtf8-joined}
use Rattle.lsp_lined.proofs.CutPlaces.{AreParts-push, joined-push}
use Rattle.lsp_lined.proofs.PartSteps.{found_within, joined_take_le}
use Rattle.lsp_lined.proofs.PartPlaces.{before_part, after_part, found_units}
use Rattle.lsp_lined.proofs.Spots.{recut, spliced_parts, front_of, back_of, boundary_before}

-- ---- chunks of parts

-- the chunks so far, and the parts that are left
pub record AreChunked (cs rs : List (List ℕ)) (bs : List ℕ) : Type 0 where
  pub parts : AreParts cs
  pub rest : AreParts rs
  pub some : 0 < length rs
  pub apart : joins (joined cs) (joined rs) ≡ false
  pub text : joined cs ++ joined rs ≡ bs

-- the next chunk can be made
pub can_chunk : (cs rs : List (List ℕ)) (bs : List ℕ) (n : ℕ) → AreChunked cs rs bs → length bs < 2 ^ 64 → 0 < n → n ≤ length rs → AreKept (take n rs)
can_chunk cs rs bs n h fits some le =
    record {
      some = omega (arith, length-take-le n rs le);
      parts = (AreApart-from_parts (take n rs) (drop n rs) (subst AreParts (sym (take-append-drop n rs)) h.rest)).first;
      fits = omega (arith, joined_take_le rs n, ap length h.text, length-append (joined cs) (joined rs));
    }

pub one_chunked : (cs rs more : List (List ℕ)) (bs : List ℕ) (n : ℕ) → AreChunked cs rs bs → n < length rs → more ≡ cs ++ joined (take n rs) ∷ [] → AreChunked more (drop n rs) bs
one_chunked cs rs more bs n h lt is =
    let cut = AreApart-from_parts (take n rs) (drop n rs) (subst AreParts (sym (take-append-drop n rs)) h.rest) in
    let p = joined (take n rs) in
    let q = joined (drop n rs) in
    let whole : p ++ q ≡ joined rs = sym (joined-append (take n rs) (drop n rs)) ∙ ap joined (take-append-drop n rs) in
    let apart : joins (joined cs) (p ++ q) ≡ false = ap (joins (joined cs)) whole ∙ h.apart in
    let made : joined more ≡ joined cs ++ p = ap joined is ∙ joined-push cs p in
    record {
      parts = subst AreParts (sym is) (AreParts-push cs p h.parts (IsUtf8-joined (take n rs) cut.first) (joins-front (joined cs) p q apart));
      rest = cut.second;
      some = omega (arith, length-drop n rs);
      apart = ap (λ (x : List ℕ). joins x q) made ∙ joins-farther (joined cs) p q apart cut.apart;
      text = ap (λ (x : List ℕ). x ++ q) made ∙ append_assoc (joined cs) p q ∙ ap (λ (x : List ℕ). joined cs ++ x) whole ∙ h.text;
    }

-- and the last
pub all_chunked : (cs rs more : List (List ℕ)) (bs : List ℕ) → AreChunked cs rs bs → more ≡ cs ++ joined rs ∷ [] → MakeUp more bs
all_chunked cs rs more bs h is =
    record {
      some = omega (arith, ap length is, length-append cs (joined rs ∷ []));
      parts = subst AreParts (sym is) (AreParts-push cs (joined rs) h.parts (IsUtf8-joined rs h.rest) h.apart);
      text = ap joined is ∙ joined-push cs (joined rs) ∙ h.text;
    }

-- ---- parts cut anew

-- the parts before a place, the text from there cut anew, and the parts after a place
pub recut_parts : (ps qs fresh all : List (List ℕ)) (text : List ℕ) (a b : Found) (from to : ℕ)
    → AreParts ps → AreParts qs → IsFoundBefore ps from a → IsFound qs (Units Utf8) to b
    → to ≤ length (joined qs) → MakeUp fresh (recut ps qs text a b)
    → all ≡ (take a.index ps ++ fresh) ++ drop (b.index + 1) qs
    → MakeUp all ((take from (joined ps) ++ text) ++ drop to (joined qs))
recut_parts ps qs fresh all text a b from to hp hq before found le made is =
    let cut = spliced_parts ps qs fresh text a b from to hp hq made.parts before found le made.text in
    let some = made.some in
    record {
      some =
          omega (
            arith,
            ap length is,
            length-append (take a.index ps ++ fresh) (drop (b.index + 1) qs),
            length-append (take a.index ps) fresh,
          );
      parts = subst AreParts (sym is) cut.parts;
      text = ap joined is ∙ cut.text_is;
    }

joined_take_mono : (ps : List (List ℕ)) (i j : ℕ) → i ≤ j → length (joined (take i ps)) ≤ length (joined (take j ps))
joined_take_mono ps i j le = omega (arith, joined_take_le (take j ps) i, ap (λ (xs : List (List ℕ)). length (joined xs)) (take-take i j ps le))

-- the first place is found no later than the second
pub found_order : (ps : List (List ℕ)) (a b : Found) (from to : ℕ) → IsFoundBefore ps from a → IsFound ps (Units Utf8) to b → from ≤ to → to ≤ length (joined ps) → a.index ≤ b.index
found_order ps a b from to before found order le =
    ⊎_elim
    (λ (lt : b.index < a.index).
    let within = before.index in
    let inside : b.left < length (part_at ps b.index) = found.inside (omega arith) in
    let place = (found_within ps to b found le).0 in
    let more = joined_take_mono ps (b.index + 1) a.index (omega arith) in
    let first = before.place_is in
    let at = before.bytes_are in
    let bytes = found.bytes_are in
    absurd (omega (arith, ap length (joined-more ps b.index found.index), length-append (joined (take b.index ps)) (part_at ps b.index))))
    (λ (ge : a.index ≤ b.index). ge)
    (cases_lt b.index a.index)

-- what is cut anew is no longer than the whole
pub recut_within : (ps qs : List (List ℕ)) (text : List ℕ) (a b : Found) (from to : ℕ)
    → IsFoundBefore ps from a → IsFound qs (Units Utf8) to b → to ≤ length (joined qs)
    → length (recut ps qs text a b)
    ≤ length ((take from (joined ps) ++ text) ++ drop to (joined qs))
recut_within ps qs text a b from to before found le =
    let p = take a.left (part_at ps a.index) in
    let q = drop b.left (part_at qs b.index) in
    omega (
      arith,
      ap length (front_of ps from a before),
      ap length (back_of qs to b found le),
      length-append (before_part ps a.index) p,
      length-append q (after_part qs b.index),
      length-append (take from (joined ps) ++ text) (drop to (joined qs)),
      length-append (take from (joined ps)) text,
      length-append (p ++ text) q,
      length-append p text,
    )

-- **Parts with others in the place of those that an edit touches.**
pub parts_replaced : (ps fresh new : List (List ℕ)) (text : List ℕ) (a b : Found) (from to : ℕ) (sums : Sums) → AreParts ps → IsFoundBefore ps from a → IsFound ps (Units Utf8) to b → to ≤ length (joined ps) →
    MakeUp fresh (recut ps ps text a b) → new ≡ splice ps a.index (b.index + 1) fresh → sums ≡ sums_of (joined new) → IsReplacedIn ps from to text new sums
parts_replaced ps fresh new text a b from to sums h before found le made is counted =
    let same : new ≡ (take a.index ps ++ fresh) ++ drop (b.index + 1) ps = is ∙ sym (append_assoc (take a.index ps) fresh (drop (b.index + 1) ps)) in
    let all = spliced_parts ps ps fresh text a b from to h h made.parts before found le made.text in
    let some = made.some in
    record {
      some = omega (arith, ap length same, length-append (take a.index ps ++ fresh) (drop (b.index + 1) ps), length-append (take a.index ps) fresh);
      parts = subst AreParts (sym same) all.parts;
      text_is = ap joined same ∙ all.text_is;
      sums_are = counted;
    }

-- ---- in some parts

-- what is cut anew, of the two parts that were found
pub cut_is : (ps qs : List (List ℕ)) (text x y : List ℕ) (a b : Found) → x ≡ part_at ps a.index
    → y ≡ part_at qs b.index → (take a.left x ++ text) ++ drop b.left y ≡ recut ps qs text a b
cut_is ps qs text x y a b isx isy =
    ap (λ (t : List ℕ). (take a.left t ++ text) ++ drop b.left y) isx
    ∙ ap (λ (t : List ℕ). (take a.left (part_at ps a.index) ++ text) ++ drop b.left t) isy

-- the parts at an edit's two places
pub record AreFound (ps qs : List (List ℕ)) (from to : ℕ) (a b : Found) (x y : List ℕ) : Type 0 where
  pub before : IsFoundBefore ps from a
  pub found : IsFound qs (Units Utf8) to b
  pub first : x ≡ part_at ps a.index
  pub second : y ≡ part_at qs b.index

pub first_cut : (ps qs : List (List ℕ)) (from to : ℕ) (a b : Found) (x y : List ℕ)
    → AreFound ps qs from to a b x y → IsCharBoundary (joined ps) from → IsCharBoundary x a.left
first_cut ps qs from to a b x y h at =
    subst (λ (t : List ℕ). IsCharBoundary t a.left) (sym h.first)
    (boundary_before ps from a h.before at)

pub second_cut : (ps qs : List (List ℕ)) (from to : ℕ) (a b : Found) (x y : List ℕ)
    → AreFound ps qs from to a b x y → AreParts qs → IsCharBoundary (joined qs) to
    → IsCharBoundary y b.left
second_cut ps qs from to a b x y h parts at =
    subst (λ (t : List ℕ). IsCharBoundary t b.left) (sym h.second)
    (found_units qs to b parts h.found at).boundary

pub cut_fits : (ps qs : List (List ℕ)) (text : List ℕ) (from to : ℕ) (a b : Found) (x y : List ℕ)
    → AreFound ps qs from to a b x y → to ≤ length (joined qs)
    → length ((take from (joined ps) ++ text) ++ drop to (joined qs)) < 2 ^ 64
    → length ((take a.left x ++ text) ++ drop b.left y) < 2 ^ 64
cut_fits ps qs text from to a b x y h le fits =
    omega (
      arith,
      fits,
      ap length (cut_is ps qs text x y a b h.first h.second),
      recut_within ps qs text a b from to h.before h.found le,
    )

pub cut_between : (ps qs fresh all : List (List ℕ)) (text : List ℕ) (from to : ℕ) (a b : Found)
    (x y : List ℕ) → AreFound ps qs from to a b x y → AreParts ps → AreParts qs
    → to ≤ length (joined qs) → MakeUp fresh ((take a.left x ++ text) ++ drop b.left y)
    → all ≡ (take a.index ps ++ fresh) ++ drop (b.index + 1) qs
    → MakeUp all ((take from (joined ps) ++ text) ++ drop to (joined qs))
cut_between ps qs fresh all text from to a b x y h hp hq le made is =
    recut_parts ps qs fresh all text a b from to hp hq h.before h.found le
    (subst (λ (t : List ℕ). MakeUp fresh t) (cut_is ps qs text x y a b h.first h.second) made) is

pub cut_order : (ps : List (List ℕ)) (from to : ℕ) (a b : Found) (x y : List ℕ)
    → AreFound ps ps from to a b x y → from ≤ to → to ≤ length (joined ps) → a.index ≤ b.index
cut_order ps from to a b x y h order le = found_order ps a b from to h.before h.found order le

pub cut_done : (ps fresh new : List (List ℕ)) (text : List ℕ) (from to : ℕ) (after : Sums)
    (a b : Found) (x y : List ℕ) → AreFound ps ps from to a b x y → AreParts ps
    → to ≤ length (joined ps) → MakeUp fresh ((take a.left x ++ text) ++ drop b.left y)
    → new ≡ splice ps a.index (b.index + 1) fresh → after ≡ sums_of (joined new)
    → IsReplacedIn ps from to text new after
cut_done ps fresh new text from to after a b x y h parts le made is counted =
    parts_replaced ps fresh new text a b from to after parts h.before h.found le
    (subst (λ (t : List ℕ). MakeUp fresh t) (cut_is ps ps text x y a b h.first h.second) made) is
    counted

-- the texts of parts that take the place of others
pub map-splice : {X : Type 0} (f : X → List ℕ) (xs ys : List X) (i j : ℕ)
    → map f (splice xs i j ys) ≡ splice (map f xs) i j (map f ys)
map-splice f xs ys i j =
    map-append f (take i xs) (ys ++ drop j xs)
    ∙ ap (λ (zs : List (List ℕ)). zs ++ map f (ys ++ drop j xs)) (sym (take-map f i xs))
    ∙ ap (λ (zs : List (List ℕ)). take i (map f xs) ++ zs)
    (map-append f ys (drop j xs)
    ∙ ap (λ (zs : List (List ℕ)). map f ys ++ zs) (sym (drop-map f j xs)))
