-- What visitors of a text have seen, and the parts that they go over.
use Rattle.std.proofs.Common.{◌≡◌, ◌<◌, ◌≤◌, ◌+◌, ◌-◌, ◌^◌, ℕ, Bool, true, false, not, List, []}
use Rattle.std.proofs.Common.{◌∷◌, ◌++◌, length, map, take, Bor, IfSome, drop, get_or, min, refl}
use Rattle.std.proofs.Common.{OnOk, OnErr, sym, ap, ap₂, subst, ⊎_elim, ◌∙◌, arith, length-append}
use Rattle.std.proofs.Common.{length-drop, append_assoc}
use Rattle.std.proofs.lemmas.Bool.{cases_lt}
use Rattle.std.proofs.lemmas.List.{append-nil, take-append-le, append_cancel_left, drop_all}
use Rattle.std.proofs.lemmas.List.{drop-take, take_all}
use Rattle.std.proofs.Math.Seq.{take-append-add}
use Rattle.std.specs.declared.result.Result.{Result}
use Rattle.std.specs.declared.result.Result.TheVariants.{Ok, Err}
use Rattle.std.specs.Bool.{then_some}
use Rattle.std.specs.Str.{IsUtf8, IsCharBoundary}
use Rattle.std.proofs.lemmas.Str.{IsCharBoundary-at_seam, IsCharBoundary-end, IsCharBoundary-start}
use Rattle.lsp_types.specs.declared.position.Encoding.TheVariants.{Utf8}
use Rattle.lsp_lined.specs.Ends.{joins}
use Rattle.lsp_lined.specs.Parts.{joined, part_at, AreParts, IsFound, IsSeam, IsSpan}
use Rattle.lsp_text.specs.Spans.{bytes_between}
use Rattle.lsp_lined.specs.Patches.{PartsIn}
use Rattle.lsp_text.specs.SameText.{with_feeds, due, BeginsOtherwise}
use Rattle.lsp_text.specs.declared.same.LinesLeft.{LinesLeft}
use Rattle.lsp_text.specs.declared.same.LinesLeft.TheVariants.{Rest}
use Rattle.lsp_lined.specs.Walks.{IsInOrder}
use Rattle.lsp_lined.specs.Sums.{sums_of}
use Rattle.lsp_lined.specs.declared.part.Found.{Found}
use Rattle.lsp_lined.specs.declared.sums.Sums.{Sums}
use Rattle.lsp_lined.specs.declared.sums.Measure.TheVariants.{Units}
use Rattle.lsp_lined.proofs.PartLines.{feeds-joins}
use Rattle.lsp_lined.proofs.Parts.{joins-front, joins-back, joins-farther, joined-more}
use Rattle.lsp_lined.proofs.Parts.{has_part, IsUtf8-joined}
use Rattle.lsp_lined.proofs.PartPlaces.{boundary-of_inside, take-inside, drop-inside}
use Rattle.lsp_lined.proofs.PartEdits.{part_of_found}
use Rattle.lsp_lined.proofs.PartSteps.{found_within}
use Rattle.lsp_lined.proofs.Rests.{IsOn, between_split, apart_between}
use Rattle.lsp_lined.proofs.Spots.{joins-nothing}

-- ---- a text that takes what it sees

not_written : (a : List ℕ) → a ≡ a ++ []
not_written a = sym (append-nil a)

written : (a b c p q : List ℕ) → b ≡ a ++ p → c ≡ b ++ q → c ≡ a ++ (p ++ q)
written a b c p q one two = two ∙ ap (λ (x : List ℕ). x ++ q) one ∙ append_assoc a p q

-- ---- what is left of a text

stripped : (a b c p q : List ℕ) → a ≡ p ++ b → b ≡ q ++ c → a ≡ (p ++ q) ++ c
stripped a b c p q one two = one ∙ ap (λ (x : List ℕ). p ++ x) two ∙ sym (append_assoc p q c)

parts_early : (a b p q : List ℕ) → PartsIn p a b → PartsIn (p ++ q) a b
parts_early a b p q h =
    let n = h.first.count in
    let within : n ≤ length p = h.first.within in
    record {
      first =
          record {
            count = n;
            within = omega (arith, length-append p q);
            begins =
                h.first.begins
                ∙ ap (λ (x : List ℕ). x ++ b) (sym (take-append-le n p q within));
            utf8 = h.first.utf8;
          };
      otherwise = λ rest all. h.otherwise (q ++ rest) (all ∙ append_assoc p q rest);
    }

parts_later : (a b c p q : List ℕ) → a ≡ p ++ b → PartsIn q b c → PartsIn (p ++ q) a c
parts_later a b c p q one h =
    let n = h.first.count in
    let within : n ≤ length q = h.first.within in
    record {
      first =
          record {
            count = length p + n;
            within = omega (arith, length-append p q);
            begins =
                stripped a b c p (take n q) one h.first.begins
                ∙ ap (λ (x : List ℕ). x ++ c) (sym (take-append-add p q n));
            utf8 = h.first.utf8;
          };
      otherwise =
          λ rest all.
          h.otherwise rest
          (append_cancel_left p b (q ++ rest) (sym one ∙ all ∙ append_assoc p q rest));
    }

-- ---- what is left after lines

lines_taken : (a b c p q : List ℕ) → joins p q ≡ false → a ≡ with_feeds p ++ b
    → b ≡ with_feeds q ++ c → a ≡ with_feeds (p ++ q) ++ c
lines_taken a b c p q apart one two =
    stripped a b c (with_feeds p) (with_feeds q) one two
    ∙ ap (λ (x : List ℕ). x ++ c) (sym (feeds-joins p q apart))

otherwise_early : (a p q : List ℕ) → joins p q ≡ false → BeginsOtherwise (with_feeds p) a
    → BeginsOtherwise (with_feeds (p ++ q)) a
otherwise_early a p q apart h rest all =
    h (with_feeds q ++ rest)
    (all ∙ ap (λ (x : List ℕ). x ++ rest) (feeds-joins p q apart)
    ∙ append_assoc (with_feeds p) (with_feeds q) rest)

otherwise_later : (a b p q : List ℕ) → joins p q ≡ false → a ≡ with_feeds p ++ b
    → BeginsOtherwise (with_feeds q) b → BeginsOtherwise (with_feeds (p ++ q)) a
otherwise_later a b p q apart one h rest all =
    h rest
    (append_cancel_left (with_feeds p) b (with_feeds q ++ rest)
    (sym one ∙ all ∙ ap (λ (x : List ℕ). x ++ rest) (feeds-joins p q apart)
    ∙ append_assoc (with_feeds p) (with_feeds q) rest))

-- bytes that come first, and are joined to no others
pub bytes_taken : (joined : Bool) (left : LinesLeft) (text rest : Bor (List ℕ)) (bytes : List ℕ)
    → left ≡ Rest text → text.now ≡ bytes ++ rest.now → joined ≡ joins bytes rest.now
    → IfSome (then_some (not joined) (Rest rest)) (λ next. due left ≡ with_feeds bytes ++ due next)
bytes_taken true left text rest bytes is begins apart = tt
bytes_taken false left text rest bytes is begins apart =
    let with_end : List ℕ → List ℕ = λ x. x ++ 10 ∷ [] in
    ap due is ∙ ap (λ x. with_end (with_feeds x)) begins
    ∙ ap with_end (feeds-joins bytes rest.now (sym apart))
    ∙ append_assoc (with_feeds bytes) (with_feeds rest.now) (10 ∷ [])

-- ---- the orders of those that there are

-- a text that takes what it sees
pub written_in_order : {V : Type 0} (view : V → List ℕ)
    → IsInOrder (λ a p b. view b ≡ view a ++ p) (λ a p b. Unit {0})
written_in_order view =
    record {
      none = λ a. not_written (view a);
      both = λ a b c p q apart one two. written (view a) (view b) (view c) p q one two;
      early = λ a b p q apart h. tt;
      later = λ a b c p q apart one h. tt;
    }

-- a text that what is seen is left out of
pub left_in_order : {V : Type 0} (view : V → List ℕ)
    → IsInOrder (λ a p b. view a ≡ p ++ view b) (λ a p b. PartsIn p (view a) (view b))
left_in_order view =
    record {
      none = λ a. refl;
      both = λ a b c p q apart one two. stripped (view a) (view b) (view c) p q one two;
      early = λ a b p q apart h. parts_early (view a) (view b) p q h;
      later = λ a b c p q apart one h. parts_later (view a) (view b) (view c) p q one h;
    }

-- lines that what is seen is left out of
pub lines_in_order : {V : Type 0} (view : V → List ℕ)
    → IsInOrder (λ a p b. view a ≡ with_feeds p ++ view b)
    (λ a p b. BeginsOtherwise (with_feeds p) (view a))
lines_in_order view =
    record {
      none = λ a. refl;
      both =
          λ a b c p q apart one two.
          lines_taken (view a) (view b) (view c) p q apart one two;
      early = λ a b p q apart h. otherwise_early (view a) p q apart h;
      later = λ a b c p q apart one h. otherwise_later (view a) (view b) p q apart one h;
    }

-- ---- a part between others, in their text

seam_inside : (a p c : List ℕ) (i : ℕ) → i ≤ length p → IsSeam (a ++ (p ++ c)) (length a + i)
    → IsSeam p i
seam_inside a p c i le s =
    let t = take i p in
    let d = drop i p in
    let whole : joins (a ++ t) (d ++ c) ≡ false =
    ap₂ joins (sym (take-inside a p c i le)) (sym (drop-inside a p c i le)) ∙ s.apart in
    record {
      boundary = boundary-of_inside a p c i le s.boundary;
      apart = joins-front t d c (joins-back a t (d ++ c) whole);
    }

-- where the part ends
pub seam_last : (p : List ℕ) → IsSeam p (length p)
seam_last p =
    record {
      boundary = IsCharBoundary-end p;
      apart = joins-nothing (take (length p) p) (drop (length p) p)
          (drop_all (length p) p (omega arith));
    }

seam_behind : (a p c : List ℕ) → IsUtf8 c → joins a (p ++ c) ≡ false → joins p c ≡ false
    → IsSeam (a ++ (p ++ c)) (length a + length p)
seam_behind a p c u front back =
    let le : length p ≤ length p = omega arith in
    let ends : take (length a + length p) (a ++ (p ++ c)) ≡ a ++ p =
    take-inside a p c (length p) le
    ∙ ap (λ (x : List ℕ). a ++ x) (take_all (length p) p le) in
    let rest : drop (length a + length p) (a ++ (p ++ c)) ≡ c =
    drop-inside a p c (length p) le
    ∙ ap (λ (x : List ℕ). x ++ c) (drop_all (length p) p le) in
    record {
      boundary =
          subst (IsCharBoundary (a ++ (p ++ c))) (length-append a p)
          (IsCharBoundary-at_seam (a ++ (p ++ c)) (a ++ p) c (sym (append_assoc a p c)) u);
      apart = ap₂ joins ends rest ∙ joins-farther a p c front back;
    }

between_inside : (a p c : List ℕ) (i j : ℕ) → i ≤ j → j ≤ length p
    → bytes_between p i j ≡ bytes_between (a ++ (p ++ c)) (length a + i) (length a + j)
between_inside a p c i j order le =
    let size : (length a + j) - (length a + i) ≡ j - i = omega arith in
    let within : j - i ≤ length (drop i p) = omega (arith, length-drop i p) in
    sym (ap₂ take size (drop-inside a p c i (omega arith))
    ∙ take-append-le (j - i) (drop i p) c within)

-- cut out of a text
pub cut_between : (bs whole front piece : List ℕ) (from to : ℕ) → from ≤ to → whole ≡ bs
    → front ≡ take to whole → piece ≡ drop from front → piece ≡ bytes_between bs from to
cut_between bs whole front piece from to le is first second =
    let sum : to ≡ from + (to - from) = omega arith in
    second ∙ ap (drop from) (first ∙ ap₂ take sum is) ∙ drop-take from (to - from) bs

pub between_none : (bs : List ℕ) (at : ℕ) → [] ≡ bytes_between bs at at
between_none bs at =
    let none : 0 ≡ at - at = omega arith in
    ap (λ n. take n (drop at bs)) none

-- all of a text may be cut out
pub seam_first : (p : List ℕ) → IsUtf8 p → IsSeam p 0
seam_first p u = record { boundary = IsCharBoundary-start p u; apart = refl }

pub whole_span : (p : List ℕ) (len : ℕ) → IsUtf8 p → length p < 2 ^ 64 → len ≡ length p
    → IsSpan p 0 len
whole_span p len u fits is =
    record {
      order = omega arith;
      first = seam_first p u;
      second = subst (IsSeam p) (sym is) (seam_last p);
      utf8 = u;
      fits = fits;
    }

-- what holds of a refusal, whatever it is
pub on_err : {A E X : Type 0} (r : Result A E) → X → OnErr r X
on_err (Ok a) x = tt
on_err (Err e) x = x

-- ---- the parts from one place to another, in order

-- the place lies in this part
pub record IsHere (ps : List (List ℕ)) (index start at : ℕ) : Type 0 where
  pub index_in : index < length ps
  pub first : start ≤ at
  pub last : at ≤ start + length (part_at ps index)

-- how far the parts are seen
pub record IsAt (ps : List (List ℕ)) (from to index start at : ℕ) : Type 0 where
  pub on : IsOn (joined ps) from to at
  pub start_is : start ≡ length (joined (take index ps))
  pub here : at < to → IsHere ps index start at

pub at_found : (ps : List (List ℕ)) (from to : ℕ) (f : Found) → IsSpan (joined ps) from to
    → IsFound ps (Units Utf8) from f → IsAt ps from to f.index f.bytes from
at_found ps from to f h k =
    let place = found_within ps from f k h.first.boundary.0 in
    let sum = place.0 in
    let within = place.1 in
    record {
      on = record { first = omega arith; last = h.order; seam = h.first };
      start_is = k.bytes_are;
      here =
          λ lt.
          record { index_in = k.index; first = omega arith; last = omega arith };
    }

-- what the next part is asked for
pub record IsStep (ps : List (List ℕ)) (from to index start at len last : ℕ) : Type 0 where
  pub span : IsSpan (part_at ps index) (at - start) last
  pub is : bytes_between (part_at ps index) (at - start) last
      ≡ bytes_between (joined ps) at (start + last)
  pub next : IsAt ps from to (index + 1) (start + len) (start + last)
  pub more : bytes_between (joined ps) from (start + last)
      ≡ bytes_between (joined ps) from at ++ bytes_between (joined ps) at (start + last)
  pub apart : joins (bytes_between (joined ps) from at)
      (bytes_between (joined ps) at (start + last)) ≡ false
  pub rest : bytes_between (joined ps) at to
      ≡ bytes_between (joined ps) at (start + last) ++ bytes_between (joined ps) (start + last) to
  pub rest_apart : joins (bytes_between (joined ps) at (start + last))
      (bytes_between (joined ps) (start + last) to) ≡ false
  pub whole : bytes_between (joined ps) from to
      ≡ bytes_between (joined ps) from at ++ bytes_between (joined ps) at to
  pub whole_apart : joins (bytes_between (joined ps) from at)
      (bytes_between (joined ps) at to) ≡ false
  pub fits : start + len ≤ length (joined ps)

pub step : (ps : List (List ℕ)) (from to index start at len last : ℕ) → AreParts ps
    → IsSpan (joined ps) from to → IsAt ps from to index start at → at < to
    → len ≡ length (part_at ps index) → last ≡ min len (to - start)
    → IsStep ps from to index start at len last
step ps from to index start at len last h s k lt len_is last_is =
    let bs = joined ps in
    let here = k.here lt in
    let has = has_part ps index h here.index_in in
    let a = joined (take index ps) in
    let p = part_at ps index in
    let c = joined (drop (index + 1) ps) in
    let text : bs ≡ a ++ (p ++ c) = has.text in
    let first = here.first in
    let in_part = here.last in
    let starts = k.start_is in
    let size : length bs ≡ length a + (length p + length c) =
    omega (arith, ap length text, length-append a (p ++ c), length-append p c) in
    let to_in : to ≤ length bs = s.second.boundary.0 in
    let least : last ≤ length p = omega arith in
    let most : start + last ≤ to = omega arith in
    let order : at - start ≤ last = omega arith in
    let further : at ≤ start + last = omega arith in
    let at_is : length a + (at - start) ≡ at = omega arith in
    let end_is : length a + last ≡ start + last = omega arith in
    let seam_at : (i : ℕ) → IsSeam bs i → IsSeam (a ++ (p ++ c)) i =
    λ i x. subst (λ (t : List ℕ). IsSeam t i) text x in
    let first_seam : IsSeam p (at - start) =
    seam_inside a p c (at - start) (omega arith)
    (seam_at (length a + (at - start)) (subst (IsSeam bs) (sym at_is) k.on.seam)) in
    let last_seam : IsSeam p last =
    ⊎_elim
    (λ (less : to - start < length p).
    let ends : to ≡ length a + last = omega arith in
    seam_inside a p c last least (seam_at (length a + last) (subst (IsSeam bs) ends s.second)))
    (λ (all : length p ≤ to - start).
    let ends : length p ≡ last = omega arith in
    subst (IsSeam p) ends (seam_last p))
    (cases_lt (to - start) (length p)) in
    let end_seam : IsSeam bs (start + last) =
    ⊎_elim
    (λ (less : to - start < length p).
    let ends : to ≡ start + last = omega arith in
    subst (IsSeam bs) ends s.second)
    (λ (all : length p ≤ to - start).
    let ends : length a + length p ≡ start + last = omega arith in
    subst (IsSeam bs) ends
    (subst (λ (t : List ℕ). IsSeam t (length a + length p)) (sym text)
    (seam_behind a p c (IsUtf8-joined (drop (index + 1) ps) has.after) has.front_apart
    has.back_apart)))
    (cases_lt (to - start) (length p)) in
    let is : bytes_between p (at - start) last ≡ bytes_between bs at (start + last) =
    between_inside a p c (at - start) last order least
    ∙ ap (λ (t : List ℕ). bytes_between t (length a + (at - start)) (length a + last)) (sym text)
    ∙ ap₂ (bytes_between bs) at_is end_is in
    let begun = k.on.first in
    let fits = s.fits in
    record {
      span =
          record {
            order = order;
            first = first_seam;
            second = last_seam;
            utf8 = has.utf8;
            fits = omega arith;
          };
      is = is;
      next =
          record {
            on = record { first = omega arith; last = most; seam = end_seam };
            start_is =
                omega (
                  arith,
                  ap length (joined-more ps index here.index_in),
                  length-append a p,
                );
            here =
                λ less.
                let all : last ≡ length p = omega arith in
                ⊎_elim
                (λ (in_ps : index + 1 < length ps).
                record { index_in = in_ps; first = omega arith; last = omega arith })
                (λ (over : length ps ≤ index + 1).
                let none : length c ≡ 0 =
                ap (λ (xs : List (List ℕ)). length (joined xs)) (drop_all (index + 1) ps over) in
                absurd (omega arith))
                (cases_lt (index + 1) (length ps));
          };
      more = between_split bs from at (start + last) begun further;
      apart = apart_between bs from at (start + last) begun further k.on.seam;
      rest = between_split bs at (start + last) to further most;
      rest_apart = apart_between bs at (start + last) to further most end_seam;
      whole = between_split bs from at to begun k.on.last;
      whole_apart = apart_between bs from at to begun k.on.last k.on.seam;
      fits = omega arith;
    }

-- the same of a part among others, and what it sees of its own bytes
pub record IsShown {X : Type 0} (f : X → List ℕ) (xs : List X) (x : X)
    (from to index start at len last : ℕ) : Type 0 where
  pub step : IsStep (map f xs) from to index start at len last
  pub span : IsSpan (f x) (at - start) last
  pub is : bytes_between (f x) (at - start) last
      ≡ bytes_between (joined (map f xs)) at (start + last)

pub shown : {X : Type 0} (f : X → List ℕ) (xs : List X) (x : X) (from to index start at last : ℕ)
    (s : Sums) → AreParts (map f xs) → IsSpan (joined (map f xs)) from to
    → IsAt (map f xs) from to index start at → at < to → x ≡ get_or xs index x
    → s ≡ sums_of (f x) → last ≡ min s.bytes (to - start)
    → IsShown f xs x from to index start at s.bytes last
shown f xs x from to index start at last s h span k lt is sums least =
    let text : f x ≡ part_at (map f xs) index =
    part_of_found f xs index x (k.here lt).index_in is in
    let made = step (map f xs) from to index start at s.bytes last h span k lt
    (ap (λ (t : Sums). t.bytes) sums ∙ ap length text) least in
    record {
      step = made;
      span = subst (λ (t : List ℕ). IsSpan t (at - start) last) (sym text) made.span;
      is = ap (λ (t : List ℕ). bytes_between t (at - start) last) text ∙ made.is;
    }

-- what sees the part has seen all up to its end,
pub seen_next : {V : Type 0} (sees stops : V → List ℕ → V → Type 0) (a b c : V) (p q r s : List ℕ)
    → IsInOrder sees stops → r ≡ p ++ q → s ≡ q → joins p q ≡ false → sees a p b → sees b s c
    → sees a r c
seen_next sees stops a b c p q r s o more is apart one two =
    subst (λ (t : List ℕ). sees a t c) (sym more)
    (o.both a b c p q apart one (subst (λ (t : List ℕ). sees b t c) is two))

-- or it stopped
pub stopped_next : {V : Type 0} (sees stops : V → List ℕ → V → Type 0) (a b c : V)
    (p q r s rest all : List ℕ)
    → IsInOrder sees stops → s ≡ q → rest ≡ q ++ r → joins q r ≡ false → all ≡ p ++ rest
    → joins p rest ≡ false → sees a p b → stops b s c → stops a all c
stopped_next sees stops a b c p q r s rest all o is more apart whole also one two =
    let here : stops b rest c =
    subst (λ (t : List ℕ). stops b t c) (sym more)
    (o.early b c q r apart (subst (λ (t : List ℕ). stops b t c) is two)) in
    subst (λ (t : List ℕ). stops a t c) (sym whole) (o.later a b c p rest also one here)

-- ---- three texts, one after another

pub three_seen : {V : Type 0} (sees stops : V → List ℕ → V → Type 0) (v w x y : V)
    (a p c all : List ℕ)
    → IsInOrder sees stops → all ≡ a ++ (p ++ c) → joins a (p ++ c) ≡ false → joins p c ≡ false
    → sees v a w → sees w p x → sees x c y → sees v all y
three_seen sees stops v w x y a p c all o is first second one two three =
    subst (λ (t : List ℕ). sees v t y) (sym is)
    (o.both v w y a (p ++ c) first one (o.both w x y p c second two three))

pub first_stopped : {V : Type 0} (sees stops : V → List ℕ → V → Type 0) (v w : V)
    (a p c all : List ℕ)
    → IsInOrder sees stops → all ≡ a ++ (p ++ c) → joins a (p ++ c) ≡ false
    → stops v a w → stops v all w
first_stopped sees stops v w a p c all o is first one =
    subst (λ (t : List ℕ). stops v t w) (sym is) (o.early v w a (p ++ c) first one)

pub second_stopped : {V : Type 0} (sees stops : V → List ℕ → V → Type 0) (v w x : V)
    (a p c all : List ℕ)
    → IsInOrder sees stops → all ≡ a ++ (p ++ c) → joins a (p ++ c) ≡ false → joins p c ≡ false
    → sees v a w → stops w p x → stops v all x
second_stopped sees stops v w x a p c all o is first second one two =
    subst (λ (t : List ℕ). stops v t x) (sym is)
    (o.later v w x a (p ++ c) first one (o.early w x p c second two))

pub third_stopped : {V : Type 0} (sees stops : V → List ℕ → V → Type 0) (v w x y : V)
    (a p c all : List ℕ)
    → IsInOrder sees stops → all ≡ a ++ (p ++ c) → joins a (p ++ c) ≡ false → joins p c ≡ false
    → sees v a w → sees w p x → stops x c y → stops v all y
third_stopped sees stops v w x y a p c all o is first second one two three =
    subst (λ (t : List ℕ). stops v t y) (sym is)
    (o.later v w y a (p ++ c) first one (o.later w x y p c second two three))

-- what follows from what a call gives, where it gives it
pub then_ok : {A E X Y : Type 0} (r : Result A E) → (X → Y) → OnOk r X → OnOk r Y
then_ok (Ok a) f x = f x
then_ok (Err e) f x = tt

pub then_err : {A E X Y : Type 0} (r : Result A E) → (X → Y) → OnErr r X → OnErr r Y
then_err (Ok a) f x = tt
then_err (Err e) f x = f x
