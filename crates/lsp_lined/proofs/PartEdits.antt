-- An edit of one of some parts.
use Rattle.std.proofs.Common.{◌≡◌, ◌<◌, ◌≤◌, ◌^◌, ℕ, Bool, true, false, List, length, map, take, get_or, set, sym, ap, subst, ◌∙◌, arith}
use Rattle.std.specs.List.{replace_range}
use Rattle.std.proofs.lemmas.List.{length-map, length-take-le, map-set, length-set, get_or-set_same}
use Rattle.std.proofs.Math.Seq.{map-set_same}
use Rattle.std.specs.Str.{chars, IsUtf8, IsCharBoundary}
use Rattle.std.proofs.lemmas.Str.{IsUtf8-take}
use Rattle.lsp_types.specs.declared.position.Encoding.{Encoding}
use Rattle.lsp_text.specs.Places.{units}
use Rattle.lsp_text.proofs.Counting.{units-utf8_text}
use Rattle.lsp_lined.specs.Sums.{sums_of}
use Rattle.lsp_lined.specs.Parts.{joined, AreParts, part_at, IsSpot, IsReplacedOr, IsReplacedIn}
use Rattle.lsp_text.specs.Spans.{CanReplace}
use Rattle.lsp_lined.specs.declared.sums.Sums.{Sums}
use Rattle.lsp_lined.specs.declared.part.Spot.{Spot}
use Rattle.lsp_lined.proofs.Exchanges.{IsExchange}
use Rattle.lsp_lined.proofs.Parts.{IsUtf8-joined}
use Rattle.lsp_lined.proofs.PlainTexts.{units_le_bytes}
use Rattle.lsp_lined.proofs.PartSteps.{part_text}
use Rattle.lsp_lined.proofs.Spots.{IsSpotPart, spot_part, part_with}

-- the part that is edited, and what the edit makes of all
pub record IsEditIn {X : Type 0} (f : X → List ℕ) (xs : List X) (from to : ℕ) (s : Spot) (text : List ℕ) : Type 0 where
  pub lt : s.index < length xs
  pub at : (x : X) → x ≡ get_or xs s.index x → f x ≡ part_at (map f xs) s.index
  pub part : IsSpotPart (map f xs) from to s text

pub edit_in : {X : Type 0} (f : X → List ℕ) (xs ys : List X) (from to : ℕ) (s : Spot) (text : List ℕ) → ys ≡ xs → AreParts (map f xs) → IsUtf8 text → IsSpot (map f ys) from to s → CanReplace (joined (map f xs)) from to → IsEditIn f xs from to s text
edit_in {X = X} f xs ys from to s text same h u spot can =
    let k = subst (λ (x : List X). IsSpot (map f x) from to s) same spot in
    let lt : s.index < length xs = omega (arith, k.index, length-map xs f) in
    record { lt = lt; at = λ x is. part_text f xs s.index x lt is; part = spot_part (map f xs) from to s text h u k can }

pub can_edit : {X : Type 0} (f : X → List ℕ) (xs : List X) (from to : ℕ) (s : Spot) (text : List ℕ) (x : X) → IsEditIn f xs from to s text → x ≡ get_or xs s.index x → CanReplace (f x) s.from s.to
can_edit f xs from to s text x h is = subst (λ (p : List ℕ). CanReplace p s.from s.to) (sym (h.at x is)) h.part.can

pub edit_fits : {X : Type 0} (f : X → List ℕ) (xs : List X) (from to : ℕ) (s : Spot) (text : List ℕ) (x : X) → IsEditIn f xs from to s text → x ≡ get_or xs s.index x →
    length (replace_range (joined (map f xs)) from to text) < 2 ^ 64 → length (replace_range (f x) s.from s.to text) < 2 ^ 64
edit_fits f xs from to s text x h is fits = omega (arith, h.part.within, ap (λ (p : List ℕ). length (replace_range p s.from s.to text)) (h.at x is))

-- the part stays
pub none_edited : {X : Type 0} (f : X → List ℕ) (xs : List X) (i : ℕ) (x y : X) → x ≡ get_or xs i x → f y ≡ f x → map f (set xs i y) ≡ map f xs
none_edited f xs i x y is same = map-set_same f xs i y x (same ∙ ap f is)

pub replaced_true : (old : List ℕ) (from to : ℕ) (text new : List ℕ) (v : Bool) → v ≡ true → IsReplacedOr old from to text new v → new ≡ replace_range old from to text
replaced_true old from to text new v is h = subst (IsReplacedOr old from to text new) is h

pub replaced_false : (old : List ℕ) (from to : ℕ) (text new : List ℕ) (v : Bool) → v ≡ false → IsReplacedOr old from to text new v → new ≡ old
replaced_false old from to text new v is h = subst (IsReplacedOr old from to text new) is h

edited : {X : Type 0} (f : X → List ℕ) (xs : List X) (from to : ℕ) (s : Spot) (text : List ℕ) (x y : X) → IsEditIn f xs from to s text → x ≡ get_or xs s.index x → f y ≡ replace_range (f x) s.from s.to text →
    f y ≡ part_with (map f xs) s text
edited f xs from to s text x y h is made = made ∙ ap (λ (p : List ℕ). replace_range p s.from s.to text) (h.at x is)

all_with : {X : Type 0} (f : X → List ℕ) (xs : List X) (from to : ℕ) (s : Spot) (text : List ℕ) (x y : X) → IsEditIn f xs from to s text → x ≡ get_or xs s.index x → f y ≡ replace_range (f x) s.from s.to text →
    set (map f xs) s.index (part_with (map f xs) s text) ≡ map f (set xs s.index y)
all_with f xs from to s text x y h is made = sym (map-set f xs s.index y ∙ ap (set (map f xs) s.index) (edited f xs from to s text x y h is made))

read_back : {X : Type 0} (xs : List X) (i : ℕ) (y z : X) → i < length xs → z ≡ get_or (set xs i y) i z → z ≡ y
read_back xs i y z lt is = is ∙ get_or-set_same xs i y z lt

-- the sums of the parts
pub exchange_in : {X : Type 0} (f : X → List ℕ) (xs : List X) (from to : ℕ) (s : Spot) (text : List ℕ) (x y before after : X) (whole old new : Sums) → IsEditIn f xs from to s text → x ≡ get_or xs s.index x →
    f y ≡ replace_range (f x) s.from s.to text → before ≡ get_or xs s.index before → after ≡ get_or (set xs s.index y) s.index after →
    whole ≡ sums_of (joined (map f xs)) → old ≡ sums_of (f before) → new ≡ sums_of (f after) → IsExchange whole old new (joined (map f (set xs s.index y)))
exchange_in {X = X} f xs from to s text x y before after whole old new h is made b a w o n =
    let lt = h.lt in
    subst (λ (qs : List (List ℕ)). IsExchange whole old new (joined qs)) (all_with f xs from to s text x y h is made)
    (h.part.sums whole old new w (o ∙ ap sums_of (h.at before b)) (n ∙ ap (λ (z : X). sums_of (f z)) (read_back xs s.index y after lt a) ∙ ap sums_of (edited f xs from to s text x y h is made)))

pub edited_text : {X : Type 0} (f : X → List ℕ) (xs : List X) (from to : ℕ) (s : Spot) (text : List ℕ) (x y : X) → IsEditIn f xs from to s text → x ≡ get_or xs s.index x → f y ≡ replace_range (f x) s.from s.to text →
    joined (map f (set xs s.index y)) ≡ replace_range (joined (map f xs)) from to text
edited_text f xs from to s text x y h is made = ap joined (sym (all_with f xs from to s text x y h is made)) ∙ h.part.text_is

pub replaced_in : {X : Type 0} (f : X → List ℕ) (xs : List X) (from to : ℕ) (s : Spot) (text : List ℕ) (x y : X) (sums : Sums) → IsEditIn f xs from to s text → x ≡ get_or xs s.index x →
    f y ≡ replace_range (f x) s.from s.to text → sums ≡ sums_of (joined (map f (set xs s.index y))) → IsReplacedIn (map f xs) from to text (map f (set xs s.index y)) sums
replaced_in f xs from to s text x y sums h is made sum =
    let lt = h.lt in
    record {
      some = omega (arith, length-map (set xs s.index y) f, length-set xs s.index y);
      parts = subst AreParts (all_with f xs from to s text x y h is made) h.part.parts;
      text_is = edited_text f xs from to s text x y h is made;
      sums_are = sum;
    }

-- the part that was found
pub part_of_found : {X : Type 0} (f : X → List ℕ) (xs : List X) (i : ℕ) (x : X) → i < length (map f xs) → x ≡ get_or xs i x → f x ≡ part_at (map f xs) i
part_of_found f xs i x lt is = part_text f xs i x (omega (arith, length-map xs f)) is

-- the units before a place are no more than the bytes
pub units_fit : (enc : Encoding) (ps : List (List ℕ)) (offset : ℕ) → AreParts ps → IsCharBoundary (joined ps) offset → units enc (chars (take offset (joined ps))) ≤ length (joined ps)
units_fit enc ps offset h b =
    let bs = joined ps in
    let front = IsUtf8-take bs offset (IsUtf8-joined ps h) b in
    omega (arith, units_le_bytes enc (chars (take offset bs)), units-utf8_text (take offset bs) front, length-take-le offset bs b.0, b.0)
