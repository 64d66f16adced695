-- Parts of a text, one after another.
use Rattle.std.proofs.Common.{◌≡◌, ◌<◌, ◌+◌, ◌&&◌, ℕ, Bool, false, List, [], ◌∷◌, ◌++◌, length, take, drop, refl, ap, sym, subst, ◌∙◌, length-append}
use Rattle.std.specs.List.{sum_by}
use Rattle.std.proofs.lemmas.Bool.{and_right}
use Rattle.std.proofs.lemmas.List.{append-nil, take-append-drop, drop_more, take_more}
use Rattle.std.proofs.lemmas.List.Concat.{flat_map-append}
use Rattle.std.proofs.lemmas.List.Sums.{sum_by-cons}
use Rattle.std.specs.Str.{chars, IsUtf8}
use Rattle.std.proofs.lemmas.Str.{chars-append, chars-nil, IsUtf8-append, IsUtf8-nil}
use Rattle.lsp_types.specs.declared.position.Encoding.TheVariants.{Utf8, Utf16, Utf32}
use Rattle.lsp_text.specs.Lines.{is_return, starts_with_feed}
use Rattle.lsp_text.specs.Places.{units}
use Rattle.lsp_text.proofs.Counting.{units-append}
use Rattle.lsp_lined.specs.Ends.{ends_with_return, joins}
use Rattle.lsp_lined.specs.Sums.{sums_of, amount_in, amount, added}
use Rattle.lsp_lined.specs.Parts.{joined, AreParts, part_at}
use Rattle.lsp_lined.specs.declared.sums.Sums.{Sums}
use Rattle.lsp_lined.specs.declared.sums.Measure.{Measure}
use Rattle.lsp_lined.specs.declared.sums.Measure.TheVariants.{Ends, Units}
use Rattle.lsp_lined.proofs.EndCounts.{ends_in-append}

pub joined-append : (xs ys : List (List ℕ)) → joined (xs ++ ys) ≡ joined xs ++ joined ys
joined-append xs ys = flat_map-append (λ (p : List ℕ). p) xs ys

-- one part more
pub joined-more : (ps : List (List ℕ)) (i : ℕ) → i < length ps → joined (take (i + 1) ps) ≡ joined (take i ps) ++ part_at ps i
joined-more ps i lt = ap joined (take_more ps i [] lt) ∙ joined-append (take i ps) (part_at ps i ∷ []) ∙ ap (λ (p : List ℕ). joined (take i ps) ++ p) (append-nil (part_at ps i))

-- what comes before a part, the part, and what comes after it
pub joined-at : (ps : List (List ℕ)) (i : ℕ) → i < length ps → joined ps ≡ joined (take i ps) ++ (part_at ps i ++ joined (drop (i + 1) ps))
joined-at ps i lt =
    ap joined (sym (take-append-drop i ps)) ∙ joined-append (take i ps) (drop i ps) ∙ ap (λ (xs : List (List ℕ)). joined (take i ps) ++ joined xs) (drop_more ps i [] lt)

-- ---- texts that stand apart

pub ends_with_return-append : (v : Bool) (a b : List ℕ) → ends_with_return v (a ++ b) ≡ ends_with_return (ends_with_return v a) b
ends_with_return-append v [] b = refl
ends_with_return-append v (x ∷ a) b = ends_with_return-append (is_return x) a b

-- a text that begins as another one does
pub joins-front : (p q r : List ℕ) → joins p (q ++ r) ≡ false → joins p q ≡ false
joins-front p [] r h = and_right (ends_with_return false p) false refl
joins-front p (x ∷ q) r h = h

-- a text that ends as another one does
pub joins-back : (p q r : List ℕ) → joins (p ++ q) r ≡ false → joins q r ≡ false
joins-back p [] r h = refl
joins-back p (x ∷ q) r h = ap (λ (v : Bool). v && starts_with_feed r) (sym (ends_with_return-append false p (x ∷ q))) ∙ h

pub joins-nearer : (p q r : List ℕ) → joins p q ≡ false → joins (p ++ q) r ≡ false → joins p (q ++ r) ≡ false
joins-nearer p [] r near far = ap (λ (x : List ℕ). joins x r) (sym (append-nil p)) ∙ far
joins-nearer p (x ∷ q) r near far = near

pub joins-farther : (p q r : List ℕ) → joins p (q ++ r) ≡ false → joins q r ≡ false → joins (p ++ q) r ≡ false
joins-farther p [] r near far = ap (λ (x : List ℕ). joins x r) (append-nil p) ∙ near
joins-farther p (x ∷ q) r near far = ap (λ (v : Bool). v && starts_with_feed r) (ends_with_return-append false p (x ∷ q)) ∙ far

-- ---- parts and others

pub IsUtf8-joined : (ps : List (List ℕ)) → AreParts ps → IsUtf8 (joined ps)
IsUtf8-joined [] h = IsUtf8-nil
IsUtf8-joined (p ∷ ps) h = IsUtf8-append p (joined ps) h.0 (IsUtf8-joined ps h.2)

-- **Parts before parts that they stand apart from are parts.**
pub AreParts-append : (xs ys : List (List ℕ)) → AreParts xs → AreParts ys → joins (joined xs) (joined ys) ≡ false → AreParts (xs ++ ys)
AreParts-append [] ys hx hy h = hy
AreParts-append (p ∷ xs) ys hx hy h = (
  hx.0,
  ap (joins p) (joined-append xs ys) ∙ joins-nearer p (joined xs) (joined ys) hx.1 h,
  AreParts-append xs ys hx.2 hy (joins-back p (joined xs) (joined ys) h),
)

pub record AreApart (xs ys : List (List ℕ)) : Type 0 where
  pub first : AreParts xs
  pub second : AreParts ys
  pub apart : joins (joined xs) (joined ys) ≡ false

-- and only those
pub AreApart-from_parts : (xs ys : List (List ℕ)) → AreParts (xs ++ ys) → AreApart xs ys
AreApart-from_parts [] ys h = record { first = tt; second = h; apart = refl }
AreApart-from_parts (p ∷ xs) ys h =
    let rest = AreApart-from_parts xs ys h.2 in
    let whole : joins p (joined xs ++ joined ys) ≡ false = ap (joins p) (sym (joined-append xs ys)) ∙ h.1 in
    record {
      first = (h.0, joins-front p (joined xs) (joined ys) whole, rest.first);
      second = rest.second;
      apart = joins-farther p (joined xs) (joined ys) whole rest.apart;
    }

-- a part, what comes before it and what after
pub record HasPart (ps : List (List ℕ)) (i : ℕ) : Type 0 where
  pub text : joined ps ≡ joined (take i ps) ++ (part_at ps i ++ joined (drop (i + 1) ps))
  pub utf8 : IsUtf8 (part_at ps i)
  pub before : AreParts (take i ps)
  pub after : AreParts (drop (i + 1) ps)
  pub front_apart : joins (joined (take i ps)) (part_at ps i ++ joined (drop (i + 1) ps)) ≡ false
  pub back_apart : joins (part_at ps i) (joined (drop (i + 1) ps)) ≡ false

pub has_part : (ps : List (List ℕ)) (i : ℕ) → AreParts ps → i < length ps → HasPart ps i
has_part ps i h lt =
    let is : ps ≡ take i ps ++ (part_at ps i ∷ drop (i + 1) ps) = sym (ap (λ (xs : List (List ℕ)). take i ps ++ xs) (sym (drop_more ps i [] lt)) ∙ take-append-drop i ps) in
    let cut = AreApart-from_parts (take i ps) (part_at ps i ∷ drop (i + 1) ps) (subst AreParts is h) in
    record {
      text = joined-at ps i lt;
      utf8 = cut.second.0;
      before = cut.first;
      after = cut.second.2;
      front_apart = cut.apart;
      back_apart = cut.second.1;
    }

-- ---- sums

abbrev pub sums_made : ℕ → ℕ → ℕ → ℕ → Sums
sums_made e b c u = record { ends = e; bytes = b; chars = c; utf16 = u }

pub sums_same : (e f b d c g u v : ℕ) → e ≡ f → b ≡ d → c ≡ g → u ≡ v → sums_made e b c u ≡ sums_made f d g v
sums_same e f b d c g u v h i j k = rw (h, i, j, k) refl

-- **Two texts that stand apart have the sums of both.**
pub sums_of-append : (a b : List ℕ) → IsUtf8 a → joins a b ≡ false → sums_of (a ++ b) ≡ added (sums_of a) (sums_of b)
sums_of-append a b u h =
    let cut : chars (a ++ b) ≡ chars a ++ chars b = chars-append a b u in
    sums_same _ _ _ _ _ _ _ _
    (ends_in-append a b h)
    (length-append a b)
    (ap length cut ∙ length-append (chars a) (chars b))
    (ap (units Utf16) cut ∙ units-append Utf16 (chars a) (chars b))

amount_in-added : (by : Measure) (a b : Sums) → amount_in by (added a b) ≡ amount_in by a + amount_in by b
amount_in-added (Units Utf8) a b = refl
amount_in-added _ a b = refl

pub amount-append : (by : Measure) (a b : List ℕ) → IsUtf8 a → joins a b ≡ false → amount by (a ++ b) ≡ amount by a + amount by b
amount-append by a b u h = ap (amount_in by) (sums_of-append a b u h) ∙ amount_in-added by (sums_of a) (sums_of b)

amount-nil : (by : Measure) → amount by [] ≡ 0
amount-nil (Units Utf16) = ap (units Utf16) chars-nil
amount-nil (Units Utf32) = ap length chars-nil
amount-nil _ = refl

-- parts have as much as their text
pub amount-joined : (by : Measure) (ps : List (List ℕ)) → AreParts ps → amount by (joined ps) ≡ sum_by (amount by) ps
amount-joined by [] h = amount-nil by
amount-joined by (p ∷ ps) h =
    amount-append by p (joined ps) h.0 h.1 ∙ ap (λ n. amount by p + n) (amount-joined by ps h.2) ∙ sym (sum_by-cons (amount by) p ps)
