-- A log is one list of records.
use Rattle.std.proofs.Common.{◌≡◌, ◌<◌, ◌≤◌, ◌+◌, ◌^◌, ℕ, zero, suc, Bool, true, false, ◌&&◌, List, [], ◌∷◌, ◌++◌, length, refl, sym, ap, subst, ◌∙◌, append_assoc, Option, Some, None, arith, lit≤}
use Rattle.std.proofs.Common.{inl, inr}
use Rattle.std.specs.Prelude.{◌==◌, decimal, ℤ, pos, negsuc, nat_le, take, drop, slice_index}
use Rattle.std.specs.Prelude.{if◌then◌else◌, IsTrue}
use Rattle.std.specs.Str.Parse.{AllDigits, digits_value}
use Rattle.std.specs.Char.{digit_value}
use Rattle.std.proofs.lemmas.Map.Views.{exact_unsigned_eq}
use Rattle.std.proofs.lemmas.Fmt.{decimal_is_IsNumeral_wide, length-decimal-le_wide}
use Rattle.std.proofs.lemmas.Cmp.{nat_eq_equiv}
use Rattle.std.proofs.lemmas.List.Folds.{list_any-append}
use Rattle.std.specs.Fmt.{signed_decimal}
use Rattle.std.specs.List.{list_any, flat_map, AllByRecursion}
use Rattle.std.proofs.lemmas.Bool.{or_parts, and_from, or_right, and_parts}
use Rattle.lsp_types.specs.declared.side.Side.{Side}
use Rattle.lsp_types.specs.declared.side.Side.TheVariants.{Editor, Server}
use borrow.Author.Tests.{ltb-true, lt-ltb, leb-true}
use Rattle.lsp_frame.specs.Bounds.{Bounds, IsInRange}
use Rattle.lsp_frame.specs.declared.format.Format.{Format}
use Rattle.lsp_frame.specs.declared.format.Format.TheVariants.{One, Two}
use Rattle.std.proofs.lemmas.List.{length-append, drop_at}
use Rattle.lsp_log.specs.declared.fault.LogCode.{LogCode}
use Rattle.lsp_log.specs.Log.{first_line, NoFirstLine, HasRecords, Flaw, bad_line, bad_number, cut_short, bad_end, not_utf8, EndsWith, Fits, IsText, parts_flaw, lengths_of, is_within, is_i32, in_range, has_decimal, has_signed, is_writable, Record, chunk, shown, Head, chunk_head, shown_head, letter, head_line, head_of, parts_of, with_feed, spelling, holds_feed}

-- whether a list holds a byte
abbrev pub holds : ℕ → List ℕ → Bool
holds c bs = list_any (λ b. b == c) bs

pub clash : {X : Type 0} (b : Bool) → b ≡ false → b ≡ true → X
clash true p q = absurd cc
clash false p q = absurd cc

-- a byte that a list doesn't hold cuts what it stands behind in one way
pub cut_one : (c : ℕ) (xs ys us bs : List ℕ) → holds c xs ≡ false → holds c ys ≡ false → xs ++ c ∷ us ≡ ys ++ c ∷ bs → (xs ≡ ys) × (us ≡ bs)
cut_one c [] [] us bs p q e = (refl, cc e)
cut_one c [] (y ∷ ys) us bs p q e =
    let same : c ≡ y = cc e in
    clash (y == c) (or_parts (y == c) (holds c ys) q).0 (ap (λ b. b == c) (sym same) ∙ nat_eq_equiv.refl c)
cut_one c (x ∷ xs) [] us bs p q e =
    let same : x ≡ c = cc e in
    clash (x == c) (or_parts (x == c) (holds c xs) p).0 (ap (λ b. b == c) same ∙ nat_eq_equiv.refl c)
cut_one c (x ∷ xs) (y ∷ ys) us bs p q e =
    let rest : xs ++ c ∷ us ≡ ys ++ c ∷ bs = cc e in
    let tail = cut_one c xs ys us bs (or_parts (x == c) (holds c xs) p).1 (or_parts (y == c) (holds c ys) q).1 rest in
    let head : x ≡ y = cc e in
    (cc (head, tail.0), tail.1)

-- ---- what numbers hold

differs_from : (c b : ℕ) → digit_value b < 10 → 10 ≤ digit_value c → (b == c) ≡ false
differs_from c b small large = by_test (b == c) refl
  where
    by_test : (t : Bool) → (b == c) ≡ t → t ≡ false
    by_test false e = refl
    by_test true e = let same : digit_value b ≡ digit_value c = ap digit_value (exact_unsigned_eq b c e) in absurd (omega arith)

digits_hold_no : (c : ℕ) (ds : List ℕ) → 10 ≤ digit_value c → AllDigits 10 ds → holds c ds ≡ false
digits_hold_no c [] large all = refl
digits_hold_no c (d ∷ ds) large all = simp (differs_from c d all.0 large, digits_hold_no c ds large all.1)

pub decimal_holds_no : (c n : ℕ) → 10 ≤ digit_value c → n < 10 ^ 64 → holds c (decimal n) ≡ false
decimal_holds_no c n large small = digits_hold_no c (decimal n) large (decimal_is_IsNumeral_wide n small).0.1

decimal_one : (m n : ℕ) → m < 10 ^ 64 → n < 10 ^ 64 → decimal m ≡ decimal n → m ≡ n
decimal_one m n small_m small_n e = sym (decimal_is_IsNumeral_wide m small_m).1 ∙ ap (digits_value 10) e ∙ (decimal_is_IsNumeral_wide n small_n).1

pub below : (n : ℕ) → has_decimal n ≡ true → n < 10 ^ 64
below n e = ltb-true n (10 ^ 64) e

pub signed_holds_no : (c : ℕ) (v : ℤ) → 10 ≤ digit_value c → (45 == c) ≡ false → has_signed v ≡ true → holds c (signed_decimal v) ≡ false
signed_holds_no c (pos n) large minus small = decimal_holds_no c n large (below n small)
signed_holds_no c (negsuc n) large minus small = let at : suc n < 10 ^ 64 = omega (arith, below (n + 1) small) in simp (minus, decimal_holds_no c (suc n) large at)

no_minus : {X : Type 0} (m n : ℕ) → m < 10 ^ 64 → decimal m ≡ 45 ∷ decimal n → X
no_minus m n small e = clash (holds 45 (decimal m)) (decimal_holds_no 45 m (lit≤ tt) small) (ap (holds 45) e)

signed_one : (v w : ℤ) → has_signed v ≡ true → has_signed w ≡ true → signed_decimal v ≡ signed_decimal w → v ≡ w
signed_one (pos m) (pos n) p q e = ap pos (decimal_one m n (below m p) (below n q) e)
signed_one (pos m) (negsuc n) p q e = no_minus m (suc n) (below m p) e
signed_one (negsuc m) (pos n) p q e = no_minus n (suc m) (below n q) (sym e)
signed_one (negsuc m) (negsuc n) p q e =
    let digits : decimal (suc m) ≡ decimal (suc n) = cc e in
    let same : suc m ≡ suc n = decimal_one (suc m) (suc n) (omega (arith, below (m + 1) p)) (omega (arith, below (n + 1) q)) digits in
    ap negsuc (omega arith)

-- a snapshot's first line, cut at its spaces
pub shown_line : (v : ℤ) (a b : ℕ) → head_line (shown_head v a b) ≡ 84 ∷ 32 ∷ (signed_decimal v ++ 32 ∷ (decimal a ++ 32 ∷ decimal b))
shown_line v a b = simp append_assoc

pub other_letter : {X : Type 0} (b c : ℕ) (xs ys : List ℕ) → (b == c) ≡ false → b ∷ xs ≡ c ∷ ys → X
other_letter b c xs ys differ e =
    let same : b ≡ c = cc e in
    clash (b == c) differ (ap (λ w. w == c) same ∙ nat_eq_equiv.refl c)

-- **Two heads with one line are one.**
pub head_one : (g h : Head) → is_writable g ≡ true → is_writable h ≡ true → head_line g ≡ head_line h → g ≡ h
head_one (chunk_head Editor m) (chunk_head Editor n) p q e = let tails : decimal m ≡ decimal n = cc e in ap (chunk_head Editor) (decimal_one m n (below m p) (below n q) tails)
head_one (chunk_head Server m) (chunk_head Server n) p q e = let tails : decimal m ≡ decimal n = cc e in ap (chunk_head Server) (decimal_one m n (below m p) (below n q) tails)
head_one (chunk_head Editor m) (chunk_head Server n) p q e = other_letter 69 83 _ _ refl e
head_one (chunk_head Server m) (chunk_head Editor n) p q e = other_letter 83 69 _ _ refl e
head_one (chunk_head Editor m) (shown_head v a b) p q e = other_letter 69 84 _ _ refl (e ∙ shown_line v a b)
head_one (chunk_head Server m) (shown_head v a b) p q e = other_letter 83 84 _ _ refl (e ∙ shown_line v a b)
head_one (shown_head v a b) (chunk_head Editor m) p q e = other_letter 69 84 _ _ refl (sym e ∙ shown_line v a b)
head_one (shown_head v a b) (chunk_head Server m) p q e = other_letter 83 84 _ _ refl (sym e ∙ shown_line v a b)
head_one (shown_head v a b) (shown_head w c d) p q e =
    let p1 = and_parts (has_signed v) (has_decimal a && has_decimal b) p in
    let p2 = and_parts (has_decimal a) (has_decimal b) p1.1 in
    let q1 = and_parts (has_signed w) (has_decimal c && has_decimal d) q in
    let q2 = and_parts (has_decimal c) (has_decimal d) q1.1 in
    let whole : 84 ∷ 32 ∷ (signed_decimal v ++ 32 ∷ (decimal a ++ 32 ∷ decimal b)) ≡ 84 ∷ 32 ∷ (signed_decimal w ++ 32 ∷ (decimal c ++ 32 ∷ decimal d)) = sym (shown_line v a b) ∙ e ∙ shown_line w c d in
    let tails : signed_decimal v ++ 32 ∷ (decimal a ++ 32 ∷ decimal b) ≡ signed_decimal w ++ 32 ∷ (decimal c ++ 32 ∷ decimal d) = cc whole in
    let first = cut_one 32 (signed_decimal v) (signed_decimal w) _ _ (signed_holds_no 32 v (lit≤ tt) refl p1.0) (signed_holds_no 32 w (lit≤ tt) refl q1.0) tails in
    let second = cut_one 32 (decimal a) (decimal c) _ _ (decimal_holds_no 32 a (lit≤ tt) (below a p2.0)) (decimal_holds_no 32 c (lit≤ tt) (below c q2.0)) first.1 in
    let versions : v ≡ w = signed_one v w p1.0 q1.0 first.0 in
    let uris : a ≡ c = decimal_one a c (below a p2.0) (below c q2.0) second.0 in
    let texts : b ≡ d = decimal_one b d (below b p2.1) (below d q2.1) second.1 in
    cc (versions, uris, texts)

-- ---- spellings

letter_holds_no : (side : Side) → holds 10 (letter side) ≡ false
letter_holds_no Editor = refl
letter_holds_no Server = refl

pub head_holds_no : (h : Head) → is_writable h ≡ true → holds 10 (head_line h) ≡ false
head_holds_no (chunk_head side n) p =
    list_any-append (λ b. b == 10) (letter side) (decimal n) ∙ simp (letter_holds_no side, decimal_holds_no 10 n (lit≤ tt) (below n p))
head_holds_no (shown_head v a b) p =
    let p1 = and_parts (has_signed v) (has_decimal a && has_decimal b) p in
    let p2 = and_parts (has_decimal a) (has_decimal b) p1.1 in
    ap (holds 10) (shown_line v a b)
    ∙ list_any-append (λ c. c == 10) (signed_decimal v) (32 ∷ (decimal a ++ 32 ∷ decimal b))
    ∙ simp (signed_holds_no 10 v (lit≤ tt) refl p1.0, list_any-append (λ c. c == 10) (decimal a) (32 ∷ decimal b), decimal_holds_no 10 a (lit≤ tt) (below a p2.0), decimal_holds_no 10 b (lit≤ tt) (below b p2.1))

-- two heads at the front of the same bytes are one, and so is what follows
pub same_head : (g h : Head) (us bs : List ℕ) → is_writable g ≡ true → is_writable h ≡ true → with_feed (head_line g) ++ us ≡ with_feed (head_line h) ++ bs → (g ≡ h) × (us ≡ bs)
same_head g h us bs p q e =
    let cut = cut_one 10 (head_line g) (head_line h) us bs (head_holds_no g p) (head_holds_no h q) (sym (append_assoc (head_line g) (10 ∷ []) us) ∙ e ∙ append_assoc (head_line h) (10 ∷ []) bs) in
    (head_one g h p q cut.0, cut.1)

same_part : (b c us bs : List ℕ) → length b ≡ length c → with_feed b ++ us ≡ with_feed c ++ bs → (b ≡ c) × (us ≡ bs)
same_part [] [] us bs len e = (refl, cc e)
same_part (x ∷ xs) (y ∷ ys) us bs len e =
    let rest : with_feed xs ++ us ≡ with_feed ys ++ bs = cc e in
    let t = same_part xs ys us bs (omega arith) rest in
    let head : x ≡ y = cc e in
    (cc (head, t.0), t.1)
same_part _ _ us bs len e = absurd (omega arith)

pub small_decimal : (n : ℕ) → n < 10 ^ 64 → has_decimal n ≡ true
small_decimal n small = lt-ltb n (10 ^ 64) small

within_small : (low high n : ℕ) → high ≤ 16777216 → is_within low high n ≡ true → has_decimal n ≡ true
within_small low high n small is =
    let most : n ≤ high = leb-true n high (and_parts (nat_le low n) (nat_le n high) is).1 in
    small_decimal n (omega (arith, lit≤ {m = 16777217} {n = 10 ^ 64} tt))

i32_small : (v : ℤ) → is_i32 v ≡ true → has_signed v ≡ true
i32_small (pos n) is = let most : n < 2 ^ 31 = ltb-true n (2 ^ 31) is in small_decimal n (omega (arith, lit≤ {m = 2 ^ 31} {n = 10 ^ 64} tt))
i32_small (negsuc n) is = let most : n < 2 ^ 31 = ltb-true n (2 ^ 31) is in small_decimal (n + 1) (omega (arith, lit≤ {m = 2 ^ 31 + 1} {n = 10 ^ 64} tt))

-- a head in its ranges can be written
pub range_writable : (limits : Bounds) → IsInRange limits → (h : Head) → in_range limits h ≡ true → is_writable h ≡ true
range_writable limits sizes (chunk_head side n) is = within_small 1 limits.chunk n (omega (arith, sizes.chunk_high)) is
range_writable limits sizes (shown_head v a b) is =
    let outer = and_parts (is_i32 v && is_within 1 8192 a) (is_within 0 limits.document b) is in
    let inner = and_parts (is_i32 v) (is_within 1 8192 a) outer.0 in
    and_from (has_signed v) (has_decimal a && has_decimal b) (i32_small v inner.0)
    (and_from (has_decimal a) (has_decimal b) (within_small 1 8192 a (lit≤ tt) inner.1) (within_small 0 limits.document b sizes.document_high outer.1))

tails_of : (r u : Record) (xs ys : List ℕ) → head_of r ≡ head_of u → flat_map with_feed (parts_of r) ++ xs ≡ flat_map with_feed (parts_of u) ++ ys → (r ≡ u) × (xs ≡ ys)
tails_of (chunk s b) (chunk t c) xs ys h e =
    let sides : s ≡ t = cc h in
    let lens : length b ≡ length c = cc h in
    let one = same_part b c xs ys lens (sym (append_assoc (with_feed b) [] xs) ∙ e ∙ append_assoc (with_feed c) [] ys) in
    (cc (sides, one.0), one.1)
tails_of (chunk s b) (shown v uri t) xs ys h e = let same : chunk_head s (length b) ≡ shown_head v (length uri) (length t) = h in absurd cc
tails_of (shown v uri t) (chunk s b) xs ys h e = let same : shown_head v (length uri) (length t) ≡ chunk_head s (length b) = h in absurd cc
tails_of (shown v uri t) (shown w wri s) xs ys h e =
    let versions : v ≡ w = cc h in
    let lens : length uri ≡ length wri = cc h in
    let more : length t ≡ length s = cc h in
    let whole : with_feed uri ++ (with_feed t ++ xs) ≡ with_feed wri ++ (with_feed s ++ ys) =
    sym (two uri t xs) ∙ e ∙ two wri s ys in
    let one = same_part uri wri (with_feed t ++ xs) (with_feed s ++ ys) lens whole in
    let other = same_part t s xs ys more one.1 in
    (cc (versions, one.0, other.0), other.1)
  where
    two : (a b xs : List ℕ) → flat_map with_feed (a ∷ b ∷ []) ++ xs ≡ with_feed a ++ (with_feed b ++ xs)
    two a b xs = append_assoc (with_feed a) (with_feed b ++ []) xs ∙ ap (λ w. with_feed a ++ w) (append_assoc (with_feed b) [] xs)

-- **No spelling is the beginning of another.**
pub spelling_one : (r u : Record) (xs ys : List ℕ) → is_writable (head_of r) ≡ true → is_writable (head_of u) ≡ true → spelling r ++ xs ≡ spelling u ++ ys → (r ≡ u) × (xs ≡ ys)
spelling_one r u xs ys p q e =
    let heads = same_head (head_of r) (head_of u) (flat_map with_feed (parts_of r) ++ xs) (flat_map with_feed (parts_of u) ++ ys) p q
    (sym (append_assoc (with_feed (head_line (head_of r))) (flat_map with_feed (parts_of r)) xs) ∙ e ∙ append_assoc (with_feed (head_line (head_of u))) (flat_map with_feed (parts_of u)) ys) in
    tails_of r u xs ys heads.0 heads.1

-- ---- where the records end, no record begins

pub holds_cut : (line after : List ℕ) → holds 10 (with_feed line ++ after) ≡ true
holds_cut [] after = refl
holds_cut (b ∷ line) after = or_right (b == 10) (holds 10 (with_feed line ++ after)) (holds_cut line after)

pub holds_near : (n : ℕ) (line after : List ℕ) → length line < n → holds 10 (take n (with_feed line ++ after)) ≡ true
holds_near zero line after short = absurd (omega arith)
holds_near (suc n) [] after short = refl
holds_near (suc n) (b ∷ line) after short = or_right (b == 10) (holds 10 (take n (with_feed line ++ after))) (holds_near n line after (omega arith))

decimal_short : (n : ℕ) → n < 10 ^ 10 → length (decimal n) ≤ 10
decimal_short n small = length-decimal-le_wide 10 n (lit≤ tt) small (omega (arith, lit≤ {m = 10 ^ 10} {n = 10 ^ 64} tt))

within_short : (low high n : ℕ) → high ≤ 16777216 → is_within low high n ≡ true → length (decimal n) ≤ 10
within_short low high n small is =
    let most : n ≤ high = leb-true n high (and_parts (nat_le low n) (nat_le n high) is).1 in
    decimal_short n (omega (arith, lit≤ {m = 16777217} {n = 10 ^ 10} tt))

i32_short : (v : ℤ) → is_i32 v ≡ true → length (signed_decimal v) ≤ 11
i32_short (pos n) is = let most : n < 2 ^ 31 = ltb-true n (2 ^ 31) is in omega (arith, decimal_short n (omega (arith, lit≤ {m = 2 ^ 31} {n = 10 ^ 10} tt)))
i32_short (negsuc n) is = let most : n < 2 ^ 31 = ltb-true n (2 ^ 31) is in omega (arith, decimal_short (suc n) (omega (arith, lit≤ {m = 2 ^ 31 + 1} {n = 10 ^ 10} tt)))

pub head_short : (limits : Bounds) → IsInRange limits → (h : Head) → in_range limits h ≡ true → length (head_line h) < 64
head_short limits sizes (chunk_head Editor n) is = omega (arith, within_short 1 limits.chunk n (omega (arith, sizes.chunk_high)) is)
head_short limits sizes (chunk_head Server n) is = omega (arith, within_short 1 limits.chunk n (omega (arith, sizes.chunk_high)) is)
head_short limits sizes (shown_head v a b) is =
    let outer = and_parts (is_i32 v && is_within 1 8192 a) (is_within 0 limits.document b) is in
    let inner = and_parts (is_i32 v) (is_within 1 8192 a) outer.0 in
    omega (
      arith,
      ap length (shown_line v a b),
      i32_short v inner.0,
      within_short 1 8192 a (lit≤ tt) inner.1,
      within_short 0 limits.document b sizes.document_high outer.1,
      length-append (signed_decimal v) (32 ∷ (decimal a ++ 32 ∷ decimal b)),
      length-append (decimal a) (32 ∷ decimal b),
    )

pub feed_at : (b xs : List ℕ) → slice_index (with_feed b ++ xs) (length b) ≡ 10
feed_at [] xs = refl
feed_at (c ∷ b) xs = feed_at b xs

part_fits : (b xs : List ℕ) → nat_le (length (with_feed b ++ xs)) (length b) ≡ false
part_fits b xs =
    by_test (nat_le (length (with_feed b ++ xs)) (length b)) refl
  where
    by_test : (t : Bool) → nat_le (length (with_feed b ++ xs)) (length b) ≡ t → t ≡ false
    by_test false e = refl
    by_test true e = absurd (omega (arith, leb-true (length (with_feed b ++ xs)) (length b) e, length-append (with_feed b) xs, length-append b (10 ∷ [])))

by_tests : (short at : Bool) (after : List ℕ) (ns xs : List ℕ) → short ≡ false → at ≡ true → after ≡ xs
    → (if short then Some cut_short else (if at then parts_flaw ns after else Some bad_end)) ≡ parts_flaw ns xs
by_tests false true after ns xs p q e = ap (parts_flaw ns) e
by_tests _ _ after ns xs p q e = absurd cc

pub one_part : (b : List ℕ) (ns xs : List ℕ) → parts_flaw (length b ∷ ns) (with_feed b ++ xs) ≡ parts_flaw ns xs
one_part b ns xs = by_tests (nat_le (length (with_feed b ++ xs)) (length b)) (slice_index (with_feed b ++ xs) (length b) == 10) (drop (length b + 1) (with_feed b ++ xs)) ns xs (part_fits b xs) (ap (λ c. c == 10) (feed_at b xs)) (drop_at (with_feed b) xs (length b + 1) (omega (arith, length-append b (10 ∷ []))))

pub parts_stand : (r : Record) (xs : List ℕ) → parts_flaw (lengths_of (head_of r)) (flat_map with_feed (parts_of r) ++ xs) ≡ None
parts_stand (chunk s b) xs = ap (parts_flaw (length b ∷ [])) (append_assoc (with_feed b) [] xs) ∙ one_part b [] xs
parts_stand (shown v uri t) xs =
    ap (parts_flaw (length uri ∷ length t ∷ [])) (append_assoc (with_feed uri) (with_feed t ++ []) xs ∙ ap (λ w. with_feed uri ++ w) (append_assoc (with_feed t) [] xs))
    ∙ one_part uri (length t ∷ []) (with_feed t ++ xs) ∙ one_part t [] xs

-- the same bytes have no flaw in their parts
parts_clash : (limits : Bounds) (h : Head) (r : Record) (flaw : Flaw) (after xs : List ℕ) → is_writable h ≡ true → is_writable (head_of r) ≡ true
    → with_feed (head_line h) ++ after ≡ with_feed (head_line (head_of r)) ++ (flat_map with_feed (parts_of r) ++ xs) → parts_flaw (lengths_of h) after ≡ Some flaw → ⊥
parts_clash limits h r flaw after xs p q e is =
    let one = same_head h (head_of r) after (flat_map with_feed (parts_of r) ++ xs) p q e in
    let none : parts_flaw (lengths_of h) after ≡ None = ap (λ w. parts_flaw (lengths_of w) after) one.0 ∙ ap (parts_flaw (lengths_of (head_of r))) one.1 ∙ parts_stand r xs in
    let same : Some flaw ≡ None = sym is ∙ none in
    absurd cc

pub no_record_at_end : (limits : Bounds) → IsInRange limits → (rest xs : List ℕ) (flaw : Option Flaw) (r : Record) → EndsWith limits rest flaw → in_range limits (head_of r) ≡ true → IsText r → rest ≡ spelling r ++ xs → ⊥
no_record_at_end limits sizes rest xs None r end range text e =
    absurd (omega (arith, ap length (sym end ∙ e), length-append (spelling r) xs, length-append (with_feed (head_line (head_of r))) (flat_map with_feed (parts_of r)), length-append (head_line (head_of r)) (10 ∷ [])))
no_record_at_end limits sizes rest xs (Some bad_line) r (inl long) range text e =
    let at = e ∙ append_assoc (with_feed (head_line (head_of r))) (flat_map with_feed (parts_of r)) xs in
    clash (holds_feed (take 64 rest)) long.1 (ap (λ w. holds_feed (take 64 w)) at ∙ holds_near 64 (head_line (head_of r)) (flat_map with_feed (parts_of r) ++ xs) (head_short limits sizes (head_of r) range))
no_record_at_end limits sizes rest xs (Some bad_line) r (inr bad) range text e =
    let at = e ∙ append_assoc (with_feed (head_line (head_of r))) (flat_map with_feed (parts_of r)) xs in
    let writable = range_writable limits sizes (head_of r) range in
    let cut = cut_one 10 bad.0 (head_line (head_of r)) bad.1 (flat_map with_feed (parts_of r) ++ xs) bad.2.one (head_holds_no (head_of r) writable)
    (sym (append_assoc bad.0 (10 ∷ []) bad.1) ∙ sym bad.2.whole ∙ at ∙ append_assoc (head_line (head_of r)) (10 ∷ []) (flat_map with_feed (parts_of r) ++ xs)) in
    bad.3 (head_of r) writable cut.0
no_record_at_end limits sizes rest xs (Some bad_number) r bad range text e =
    let at = e ∙ append_assoc (with_feed (head_line (head_of r))) (flat_map with_feed (parts_of r)) xs in
    let one = same_head bad.0 (head_of r) bad.1 (flat_map with_feed (parts_of r) ++ xs) bad.3 (range_writable limits sizes (head_of r) range) (sym bad.2.whole ∙ at) in
    clash (in_range limits bad.0) bad.4 (ap (in_range limits) one.0 ∙ range)
no_record_at_end limits sizes rest xs (Some cut_short) r (inl short) range text e =
    clash (holds_feed rest) short.2 (ap holds_feed (e ∙ append_assoc (with_feed (head_line (head_of r))) (flat_map with_feed (parts_of r)) xs) ∙ holds_cut (head_line (head_of r)) (flat_map with_feed (parts_of r) ++ xs))
no_record_at_end limits sizes rest xs (Some cut_short) r (inr bad) range text e =
    parts_clash limits bad.0 r cut_short bad.1 xs (range_writable limits sizes bad.0 bad.2.range) (range_writable limits sizes (head_of r) range)
    (sym bad.2.line.whole ∙ e ∙ append_assoc (with_feed (head_line (head_of r))) (flat_map with_feed (parts_of r)) xs) bad.3
no_record_at_end limits sizes rest xs (Some bad_end) r bad range text e =
    parts_clash limits bad.0 r bad_end bad.1 xs (range_writable limits sizes bad.0 bad.2.range) (range_writable limits sizes (head_of r) range)
    (sym bad.2.line.whole ∙ e ∙ append_assoc (with_feed (head_line (head_of r))) (flat_map with_feed (parts_of r)) xs) bad.3
no_record_at_end limits sizes rest xs (Some not_utf8) r bad range text e =
    let one = spelling_one r bad.0 xs bad.1 (range_writable limits sizes (head_of r) range) (range_writable limits sizes (head_of bad.0) bad.3) (sym e ∙ bad.2) in
    bad.4 (subst IsText one.0 text)

pub T-is : {b : Bool} → IsTrue b → b ≡ true
T-is e = e

-- **The records are one list, and so is what follows them.**
pub records_one : (limits : Bounds) → IsInRange limits → (rs us : List Record) (xs ys : List ℕ) (f g : Option Flaw) → AllByRecursion (Fits limits) rs → AllByRecursion (Fits limits) us
    → EndsWith limits xs f → EndsWith limits ys g → flat_map spelling rs ++ xs ≡ flat_map spelling us ++ ys → (rs ≡ us) × (xs ≡ ys)
records_one limits sizes [] [] xs ys f g p q a b e = (refl, e)
records_one limits sizes [] (u ∷ us) xs ys f g p q a b e =
    absurd (no_record_at_end limits sizes xs (flat_map spelling us ++ ys) f u a (T-is q.0.range) q.0.text (e ∙ append_assoc (spelling u) (flat_map spelling us) ys))
records_one limits sizes (r ∷ rs) [] xs ys f g p q a b e =
    absurd (no_record_at_end limits sizes ys (flat_map spelling rs ++ xs) g r b (T-is p.0.range) p.0.text (sym e ∙ append_assoc (spelling r) (flat_map spelling rs) xs))
records_one limits sizes (r ∷ rs) (u ∷ us) xs ys f g p q a b e =
    let one = spelling_one r u (flat_map spelling rs ++ xs) (flat_map spelling us ++ ys) (range_writable limits sizes (head_of r) (T-is p.0.range)) (range_writable limits sizes (head_of u) (T-is q.0.range))
    (sym (append_assoc (spelling r) (flat_map spelling rs) xs) ∙ e ∙ append_assoc (spelling u) (flat_map spelling us) ys) in
    let tail = records_one limits sizes rs us xs ys f g p.1 q.1 a b one.1 in
    (cc (one.0, tail.0), tail.1)

-- ---- first lines

pub first_len : (format : Format) → length (first_line format) ≡ 14
first_len One = refl
first_len Two = refl

-- **Bytes begin with the first line of one format.**
pub one_format : (p q : Format) (xs ys : List ℕ) → first_line p ++ xs ≡ first_line q ++ ys → p ≡ q
one_format One Two xs ys e = let differs : true ≡ false = ap (λ (w : List ℕ). slice_index w 12 == 49) e in absurd cc
one_format Two One xs ys e = let differs : false ≡ true = ap (λ (w : List ℕ). slice_index w 12 == 49) e in absurd cc
one_format _ _ xs ys e = refl

pub has_first_line : (limits : Bounds) (format : Format) (log : List ℕ) (rs : List Record) (c : Option LogCode) → HasRecords limits format log rs c → NoFirstLine (take limits.log log) → ⊥
has_first_line limits format log rs c a none = none format (flat_map spelling rs ++ a.rest) (a.begins.whole ∙ append_assoc (first_line format) (flat_map spelling rs) a.rest)
