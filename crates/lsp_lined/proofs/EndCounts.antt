-- Line ends counted in the bytes of a text.
use Rattle.std.proofs.Common.{◌≡◌, ◌<◌, ◌≤◌, ◌+◌, ◌&&◌, ◌||◌, ℕ, Bool, true, false, not, cond, List, [], ◌∷◌, ◌++◌, length, map, get_or, suc, refl, ap, sym, ◌∙◌, ⊎_elim, arith}
use Rattle.std.proofs.lemmas.Bool.{true≢false, cases_lt, ne_eqb, cond_both}
use Rattle.std.proofs.lemmas.Bool.Decides.{nat_tests}
use Rattle.std.proofs.lemmas.List.{get_or_append_left}
use Rattle.std.proofs.lemmas.Str.{encodes-chars, encode_ascii, inside_one}
use Rattle.std.specs.Str.{chars, IsUtf8}
use lib.Utf8.{encodes, encode}
use Rattle.lsp_types.specs.declared.position.Encoding.TheVariants.{Utf8, Utf16}
use Rattle.lsp_text.specs.Lines.{Line, lines_of, before_line, before_end, ended_line, is_feed, is_return, starts_with_feed}
use Rattle.lsp_text.specs.Places.{units, units_of_char}
use Rattle.lsp_text.proofs.Cuts.{HasFirst, lines_of-HasFirst}
use Rattle.lsp_text.proofs.LineBytes.{starts_with_feed-chars}
use Rattle.lsp_text.proofs.Counting.{units-utf8_text, length-chars_le}
use Rattle.lsp_lined.specs.Ends.{is_end, ends_in, places_behind, joins}
use Rattle.lsp_lined.specs.Sums.{sums_of, AreAtMost}

-- one more where a byte ends a line
abbrev pub one_if : Bool → ℕ
one_if b = cond b 1 0

-- ---- bytes after others

same_end : (f r s : Bool) → (r && s) ≡ false → (f || (r && not s)) ≡ (f || (r && true))
same_end false true true h = absurd (true≢false h)
same_end _ _ _ h = refl

-- a byte ends a line as before, unless a LF joins it
is_end-append : (x : ℕ) (a b : List ℕ) → joins (x ∷ a) b ≡ false → is_end x (a ++ b) ≡ is_end x a
is_end-append x [] b h = same_end (is_feed x) (is_return x) (starts_with_feed b) h
is_end-append x (y ∷ ys) b h = refl

pub joins-tail : (x : ℕ) (a b : List ℕ) → joins (x ∷ a) b ≡ false → joins a b ≡ false
joins-tail x [] b h = refl
joins-tail x (y ∷ ys) b h = h

-- **Two texts that stand apart have the line ends of both.**
pub ends_in-append : (a b : List ℕ) → joins a b ≡ false → ends_in (a ++ b) ≡ ends_in a + ends_in b
ends_in-append [] b h = omega arith
ends_in-append (x ∷ a) b h = omega (arith, ap one_if (is_end-append x a b h), ends_in-append a b (joins-tail x a b h))

push_out : (v : Bool) (m : ℕ) (xs ys : List ℕ) → cond v (m ∷ (xs ++ ys)) (xs ++ ys) ≡ cond v (m ∷ xs) xs ++ ys
push_out true m xs ys = refl
push_out false m xs ys = refl

-- and the places of both
pub places_behind-append : (n : ℕ) (a b : List ℕ) → joins a b ≡ false → places_behind n (a ++ b) ≡ places_behind n a ++ places_behind (n + length a) b
places_behind-append n [] b h = ap (λ k. places_behind k b) (let e : n ≡ n + 0 = omega arith in e)
places_behind-append n (x ∷ a) b h =
    let xs = places_behind (n + 1) a in
    let ys = places_behind (n + length (x ∷ a)) b in
    let k : n + 1 + length a ≡ n + length (x ∷ a) = omega arith in
    let rest : places_behind (n + 1) (a ++ b) ≡ xs ++ ys =
    places_behind-append (n + 1) a b (joins-tail x a b h) ∙ ap (λ i. xs ++ places_behind i b) k in
    ap (λ v. cond v ((n + 1) ∷ places_behind (n + 1) (a ++ b)) (places_behind (n + 1) (a ++ b))) (is_end-append x a b h)
    ∙ ap (λ (zs : List ℕ). cond (is_end x a) ((n + 1) ∷ zs) zs) rest ∙ push_out (is_end x a) (n + 1) xs ys

-- ---- places

-- there are as many places as line ends
pub length-places_behind : (n : ℕ) (bs : List ℕ) → length (places_behind n bs) ≡ ends_in bs
length-places_behind n [] = refl
length-places_behind n (b ∷ bs) =
    elim (is_end b bs) as (λ v. length (cond v ((n + 1) ∷ places_behind (n + 1) bs) (places_behind (n + 1) bs)) ≡ cond v 1 0 + ends_in bs) [
      | true ↦ omega (arith, length-places_behind (n + 1) bs)
      | false ↦ omega (arith, length-places_behind (n + 1) bs)
    ]

map_out : (k m : ℕ) (v : Bool) (p : ℕ) (xs ys : List ℕ) → p ≡ k + m → xs ≡ map (λ i. k + i) ys → cond v (p ∷ xs) xs ≡ map (λ i. k + i) (cond v (m ∷ ys) ys)
map_out k m true p xs ys e h = ap (λ i. i ∷ xs) e ∙ ap (λ (zs : List ℕ). (k + m) ∷ zs) h
map_out k m false p xs ys e h = h

-- places where more bytes come before
pub places_behind-add : (k n : ℕ) (bs : List ℕ) → places_behind (k + n) bs ≡ map (λ i. k + i) (places_behind n bs)
places_behind-add k n [] = refl
places_behind-add k n (b ∷ bs) =
    let e : k + n + 1 ≡ k + (n + 1) = omega arith in
    map_out k (n + 1) (is_end b bs) (k + n + 1) (places_behind (k + n + 1) bs) (places_behind (n + 1) bs) e
    (ap (λ i. places_behind i bs) e ∙ places_behind-add k (n + 1) bs)

-- ---- lines

length-before_end : (c : ℕ) (ls : List Line) → length (before_end c ls) ≡ length ls
length-before_end c [] = refl
length-before_end c (l ∷ ls) = refl

length-before_line : (cs : List ℕ) (ls : List Line) → HasFirst ls → length (before_line cs ls) ≡ length ls
length-before_line cs [] h = absurd (cc h.are)
length-before_line cs (l ∷ ls) h = refl

length-put : (f r s : Bool) (l : Line) (ls both longer : List Line) → length both ≡ length ls → length longer ≡ length ls →
    length (cond f (l ∷ ls) (cond r (cond s both (l ∷ ls)) longer)) ≡ one_if (f || (r && not s)) + length ls
length-put false true true l ls both longer e1 e2 = omega arith
length-put _ _ _ l ls both longer e1 e2 = omega arith

-- a text has one line more than line ends
length-lines_of : (t : List ℕ) → length (lines_of t) ≡ ends_in t + 1
length-lines_of [] = refl
length-lines_of (c ∷ cs) =
    let ls = lines_of cs in
    let more : length (lines_of (c ∷ cs)) ≡ one_if (is_end c cs) + length ls =
    length-put (is_feed c) (is_return c) (starts_with_feed cs) (ended_line c) ls (before_end c ls) (before_line (c ∷ []) ls) (length-before_end c ls)
    (length-before_line (c ∷ []) ls (lines_of-HasFirst cs)) in
    omega (arith, more, length-lines_of cs)

-- bytes that are no ASCII end no line
ends_in-above : (xs rest : List ℕ) → ((k : ℕ) → k < length xs → 128 ≤ get_or xs k 0) → ends_in (xs ++ rest) ≡ ends_in rest
ends_in-above [] rest h = refl
ends_in-above (x ∷ xs) rest h =
    let above : 128 ≤ x = h 0 (omega arith) in
    let f : is_feed x ≡ false = ne_eqb x 10 (λ e. omega arith) in
    let r : is_return x ≡ false = ne_eqb x 13 (λ e. omega arith) in
    let more : ends_in (xs ++ rest) ≡ ends_in rest = ends_in-above xs rest (λ k lt. h (suc k) (omega arith)) in
    rw (f, r) (let e : 0 + ends_in (xs ++ rest) ≡ ends_in rest = omega arith in e)

-- the bytes of a character that is no ASCII
pub above-encode : (c : ℕ) (rest : List ℕ) (k : ℕ) → 128 ≤ c → k < length (encode c) → 128 ≤ get_or (encode c ++ rest) k 0
above-encode c rest k ge lt =
    ⊎_elim (λ (less : get_or (encode c ++ rest) k 0 < 128). let e : c ≡ get_or (encode c ++ rest) k 0 = inside_one c rest (encode c ++ rest) k refl lt less in omega arith) (λ h. h)
    (cases_lt (get_or (encode c ++ rest) k 0) 128)

ends_in-encode : (c : ℕ) (rest : List ℕ) → 128 ≤ c → ends_in (encode c ++ rest) ≡ ends_in rest
ends_in-encode c rest ge =
    ends_in-above (encode c) rest (λ k lt. let e : get_or (encode c ++ rest) k 0 ≡ get_or (encode c) k 0 = get_or_append_left (encode c) rest 0 k lt in omega (arith, above-encode c rest k ge lt))

-- a text has the line ends of its bytes
ends_in-encodes : (cs : List ℕ) → ends_in (encodes cs) ≡ ends_in cs
ends_in-encodes [] = refl
ends_in-encodes (c ∷ cs) =
    ⊎_elim
    (λ (lt : c < 128).
    ap (λ (bs : List ℕ). ends_in (bs ++ encodes cs)) (encode_ascii c lt)
    ∙ omega (arith, ap (λ (s : Bool). one_if (is_feed c || (is_return c && not s))) (sym (starts_with_feed-chars cs)), ends_in-encodes cs))
    (λ (ge : 128 ≤ c). ends_in-encode c (encodes cs) ge ∙ ends_in-encodes cs ∙ sym (ends_in-above (c ∷ []) cs (λ k lt. let e : k ≡ 0 = omega arith in rw e ge)))
    (cases_lt c 128)

pub ends_in-chars : (bs : List ℕ) → IsUtf8 bs → ends_in (chars bs) ≡ ends_in bs
ends_in-chars bs u = sym (ends_in-encodes (chars bs)) ∙ ap ends_in (encodes-chars bs u)

-- **A text has one line more than its bytes have line ends.**
pub lines_counted : (bs : List ℕ) → IsUtf8 bs → length (lines_of (chars bs)) ≡ ends_in bs + 1
lines_counted bs u = length-lines_of (chars bs) ∙ ap (λ n. n + 1) (ends_in-chars bs u)

-- ---- how much a text has at most

ends_in-le : (bs : List ℕ) → ends_in bs ≤ length bs
ends_in-le [] = omega arith
ends_in-le (b ∷ bs) =
    let le = ends_in-le bs in
    cond_both (is_end b bs) 1 0 (λ n. n + ends_in bs ≤ length (b ∷ bs)) (λ _. omega arith) (λ _. omega arith)

char_utf16 : (c : ℕ) → units_of_char Utf16 c ≤ units_of_char Utf8 c
char_utf16 c = grind (arith, nat_tests)

utf16_le : (cs : List ℕ) → units Utf16 cs ≤ units Utf8 cs
utf16_le [] = omega arith
utf16_le (c ∷ cs) = omega (arith, char_utf16 c, utf16_le cs)

-- none of its sums is over its bytes
pub sums_at_most : (bs : List ℕ) → IsUtf8 bs → AreAtMost (sums_of bs) (length bs)
sums_at_most bs u =
    record {
      ends = ends_in-le bs;
      bytes = omega arith;
      chars = length-chars_le bs u;
      utf16 = omega (arith, utf16_le (chars bs), units-utf8_text bs u);
    }
