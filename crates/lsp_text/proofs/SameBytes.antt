-- Texts that are the same up to line ends, in their bytes and in their characters.
use Rattle.std.proofs.Common.{◌≡◌, ◌<◌, ◌≤◌, ◌&&◌, ◌↔◌, ℕ, Bool, true, false, cond, List, [], ◌∷◌}
use Rattle.std.proofs.Common.{◌++◌, length, get_or, suc, refl, sym, ap, ◌∙◌, inl, inr, ⊎_elim}
use Rattle.std.proofs.Common.{arith, append_assoc, IfOk, Result, Ok, Err, String, string_bytes}
use Rattle.std.proofs.lemmas.Bool.{cases_lt, ne_eqb}
use Rattle.std.proofs.lemmas.List.{append-nil}
use Rattle.std.proofs.lemmas.Str.{encodes-chars, encode_ascii, encodes_same}
use Rattle.std.proofs.lemmas.Str.{inside_one, length-encode, len_utf8_bounds}
use Rattle.std.proofs.lemmas.Str.{chars_from_encodes, IsUtf8-string_bytes}
use Rattle.std.specs.Global.{Global}
use Rattle.lsp_types.specs.declared.memory.Memory.{Memory}
use Rattle.std.specs.Str.{chars, IsUtf8}
use lib.Utf8.{encodes, encode}
use Rattle.lsp_types.specs.declared.line_ends.LineEnds.TheVariants.{Ignored}
use Rattle.lsp_text.specs.Lines.{is_feed, is_return, starts_with_feed, has_no_line_end, IsEndBefore}
use Rattle.lsp_text.specs.FirstLine.{IsFirstLine}
use Rattle.lsp_text.specs.declared.cut.FirstLine.{FirstLine}
use Rattle.lsp_text.specs.SameText.{with_feeds, without_last_feed, is_nothing, compared, SameText}
use Rattle.lsp_text.proofs.Cuts.{whole_parts}
use Rattle.lsp_text.proofs.LineBytes.{starts_with_feed-chars, starts_with_feed-text}
use Rattle.lsp_text.proofs.SameTexts.{with_feeds-front, with_feeds-whole}

-- ---- a character that is no ASCII

above : (c : ℕ) (k : ℕ) → 128 ≤ c → k < length (encode c) → 128 ≤ get_or (encode c) k 0
above c k ge lt =
    ⊎_elim (λ (less : get_or (encode c) k 0 < 128). let e : c ≡ get_or (encode c) k 0 =
    inside_one c [] (encode c) k (sym (append-nil (encode c))) lt less in omega arith) (λ h. h)
    (cases_lt (get_or (encode c) k 0) 128)

no_end_above : (xs : List ℕ) → ((k : ℕ) → k < length xs → 128 ≤ get_or xs k 0)
    → has_no_line_end xs ≡ true
no_end_above [] h = refl
no_end_above (x ∷ xs) h =
    let high : 128 ≤ x = h 0 (omega arith) in
    let f : is_feed x ≡ false = ne_eqb x 10 (λ e. omega arith) in
    let r : is_return x ≡ false = ne_eqb x 13 (λ e. omega arith) in
    rw (f, r) (no_end_above xs (λ k lt. h (suc k) (omega arith)))

no_end_inside : (c : ℕ) → 128 ≤ c → has_no_line_end (encode c) ≡ true
no_end_inside c ge = no_end_above (encode c) (λ k lt. above c k ge lt)

-- ---- no line end

no_end-append : (xs ys : List ℕ) → has_no_line_end xs ≡ true → has_no_line_end ys ≡ true
    → has_no_line_end (xs ++ ys) ≡ true
no_end-append [] ys h k = k
no_end-append (c ∷ xs) ys h k =
    let p : (is_feed c ≡ false) × (is_return c ≡ false) × (has_no_line_end xs ≡ true) =
    whole_parts (is_feed c) (is_return c) (has_no_line_end xs) h in
    rw (p.0, p.1) (no_end-append xs ys p.2 k)

no_end-encodes : (cs : List ℕ) → has_no_line_end cs ≡ true → has_no_line_end (encodes cs) ≡ true
no_end-encodes [] h = refl
no_end-encodes (c ∷ cs) h =
    let p : (is_feed c ≡ false) × (is_return c ≡ false) × (has_no_line_end cs ≡ true) =
    whole_parts (is_feed c) (is_return c) (has_no_line_end cs) h in
    let rest = no_end-encodes cs p.2 in
    ⊎_elim
    (λ (lt : c < 128). ap (λ (bs : List ℕ). has_no_line_end (bs ++ encodes cs)) (encode_ascii c lt)
    ∙ rw (p.0, p.1) rest)
    (λ (ge : 128 ≤ c). no_end-append (encode c) (encodes cs) (no_end_inside c ge) rest)
    (cases_lt c 128)

pub no_end-bytes : (bs : List ℕ) → IsUtf8 bs → has_no_line_end (chars bs) ≡ true
    → has_no_line_end bs ≡ true
no_end-bytes bs u h = ap has_no_line_end (sym (encodes-chars bs u)) ∙ no_end-encodes (chars bs) h

-- ---- a LF for each line end

encodes-cond : (v : Bool) (xs ys : List ℕ)
    → encodes (cond v xs ys) ≡ cond v (encodes xs) (encodes ys)
encodes-cond true xs ys = refl
encodes-cond false xs ys = refl

encodes-ascii : (c : ℕ) (cs : List ℕ) → c < 128 → encodes (c ∷ cs) ≡ c ∷ encodes cs
encodes-ascii c cs lt = ap (λ (bs : List ℕ). bs ++ encodes cs) (encode_ascii c lt)

below_head : (v : Bool) (c : ℕ) → c < 128 → cond v 10 c < 128
below_head true c lt = omega arith
below_head false c lt = lt

feeds-ascii : (c : ℕ) (cs : List ℕ) → c < 128 → with_feeds (encodes cs) ≡ encodes (with_feeds cs)
    → with_feeds (encodes (c ∷ cs)) ≡ encodes (with_feeds (c ∷ cs))
feeds-ascii c cs lt rest =
    let h = cond (is_return c) 10 c in
    ap with_feeds (encodes-ascii c cs lt)
    ∙ ap (λ (w : Bool). cond (is_return c && w) (with_feeds (encodes cs))
    (h ∷ with_feeds (encodes cs))) (sym (starts_with_feed-chars cs))
    ∙ ap (λ (x : List ℕ). cond (is_return c && starts_with_feed cs) x (h ∷ x)) rest
    ∙ ap (λ (x : List ℕ). cond (is_return c && starts_with_feed cs) (encodes (with_feeds cs)) x)
    (sym (encodes-ascii h (with_feeds cs) (below_head (is_return c) c lt)))
    ∙ sym (encodes-cond (is_return c && starts_with_feed cs) (with_feeds cs) (h ∷ with_feeds cs))

other_above : (c : ℕ) (cs : List ℕ) → 128 ≤ c → with_feeds (c ∷ cs) ≡ c ∷ with_feeds cs
other_above c cs ge = let r : is_return c ≡ false = ne_eqb c 13 (λ e. omega arith) in rw r refl

with_feeds-encodes : (cs : List ℕ) → with_feeds (encodes cs) ≡ encodes (with_feeds cs)
with_feeds-encodes [] = refl
with_feeds-encodes (c ∷ cs) =
    ⊎_elim (λ (lt : c < 128). feeds-ascii c cs lt (with_feeds-encodes cs))
    (λ (ge : 128 ≤ c).
    with_feeds-front (encode c) (encodes cs) (no_end_inside c ge)
    ∙ ap (λ (x : List ℕ). encode c ++ x) (with_feeds-encodes cs)
    ∙ sym (ap encodes (other_above c cs ge)))
    (cases_lt c 128)

-- ---- the last LF

nothing-encodes : (cs : List ℕ) → is_nothing (encodes cs) ≡ is_nothing cs
nothing-encodes [] = refl
nothing-encodes (c ∷ cs) =
    some (encode c) (encodes cs) (omega (arith, length-encode c, (len_utf8_bounds c).0))
  where
    some : (xs ys : List ℕ) → 0 < length xs → is_nothing (xs ++ ys) ≡ false
    some [] ys lt = absurd (omega arith)
    some (x ∷ xs) ys lt = refl

pub without_last-front : (t x : List ℕ) → has_no_line_end t ≡ true
    → without_last_feed (t ++ x) ≡ t ++ without_last_feed x
without_last-front [] x h = refl
without_last-front (c ∷ t) x h =
    let p : (is_feed c ≡ false) × (is_return c ≡ false) × (has_no_line_end t ≡ true) =
    whole_parts (is_feed c) (is_return c) (has_no_line_end t) h in
    rw p.0 (ap (λ (l : List ℕ). c ∷ l) (without_last-front t x p.2))

without_last-ascii : (c : ℕ) (cs : List ℕ) → c < 128
    → without_last_feed (encodes cs) ≡ encodes (without_last_feed cs)
    → without_last_feed (encodes (c ∷ cs)) ≡ encodes (without_last_feed (c ∷ cs))
without_last-ascii c cs lt rest =
    ap without_last_feed (encodes-ascii c cs lt)
    ∙ ap (λ (w : Bool). cond (is_feed c && w) [] (c ∷ without_last_feed (encodes cs)))
    (nothing-encodes cs)
    ∙ ap (λ (x : List ℕ). cond (is_feed c && is_nothing cs) [] (c ∷ x)) rest
    ∙ ap (λ (x : List ℕ). cond (is_feed c && is_nothing cs) [] x)
    (sym (encodes-ascii c (without_last_feed cs) lt))
    ∙ sym (encodes-cond (is_feed c && is_nothing cs) [] (c ∷ without_last_feed cs))

last_above : (c : ℕ) (cs : List ℕ) → 128 ≤ c → without_last_feed (c ∷ cs) ≡ c ∷ without_last_feed cs
last_above c cs ge = let f : is_feed c ≡ false = ne_eqb c 10 (λ e. omega arith) in rw f refl

without_last-encodes : (cs : List ℕ)
    → without_last_feed (encodes cs) ≡ encodes (without_last_feed cs)
without_last-encodes [] = refl
without_last-encodes (c ∷ cs) =
    ⊎_elim (λ (lt : c < 128). without_last-ascii c cs lt (without_last-encodes cs))
    (λ (ge : 128 ≤ c).
    without_last-front (encode c) (encodes cs) (no_end_inside c ge)
    ∙ ap (λ (x : List ℕ). encode c ++ x) (without_last-encodes cs)
    ∙ sym (ap encodes (last_above c cs ge)))
    (cases_lt c 128)

-- ---- both

compared-encodes : (cs : List ℕ) → compared Ignored (encodes cs) ≡ encodes (compared Ignored cs)
compared-encodes cs = ap without_last_feed (with_feeds-encodes cs)
    ∙ without_last-encodes (with_feeds cs)

pub compared-chars : (bs : List ℕ) → IsUtf8 bs
    → compared Ignored bs ≡ encodes (compared Ignored (chars bs))
compared-chars bs u = ap (compared Ignored) (sym (encodes-chars bs u)) ∙ compared-encodes (chars bs)

-- **Texts are the same up to line ends exactly where their bytes are.**
pub same_bytes : (a b : List ℕ) → IsUtf8 a → IsUtf8 b
    → SameText Ignored a b ↔ SameText Ignored (chars a) (chars b)
same_bytes a b u v = (
  λ e. encodes_same _ _ (sym (compared-chars a u) ∙ e ∙ compared-chars b v),
  λ e. compared-chars a u ∙ ap encodes e ∙ sym (compared-chars b v),
)

-- ---- the first line of a text

end_bytes : (e r : List ℕ) → IsUtf8 e → IsUtf8 r → IsEndBefore (chars r) (chars e) → IsEndBefore r e
end_bytes e r u v h =
    let is : encodes (chars e) ≡ e = encodes-chars e u in
    elim h [
      | inl both ↦ inl (sym is ∙ ap encodes both ∙ ascii-both)
      | inr k ↦ elim k [
        | inl feed ↦ inr (inl (sym is ∙ ap encodes feed ∙ ascii-feed))
        | inr p ↦ inr (inr (
          sym is ∙ ap encodes p.0 ∙ ascii-return,
          sym (starts_with_feed-text r v) ∙ p.1,
        ))
      ]
    ]
  where
    ascii-feed : encodes (10 ∷ []) ≡ 10 ∷ []
    ascii-feed = encodes-ascii 10 [] (omega arith)

    ascii-return : encodes (13 ∷ []) ≡ 13 ∷ []
    ascii-return = encodes-ascii 13 [] (omega arith)

    ascii-both : encodes (13 ∷ 10 ∷ []) ≡ 13 ∷ 10 ∷ []
    ascii-both = encodes-ascii 13 (10 ∷ []) (omega arith) ∙ ap (λ (x : List ℕ). 13 ∷ x) ascii-feed

ended_feeds : (e r : List ℕ) → IsEndBefore r e → with_feeds (e ++ r) ≡ 10 ∷ with_feeds r
ended_feeds e r h = elim h [
  | inl both ↦ ap (λ (x : List ℕ). with_feeds (x ++ r)) both
  | inr k ↦ elim k [
    | inl feed ↦ ap (λ (x : List ℕ). with_feeds (x ++ r)) feed
    | inr p ↦ ap (λ (x : List ℕ). with_feeds (x ++ r)) p.0 ∙ rw p.1 refl
  ]
]

pub first_text : (bs : List ℕ) (f : FirstLine) → IsFirstLine bs f
    → has_no_line_end f.text.now ≡ true
first_text bs f h = no_end-bytes f.text.now h.text_utf8 h.whole

-- **A LF comes after the first line.**
pub first_feeds : (bs : List ℕ) (f : FirstLine) → IsFirstLine bs f
    → with_feeds bs ≡ (f.text.now ++ 10 ∷ []) ++ with_feeds f.rest.now
first_feeds bs f h =
    ap with_feeds (h.parts ∙ append_assoc f.text.now f.end.now f.rest.now)
    ∙ with_feeds-front f.text.now (f.end.now ++ f.rest.now) (first_text bs f h)
    ∙ ap (λ (x : List ℕ). f.text.now ++ x)
    (ended_feeds f.end.now f.rest.now
    (end_bytes f.end.now f.rest.now h.end_utf8 h.rest_utf8 h.ended))
    ∙ sym (append_assoc f.text.now (10 ∷ []) (with_feeds f.rest.now))

-- **A text is made line by line**: what is made of it so far, and what is left of it.
pub feeds_after : (whole made rest : List ℕ) (f : FirstLine) → IsFirstLine rest f
    → with_feeds whole ≡ made ++ with_feeds rest
    → with_feeds whole ≡ ((made ++ f.text.now) ++ 10 ∷ []) ++ with_feeds f.rest.now
feeds_after whole made rest f h so_far =
    so_far ∙ ap (λ (x : List ℕ). made ++ x) (first_feeds rest f h)
    ∙ sym (append_assoc made (f.text.now ++ 10 ∷ []) (with_feeds f.rest.now))
    ∙ ap (λ (x : List ℕ). x ++ with_feeds f.rest.now)
    (sym (append_assoc made f.text.now (10 ∷ [])))

pub feeds_end : (whole made rest : List ℕ) → IsUtf8 rest → has_no_line_end (chars rest) ≡ true
    → with_feeds whole ≡ made ++ with_feeds rest → made ++ rest ≡ with_feeds whole
feeds_end whole made rest u none so_far =
    ap (λ (x : List ℕ). made ++ x) (sym (with_feeds-whole rest (no_end-bytes rest u none)))
    ∙ sym so_far

-- what spells what is compared of a text has its characters
pub spelled_lines : (text whole : List ℕ) (r : Result (String Global) Memory) → IsUtf8 text
    → compared Ignored text ≡ with_feeds whole
    → IfOk r (λ feeds. string_bytes feeds ≡ with_feeds whole)
    → IfOk r (λ lines. chars (string_bytes lines) ≡ compared Ignored (chars text))
spelled_lines text whole (Ok feeds) u cut h =
    sym (chars_from_encodes (compared Ignored (chars text)) (string_bytes feeds)
    (IsUtf8-string_bytes feeds) (sym (compared-chars text u) ∙ cut ∙ sym h))
spelled_lines text whole (Err fault) u cut h = tt
