-- Where a text may be cut into blocks.
use Rattle.std.proofs.Common.{◌≡◌, ◌≢◌, ◌<◌, ◌≤◌, ◌+◌, ◌-◌, ◌&&◌, ℕ, Bool, false, List, [], ◌∷◌, ◌++◌, length, take, drop, get_or, refl, sym, ap, subst, ◌∙◌, ⊎_elim, arith, length-append, append_assoc}
use Rattle.std.proofs.lemmas.List.{append-nil, take-append-drop, take_more, drop_more}
use Rattle.std.proofs.lemmas.Bool.{and_right, cases_lt, ne_eqb}
use Rattle.std.specs.Str.{IsUtf8, IsCharBoundary}
use Rattle.std.proofs.lemmas.Str.{IsUtf8-past_char, IsUtf8-take, IsUtf8-drop, IsCharBoundary-at_seam, IsCharBoundary-before_ascii, length-encode, len_utf8_bounds}
use lib.Utf8.{encodes, encode}
use Rattle.lsp_text.specs.Lines.{is_feed, is_return, starts_with_feed}
use Rattle.lsp_lined.specs.Ends.{ends_with_return, joins}
use Rattle.lsp_lined.specs.Parts.{joined, AreParts, MakeUp, IsCutPlace}
use Rattle.lsp_lined.proofs.Parts.{joined-append, joins-front, joins-farther, ends_with_return-append, AreParts-append}

-- the last of the first bytes
pub return_at : (bs : List ℕ) (n : ℕ) → 0 < n → n ≤ length bs → ends_with_return false (take n bs) ≡ is_return (get_or bs (n - 1) 0)
return_at bs n some le =
    let e : n - 1 + 1 ≡ n = omega arith in
    ap (λ (k : ℕ). ends_with_return false (take k bs)) (sym e) ∙ ap (ends_with_return false) (take_more bs (n - 1) 0 (omega arith))
    ∙ ends_with_return-append false (take (n - 1) bs) (get_or bs (n - 1) 0 ∷ [])

-- the first of those that come after
pub feed_at : (bs : List ℕ) (n : ℕ) → n < length bs → starts_with_feed (drop n bs) ≡ is_feed (get_or bs n 0)
feed_at bs n lt = ap starts_with_feed (drop_more bs n 0 lt)

pub apart_from_other : (bs : List ℕ) (n : ℕ) → 0 < n → n ≤ length bs → get_or bs (n - 1) 0 ≢ 13 → joins (take n bs) (drop n bs) ≡ false
apart_from_other bs n some le ne =
    ap (λ (v : Bool). v && starts_with_feed (drop n bs)) (return_at bs n some le ∙ ne_eqb (get_or bs (n - 1) 0) 13 ne)

pub apart_before_other : (bs : List ℕ) (n : ℕ) → n < length bs → get_or bs n 0 ≢ 10 → joins (take n bs) (drop n bs) ≡ false
apart_before_other bs n lt ne =
    ap (λ (v : Bool). ends_with_return false (take n bs) && v) (feed_at bs n lt ∙ ne_eqb (get_or bs n 0) 10 ne) ∙ and_right (ends_with_return false (take n bs)) false refl

pub apart_before_return : (bs : List ℕ) (n : ℕ) → n < length bs → get_or bs n 0 ≡ 13 → joins (take n bs) (drop n bs) ≡ false
apart_before_return bs n lt is = apart_before_other bs n lt (λ e. let f : 13 ≡ 10 = sym is ∙ e in absurd (omega arith))

-- a boundary after the first two characters
record HasEarly (bs : List ℕ) : Type 0 where
  at : ℕ
  least : 2 ≤ at
  most : at ≤ 8
  boundary : IsCharBoundary bs at

early : (cs bs : List ℕ) → IsUtf8 bs → bs ≡ encodes cs → 8 < length bs → HasEarly bs
early [] bs u is lt = let e : length bs ≡ 0 = ap length is in absurd (omega arith)
early (c ∷ []) bs u is lt = absurd (omega (arith, ap length is, length-append (encode c) [], length-encode c, (len_utf8_bounds c).1))
early (c ∷ d ∷ cs) bs u is lt =
    let rest = encodes cs in
    let ud : IsUtf8 (encode d ++ rest) = IsUtf8-past_char bs (encode d ++ rest) c u is in
    let ur : IsUtf8 rest = IsUtf8-past_char (encode d ++ rest) rest d ud refl in
    let xs = encode c ++ encode d in
    let len : length xs ≡ length (encode c) + length (encode d) = length-append (encode c) (encode d) in
    record {
      at = length xs;
      least = omega (arith, len, length-encode c, length-encode d, (len_utf8_bounds c).0, (len_utf8_bounds d).0);
      most = omega (arith, len, length-encode c, length-encode d, (len_utf8_bounds c).1, (len_utf8_bounds d).1);
      boundary = IsCharBoundary-at_seam bs xs rest (is ∙ sym (append_assoc (encode c) (encode d) rest)) ur;
    }

-- the nearest boundary is not before it
pub floor_at_least : (bs : List ℕ) (at n : ℕ) → IsUtf8 bs → 8 < length bs → 8 ≤ n → ((i : ℕ) → at < i → i ≤ n → IsCharBoundary bs i → ⊥) → 2 ≤ at
floor_at_least bs at n u lt most near =
    let h = early u.0 bs u (sym u.1.1) lt in
    let a = h.least in
    let b = h.most in
    ⊎_elim (λ (less : at < h.at). absurd (near h.at less (omega arith) h.boundary)) (λ (ge : h.at ≤ at). omega arith) (cases_lt at h.at)

pub cut_back : (bs : List ℕ) (n : ℕ) → 2 ≤ n → n ≤ length bs → get_or bs (n - 1) 0 ≡ 13 → IsCutPlace bs (n - 1)
cut_back bs n some le is =
    let lt : n - 1 < length bs = omega arith in
    let ascii : get_or bs (n - 1) 0 < 128 = omega arith in
    record { some = omega arith; boundary = IsCharBoundary-before_ascii bs (n - 1) lt ascii; apart = apart_before_return bs (n - 1) lt is }

pub cut_behind_other : (bs : List ℕ) (n : ℕ) → 2 ≤ n → IsCharBoundary bs n → get_or bs (n - 1) 0 ≢ 13 → IsCutPlace bs n
cut_behind_other bs n some b ne = record { some = omega arith; boundary = b; apart = apart_from_other bs n (omega arith) b.0 ne }

pub cut_before_other : (bs : List ℕ) (n : ℕ) → 2 ≤ n → IsCharBoundary bs n → n < length bs → get_or bs n 0 ≢ 10 → IsCutPlace bs n
cut_before_other bs n some b lt ne = record { some = omega arith; boundary = b; apart = apart_before_other bs n lt ne }

-- ---- a text that is cut into parts, block by block

-- the parts so far, and the rest of the text
pub record IsCutSoFar (text rest : List ℕ) (ps : List (List ℕ)) : Type 0 where
  pub text_is : text ≡ joined ps ++ rest
  pub parts : AreParts ps
  pub apart : joins (joined ps) rest ≡ false
  pub utf8 : IsUtf8 rest

pub nothing_cut : (text : List ℕ) (ps : List (List ℕ)) → IsUtf8 text → ps ≡ []
    → IsCutSoFar text text ps
nothing_cut text ps u is =
    subst (IsCutSoFar text text) (sym is)
    (record { text_is = refl; parts = tt; apart = refl; utf8 = u })

one_part : (p : List ℕ) → IsUtf8 p → AreParts (p ∷ [])
one_part p u = (u, and_right (ends_with_return false p) false refl, tt)

joined-one : (p : List ℕ) → joined (p ∷ []) ≡ p
joined-one p = append-nil p

pub joined-push : (ps : List (List ℕ)) (p : List ℕ) → joined (ps ++ p ∷ []) ≡ joined ps ++ p
joined-push ps p = joined-append ps (p ∷ []) ∙ ap (λ (x : List ℕ). joined ps ++ x) (joined-one p)

pub AreParts-push : (ps : List (List ℕ)) (p : List ℕ) → AreParts ps → IsUtf8 p → joins (joined ps) p ≡ false → AreParts (ps ++ p ∷ [])
AreParts-push ps p h u apart = AreParts-append ps (p ∷ []) h (one_part p u) (ap (joins (joined ps)) (joined-one p) ∙ apart)

-- one part more
pub one_cut : (text rest : List ℕ) (ps more : List (List ℕ)) (at : ℕ) → IsCutSoFar text rest ps
    → IsCutPlace rest at → more ≡ ps ++ take at rest ∷ [] → IsCutSoFar text (drop at rest) more
one_cut text rest ps more at h cut is =
    let p = take at rest in
    let q = drop at rest in
    let whole : p ++ q ≡ rest = take-append-drop at rest in
    let apart : joins (joined ps) (p ++ q) ≡ false = ap (joins (joined ps)) whole ∙ h.apart in
    let pushed : joined more ≡ joined ps ++ p = ap joined is ∙ joined-push ps p in
    record {
      text_is =
          h.text_is ∙ ap (λ (x : List ℕ). joined ps ++ x) (sym whole)
          ∙ sym (append_assoc (joined ps) p q) ∙ ap (λ (x : List ℕ). x ++ q) (sym pushed);
      parts =
          subst AreParts (sym is)
          (AreParts-push ps p h.parts (IsUtf8-take rest at h.utf8 cut.boundary)
          (joins-front (joined ps) p q apart));
      apart = ap (λ (x : List ℕ). joins x q) pushed ∙ joins-farther (joined ps) p q apart cut.apart;
      utf8 = IsUtf8-drop rest at h.utf8 cut.boundary;
    }

-- and the last
pub all_cut : (text rest : List ℕ) (ps more : List (List ℕ)) → IsCutSoFar text rest ps
    → more ≡ ps ++ rest ∷ [] → MakeUp more text
all_cut text rest ps more h is =
    record {
      some = omega (arith, ap length is, length-append ps (rest ∷ []));
      parts = subst AreParts (sym is) (AreParts-push ps rest h.parts h.utf8 h.apart);
      text = ap joined is ∙ joined-push ps rest ∙ sym h.text_is;
    }
