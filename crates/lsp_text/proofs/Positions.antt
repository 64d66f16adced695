-- The line at which a position lies, found from the front of a text.
use Rattle.std.proofs.Common.{◌≡◌, ◌<◌, ◌≤◌, ◌+◌, ℕ, true, List, [], ◌∷◌, ◌++◌, length, take, drop, Some, None, zero, suc, refl, sym, ap, subst, ◌∙◌, arith, inl, inr, length-append, append_assoc, length-drop, take-add}
use Rattle.std.proofs.lemmas.List.{append-nil, take-append-drop, take_at, drop_at, drop-drop, take_all, length-take-le}
use Rattle.std.specs.List.{slice_get}
use Rattle.std.specs.Option.{option_map}
use Rattle.std.specs.Str.{chars, IsUtf8, IsCharBoundary}
use Rattle.std.proofs.lemmas.Str.{chars-append, chars-nil, IsUtf8-append, IsUtf8-take, IsUtf8-drop, IsUtf8-nil, IsCharBoundary-start, IsCharBoundary-end, IsCharBoundary-at_seam, IsCharBoundary-from_rest}
use Rattle.lsp_types.specs.declared.position.Encoding.{Encoding}
use Rattle.lsp_types.specs.declared.position.Position.{Position}
use Rattle.lsp_text.specs.declared.cut.FirstLine.{FirstLine}
use Rattle.lsp_text.specs.Lines.{Line, open_line, spelled, text_of, lines_of, has_no_line_end, IsEndBefore, IsCut}
use Rattle.lsp_text.specs.Places.{place_of, place_at, place_in_line}
use Rattle.lsp_text.specs.Offsets.{IsOffset, IsTextOffset, IsAtLine}
use Rattle.lsp_text.specs.FirstLine.{IsFirstLine}
use Rattle.lsp_text.proofs.Cuts.{lines_of-line, lines_of-no_end, IsCut-lines_of, text_of-append}

-- lists
pub take_from_drop : {X : Type 0} (xs : List X) (i : ℕ) (x : X) (rest : List X) → drop i xs ≡ x ∷ rest → take (i + 1) xs ≡ take i xs ++ x ∷ []
take_from_drop [] zero x rest h = absurd (cc)
take_from_drop [] (suc i) x rest h = absurd (cc)
take_from_drop (y ∷ ys) zero x rest h = ap (λ z. z ∷ []) (let e : y ≡ x = cc in e)
take_from_drop (y ∷ ys) (suc i) x rest h = ap (λ n. take n (y ∷ ys)) (let e : suc i + 1 ≡ suc (i + 1) = omega arith in e) ∙ ap (λ z. y ∷ z) (take_from_drop ys i x rest h)

-- what stands first where a list is cut
pub take-add_here : {X : Type 0} (bs : List X) (i n : ℕ) (xs ys : List X) → drop i bs ≡ xs ++ ys → length xs ≡ n → take (i + n) bs ≡ take i bs ++ xs
take-add_here bs i n xs ys h len = take-add i n bs ∙ ap (λ x. take i bs ++ x) (ap (take n) h ∙ take_at xs ys n len)

pub slice_get-drop : {X : Type 0} (xs : List X) (i : ℕ) (x : X) (rest : List X) → drop i xs ≡ x ∷ rest → slice_get xs i ≡ Some x
slice_get-drop [] zero x rest h = absurd (cc)
slice_get-drop [] (suc i) x rest h = absurd (cc)
slice_get-drop (y ∷ ys) zero x rest h = cc
slice_get-drop (y ∷ ys) (suc i) x rest h = slice_get-drop ys i x rest h

pub slice_get-past : {X : Type 0} (xs : List X) (i : ℕ) → length xs ≤ i → slice_get xs i ≡ None
slice_get-past [] i h = refl
slice_get-past (y ∷ ys) zero h = absurd (omega arith)
slice_get-past (y ∷ ys) (suc i) h = slice_get-past ys i (omega arith)

pub text_of-lines_of : (t : List ℕ) → text_of (lines_of t) ≡ t
text_of-lines_of t =
    let cut : IsCut t (lines_of t) = IsCut-lines_of t in
    ap text_of cut.lines ∙ text_of-append cut.front (open_line cut.last ∷ []) ∙ ap (λ (x : List ℕ). text_of cut.front ++ x) (append-nil (cut.last ++ []) ∙ append-nil cut.last) ∙ cut.text

chars-parts : (bs t e r : List ℕ) → bs ≡ (t ++ e) ++ r → IsUtf8 t → IsUtf8 e → chars bs ≡ (chars t ++ chars e) ++ chars r
chars-parts bs t e r is ut ue = ap chars is ∙ chars-append (t ++ e) r (IsUtf8-append t e ut ue) ∙ ap (λ x. x ++ chars r) (chars-append t e ut)

pub lines_of-first : (bs : List ℕ) (f : FirstLine) → IsFirstLine bs f →
    lines_of (chars bs) ≡ record { text = chars f.text.now; end = chars f.end.now } ∷ lines_of (chars f.rest.now)
lines_of-first bs f h =
    ap lines_of (chars-parts bs f.text.now f.end.now f.rest.now h.parts h.text_utf8 h.end_utf8)
    ∙ lines_of-line (record { text = chars f.text.now; end = chars f.end.now }) (chars f.rest.now) h.whole h.ended

pub at_first_line : (bs : List ℕ) → IsUtf8 bs → IsAtLine bs 0 0 bs
at_first_line bs u = record { at = refl; boundary = IsCharBoundary-start bs u; utf8 = u; lines = refl; front = sym chars-nil }

pub at_next_line : (bs : List ℕ) (i start : ℕ) (rest : List ℕ) (f : FirstLine) → IsUtf8 bs → IsAtLine bs i start rest → IsFirstLine rest f →
    IsAtLine bs (i + 1) (start + (length f.text.now + length f.end.now)) f.rest.now
at_next_line bs i start rest f u h k =
    let t = f.text.now in
    let e = f.end.now in
    let r = f.rest.now in
    let m = length t + length e in
    let l : Line = record { text = chars t; end = chars e } in
    let ls = lines_of (chars bs) in
    let here : drop start bs ≡ (t ++ e) ++ r = sym h.at ∙ k.parts in
    let len : length (t ++ e) ≡ m = length-append t e in
    let is : drop i ls ≡ l ∷ lines_of (chars r) = h.lines ∙ lines_of-first rest f k in
    let front : take (start + m) bs ≡ take start bs ++ (t ++ e) = take-add_here bs start m (t ++ e) r here len in
    record {
      at = sym (sym (drop-drop m start bs) ∙ ap (drop m) here ∙ drop_at (t ++ e) r m len);
      boundary =
          IsCharBoundary-from_rest bs start m h.boundary.0
          (subst (λ x. IsCharBoundary (drop start bs) x) len (IsCharBoundary-at_seam (drop start bs) (t ++ e) r here k.rest_utf8));
      utf8 = k.rest_utf8;
      lines = sym (drop-drop 1 i ls) ∙ ap (drop 1) is;
      front =
          ap text_of (take_from_drop ls i l (lines_of (chars r)) is) ∙ text_of-append (take i ls) (l ∷ [])
          ∙ ap (λ (x : List ℕ). x ++ (spelled l ++ [])) h.front ∙ ap (λ x. chars (take start bs) ++ x) (append-nil (spelled l))
          ∙ ap (λ x. chars (take start bs) ++ x) (sym (chars-append t e k.text_utf8))
          ∙ sym (chars-append (take start bs) (t ++ e) (IsUtf8-take bs start u h.boundary)) ∙ ap chars (sym front);
    }

-- a position past the last line
pub offset_past : (enc : Encoding) (bs : List ℕ) (p : Position) (i start : ℕ) (rest : List ℕ) → IsAtLine bs i start rest → has_no_line_end (chars rest) ≡ true → i < p.line →
    IsTextOffset enc bs p (length bs)
offset_past enc bs p i start rest h whole lt =
    let ls = lines_of (chars bs) in
    let is : drop i ls ≡ open_line (chars rest) ∷ [] = h.lines ∙ lines_of-no_end (chars rest) whole in
    let short : length ls ≤ p.line = omega (arith, length-drop i ls, ap length is) in
    record {
      boundary = IsCharBoundary-end bs;
      place =
          ap (place_at enc ls p) (slice_get-past ls p.line short)
          ∙ ap (λ (x : List ℕ). Some (length x)) (text_of-lines_of (chars bs) ∙ ap chars (sym (take_all (length bs) bs (omega arith))));
    }

-- the line at byte `start`, and what follows it
pub record IsLineAt (bs : List ℕ) (i start : ℕ) (line : List ℕ) : Type 0 where
  pub end : List ℕ
  pub more : List Line
  pub is : drop i (lines_of (chars bs)) ≡ record { text = chars line; end = end } ∷ more
  pub tail : List ℕ
  pub split : drop start bs ≡ line ++ tail
  pub utf8 : IsUtf8 line
  pub tail_utf8 : IsUtf8 tail

pub line_at_last : (bs : List ℕ) (i start : ℕ) (rest : List ℕ) → IsAtLine bs i start rest → has_no_line_end (chars rest) ≡ true → IsLineAt bs i start rest
line_at_last bs i start rest h whole =
    record {
      end = [];
      more = [];
      is = h.lines ∙ lines_of-no_end (chars rest) whole;
      tail = [];
      split = sym h.at ∙ sym (append-nil rest);
      utf8 = h.utf8;
      tail_utf8 = IsUtf8-nil;
    }

pub line_at_first : (bs : List ℕ) (i start : ℕ) (rest : List ℕ) (f : FirstLine) → IsAtLine bs i start rest → IsFirstLine rest f → IsLineAt bs i start f.text.now
line_at_first bs i start rest f h k =
    record {
      end = chars f.end.now;
      more = lines_of (chars f.rest.now);
      is = h.lines ∙ lines_of-first rest f k;
      tail = f.end.now ++ f.rest.now;
      split = sym h.at ∙ k.parts ∙ append_assoc f.text.now f.end.now f.rest.now;
      utf8 = k.text_utf8;
      tail_utf8 = IsUtf8-append f.end.now f.rest.now k.end_utf8 k.rest_utf8;
    }

pub place_in_text : (enc : Encoding) (bs : List ℕ) (p : Position) (i start : ℕ) (rest line : List ℕ) → IsAtLine bs i start rest → IsLineAt bs i start line → i ≡ p.line →
    place_of enc (chars bs) p ≡ option_map (λ (k : ℕ). length (chars (take start bs)) + k) (place_in_line enc (chars line) p.column)
place_in_text enc bs p i start rest line h k e =
    let ls = lines_of (chars bs) in
    let l : Line = record { text = chars line; end = k.end } in
    ap (place_at enc ls p) (slice_get-drop ls p.line l k.more (ap (λ x. drop x ls) (sym e) ∙ k.is))
    ∙ ap (λ (x : List ℕ). option_map (λ (j : ℕ). length x + j) (place_in_line enc (chars line) p.column)) (ap (λ x. text_of (take x ls)) (sym e) ∙ h.front)

pub offset_in_text : (enc : Encoding) (bs : List ℕ) (p : Position) (i start : ℕ) (rest line : List ℕ) (offset : ℕ) → IsUtf8 bs → IsAtLine bs i start rest → IsLineAt bs i start line →
    i ≡ p.line → IsOffset enc line p.column offset → IsTextOffset enc bs p (start + offset)
offset_in_text enc bs p i start rest line offset u h k e o =
    let xs = take offset line in
    let ys = drop offset line ++ k.tail in
    let len : length xs ≡ offset = length-take-le offset line o.boundary.0 in
    let here : drop start bs ≡ xs ++ ys = k.split ∙ ap (λ x. x ++ k.tail) (sym (take-append-drop offset line)) ∙ append_assoc xs (drop offset line) k.tail in
    let front : take (start + offset) bs ≡ take start bs ++ xs = take-add_here bs start offset xs ys here len in
    record {
      boundary =
          IsCharBoundary-from_rest bs start offset h.boundary.0
          (subst (λ x. IsCharBoundary (drop start bs) x) len
          (IsCharBoundary-at_seam (drop start bs) xs ys here (IsUtf8-append (drop offset line) k.tail (IsUtf8-drop line offset k.utf8 o.boundary) k.tail_utf8)));
      place =
          place_in_text enc bs p i start rest line h k e ∙ ap (option_map (λ (j : ℕ). length (chars (take start bs)) + j)) o.place
          ∙ ap Some (sym (length-append (chars (take start bs)) (chars xs)) ∙ ap length (sym (chars-append (take start bs) xs (IsUtf8-take bs start u h.boundary)) ∙ ap chars (sym front)));
    }

some_end : (e rest : List ℕ) → IsEndBefore rest (chars e) → 0 < length e
some_end [] rest h =
    let nil : chars [] ≡ [] = chars-nil in
    elim h [ inl a ↦ absurd (cc (nil, a)) | inr k ↦ elim k [ inl a ↦ absurd (cc (nil, a)) | inr p ↦ absurd (cc (nil, p.0)) ] ]
some_end (b ∷ bs) rest h = omega arith

pub rest_shorter : (bs : List ℕ) (f : FirstLine) → IsFirstLine bs f → length f.rest.now < length bs
rest_shorter bs f h =
    omega (arith, ap length h.parts, length-append (f.text.now ++ f.end.now) f.rest.now, length-append f.text.now f.end.now, some_end f.end.now (chars f.rest.now) h.ended)
