-- Places of a text of which a window holds some bytes, and the text as it is read on.
use Rattle.std.proofs.Common.{◌≡◌, ◌<◌, ◌≤◌, ◌+◌, ◌-◌, ◌^◌, ℕ, false, List, [], ◌++◌, length}
use Rattle.std.proofs.Common.{take, drop, Option, Some, None, MatchOption, refl, sym, ap, ap₂, subst}
use Rattle.std.proofs.Common.{inl, inr, ◌∙◌, arith, length-append, length-drop, append_assoc, take-add}
use Rattle.std.proofs.lemmas.Bool.{and_right}
use Rattle.std.proofs.lemmas.List.{append-nil, take_all, drop_all}
use Rattle.std.specs.Str.{chars, IsUtf8, IsCharBoundary}
use Rattle.std.proofs.lemmas.Str.{chars-append, chars-nil, IsCharBoundary-start, IsCharBoundary-end}
use Rattle.std.proofs.lemmas.Str.{IsCharBoundary-from_rest}
use Rattle.lsp_types.specs.declared.position.Encoding.{Encoding}
use Rattle.lsp_text.specs.Places.{units, place_in_line}
use Rattle.lsp_text.specs.Offsets.{IsOffset}
use Rattle.lsp_lined.specs.Ends.{ends_with_return, joins}
use Rattle.lsp_lined.specs.Sums.{sums_of, amount_in}
use Rattle.lsp_text.specs.Spans.{bytes_between}
use Rattle.lsp_lined.specs.Parts.{IsSeam, IsSpan}
use Rattle.lsp_lined.specs.Windows.{text_with, pieces_of, IsWindowed}
use Rattle.lsp_lined.specs.declared.sums.Sums.{Sums}
use Rattle.lsp_lined.specs.declared.sums.Measure.TheVariants.{Units}
use Rattle.lsp_lined.specs.declared.lined.window.Windowed.{Windowed}
use Rattle.lsp_text.proofs.Counting.{units-append, units-utf8_text}
use Rattle.lsp_lined.proofs.LentPlaces.{far_offset, far_none}
use Rattle.lsp_lined.proofs.PartEdits.{units_fit}
use Rattle.lsp_lined.proofs.Parts.{IsUtf8-joined}
use Rattle.lsp_lined.proofs.PartPlaces.{amount-units, place-front, offset-inside, no_offset-inside}
use Rattle.lsp_lined.proofs.PartPlaces.{units-inside, FallsIn}
use Rattle.lsp_lined.proofs.PlainTexts.{units_le_bytes}
use Rattle.lsp_lined.proofs.CutEnds.{boundary_behind}
use Rattle.lsp_lined.proofs.WindowEnds.{front_of, back_of, shown}

-- ---- units

-- the units before a window, in it, and in the text
pub record AreMeasured (w : Windowed) (enc : Encoding) (s : Sums) : Type 0 where
  pub before : amount_in (Units enc) w.before ≡ units enc (chars (front_of w))
  pub window : amount_in (Units enc) s ≡ units enc (chars w.window)
  pub skipped : amount_in (Units enc) w.skipped ≡ units enc (chars (take w.skipped.bytes w.tree))
  pub tree : units enc (chars w.tree)
      ≡ units enc (chars (take w.skipped.bytes w.tree)) + units enc (chars (back_of w))
  pub front : units enc (chars (front_of w ++ w.window))
      ≡ units enc (chars (front_of w)) + units enc (chars w.window)
  pub text : units enc (chars (text_with w))
      ≡ units enc (chars (front_of w)) + units enc (chars w.window)
      + units enc (chars (back_of w))
  pub most : units enc (chars w.tree) ≤ length w.tree
  pub fits : units enc (chars (text_with w)) < 2 ^ 64

units_both : (enc : Encoding) (a c : List ℕ) → IsUtf8 a
    → units enc (chars (a ++ c)) ≡ units enc (chars a) + units enc (chars c)
units_both enc a c u = ap (units enc) (chars-append a c u) ∙ units-append enc (chars a) (chars c)

units_all : (enc : Encoding) (bs : List ℕ) → IsUtf8 bs → units enc (chars bs) ≤ length bs
units_all enc bs u = omega (arith, units_le_bytes enc (chars bs), units-utf8_text bs u)

pub measured : (w : Windowed) (enc : Encoding) (s : Sums) → IsWindowed w → s ≡ sums_of w.window
    → AreMeasured w enc s
measured w enc s h is =
    let v = shown w h in
    let a = front_of w in
    let p = w.window in
    let b = take w.skipped.bytes w.tree in
    let c = back_of w in
    let front = units_both enc a p v.front.utf8 in
    record {
      before = ap (amount_in (Units enc)) h.before ∙ amount-units enc a v.front.utf8;
      window = ap (amount_in (Units enc)) is ∙ amount-units enc p v.window.utf8;
      skipped = ap (amount_in (Units enc)) h.skipped ∙ amount-units enc b v.second.front;
      tree =
          ap (λ (x : List ℕ). units enc (chars x)) (sym v.second.text)
          ∙ units_both enc b c v.second.front;
      front = front;
      text =
          ap (λ (x : List ℕ). units enc (chars x)) (v.text ∙ sym (append_assoc a p c))
          ∙ units_both enc (a ++ p) c v.back.front_utf8
          ∙ ap (λ (n : ℕ). n + units enc (chars c)) front;
      most = units_all enc w.tree h.utf8;
      fits =
          omega (
            arith,
            units_all enc (text_with w) (IsUtf8-joined (pieces_of w) h.parts),
            h.fits,
          );
    }

-- ---- columns

span_before : (bs : List ℕ) (n : ℕ) → bytes_between bs 0 n ≡ take n bs
span_before bs n = let e : n - 0 ≡ n = omega arith in ap (λ (k : ℕ). take k bs) e

span_after : (bs : List ℕ) (n len : ℕ) → len ≡ length bs → bytes_between bs n len ≡ drop n bs
span_after bs n len is = take_all (len - n) (drop n bs) (omega (arith, is, length-drop n bs))

column_in_front : (w : Windowed) (enc : Encoding) (column offset : ℕ) → IsWindowed w
    → column < units enc (chars (front_of w)) → IsOffset enc w.tree column offset
    → IsOffset enc (front_of w) column offset
column_in_front w enc column offset h lt o =
    let t = w.tree in
    let a = front_of w in
    let same : column ≡ 0 + column = omega arith in
    let f = far_offset enc t 0 w.before.bytes column 0 (units enc (chars a)) offset h.utf8
    (omega arith) (IsCharBoundary-start t h.utf8) h.first.boundary
    (ap (units enc) (sym chars-nil)) refl (omega arith)
    (subst (λ (k : ℕ). IsOffset enc t k offset) same o) in
    let at : offset - 0 ≡ offset = omega arith in
    subst (λ (k : ℕ). IsOffset enc a column k) at
    (subst (λ (x : List ℕ). IsOffset enc x column (offset - 0)) (span_before t w.before.bytes)
    f.in_line)

-- **A column that falls before a window is the same in the chunks.**
pub found_in_front : (w : Windowed) (enc : Encoding) (column n : ℕ) (r : Option ℕ) → IsWindowed w
    → n ≡ amount_in (Units enc) w.before → column < n
    → MatchOption r (place_in_line enc (chars w.tree) column ≡ None) (IsOffset enc w.tree column)
    → MatchOption r (place_in_line enc (chars (text_with w)) column ≡ None)
    (IsOffset enc (text_with w) column)
found_in_front w enc column n None h is lt none =
    let v = shown w h in
    let a = front_of w in
    let d = drop w.before.bytes w.tree in
    let c = w.window ++ back_of w in
    let le : column ≤ units enc (chars a) =
    omega (arith, lt, is, (measured w enc (sums_of w.window) h refl).before) in
    ap (λ (x : List ℕ). place_in_line enc (chars x) column) v.text
    ∙ place-front enc a c column v.front.utf8 (inl le)
    ∙ sym (place-front enc a d column v.front.utf8 (inl le))
    ∙ ap (λ (x : List ℕ). place_in_line enc (chars x) column) v.first.text ∙ none
found_in_front w enc column n (Some offset) h is lt o =
    let v = shown w h in
    let a = front_of w in
    let c = w.window ++ back_of w in
    let less : column < units enc (chars a) =
    omega (arith, lt, is, (measured w enc (sums_of w.window) h refl).before) in
    let at : length {A = ℕ} [] + offset ≡ offset = omega arith in
    subst (λ (x : List ℕ). IsOffset enc x column offset) (sym v.text)
    (subst (λ (k : ℕ). IsOffset enc (a ++ c) column k) at
    (offset-inside enc [] a c column column offset v.front
    (record { past = omega (arith, ap (units enc) chars-nil); inside = inl (omega arith) })
    (column_in_front w enc column offset h less o)))

-- **One in the window is one of the text,**
falls_in_window : (w : Windowed) (enc : Encoding) (s : Sums) (column n m : ℕ) → IsWindowed w
    → s ≡ sums_of w.window → n ≡ amount_in (Units enc) w.before
    → m ≡ amount_in (Units enc) s → n ≤ column → column - n < m
    → FallsIn enc (front_of w) w.window (back_of w) column (column - n)
falls_in_window w enc s column n m h is first second le lt =
    let k = measured w enc s h is in
    record {
      past = omega (arith, k.before, first);
      inside = inl (omega (arith, k.window, second));
    }

pub found_in_window : (w : Windowed) (enc : Encoding) (s : Sums) (column n m offset : ℕ)
    → IsWindowed w → s ≡ sums_of w.window → n ≡ amount_in (Units enc) w.before
    → m ≡ amount_in (Units enc) s → n ≤ column → column - n < m
    → IsOffset enc w.window (column - n) offset
    → IsOffset enc (text_with w) column (w.before.bytes + offset)
found_in_window w enc s column n m offset h is first second le lt o =
    let v = shown w h in
    let a = front_of w in
    let p = w.window in
    let c = back_of w in
    subst (λ (x : List ℕ). IsOffset enc x column (w.before.bytes + offset)) (sym v.text)
    (subst (λ (k : ℕ). IsOffset enc (a ++ (p ++ c)) column (k + offset)) v.first.len
    (offset-inside enc a p c column (column - n) offset v.window
    (falls_in_window w enc s column n m h is first second le lt) o))

pub none_in_window : (w : Windowed) (enc : Encoding) (s : Sums) (column n m : ℕ)
    → IsWindowed w → s ≡ sums_of w.window → n ≡ amount_in (Units enc) w.before
    → m ≡ amount_in (Units enc) s → n ≤ column → column - n < m
    → place_in_line enc (chars w.window) (column - n) ≡ None
    → place_in_line enc (chars (text_with w)) column ≡ None
none_in_window w enc s column n m h is first second le lt none =
    let v = shown w h in
    ap (λ (x : List ℕ). place_in_line enc (chars x) column) v.text
    ∙ no_offset-inside enc (front_of w) w.window (back_of w) column (column - n) v.window
    (falls_in_window w enc s column n m h is first second le lt) none

-- a column after the window: the units before the window, in it, and before what follows it
pub record IsColumnAfter (w : Windowed) (enc : Encoding) (s : Sums) (column n m k : ℕ)
    : Type 0 where
  pub sums : s ≡ sums_of w.window
  pub before : n ≡ amount_in (Units enc) w.before
  pub window : m ≡ amount_in (Units enc) s
  pub skipped : k ≡ amount_in (Units enc) w.skipped
  pub first : n ≤ column
  pub second : m ≤ column - n
  pub within : column < units enc (chars (text_with w))

-- the column in what follows
record IsLeft (w : Windowed) (enc : Encoding) (column n m k : ℕ) : Type 0 where
  skipped : k ≡ units enc (chars (take w.skipped.bytes w.tree))
  sum : column - n - m + k ≡ k + (column - n - m)
  less : column - n - m < units enc (chars (take (length w.tree) w.tree)) - k
  past : units enc (chars (front_of w ++ w.window)) + (column - n - m) ≡ column
  fits : column - n - m + k < length w.tree

left_of : (w : Windowed) (enc : Encoding) (s : Sums) (column n m k : ℕ) → IsWindowed w
    → IsColumnAfter w enc s column n m k → IsLeft w enc column n m k
left_of w enc s column n m k h at =
    let d = measured w enc s h at.sums in
    let skipped : k ≡ units enc (chars (take w.skipped.bytes w.tree)) = at.skipped ∙ d.skipped in
    let all = ap (λ (x : List ℕ). units enc (chars x))
    (take_all (length w.tree) w.tree (omega arith)) in
    let here : n + m ≡ units enc (chars (front_of w ++ w.window)) =
    omega (arith, at.before, at.window, d.before, d.window, d.front) in
    let first = at.first in
    let second = at.second in
    let left : column - n - m < units enc (chars (back_of w)) =
    omega (arith, here, d.front, d.text, at.within) in
    record {
      skipped = skipped;
      sum = omega arith;
      less = omega (arith, left, all, d.tree, skipped);
      past = omega (arith, here);
      fits = omega (arith, left, d.tree, skipped, d.most);
    }

pub column_fits : (w : Windowed) (enc : Encoding) (s : Sums) (column n m k : ℕ) → IsWindowed w
    → IsColumnAfter w enc s column n m k → column - n - m + k < length w.tree
column_fits w enc s column n m k h at = (left_of w enc s column n m k h at).fits

pub record IsOffsetAfter (w : Windowed) (enc : Encoding) (s : Sums) (column offset : ℕ)
    : Type 0 where
  pub order : w.skipped.bytes ≤ offset
  pub at : IsOffset enc (text_with w) column (offset - w.skipped.bytes + (w.before.bytes + s.bytes))

-- **and so is one after the window.**
pub found_after : (w : Windowed) (enc : Encoding) (s : Sums) (column n m k offset : ℕ)
    → IsWindowed w → IsColumnAfter w enc s column n m k
    → IsOffset enc w.tree (column - n - m + k) offset → IsOffsetAfter w enc s column offset
found_after w enc s column n m k offset h at o =
    let v = shown w h in
    let t = w.tree in
    let whole = front_of w ++ w.window in
    let c = back_of w in
    let left = column - n - m in
    let l = left_of w enc s column n m k h at in
    let f = far_offset enc t w.skipped.bytes (length t) left k
    (units enc (chars (take (length t) t))) offset h.utf8 h.second.boundary.0 h.second.boundary
    (IsCharBoundary-end t) l.skipped refl l.less
    (subst (λ (i : ℕ). IsOffset enc t i offset) l.sum o) in
    let there : IsOffset enc c left (offset - w.skipped.bytes) =
    subst (λ (x : List ℕ). IsOffset enc x left (offset - w.skipped.bytes))
    (span_after t w.skipped.bytes (length t) refl) f.in_line in
    let sum : length whole + (offset - w.skipped.bytes)
    ≡ offset - w.skipped.bytes + (w.before.bytes + s.bytes) =
    omega (
      arith,
      length-append (front_of w) w.window,
      v.first.len,
      ap (λ (x : Sums). x.bytes) at.sums,
    ) in
    record {
      order = f.order;
      at =
          subst (λ (x : List ℕ). IsOffset enc x column
          (offset - w.skipped.bytes + (w.before.bytes + s.bytes))) (sym v.behind)
          (subst (λ (i : ℕ). IsOffset enc (whole ++ (c ++ [])) column i) sum
          (offset-inside enc whole c [] column left (offset - w.skipped.bytes) v.back
          (record { past = l.past; inside = inr refl }) there));
    }

pub none_after : (w : Windowed) (enc : Encoding) (s : Sums) (column n m k : ℕ)
    → IsWindowed w → IsColumnAfter w enc s column n m k
    → place_in_line enc (chars w.tree) (column - n - m + k) ≡ None
    → place_in_line enc (chars (text_with w)) column ≡ None
none_after w enc s column n m k h at none =
    let v = shown w h in
    let t = w.tree in
    let left = column - n - m in
    let l = left_of w enc s column n m k h at in
    let f = far_none enc t w.skipped.bytes (length t) left k
    (units enc (chars (take (length t) t))) h.utf8 h.second.boundary.0 h.second.boundary
    (IsCharBoundary-end t) l.skipped refl l.less
    (ap (place_in_line enc (chars t)) (sym l.sum) ∙ none) in
    let there : place_in_line enc (chars (back_of w)) left ≡ None =
    ap (λ (x : List ℕ). place_in_line enc (chars x) left)
    (sym (span_after t w.skipped.bytes (length t) refl)) ∙ f in
    ap (λ (x : List ℕ). place_in_line enc (chars x) column) v.behind
    ∙ no_offset-inside enc (front_of w ++ w.window) (back_of w) [] column left v.back
    (record { past = l.past; inside = inr refl }) there

-- ---- the units before a place

-- a place of the text
pub record IsPlaced (w : Windowed) (place : ℕ) : Type 0 where
  pub held : IsWindowed w
  pub boundary : IsCharBoundary (text_with w) place

pub units_most : (w : Windowed) (enc : Encoding) (place : ℕ) → IsPlaced w place
    → units enc (chars (take place (text_with w))) < 2 ^ 64
units_most w enc place h =
    omega (arith, units_fit enc (pieces_of w) place h.held.parts h.boundary, h.held.fits)

-- in a window
pub units_in_window : (w : Windowed) (enc : Encoding) (place : ℕ) → IsPlaced w place
    → w.before.bytes ≤ place → place - w.before.bytes ≤ length w.window
    → units enc (chars (take place (text_with w)))
    ≡ amount_in (Units enc) w.before
    + units enc (chars (take (place - w.before.bytes) w.window))
units_in_window w enc place h le within =
    let v = shown w h.held in
    let a = front_of w in
    let p = w.window in
    let c = back_of w in
    let i = place - w.before.bytes in
    let sum : place ≡ length a + i = omega (arith, v.first.len) in
    let k = measured w enc (sums_of p) h.held refl in
    ap (λ (x : List ℕ). units enc (chars (take place x))) v.text
    ∙ ap (λ (n : ℕ). units enc (chars (take n (a ++ (p ++ c))))) sum
    ∙ units-inside enc a p c i v.front.utf8 within
    ∙ ap (λ (n : ℕ). n + units enc (chars (take i p))) (sym k.before)

-- after it: the place in the chunks
pub record IsPlaceAfter (w : Windowed) (s : Sums) (place at : ℕ) : Type 0 where
  pub boundary : IsCharBoundary w.tree at
  pub counted : (enc : Encoding) → units enc (chars (take place (text_with w)))
      + amount_in (Units enc) w.skipped
      ≡ amount_in (Units enc) w.before + amount_in (Units enc) s
      + units enc (chars (take at w.tree))
  pub skipped : (enc : Encoding)
      → amount_in (Units enc) w.skipped ≤ units enc (chars (take at w.tree))

pub place_after : (w : Windowed) (s : Sums) (place at : ℕ) → IsPlaced w place
    → s ≡ sums_of w.window → w.before.bytes ≤ place → s.bytes ≤ place - w.before.bytes
    → at ≡ place - w.before.bytes - s.bytes + w.skipped.bytes → IsPlaceAfter w s place at
place_after w s place at h is first second at_is =
    let v = shown w h.held in
    let t = w.tree in
    let whole = front_of w ++ w.window in
    let b = take w.skipped.bytes t in
    let c = back_of w in
    let nil : c ++ [] ≡ c = append-nil c in
    let j = place - w.before.bytes - s.bytes in
    let size : length whole ≡ w.before.bytes + s.bytes =
    omega (
      arith,
      length-append (front_of w) w.window,
      v.first.len,
      ap (λ (x : Sums). x.bytes) is,
    ) in
    let sum : place ≡ length whole + j = omega arith in
    let back : w.skipped.bytes + j ≡ at = omega arith in
    let there : IsCharBoundary (whole ++ (c ++ [])) (length whole + j) =
    subst (λ (i : ℕ). IsCharBoundary (whole ++ (c ++ [])) i) sum
    (subst (λ (x : List ℕ). IsCharBoundary x place) v.behind h.boundary) in
    let here : IsCharBoundary c j =
    subst (λ (x : List ℕ). IsCharBoundary x j) nil (boundary_behind whole (c ++ []) j there) in
    let taken : take at t ≡ b ++ take j c =
    ap (λ (i : ℕ). take i t) (sym back) ∙ take-add w.skipped.bytes j t in
    let units_there : (enc : Encoding) → units enc (chars (take at t))
    ≡ amount_in (Units enc) w.skipped + units enc (chars (take j c)) =
    λ enc.
    ap (λ (x : List ℕ). units enc (chars x)) taken ∙ units_both enc b (take j c) v.second.front
    ∙ ap (λ (n : ℕ). n + units enc (chars (take j c)))
    (sym (measured w enc s h.held is).skipped) in
    let units_here : (enc : Encoding) → units enc (chars (take place (text_with w)))
    ≡ units enc (chars whole) + units enc (chars (take j c)) =
    λ enc.
    ap (λ (x : List ℕ). units enc (chars (take place x))) v.behind
    ∙ ap (λ (n : ℕ). units enc (chars (take n (whole ++ (c ++ []))))) sum
    ∙ units-inside enc whole c [] j v.back.front_utf8 here.0 in
    record {
      boundary =
          subst (λ (i : ℕ). IsCharBoundary t i) back
          (IsCharBoundary-from_rest t w.skipped.bytes j h.held.second.boundary.0 here);
      counted = λ enc.
          let k = measured w enc s h.held is in
          omega (arith, units_here enc, units_there enc, k.front, k.before, k.window);
      skipped = λ enc. omega (arith, units_there enc);
    }

-- ---- the text as it is read on

-- what of the chunks comes before the window and after it
pub record AreSpans (w : Windowed) (len : ℕ) : Type 0 where
  pub first : IsSpan w.tree 0 w.before.bytes
  pub second : IsSpan w.tree w.skipped.bytes len
  pub text : text_with w ≡ bytes_between w.tree 0 w.before.bytes
      ++ (w.window ++ bytes_between w.tree w.skipped.bytes len)
  pub apart : joins (bytes_between w.tree 0 w.before.bytes)
      (w.window ++ bytes_between w.tree w.skipped.bytes len) ≡ false
  pub window_apart : joins w.window (bytes_between w.tree w.skipped.bytes len) ≡ false

pub spans : (w : Windowed) (len : ℕ) → IsWindowed w → len ≡ length w.tree → AreSpans w len
spans w len h is =
    let v = shown w h in
    let t = w.tree in
    let a = front_of w in
    let p = w.window in
    let c = back_of w in
    let before : bytes_between t 0 w.before.bytes ≡ a = span_before t w.before.bytes in
    let after : bytes_between t w.skipped.bytes len ≡ c = span_after t w.skipped.bytes len is in
    let start : IsSeam t 0 = record { boundary = IsCharBoundary-start t h.utf8; apart = refl } in
    let nothing : drop (length t) t ≡ [] = drop_all (length t) t (omega arith) in
    let end : IsSeam t (length t) =
    record {
      boundary = IsCharBoundary-end t;
      apart =
          ap (joins (take (length t) t)) nothing
          ∙ and_right (ends_with_return false (take (length t) t)) false refl;
    }
    in
    record {
      first =
          record {
            order = omega arith;
            first = start;
            second = h.first;
            utf8 = h.utf8;
            fits = h.tree_fits;
          };
      second =
          record {
            order = omega (arith, h.second.boundary.0, is);
            first = h.second;
            second = subst (λ (n : ℕ). IsSeam t n) (sym is) end;
            utf8 = h.utf8;
            fits = h.tree_fits;
          };
      text =
          v.text ∙ ap (λ (x : List ℕ). x ++ (p ++ c)) (sym before)
          ∙ ap (λ (x : List ℕ). bytes_between t 0 w.before.bytes ++ (p ++ x)) (sym after);
      apart = ap₂ (λ (x y : List ℕ). joins x (p ++ y)) before after ∙ v.front.back_apart;
      window_apart = ap (joins p) after ∙ v.window.back_apart;
    }
