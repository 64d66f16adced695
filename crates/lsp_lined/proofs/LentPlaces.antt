-- Places of a lent line, and of the positions that fall in it.
use Rattle.std.proofs.Common.{◌≡◌, ◌<◌, ◌≤◌, ◌+◌, ◌-◌, ℕ, Bool, true, List, [], ◌∷◌, ◌++◌, length}
use Rattle.std.proofs.Common.{take, drop, min, Option, Some, None, MatchOption, refl, sym, ap}
use Rattle.std.proofs.Common.{subst, ◌∙◌, arith, take-add}
use Rattle.std.specs.Option.{option_map}
use Rattle.std.proofs.lemmas.List.{take-append-drop, take_at, drop_at, take-append-le}
use Rattle.std.proofs.lemmas.List.{drop_more, take_all}
use Rattle.std.specs.Str.{chars, IsUtf8, IsCharBoundary}
use Rattle.std.proofs.lemmas.Str.{IsUtf8-nil, IsUtf8-drop}
use Rattle.std.proofs.lemmas.Str.{IsCharBoundary-end, IsCharBoundary-from_take}
use lib.Utf8.{encodes}
use Rattle.lsp_types.specs.declared.position.Encoding.{Encoding}
use Rattle.lsp_types.specs.declared.position.Encoding.TheVariants.{Utf8}
use Rattle.lsp_types.specs.declared.position.Position.{Position}
use Rattle.lsp_text.specs.Lines.{Line, open_line, spelled, lines_of}
use Rattle.lsp_text.specs.Places.{units, place_in_line, place_of, place_at}
use Rattle.lsp_text.specs.Offsets.{IsOffset, IsTextOffset}
use Rattle.lsp_text.proofs.Counting.{units-append, units-utf8, units-utf8_text, is_offset}
use Rattle.lsp_text.proofs.Denoting.{place_in_line-sound}
use Rattle.lsp_text.proofs.Positions.{IsLineAt, place_in_text, offset_in_text, slice_get-past}
use Rattle.lsp_text.proofs.Positions.{text_of-lines_of}
use Rattle.lsp_text.proofs.Splices.{chars-cut}
use Rattle.lsp_text.proofs.Widths.{place_in_line-append, is_front}
use Rattle.lsp_lined.specs.Ends.{IsNear}
use Rattle.lsp_lined.specs.Steps.{line_bytes, line_number}
use Rattle.lsp_lined.specs.LentLines.{IsOffsetFrom, NoOffsetFrom, IsOffsetIn}
use Rattle.lsp_lined.specs.LentLines.{NoOffsetIn, IsHeldLine, IsLentLine}
use Rattle.lsp_text.specs.Spans.{bytes_between}
use Rattle.lsp_lined.specs.Windows.{pieces_of, text_with}
use Rattle.lsp_lined.specs.declared.lined.lines.LentLine.{LentLine}
use Rattle.lsp_lined.proofs.PartPlaces.{place_in_line-before}
use Rattle.lsp_lined.proofs.PlainTexts.{offset_at_end, plain_offset, plain_part}
use Rattle.lsp_lined.proofs.Parts.{IsUtf8-joined}
use Rattle.lsp_lined.proofs.PartEdits.{units_fit}
use Rattle.lsp_text.proofs.CommonEnds.{IsUtf8-rest}
use Rattle.lsp_text.proofs.Spans.{IsAround, around}

-- ---- a line over several blocks

unmapped_none : (n : ℕ) (o : Option ℕ) → option_map (λ (k : ℕ). n + k) o ≡ None → o ≡ None
unmapped_none n None h = refl
unmapped_none n (Some k) h = absurd (cc)

record IsMapped (n m : ℕ) (o : Option ℕ) : Type 0 where
  at : ℕ
  is : o ≡ Some at
  sum : m ≡ n + at

some_same : (a b : ℕ) → Some a ≡ Some b → a ≡ b
some_same a b h = cc

unmapped_some : (n m : ℕ) (o : Option ℕ) → option_map (λ (k : ℕ). n + k) o ≡ Some m → IsMapped n m o
unmapped_some n m None h = absurd (cc)
unmapped_some n m (Some k) h = record { at = k; is = refl; sum = sym (some_same (n + k) m h) }

both_parts : (a m c : List ℕ) (j : ℕ) → j ≤ length m
    → take (length a) (a ++ (m ++ c)) ++ take j (drop (length a) (a ++ (m ++ c))) ≡ a ++ take j m
both_parts a m c j le =
    ap (λ (x : List ℕ). x ++ take j (drop (length a) (a ++ (m ++ c))))
    (take_at a (m ++ c) (length a) refl)
    ∙ ap (λ (x : List ℕ). a ++ x)
    (ap (take j) (drop_at a (m ++ c) (length a) refl) ∙ take-append-le j m c le)

-- a column of the line, as one of the whole text
far_place : (enc : Encoding) (bs : List ℕ) (start end column before : ℕ) → IsAround bs start end
    → before ≡ units enc (chars (take start bs))
    → column ≤ units enc (chars (bytes_between bs start end)) →
    place_in_line enc (chars bs) (before + column)
    ≡ option_map (λ (k : ℕ). length (chars (take start bs)) + k)
    (place_in_line enc (chars (bytes_between bs start end)) column)
far_place enc bs start end column before h is le =
    let a = chars (take start bs) in
    let m = chars (bytes_between bs start end) in
    let c = chars (drop end bs) in
    ap (λ (x : List ℕ). place_in_line enc x (before + column)) h.chars_are
    ∙ place_in_line-append enc a (m ++ c) (before + column) column (omega (arith, is))
    ∙ ap (option_map (λ (k : ℕ). length a + k)) (place_in_line-before enc m c column le)

pub far_none : (enc : Encoding) (bs : List ℕ) (start end column before through : ℕ) → IsUtf8 bs
    → start ≤ end → IsCharBoundary bs start → IsCharBoundary bs end →
    before ≡ units enc (chars (take start bs)) → through ≡ units enc (chars (take end bs))
    → column < through - before → place_in_line enc (chars bs) (before + column) ≡ None
    → NoOffsetFrom enc bs start end column
far_none enc bs start end column before through u le first second b t lt none =
    let h = around bs start end u le first second in
    let m = chars (bytes_between bs start end) in
    let wide : column ≤ units enc m =
    omega (arith, ap (units enc) h.chars_to, units-append enc (chars (take start bs)) m) in
    unmapped_none (length (chars (take start bs))) (place_in_line enc m column)
    (sym (far_place enc bs start end column before h b wide) ∙ none)

pub far_offset : (enc : Encoding) (bs : List ℕ) (start end column before through offset : ℕ)
    → IsUtf8 bs → start ≤ end → IsCharBoundary bs start → IsCharBoundary bs end →
    before ≡ units enc (chars (take start bs)) → through ≡ units enc (chars (take end bs))
    → column < through - before → IsOffset enc bs (before + column) offset
    → IsOffsetFrom enc bs start end column offset
far_offset enc bs start end column before through offset u le first second b t lt o =
    let h = around bs start end u le first second in
    let a = chars (take start bs) in
    let m = chars (bytes_between bs start end) in
    let c = chars (drop end bs) in
    let k = length (chars (take offset bs)) in
    let wide : column ≤ units enc m =
    omega (arith, ap (units enc) h.chars_to, units-append enc a m) in
    let found = unmapped_some (length a) k (place_in_line enc m column)
    (sym (far_place enc bs start end column before h b wide) ∙ o.place) in
    let j = found.at in
    let here = place_in_line-sound enc m column j found.is in
    let within : j ≤ length m = here.within in
    let front = is_front bs offset u o.boundary in
    let start_front = is_front bs start u first in
    let sum : k ≡ length a + j = found.sum in
    let cut : take k (chars bs) ≡ a ++ take j m =
    ap (λ (n : ℕ). take n (chars bs)) sum ∙ ap (take (length a + j)) h.chars_are
    ∙ take-add (length a) j (a ++ (m ++ c))
    ∙ both_parts a m c j within in
    let bytes : offset ≡ units Utf8 a + units Utf8 (take j m) =
    sym front.bytes ∙ ap (units Utf8) (sym front.front ∙ cut)
    ∙ units-append Utf8 a (take j m) in
    let order : start ≤ offset = omega (arith, start_front.bytes) in
    let rest : offset - start ≡ length (encodes (take j m)) =
    omega (arith, start_front.bytes, units-utf8 (take j m)) in
    record {
      order = order;
      in_line = is_offset enc (bytes_between bs start end) column j (offset - start) h.utf8 within
          rest found.is;
    }

pub far_end : (enc : Encoding) (bs : List ℕ) (start end column before through : ℕ) → IsUtf8 bs
    → start ≤ end → IsCharBoundary bs start → IsCharBoundary bs end →
    before ≡ units enc (chars (take start bs)) → through ≡ units enc (chars (take end bs))
    → through - before ≤ column → IsOffsetFrom enc bs start end column end
far_end enc bs start end column before through u le first second b t wide =
    let h = around bs start end u le first second in
    let m = chars (bytes_between bs start end) in
    let width : through - before ≡ units enc m =
    omega (arith, ap (units enc) h.chars_to, units-append enc (chars (take start bs)) m) in
    record {
      order = le;
      in_line = subst (λ (x : ℕ). IsOffset enc (bytes_between bs start end) column x) h.len
          (offset_at_end enc (bytes_between bs start end) column (through - before) width wide);
    }

-- ---- a line that stands near

pub record IsNearLine (bs : List ℕ) (start end : ℕ) (near : List ℕ) (is_plain : Bool) : Type 0 where
  pub text : take (end - start) near ≡ bytes_between bs start end
  pub boundary : IsCharBoundary near (end - start)
  pub plain : is_plain ≡ true
      → length (chars (bytes_between bs start end)) ≡ length (bytes_between bs start end)

pub near_line : (bs : List ℕ) (start end : ℕ) (near : List ℕ) (is_plain : Bool) → IsUtf8 bs
    → start ≤ end → IsCharBoundary bs start → IsCharBoundary bs end
    → IsNear (drop start bs) near is_plain →
    end - start ≤ length near → IsNearLine bs start end near is_plain
near_line bs start end near is_plain u le first second n within =
    let h = around bs start end u le first second in
    let len = end - start in
    let m = bytes_between bs start end in
    let text : take len near ≡ m =
    sym (ap (take len) n.begins ∙ take-append-le len near n.more within) in
    let um : IsUtf8 (take len near) = subst IsUtf8 (sym text) h.utf8 in
    let whole : take len near ++ drop len near ≡ near = take-append-drop len near in
    let rest : IsUtf8 (drop len near) =
    IsUtf8-rest (take len near) near (drop len near) um n.utf8 (sym whole) in
    record {
      text = text;
      boundary = IsCharBoundary-from_take near len n.utf8 within um;
      plain =
          λ p.
          let all : [] ++ (take len near ++ drop len near) ≡ near = whole in
          ap (λ (x : List ℕ). length (chars x)) (sym text)
          ∙ plain_part [] (take len near) (drop len near) IsUtf8-nil um rest
          (ap (λ (x : List ℕ). length (chars x)) all ∙ n.plain p ∙ ap length (sym all))
          ∙ ap length text;
    }

-- a place in the line, as one of the text
pub from_start : (enc : Encoding) (bs : List ℕ) (start end column offset : ℕ)
    → IsOffset enc (bytes_between bs start end) column offset
    → IsOffsetFrom enc bs start end column (start + offset)
from_start enc bs start end column offset o =
    let e : offset ≡ start + offset - start = omega arith in
    record {
      order = omega arith;
      in_line = subst (λ (x : ℕ). IsOffset enc (bytes_between bs start end) column x) e o;
    }

pub near_plain : (enc : Encoding) (bs : List ℕ) (start end column offset : ℕ) (near : List ℕ)
    (is_plain : Bool) → IsUtf8 bs → start ≤ end → IsCharBoundary bs start → IsCharBoundary bs end
    → IsNear (drop start bs) near is_plain →
    end - start ≤ length near → is_plain ≡ true → offset ≡ min (end - start) column
    → IsOffsetFrom enc bs start end column (start + offset)
near_plain enc bs start end column offset near is_plain u le first second n within p is =
    let h = around bs start end u le first second in
    let k = near_line bs start end near is_plain u le first second n within in
    from_start enc bs start end column offset
    (plain_offset enc (bytes_between bs start end) column offset h.utf8 (k.plain p)
    (is ∙ ap (λ (x : ℕ). min x column) (sym h.len)))

-- ---- positions

lent_end : (bs : List ℕ) (i : ℕ) (l : LentLine) → IsLentLine bs i l → IsCharBoundary bs l.end
lent_end bs i l h = subst (λ (x : List ℕ). IsCharBoundary x l.end) h.text h.held.end

lent_line : (bs : List ℕ) (i : ℕ) (l : LentLine) → IsUtf8 bs → IsLentLine bs i l
    → IsLineAt bs i l.start (bytes_between bs l.start l.end)
lent_line bs i l u h =
    let ls = lines_of (chars bs) in
    let first = h.at.boundary in
    let second = lent_end bs i l h in
    let k = around bs l.start l.end u h.held.order first second in
    record {
      end = chars (bytes_between bs l.end l.after);
      more = drop (i + 1) ls;
      is = drop_more ls i (open_line []) h.number ∙ ap (λ (x : Line). x ∷ drop (i + 1) ls) h.line;
      tail = drop l.end bs;
      split = k.text;
      utf8 = k.utf8;
      tail_utf8 = IsUtf8-drop bs l.end u second;
    }

pub place_in_lent : (enc : Encoding) (bs : List ℕ) (p : Position) (i offset : ℕ) (l : LentLine)
    → IsUtf8 bs → IsLentLine bs i l → i ≡ p.line → IsOffsetFrom enc bs l.start l.end p.column offset
    → IsTextOffset enc bs p offset
place_in_lent enc bs p i offset l u h e o =
    let order = o.order in
    let sum : l.start + (offset - l.start) ≡ offset = omega arith in
    subst (λ (x : ℕ). IsTextOffset enc bs p x) sum
    (offset_in_text enc bs p i l.start (drop l.start bs) (bytes_between bs l.start l.end)
    (offset - l.start) u h.at (lent_line bs i l u h) e o.in_line)

pub none_in_lent : (enc : Encoding) (bs : List ℕ) (p : Position) (i : ℕ) (l : LentLine) → IsUtf8 bs
    → IsLentLine bs i l → i ≡ p.line → NoOffsetFrom enc bs l.start l.end p.column
    → place_of enc (chars bs) p ≡ None
none_in_lent enc bs p i l u h e none =
    place_in_text enc bs p i l.start (drop l.start bs) (bytes_between bs l.start l.end) h.at
    (lent_line bs i l u h) e
    ∙ ap (option_map (λ (k : ℕ). length (chars (take l.start bs)) + k)) none

-- a position past the last line
pub place_past : (enc : Encoding) (bs : List ℕ) (p : Position) (n len : ℕ)
    → n ≡ line_number (chars bs) p → n < p.line → len ≡ length bs → IsTextOffset enc bs p len
place_past enc bs p n len is lt l =
    let ls = lines_of (chars bs) in
    let short : length ls ≤ p.line = omega arith in
    let made : IsTextOffset enc bs p (length bs) =
    record {
      boundary = IsCharBoundary-end bs;
      place =
          ap (place_at enc ls p) (slice_get-past ls p.line short)
          ∙ ap (λ (x : List ℕ). Some (length x))
          (text_of-lines_of (chars bs) ∙ ap chars (sym (take_all (length bs) bs (omega arith))));
    } in
    subst (λ (x : ℕ). IsTextOffset enc bs p x) (sym l) made

-- the bytes of a lent line
pub lent_bytes : (bs : List ℕ) (i : ℕ) (l : LentLine) → IsUtf8 bs → IsLentLine bs i l
    → l.after - l.start ≡ line_bytes (chars bs) i
lent_bytes bs i l u h =
    let first = h.at.boundary in
    let second = lent_end bs i l h in
    let order = h.held.order in
    let end_order = h.end_order in
    let m = bytes_between bs l.start l.end in
    let e = bytes_between bs l.end l.after in
    let body = around bs l.start l.end u order first second in
    let end = around bs l.end l.after u end_order second h.after in
    omega (
      arith,
      body.len,
      end.len,
      units-utf8_text m body.utf8,
      units-utf8_text e end.utf8,
      ap (λ (x : Line). units Utf8 (spelled x)) h.line,
      units-append Utf8 (chars m) (chars e),
    )

pub held_utf8 : (l : LentLine) → IsHeldLine l → IsUtf8 (text_with l.held.now)
held_utf8 l h = IsUtf8-joined (pieces_of l.held.now) h.held.parts

pub lent_utf8 : (bs : List ℕ) (i : ℕ) (l : LentLine) → IsLentLine bs i l → IsUtf8 bs
lent_utf8 bs i l h = subst IsUtf8 h.text (held_utf8 l h.held)

-- a position in a lent line, or that it lies inside a character
pub found_in_lent : (enc : Encoding) (bs : List ℕ) (p : Position) (i : ℕ) (l : LentLine)
    (r : Option ℕ) → IsLentLine bs i l → i ≡ p.line
    → MatchOption r (NoOffsetIn enc l p.column) (IsOffsetIn enc l p.column) →
    MatchOption r (place_of enc (chars bs) p ≡ None) (IsTextOffset enc bs p)
found_in_lent enc bs p i l None h e none =
    none_in_lent enc bs p i l (lent_utf8 bs i l h) h e
    (subst (λ (x : List ℕ). NoOffsetFrom enc x l.start l.end p.column) h.text none)
found_in_lent enc bs p i l (Some offset) h e o =
    place_in_lent enc bs p i offset l (lent_utf8 bs i l h) h e
    (subst (λ (x : List ℕ). IsOffsetFrom enc x l.start l.end p.column offset) h.text o)

-- the number of a position's line, where it is no less than its own
pub same_number : (t : List ℕ) (p : Position) (n : ℕ) → n ≡ line_number t p → p.line ≤ n
    → n ≡ p.line
same_number t p n is le = omega arith

-- ---- a line of what is held

-- the units before and through a line, in the text that is held
pub record IsFarLine (enc : Encoding) (l : LentLine) (before through : ℕ) : Type 0 where
  pub utf8 : IsUtf8 (text_with l.held.now)
  pub before_is : before ≡ units enc (chars (take l.start (text_with l.held.now)))
  pub through_is : through ≡ units enc (chars (take l.end (text_with l.held.now)))
  pub order : before ≤ through
  pub most : through ≤ length (text_with l.held.now)

pub far_line : (enc : Encoding) (l : LentLine) (before through : ℕ) → IsHeldLine l
    → before ≡ units enc (chars (take l.start (text_with l.held.now)))
    → through ≡ units enc (chars (take l.end (text_with l.held.now)))
    → IsFarLine enc l before through
far_line enc l before through h b t =
    let bs = text_with l.held.now in
    let u = held_utf8 l h in
    let a = around bs l.start l.end u h.order h.start h.end in
    record {
      utf8 = u;
      before_is = b;
      through_is = t;
      order = omega (
        arith,
        b,
        t,
        ap (units enc) a.chars_to,
        units-append enc (chars (take l.start bs)) (chars (bytes_between bs l.start l.end)),
      );
      most = omega (arith, t, units_fit enc (pieces_of l.held.now) l.end h.held.parts h.end);
    }

-- a column before the end of the line is within the text
pub far_within : (enc : Encoding) (l : LentLine) (column before through : ℕ) → IsHeldLine l
    → IsFarLine enc l before through → column < through - before
    → before + column < units enc (chars (text_with l.held.now))
far_within enc l column before through h f lt =
    let bs = text_with l.held.now in
    omega (
      arith,
      f.through_is,
      f.order,
      ap (units enc) (chars-cut bs l.end f.utf8 h.end),
      units-append enc (chars (take l.end bs)) (chars (drop l.end bs)),
    )

pub past_far : (enc : Encoding) (l : LentLine) (column before through : ℕ) → IsHeldLine l
    → IsFarLine enc l before through → through - before ≤ column → IsOffsetIn enc l column l.end
past_far enc l column before through h f le =
    far_end enc (text_with l.held.now) l.start l.end column before through f.utf8 h.order h.start
    h.end f.before_is f.through_is le

pub in_far : (enc : Encoding) (l : LentLine) (column before through : ℕ) (text : List ℕ)
    (r : Option ℕ) → IsHeldLine l → IsFarLine enc l before through → column < through - before
    → text ≡ text_with l.held.now →
    MatchOption r (place_in_line enc (chars text) (before + column) ≡ None)
    (IsOffset enc text (before + column))
    → MatchOption r (NoOffsetIn enc l column) (IsOffsetIn enc l column)
in_far enc l column before through text None h f lt same none =
    far_none enc (text_with l.held.now) l.start l.end column before through f.utf8 h.order h.start
    h.end f.before_is f.through_is lt
    (ap (λ (x : List ℕ). place_in_line enc (chars x) (before + column)) (sym same) ∙ none)
in_far enc l column before through text (Some offset) h f lt same o =
    far_offset enc (text_with l.held.now) l.start l.end column before through offset f.utf8 h.order
    h.start h.end f.before_is f.through_is lt
    (subst (λ (x : List ℕ). IsOffset enc x (before + column) offset) same o)

-- a line that stands near
pub near_in : (l : LentLine) → IsHeldLine l → l.end - l.start ≤ length l.near.now
    → IsNearLine (text_with l.held.now) l.start l.end l.near.now l.is_plain
near_in l h within = near_line (text_with l.held.now) l.start l.end l.near.now l.is_plain
    (held_utf8 l h) h.order h.start h.end h.near within

-- a place in the part that is the line
pub offset_in : (enc : Encoding) (l : LentLine) (line : List ℕ) (column offset : ℕ) → IsHeldLine l
    → l.end - l.start ≤ length l.near.now → line ≡ take (l.end - l.start) l.near.now
    → IsOffset enc line column offset → IsOffsetIn enc l column (l.start + offset)
offset_in enc l line column offset h within is o =
    from_start enc (text_with l.held.now) l.start l.end column offset
    (subst (λ (x : List ℕ). IsOffset enc x column offset) (is ∙ (near_in l h within).text) o)

pub plain_in : (enc : Encoding) (l : LentLine) (column offset : ℕ) → IsHeldLine l
    → l.end - l.start ≤ length l.near.now → l.is_plain ≡ true
    → offset ≡ min (l.end - l.start) column → IsOffsetIn enc l column (l.start + offset)
plain_in enc l column offset h within p is =
    near_plain enc (text_with l.held.now) l.start l.end column offset l.near.now l.is_plain
    (held_utf8 l h) h.order h.start h.end h.near within p is
