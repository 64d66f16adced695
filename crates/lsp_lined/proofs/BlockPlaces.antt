-- What a block's places and sums say of its text.
use Rattle.std.proofs.Common.{◌≡◌, ◌<◌, ◌≤◌, ◌+◌, ◌-◌, ◌^◌, ◌&&◌, not, ⊎_elim, ℕ, false, true, List, [], ◌++◌, length, map, take, drop, get_or, refl, sym, ap, subst, ◌∙◌, arith, take-add}
use Rattle.std.specs.List.{replace_range}
use Rattle.std.specs.Prelude.{EachIndex, slice_index}
use Rattle.std.proofs.lemmas.List.{append-nil, take-append-drop, get_or_default, take_all}
use Rattle.std.proofs.lemmas.Bool.{eqb-true, or_cases}
use Rattle.std.specs.Str.{chars, IsUtf8, IsCharBoundary}
use Rattle.std.specs.String.{string_bytes}
use Rattle.std.proofs.lemmas.Str.{IsUtf8-drop, IsUtf8-take, IsUtf8-nil, IsCharBoundary-from_rest, IsCharBoundary-after_ascii}
use lib.Dec.{eqb}
use Rattle.lsp_types.specs.declared.position.Encoding.{Encoding}
use Rattle.lsp_types.specs.declared.position.Encoding.TheVariants.{Utf8, Utf16, Utf32}
use Rattle.lsp_text.specs.Lines.{is_feed, is_return, starts_with_feed}
use Rattle.lsp_text.specs.Places.{units}
use Rattle.lsp_text.specs.Offsets.{IsOffset}
use Rattle.lsp_text.proofs.Counting.{units-utf8_text}
use Rattle.lsp_text.proofs.Widths.{units-utf32}
use Rattle.lsp_text.proofs.Splices.{IsUtf8-replace_range}
use Rattle.lsp_lined.specs.Ends.{ends_in, places_behind, moved_place, ends_with_return, joins, CanMove, IsEndAt, IsNear, IsLineEnd}
use Rattle.lsp_lined.specs.Sums.{sums_of, amount_in}
use Rattle.lsp_lined.specs.Blocks.{IsBlock}
use Rattle.lsp_lined.specs.declared.block.Block.TheInside.{Inside}
use Rattle.lsp_lined.specs.declared.block.BlockText.{BlockText}
use Rattle.lsp_text.specs.Spans.{CanReplace}
use Rattle.lsp_lined.specs.Parts.{KeepsEnds}
use Rattle.lsp_lined.specs.declared.sums.Sums.{Sums}
use Rattle.lsp_lined.specs.declared.sums.Measure.TheVariants.{Units}
use Rattle.lsp_lined.specs.declared.part.LineEnd.{LineEnd}
use Rattle.lsp_lined.proofs.EndCounts.{ends_in-append, length-places_behind}
use Rattle.lsp_lined.proofs.EndsBefore.{both_hold}
use Rattle.lsp_lined.proofs.EndPlaces.{IsAfterEnd, place_is_end, places_moved, places_can_move}
use Rattle.lsp_lined.proofs.Parts.{joins-front}
use Rattle.lsp_lined.proofs.PlainTexts.{units_le_bytes, offset_at_end, offset_in_plain, plain_part, plain_front, plain_units}
use Rattle.lsp_lined.proofs.Exchanges.{cut_out, replaced_len}

-- ---- what is held

pub record IsText (a : Inside) (bs : List ℕ) : Type 0 where
  pub utf8 : IsUtf8 bs
  pub sums : a.text.value.sums ≡ sums_of bs
  pub short : length bs ≤ 4096

pub block_text : (a : Inside) (bs : List ℕ) → IsBlock a → string_bytes a.text.value.text ≡ bs → IsText a bs
block_text a bs h is =
    record { utf8 = subst IsUtf8 is h.utf8; sums = h.sums ∙ ap sums_of is; short = subst (λ (x : List ℕ). length x ≤ 4096) is h.short }

pub record HasPlaces (a : Inside) (bs : List ℕ) (held : BlockText) (text : List ℕ) : Type 0 where
  pub text_is : text ≡ bs
  pub utf8 : IsUtf8 text
  pub sums : held.sums ≡ sums_of text
  pub places : held.places.items ≡ places_behind 0 text

pub block_places : (a : Inside) (bs : List ℕ) (held : BlockText) (text : List ℕ) → IsBlock a → string_bytes a.text.value.text ≡ bs → held ≡ a.text.value → text ≡ string_bytes held.text → HasPlaces a bs held text
block_places a bs held text h is same t =
    let own : text ≡ string_bytes a.text.value.text = t ∙ ap (λ (x : BlockText). string_bytes x.text) same in
    record {
      text_is = own ∙ is;
      utf8 = subst IsUtf8 (sym own) h.utf8;
      sums = ap (λ (x : BlockText). x.sums) same ∙ h.sums ∙ ap sums_of (sym own);
      places = ap (λ (x : BlockText). x.places.items) same ∙ h.places ∙ ap (places_behind 0) (sym own);
    }

-- the same of what is held of the block
pub record IsHeldText (held : BlockText) (bs : List ℕ) : Type 0 where
  pub utf8 : IsUtf8 bs
  pub sums : held.sums ≡ sums_of bs
  pub short : length bs ≤ 4096

pub held_text : (a : Inside) (bs : List ℕ) (held : BlockText) → IsBlock a
    → string_bytes a.text.value.text ≡ bs → held ≡ a.text.value → IsHeldText held bs
held_text a bs held h is same =
    let own = block_text a bs h is in
    record {
      utf8 = own.utf8;
      sums = ap (λ (x : BlockText). x.sums) same ∙ own.sums;
      short = own.short;
    }

-- ---- the line ends

-- the place after line end `n` is in the table
pub in_table : (bs places : List ℕ) (n : ℕ) → places ≡ places_behind 0 bs → n < ends_in bs → n < length places
in_table bs places n are some = omega (arith, ap length are, length-places_behind 0 bs)

pub place_read : (bs places : List ℕ) (n after : ℕ) → places ≡ places_behind 0 bs → after ≡ get_or places n after → n < ends_in bs → IsAfterEnd bs n after
place_read bs places n after are is some =
    let lt = in_table bs places n are some in
    let e : slice_index (places_behind 0 bs) n ≡ after = sym (is ∙ get_or_default places n after 0 lt ∙ ap (λ (x : List ℕ). get_or x n 0) are) in
    subst (λ (x : ℕ). IsAfterEnd bs n x) e (place_is_end bs n some)

-- a boundary stands after a line end
pub boundary_behind : (bs : List ℕ) (n after : ℕ) → IsUtf8 bs → IsAfterEnd bs n after → IsCharBoundary bs after
boundary_behind bs n after u h =
    let some = h.some in
    let within = h.within in
    let b = get_or bs (after - 1) 0 in
    let s = starts_with_feed (drop (after - 1 + 1) bs) in
    let ascii : b < 128 =
    ⊎_elim
    (λ (f : is_feed b ≡ true). let e : b ≡ 10 = eqb-true b 10 f in omega arith)
    (λ (r : (is_return b && not s) ≡ true). let e : b ≡ 13 = eqb-true b 13 (both_hold (is_return b) (not s) r).0 in omega arith)
    (or_cases (is_feed b) (is_return b && not s) h.ended) in
    let e : after - 1 + 1 ≡ after = omega arith in
    subst (λ (x : ℕ). IsCharBoundary bs x) e (IsCharBoundary-after_ascii bs (after - 1) u (omega arith) ascii)

pub boundary_after : (bs : List ℕ) (at len after : ℕ) → IsEndAt bs at len → at + len ≡ after → IsCharBoundary bs after
boundary_after bs at len after h is = subst (λ (x : ℕ). IsCharBoundary bs x) is (IsCharBoundary-from_rest bs at len h.boundary.0 h.ended.boundary)

pub block_end : (bs : List ℕ) (n after len : ℕ) (e : LineEnd) (s : Sums) → IsUtf8 bs → s ≡ sums_of bs → IsAfterEnd bs n after → len ≤ after → IsEndAt bs (after - len) len →
    e.at ≡ after - len → e.after ≡ after → e.rest.now ≡ drop after bs → e.is_plain ≡ eqb s.chars s.bytes → IsLineEnd bs n e
block_end bs n after len e s u sums k within h at_is after_is rest plain =
    let some = h.some in
    let sum : after - len + len ≡ after = omega arith in
    let at = after - len in
    let number : ends_in (take at bs) ≡ n =
    omega (
      arith,
      k.number,
      ap (λ (x : ℕ). ends_in (take x bs)) sum,
      ap ends_in (take-add at len bs),
      ends_in-append (take at bs) (take len (drop at bs)) (joins-front (take at bs) (take len (drop at bs)) (drop len (drop at bs)) (ap (joins (take at bs)) (take-append-drop len (drop at bs)) ∙ h.apart)),
      h.one,
    ) in
    let b = boundary_after bs at len after h sum in
    let back = IsUtf8-drop bs after u b in
    let front = IsUtf8-take bs after u b in
    let rest_len : e.after - e.at ≡ len = omega arith in
    let near : IsNear (drop after bs) (drop after bs) e.is_plain =
    record {
      utf8 = back;
      more = [];
      begins = sym (append-nil (drop after bs));
      plain =
          λ p.
          let same : length (chars bs) ≡ length bs = ap (λ (x : Sums). x.chars) (sym sums) ∙ eqb-true s.chars s.bytes (sym plain ∙ p) ∙ ap (λ (x : Sums). x.bytes) sums in
          let whole : take after bs ++ (drop after bs ++ []) ≡ bs = ap (λ (x : List ℕ). take after bs ++ x) (append-nil (drop after bs)) ∙ take-append-drop after bs in
          plain_part (take after bs) (drop after bs) [] front back IsUtf8-nil (ap (λ (x : List ℕ). length (chars x)) whole ∙ same ∙ ap length (sym whole));
    } in
    record {
      order = omega arith;
      end = subst (λ (x : ℕ). IsEndAt bs e.at x) (sym rest_len) (subst (λ (x : ℕ). IsEndAt bs x len) (sym at_is) h);
      number = ap (λ (x : ℕ). ends_in (take x bs)) at_is ∙ number;
      near =
          subst (λ (x : ℕ). IsNear (drop x bs) e.rest.now e.is_plain) (sym after_is)
          (subst (λ (x : List ℕ). IsNear (drop after bs) x e.is_plain) (sym rest) near);
    }

-- ---- columns

amount_units : (enc : Encoding) (bs : List ℕ) → IsUtf8 bs → amount_in (Units enc) (sums_of bs) ≡ units enc (chars bs)
amount_units Utf8 bs u = sym (units-utf8_text bs u)
amount_units Utf16 bs u = refl
amount_units Utf32 bs u = sym (units-utf32 (chars bs))

pub width_is : (enc : Encoding) (bs : List ℕ) (s : Sums) (n : ℕ) → IsUtf8 bs → s ≡ sums_of bs → n ≡ amount_in (Units enc) s → n ≡ units enc (chars bs)
width_is enc bs s n u sums is = is ∙ ap (amount_in (Units enc)) sums ∙ amount_units enc bs u

pub block_past : (enc : Encoding) (bs : List ℕ) (s : Sums) (n column : ℕ) → IsUtf8 bs → s ≡ sums_of bs → n ≡ amount_in (Units enc) s → n ≤ column → IsOffset enc bs column s.bytes
block_past enc bs s n column u sums is le =
    subst (λ (x : ℕ). IsOffset enc bs column x) (ap (λ (x : Sums). x.bytes) (sym sums)) (offset_at_end enc bs column n (width_is enc bs s n u sums is) le)

same_counts : (bs : List ℕ) (s : Sums) → s ≡ sums_of bs → s.chars ≡ s.bytes → length (chars bs) ≡ length bs
same_counts bs s sums same = ap (λ (x : Sums). x.chars) (sym sums) ∙ same ∙ ap (λ (x : Sums). x.bytes) sums

pub block_plain : (enc : Encoding) (bs : List ℕ) (s : Sums) (n column : ℕ) → IsUtf8 bs → s ≡ sums_of bs → n ≡ amount_in (Units enc) s → column < n → s.chars ≡ s.bytes → IsOffset enc bs column column
block_plain enc bs s n column u sums is lt same =
    let plain = same_counts bs s sums same in
    offset_in_plain enc bs column u plain (omega (arith, width_is enc bs s n u sums is, plain_units enc bs u plain))

pub block_width : (enc : Encoding) (bs : List ℕ) (s : Sums) (n offset : ℕ) → IsUtf8 bs → s ≡ sums_of bs → n ≡ amount_in (Units enc) s → offset ≡ s.bytes → n ≡ units enc (chars (take offset bs))
block_width enc bs s n offset u sums is end =
    width_is enc bs s n u sums is ∙ ap (λ (x : List ℕ). units enc (chars x)) (sym (take_all offset bs (let e : length bs ≡ offset = sym (end ∙ ap (λ (x : Sums). x.bytes) sums) in omega arith)))

pub block_plain_width : (enc : Encoding) (bs : List ℕ) (s : Sums) (offset : ℕ) → IsUtf8 bs → s ≡ sums_of bs → IsCharBoundary bs offset → s.chars ≡ s.bytes → offset ≡ units enc (chars (take offset bs))
block_plain_width enc bs s offset u sums b same = sym (plain_front enc bs offset u (same_counts bs s sums same) b)

pub width_fits : (enc : Encoding) (bs : List ℕ) (s : Sums) (n : ℕ) → IsUtf8 bs → s ≡ sums_of bs
    → n ≡ amount_in (Units enc) s → length bs ≤ 4096 → n < 2 ^ 32
width_fits enc bs s n u sums is short =
    omega (
      arith,
      width_is enc bs s n u sums is,
      units_le_bytes enc (chars bs),
      units-utf8_text bs u,
    )

-- ---- an edit that only moves places

pub keeps_ends : (bs text : List ℕ) (from to : ℕ) (s : Sums) → IsUtf8 bs → IsUtf8 text → from ≤ to → IsCharBoundary bs from → IsCharBoundary bs to → ends_with_return false (take from (take to bs)) ≡ false →
    ends_in (drop from (take to bs)) ≡ 0 → ends_in text ≡ 0 → length bs + length text ≤ 4096 → s ≡ sums_of (replace_range bs from to text) → KeepsEnds bs from to text s
keeps_ends bs text from to s u ut le first second no_return none none' room sums =
    let a = take from (take to bs) in
    let r = drop from (take to bs) in
    let c = drop to bs in
    let cut = cut_out bs from to u le first second in
    let made : (a ++ text) ++ c ≡ replace_range bs from to text = ap (λ (x : List ℕ). (x ++ text) ++ c) cut.front in
    let old : (a ++ r) ++ c ≡ bs = sym cut.text in
    let places = places_moved a r text c no_return none none' in
    let moves = places_can_move a r text c no_return none (omega (arith, ap length old)) in
    record {
      sums_are = sums;
      places =
          sym (ap (places_behind 0) made) ∙ places ∙ ap (λ (x : List ℕ). map (moved_place (length a) (length r) (length text)) (places_behind 0 x)) old
          ∙ ap (λ (i : ℕ). map (moved_place i (length r) (length text)) (places_behind 0 bs)) cut.front_len ∙ ap (λ (j : ℕ). map (moved_place from j (length text)) (places_behind 0 bs)) cut.len;
      moves =
          let P : List ℕ → ℕ → ℕ → Type 0 = λ x i j. EachIndex (places_behind 0 x) (λ k. CanMove i j (length text) (slice_index (places_behind 0 x) k)) in
          subst (λ (x : List ℕ). P x from (to - from)) old (subst (λ (j : ℕ). P ((a ++ r) ++ c) from j) cut.len (subst (λ (i : ℕ). P ((a ++ r) ++ c) i (length r)) cut.front_len moves));
    }

-- the block that it makes
pub block_kept : (a b : Inside) (bs : List ℕ) (from to : ℕ) (text : List ℕ) (sums : Sums)
    → IsBlock a → string_bytes a.text.value.text ≡ bs → IsUtf8 text → CanReplace bs from to
    → length bs + length text ≤ 4096 → KeepsEnds bs from to text sums
    → string_bytes b.text.value.text ≡ replace_range (string_bytes a.text.value.text) from to text
    → b.text.value.places.items
    ≡ map (moved_place from (to - from) (length text)) a.text.value.places.items
    → b.text.value.sums ≡ sums → IsBlock b
block_kept a b bs from to text sums h is ut can room keeps made moved counted =
    let k = block_text a bs h is in
    let new : string_bytes b.text.value.text ≡ replace_range bs from to text =
    made ∙ ap (λ (x : List ℕ). replace_range x from to text) is in
    let old : a.text.value.places.items ≡ places_behind 0 bs =
    h.places ∙ ap (places_behind 0) is in
    record {
      sums = counted ∙ keeps.sums_are ∙ ap sums_of (sym new);
      utf8 =
          subst IsUtf8 (sym new)
          (IsUtf8-replace_range bs text from to k.utf8 ut can.first can.second);
      places =
          moved ∙ ap (map (moved_place from (to - from) (length text))) old ∙ sym keeps.places
          ∙ ap (places_behind 0) (sym new);
      short = omega (arith, ap length new, replaced_len bs text from to can.order can.second.0);
    }
