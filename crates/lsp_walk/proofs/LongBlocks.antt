-- A long block of a text, whose escapes are read by the marks of its bytes alone.
use Rattle.std.proofs.Common.{◌≡◌, ℕ, zero, suc, ◌+◌, ◌-◌, ◌*◌, ◌/◌, ◌^◌, ◌<◌, ◌≤◌, Bool, true}
use Rattle.std.proofs.Common.{false, cond, List, [], ◌∷◌, ◌++◌, map, length, take, drop, get_or}
use Rattle.std.proofs.Common.{set, refl, sym, ap, ap₂, ◌∙◌, subst, arith, length-append}
use Rattle.std.proofs.lemmas.List.{append_assoc, append-nil, drop-drop, drop-map, length-set}
use Rattle.std.proofs.lemmas.List.{length-take-le, take_at, take_more_set, take-take}
use Rattle.std.proofs.lemmas.List.Sums.{prefix_len-le-length}
use Rattle.std.proofs.lemmas.Nat.{shr-shr}
use Rattle.std.proofs.lemmas.Simd.{length-chunk}
use Rattle.std.specs.Int.Count.{count_trailing_zeros}
use Rattle.std.specs.List.{prefix_len}
use Rattle.std.specs.Simd.Lanes.{mask_l, chunk}
use Rattle.std.specs.Str.{IsUtf8}
use Rattle.json.specs.Text.{short_escape}
use Rattle.json.specs.Run.{is_plain, is_stop}
use Rattle.lsp_walk.specs.Texts.{WritesPart, one_byte}
use Rattle.lsp_walk.proofs.Blocks.{none_marked, some_marked, some_stop}
use Rattle.lsp_walk.proofs.Strings.{run_none}
use Rattle.lsp_walk.proofs.Parts.{part_on, plain_part, chunk_plain, front_of_block}
use Rattle.lsp_walk.proofs.Parts.{short_escape_part}

-- ---- the marks that are left

half : (b : Bool) (m : ℕ) → (cond b 1 0 + 2 * m) / 2 ≡ m
half true m = omega arith
half false m = omega arith

shifted : (ms : List Bool) (n : ℕ) → mask_l ms / 2 ^ n ≡ mask_l (drop n ms)
shifted ms zero = omega arith
shifted [] (suc n) = grind arith
shifted (b ∷ bs) (suc n) =
    let more : 1 + n ≡ suc n = omega arith in
    ap (λ k. mask_l (b ∷ bs) / 2 ^ k) (sym more) ∙ sym (shr-shr (mask_l (b ∷ bs)) 1 n)
    ∙ ap (λ m. m / 2 ^ n) (half b (mask_l bs)) ∙ shifted bs n

take_none : (n : ℕ) → take {A = ℕ} n [] ≡ []
take_none zero = refl
take_none (suc n) = refl

drop_of_take : (n k : ℕ) (xs : List ℕ) → drop n (take k xs) ≡ take (k - n) (drop n xs)
drop_of_take zero k xs =
    let all : k ≡ k - 0 = omega arith in ap (λ j. take j xs) all
drop_of_take (suc n) zero xs =
    let none : 0 ≡ 0 - suc n = omega arith in ap (λ j. take j (drop (suc n) xs)) none
drop_of_take (suc n) (suc k) [] = sym (take_none (suc k - suc n))
drop_of_take (suc n) (suc k) (x ∷ xs) =
    let less : k - n ≡ suc k - suc n = omega arith in
    drop_of_take n k xs ∙ ap (λ j. take j (drop n xs)) less

-- those behind the first n bytes
marks_left : (d : List ℕ) (at k n : ℕ) → mask_l (map is_stop (chunk at k d)) / 2 ^ n
    ≡ mask_l (map is_stop (chunk (at + n) (k - n) d))
marks_left d at k n = shifted (map is_stop (chunk at k d)) n
    ∙ ap mask_l (drop-map is_stop n (chunk at k d)
    ∙ ap (map is_stop) (drop_of_take n k (drop at d) ∙ ap (take (k - n)) (drop-drop n at d)))

-- those behind n plain bytes and an escape of two
marks_on : (d : List ℕ) (from at stops n : ℕ)
    → stops ≡ mask_l (map is_stop (chunk at (from + 64 - at) d))
    → stops / 2 ^ n / 4 ≡ mask_l (map is_stop (chunk (at + n + 2) (from + 64 - (at + n + 2)) d))
marks_on d from at stops n are =
    let k = from + 64 - at in
    let there : at + (n + 2) ≡ at + n + 2 = omega arith in
    let left : k - (n + 2) ≡ from + 64 - (at + n + 2) = omega arith in
    ap (λ m. m / 2 ^ n / 4) are ∙ shr-shr (mask_l (map is_stop (chunk at k d))) n 2
    ∙ marks_left d at k (n + 2)
    ∙ ap₂ (λ i j. mask_l (map is_stop (chunk i j d))) there left

-- ---- one write behind another

-- what is behind the first bytes of the room may change
kept : {d : List ℕ} {from at : ℕ} {before : List ℕ} {len : ℕ} {room : List ℕ} {count : ℕ}
    (after : List ℕ) → WritesPart d from at before len room count
    → take count after ≡ take count room → count ≤ length after
    → WritesPart d from at before len after count
kept after wrote same within = record {
  text = wrote.text;
  part = wrote.part;
  written = same ∙ wrote.written;
  within = within;
}

pub written_on : {d : List ℕ} {from at end : ℕ} {before : List ℕ} {len : ℕ} {room : List ℕ}
    {count : ℕ} {after : List ℕ} {size : ℕ} → WritesPart d from at before len room count
    → WritesPart d at end room count after size → WritesPart d from end before len after size
written_on {d = d} {from = from} {at = at} {end = end} {before = before} {len = len} first then =
    record {
      text = first.text ++ then.text;
      part = part_on d from at end first.text then.text first.part then.part;
      written = then.written ∙ ap (λ l. l ++ then.text) first.written
          ∙ append_assoc (take len before) first.text then.text;
      within = then.within;
    }

-- plain bytes of a block that was written whole
plain_written : (d : List ℕ) (at : ℕ) (room : List ℕ) (len : ℕ) (after : List ℕ) (plain : ℕ)
    → len ≤ length room → len + 64 ≤ length after → at ≤ length d → plain ≤ 64
    → plain ≤ prefix_len is_plain (drop at d)
    → take (len + 64) after ≡ take len room ++ chunk at 64 d
    → WritesPart d at (at + plain) room len after (len + plain)
plain_written d at room len after plain within fits inside few plainly written = record {
  text = take plain (drop at d);
  part = plain_part d at plain inside plainly;
  written = front_of_block room after d len at 64 plain within written few;
  within = omega arith;
}

-- a block that is written behind the first bytes leaves them
front_stays : (room after d : List ℕ) (len at : ℕ) → len ≤ length room
    → take (len + 64) after ≡ take len room ++ chunk at 64 d → take len after ≡ take len room
front_stays room after d len at within written =
    let all : len ≡ len + 0 = omega arith in
    ap (λ k. take k after) all
    ∙ front_of_block room after d len at 64 0 within written (omega arith)
    ∙ append-nil (take len room)

-- what is written leaves what is before it
pub before_stays : {d : List ℕ} {at end : ℕ} {room : List ℕ} {len : ℕ} {after : List ℕ} {count : ℕ}
    → WritesPart d at end room len after count → len ≤ length room → take len after ≡ take len room
before_stays {room = room} {len = len} {after = after} {count = count} wrote within =
    let long = length-take-le len room within in
    let longer = length-take-le count after wrote.within in
    let parts = length-append (take len room) wrote.text in
    let more : len ≤ count = omega (arith, longer, long, ap length wrote.written, parts) in
    sym (take-take len count after more) ∙ ap (take len) wrote.written
    ∙ take_at (take len room) wrote.text len long

-- ---- what was written so far

-- of the block at `from` the text up to `at` was written, and behind it 64 bytes were copied, plain
-- or not; the marks are those of the rest of the block
pub record BlockSoFar (d : List ℕ) (from at : ℕ) (before : List ℕ) (len : ℕ) (after : List ℕ)
    (count stops : ℕ) : Type 0 where
  pub part : WritesPart d from at before len after count
  pub copied : take (count + 64) after ≡ take count after ++ chunk at 64 d
  pub marks : stops ≡ mask_l (map is_stop (chunk at (from + 64 - at) d))
  pub near : at ≤ from + 65
  pub fewer : count + from ≤ at + len
  pub few : count ≤ len + 64

pub begun : (d : List ℕ) (at : ℕ) (room : List ℕ) (len : ℕ) (after : List ℕ) (stops : ℕ)
    → at + 64 ≤ length d → len + 64 ≤ length room → length after ≡ length room
    → take (len + 64) after ≡ take len room ++ chunk at 64 d
    → stops ≡ mask_l (map is_stop (chunk at 64 d)) → BlockSoFar d at at room len after len stops
begun d at room len after stops inside fits long written are =
    let stays = front_stays room after d len at (omega arith) written in
    let whole : 64 ≡ at + 64 - at = omega arith in
    record {
      part = record {
        text = [];
        part = record {
          run = run_none d at (omega arith);
          utf8 = λ front. subst (λ l. IsUtf8 (l ++ drop at d)) (sym (append-nil front));
        };
        written = stays ∙ sym (append-nil (take len room));
        within = omega arith;
      };
      copied = written ∙ ap (λ l. l ++ chunk at 64 d) (sym stays);
      marks = are ∙ ap (λ k. mask_l (map is_stop (chunk at k d))) whole;
      near = omega arith;
      fewer = omega arith;
      few = omega arith;
    }

-- the first mark ends the run of plain bytes, and is in the block
pub first_stop : {d : List ℕ} {from at : ℕ} {before : List ℕ} {len : ℕ} {after : List ℕ}
    {count stops : ℕ} → BlockSoFar d from at before len after count stops → from + 128 < length d
    → (stops ≡ 0 → ⊥)
    → (count_trailing_zeros 64 stops ≡ prefix_len is_plain (chunk at (from + 64 - at) d))
    × (at + count_trailing_zeros 64 stops < from + 64)
first_stop {d = d} {from = from} {at = at} {stops = stops} so inside some =
    let k = from + 64 - at in
    let v = chunk at k d in
    let long = length-chunk at k d (omega (arith, so.near)) in
    let marked : mask_l (map is_stop v) ≡ 0 → ⊥ = λ none. some (so.marks ∙ none) in
    let is = ap (count_trailing_zeros 64) so.marks
    ∙ some_marked is_stop v k long (omega (arith, so.part.part.run.forward)) marked in
    (is, omega (arith, is, some_stop is_stop v k long marked))

run_written : {d : List ℕ} {from at : ℕ} {before : List ℕ} {len : ℕ} {after : List ℕ}
    {count stops : ℕ} (plain : ℕ) → BlockSoFar d from at before len after count stops
    → from + 128 < length d → len + 128 ≤ length after
    → plain ≡ prefix_len is_plain (chunk at (from + 64 - at) d)
    → WritesPart d from (at + plain) before len after (count + plain)
run_written {d = d} {from = from} {at = at} {after = after} {count = count} plain so inside fits
    is =
    let k = from + 64 - at in
    let near = so.near in
    let forward = so.part.part.run.forward in
    let long = length-chunk at k d (omega arith) in
    let most = prefix_len-le-length is_plain (chunk at k d) in
    written_on so.part (plain_written d at after count after plain so.part.within
    (omega (arith, so.few)) (omega arith) (omega (arith, is, most, long))
    (omega (arith, is, chunk_plain k (drop at d))) so.copied)

-- up to the first mark
pub to_stop : {d : List ℕ} {from at : ℕ} {before : List ℕ} {len : ℕ} {after : List ℕ}
    {count stops : ℕ} → BlockSoFar d from at before len after count stops → from + 128 < length d
    → len + 128 ≤ length after → (stops ≡ 0 → ⊥)
    → WritesPart d from (at + count_trailing_zeros 64 stops) before len after
    (count + count_trailing_zeros 64 stops)
to_stop {stops = stops} so inside fits some =
    run_written (count_trailing_zeros 64 stops) so inside fits (first_stop so inside some).0

-- up to the end of the block, where no mark is left
pub to_end : {d : List ℕ} {from at : ℕ} {before : List ℕ} {len : ℕ} {after : List ℕ}
    {count stops : ℕ} → BlockSoFar d from at before len after count stops → from + 128 < length d
    → len + 128 ≤ length after → stops ≡ 0 → at < from + 64
    → WritesPart d from (from + 64) before len after (count + (from + 64 - at))
to_end {d = d} {from = from} {at = at} {before = before} {len = len} {after = after}
    {count = count} so inside fits none short =
    let k = from + 64 - at in
    let there : at + k ≡ from + 64 = omega arith in
    let forward = so.part.part.run.forward in
    let all = none_marked is_stop (chunk at k d) k (length-chunk at k d (omega arith)) (omega arith)
    (sym so.marks ∙ none) in
    subst (λ i. WritesPart d from i before len after (count + k)) there
    (run_written k so inside fits all)

-- past the first mark, which is an escape that writes one byte
pub past_escape : {d : List ℕ} {from at : ℕ} {before : List ℕ} {len : ℕ} {room : List ℕ}
    {count stops : ℕ} (plain c : ℕ) (after : List ℕ)
    → BlockSoFar d from at before len room count stops → from + 128 < length d
    → len + 128 ≤ length room → (stops ≡ 0 → ⊥) → plain ≡ count_trailing_zeros 64 stops
    → get_or d (at + plain) 0 ≡ 92 → c ≡ one_byte (short_escape (get_or d (at + plain + 1) 0))
    → (c ≡ 0 → ⊥)
    → take (count + plain + 1 + 64) after
    ≡ take (count + plain + 1) (set room (count + plain) c) ++ chunk (at + plain + 2) 64 d
    → length after ≡ length (set room (count + plain) c)
    → BlockSoFar d from (at + plain + 2) before len after (count + plain + 1)
    (stops / 2 ^ plain / 4)
past_escape {d = d} {from = from} {at = at} {before = before} {len = len} {room = room}
    {count = count} {stops = stops} plain c after so inside fits some first mark is short written
    long =
    let i = at + plain in
    let n = count + plain in
    let wrote = set room n c in
    let there : at + plain < from + 64 = omega (arith, first, (first_stop so inside some).1) in
    let fewer = so.fewer in
    let same = length-set room n c in
    let run : WritesPart d from i before len room n =
    subst (λ k. WritesPart d from (at + k) before len room (count + k)) (sym first)
    (to_stop so inside fits some) in
    let one : WritesPart d i (i + 2) room n wrote (n + 1) = record {
      text = c ∷ [];
      part = short_escape_part d i c (omega arith) mark is short;
      written = take_more_set room n c (omega arith);
      within = omega (arith, same);
    } in
    let stays = front_stays wrote after d (n + 1) (i + 2) (omega (arith, same)) written in
    record {
      part = kept after (written_on run one) stays (omega (arith, same, long));
      copied = written ∙ ap (λ l. l ++ chunk (i + 2) 64 d) (sym stays);
      marks = marks_on d from at stops plain so.marks;
      near = omega arith;
      fewer = omega arith;
      few = omega arith;
    }
