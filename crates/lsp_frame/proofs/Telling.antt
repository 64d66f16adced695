-- What a source gave and a sink took, one call after another.
use Rattle.std.proofs.Common.{◌≡◌, ℕ, ◌+◌, ◌≤◌, List, [], ◌++◌, length, take, drop, Result, Ok, Err, IfOk, is_ok, if◌then◌else◌, ◌∙◌, ap, sym, arith}
use Rattle.std.proofs.lemmas.List.{length-append, length-take, take_all, take_at, take-append-le, take-take}
use Rattle.std.proofs.Math.Seq.{take-append-add}
use Rattle.std.specs.Io.{ReadsAtMost}
use Rattle.std.specs.Result.{result_unwrap_or}
use borrow.Rule.Slice.PartMut.{put_mid}
use Rattle.std.proofs.KnownBytes.{Consumes-nil, Consumes-trans, Consumes-kept, Appends-nil, Appends-trans}
use Rattle.lsp_frame.specs.Told.{Told, Gave, GaveOnto, Took, KeepsBytes, Raises}

raises_none : (n : ℕ) → Raises n n 0
raises_none n = omega arith

raises_then : (a b c n m k : ℕ) → k ≡ n + m → Raises a b n → Raises b c m → Raises a c k
raises_then a b c n m k sum p q = omega (arith, sum, p, q)

pub gave_nothing : (a : Told) → Gave a a []
gave_nothing a = record { bytes = Consumes-nil a.bytes; count = raises_none a.count }

pub gave_then : (a b c : Told) (x y : List ℕ) → Gave a b x → Gave b c y → Gave a c (x ++ y)
gave_then a b c x y p q = record {
  bytes = Consumes-trans a.bytes b.bytes c.bytes x y p.bytes q.bytes;
  count = raises_then a.count b.count c.count _ _ _ (length-append x y) p.count q.count;
}

pub gave_kept : (a b c : Told) (x : List ℕ) → Gave a b x → KeepsBytes b c → Gave a c x
gave_kept a b c x p k = record { bytes = Consumes-kept a.bytes b.bytes c.bytes x p.bytes k.bytes; count = omega (arith, p.count, k.count) }

pub took_nothing : (a : Told) → Took a a []
took_nothing a = record { bytes = Appends-nil a.bytes; count = raises_none a.count }

pub took_then : (a b c : Told) (x y : List ℕ) → Took a b x → Took b c y → Took a c (x ++ y)
took_then a b c x y p q = record {
  bytes = Appends-trans a.bytes b.bytes c.bytes x y p.bytes q.bytes;
  count = raises_then a.count b.count c.count _ _ _ (length-append x y) p.count q.count;
}

-- ---- a piece that a source appended to a vector

-- a front of the buffer that was written behind what stood there
pub take_written : (xs buffer tail : List ℕ) (len count : ℕ)
    → length xs ≡ len → count ≤ length buffer
    → take (len + count) (xs ++ (buffer ++ tail)) ≡ xs ++ take count buffer
take_written xs buffer tail len count is fits =
    ap (λ k. take (k + count) (xs ++ (buffer ++ tail))) (sym is)
    ∙ take-append-add xs (buffer ++ tail) count
    ∙ ap (λ w. xs ++ w) (take-append-le count buffer tail fits)

-- room was made after the bytes, a piece was written there, and the rest of the room was given up
put_at : (old zeros slice buffer tail new : List ℕ) (start room len most n : ℕ)
    → length old ≡ start → slice ≡ old ++ zeros → length buffer ≡ most → n ≤ most → start + most ≤ len
    → new ≡ take (start + n) (take len (put_mid start room slice buffer ++ tail))
    → new ≡ old ++ take n buffer
put_at old zeros slice buffer tail new start room len most n is same full within fits cut =
    let held : List ℕ = take start slice in
    let held_is : held ≡ old = ap (take start) same ∙ take_at old zeros start is in
    let behind : List ℕ = drop room (drop start slice) in
    let written : List ℕ = held ++ (buffer ++ behind) in
    let held_len : length held ≡ start = ap length held_is ∙ is in
    let lengths = length-append held (buffer ++ behind) in
    let all : start + n ≤ length written =
    omega (arith, lengths, length-append buffer behind, held_len, full, within) in
    let short : n ≤ length buffer = omega (arith, full, within) in
    cut
    ∙ take-take (start + n) len (written ++ tail) (omega (arith, fits, within))
    ∙ take-append-le (start + n) written tail all
    ∙ take_written held buffer behind start n held_len short
    ∙ ap (λ (w : List ℕ). w ++ take n buffer) held_is

-- the same by the answer of the source that wrote the piece
pub put_items : {E : Type 0} (r : Result ℕ E) (old zeros resized slice buffer tail new : List ℕ)
    (start room len most count : ℕ)
    → length old ≡ start → slice ≡ resized → resized ≡ take (start + most) old ++ zeros
    → length buffer ≡ most → start + most ≤ len → count ≡ result_unwrap_or r 0
    → new ≡ take (start + count) (take len (put_mid start room slice buffer ++ tail))
    → ReadsAtMost r buffer → IfOk r (λ n. new ≡ old ++ take n buffer)
put_items (Err e) old zeros resized slice buffer tail new start room len most count is same filled
    full fits counted cut bound = tt
put_items (Ok n) old zeros resized slice buffer tail new start room len most count is same filled
    full fits counted cut bound =
    let whole = take_all (start + most) old (omega (arith, is)) in
    let front : slice ≡ old ++ zeros =
    same ∙ filled ∙ ap (λ (w : List ℕ). w ++ zeros) whole in
    let upto : List ℕ = take len (put_mid start room slice buffer ++ tail) in
    put_at old zeros slice buffer tail new start room len most n is front full
    (omega (arith, bound.0, full)) fits (cut ∙ ap (λ (k : ℕ). take (start + k) upto) counted)

-- what the source gave was appended, at most as much as there was room for
pub put_onto : {E : Type 0} (r : Result ℕ E) (before after : Told) (old buffer new : List ℕ)
    (room most : ℕ)
    → length buffer ≡ room → room ≤ most → ReadsAtMost r buffer
    → IfOk r (λ n. Gave before after (take n buffer)) → IfOk r (λ n. new ≡ old ++ take n buffer)
    → IfOk r (λ n. GaveOnto before after old new most n)
put_onto (Err e) before after old buffer new room most full within bound gave items = tt
put_onto (Ok n) before after old buffer new room most full within bound gave items = record {
  piece = take n buffer;
  gave = gave;
  items = items;
  count = omega (arith, length-take n buffer, bound.0);
  within = omega (arith, bound.0, full, within);
}

-- what a call gives where it does not fail
pub given_ok : {A X E : Type 0} (r : Result X E) (x : X) (new a b : A) → r ≡ Ok x → new ≡ (if is_ok r then a else b) → new ≡ a
given_ok (Ok y) x new a b is same = same
given_ok (Err e) x new a b is same = absurd cc
