-- Bytes that an input appended to a vector.
use Rattle.std.proofs.Common.{◌≡◌, ℕ, ◌≤◌, Bool, true, false, List, ◌++◌, length, take, drop, None, Some, Ok, Err, IfOk, OnOk, if◌then◌else◌, sym, ap, subst, ◌∙◌, arith}
use Rattle.std.specs.Prelude.{Option, Result, ◌==◌}
use Rattle.std.specs.Io.{appended_bytes}
use Rattle.std.specs.Io.BufRead.{DropsConsumable}
use Rattle.std.specs.Io.Buffered.{reader_buffer, reader_capacity, reader_remaining}
use Rattle.std.specs.Io.KnownBytes.{Consumes, prepend_known}
use Rattle.std.specs.declared.io.buffered.BufReader.{BufReader}
use Rattle.std.proofs.Math.Seq.{drop-append_seam}
use Rattle.std.proofs.lemmas.List.{length-take, take-append-drop, take-append-le}
use Rattle.lsp_frame.specs.Told.{Told, GaveOnto, Raises}

-- the bytes that were given first, by what was appended
pub first_kept : {E : Type 0} (r : Result ℕ E) (old new before after buffer : List ℕ)
    → IfOk r (λ n. after ≡ take 32 (before ++ take n buffer))
    → IfOk r (λ n. new ≡ old ++ take n buffer)
    → OnOk r (after ≡ take 32 (before ++ appended_bytes old new))
first_kept (Err e) old new before after buffer kept items = tt
first_kept (Ok n) old new before after buffer kept items =
    let same = ap (λ (w : List ℕ). appended_bytes old w) items ∙ drop-append_seam old (take n buffer) in
    kept ∙ ap (λ (w : List ℕ). take 32 (before ++ w)) (sym same)

first_left : (known new : Option (List ℕ)) (empty : Bool) (buffer : List ℕ) (n : ℕ)
    → n ≤ length buffer
    → DropsConsumable (if empty then None else prepend_known buffer known) new
    (Some (length buffer)) n
    → Consumes (if empty then None else prepend_known buffer known) new (take n buffer)
first_left known new true buffer n fits drops = tt
first_left None new false buffer n fits drops = tt
first_left (Some ys) new false buffer n fits drops =
    let all = buffer ++ ys in
    let cut : all ≡ take n buffer ++ drop n all =
    sym (take-append-drop n all) ∙ ap (λ (w : List ℕ). w ++ drop n all) (take-append-le n buffer ys fits) in
    subst (λ (o : Option (List ℕ)). Consumes (Some all) o (take n buffer)) (sym (drops fits)) cut

-- bytes that were read ahead are the first of those that are left
pub ahead_left : {R A : Type 0} (remaining : R → Option (List ℕ)) (r : BufReader R A)
    (new : Option (List ℕ)) (n : ℕ)
    → n ≤ length (reader_buffer r)
    → DropsConsumable (reader_remaining remaining r) new (Some (length (reader_buffer r))) n
    → Consumes (reader_remaining remaining r) new (take n (reader_buffer r))
ahead_left remaining r new n fits drops =
    first_left (remaining r.inner) new (reader_capacity r == 0) (reader_buffer r) n fits drops

-- so many of them were given
pub ahead_given : (before after : Told) (old new shown buffer : List ℕ) (most n : ℕ)
    → n ≤ most → n ≤ length buffer → shown ≡ buffer → new ≡ old ++ take n shown
    → Consumes before.bytes after.bytes (take n buffer) → Raises before.count after.count n
    → GaveOnto before after old new most n
ahead_given before after old new shown buffer most n within fits same items bytes count =
    let len : length (take n buffer) ≡ n = omega (arith, length-take n buffer, fits) in
    record {
      piece = take n buffer;
      gave = record {
        bytes = bytes;
        count = subst (λ (k : ℕ). Raises before.count after.count k) (sym len) count;
      };
      items = items ∙ ap (λ (w : List ℕ). old ++ take n w) same;
      count = len;
      within = within;
    }
