-- What a tape holds after it was read into and given from.
use Rattle.std.proofs.Common.{◌≡◌, Bool, true, false, ℕ, zero, suc, ◌+◌, ◌-◌, ◌<◌, ◌≤◌, List, [], ◌∷◌, ◌++◌, length, take, drop, refl, sym, ap, subst, ◌∙◌, append_assoc, append-nil, arith}
use Rattle.std.proofs.lemmas.List.{length-append, length-take, nil_from_length}
use borrow.Rule.Slice.PartMut.{put_mid}
use Rattle.lsp_frame.specs.Told.{Told, KeepsBytes, after_failure}
use Rattle.lsp_frame.proofs.Telling.{gave_then, gave_kept, take_written}
use Rattle.memchr.specs.Find.{Passes, Nowhere, NoneBefore, is_byte}
use Rattle.lsp_log.specs.Log.{HasLine, holds_feed, with_feed}
use Rattle.lsp_log.proofs.Bytes.{first_cut, nowhere_none}
use Rattle.std.specs.Prelude.{slice_index, ◌==◌}
use Rattle.std.proofs.lemmas.Map.Views.{exact_unsigned_eq}
use Rattle.lsp_log.specs.Tape.{Held, Pulled, IsOver, ReadFailed, FailsShort, Filled, Taken, Wants, Misses}

-- ---- pulls

pub pulled_then : (a b c : ℕ) (before now after : Told) (x y : List ℕ) → Pulled a b before now x → Pulled b c now after y → Pulled a c before after (x ++ y)
pulled_then a b c before now after x y p q = record {
  read = gave_then before now after x y p.read q.read;
  left = omega (arith, p.left, q.left, length-append x y);
  failures = q.failures ∙ p.failures;
}

pub failed_then : (a b : ℕ) (before now after : Told) (x : List ℕ) → Pulled a b before now x → ReadFailed b now after → ReadFailed a before after
failed_then a b before now after x p f = record {
  piece = x ++ f.piece;
  read = gave_then before now after x f.piece p.read f.read;
  within = omega (arith, length-append x f.piece, p.left, f.within);
  failures = f.failures ∙ ap after_failure p.failures;
}

-- the reader fails once it gave these bytes
pub fails_after : (a b : ℕ) (before now after : Told) (x : List ℕ) → Pulled a b before now x → KeepsBytes now after → after.failures ≡ after_failure now.failures → ReadFailed a before after
fails_after a b before now after x p keeps failures = record {
  piece = x;
  read = gave_kept before now after x p.read keeps;
  within = omega (arith, p.left);
  failures = failures ∙ ap after_failure p.failures;
}

pub fails_short : (old new : Held) (before now after : Told) (x : List ℕ) (count : ℕ) → Filled old new before now x → KeepsBytes now after → after.failures ≡ after_failure now.failures → length new.rest < count → FailsShort old before after count
fails_short old new before now after x count filled keeps failures less = record {
  failed = record {
    piece = x;
    read = gave_kept before now after x filled.pulled.read keeps;
    within = omega (arith, filled.pulled.left);
    failures = failures ∙ ap after_failure filled.pulled.failures;
  };
  fewer = omega (arith, ap length filled.rest, less);
}

pub taken_both : (a b c : Held) (before now after : Told) (x y : List ℕ) → Taken a b before now x → Taken b c now after y → Taken a c before after (x ++ y)
taken_both a b c before now after x y p q = record {
  piece = p.piece ++ q.piece;
  pulled = pulled_then a.left b.left c.left before now after p.piece q.piece p.pulled q.pulled;
  whole = sym (append_assoc a.rest p.piece q.piece) ∙ ap (λ (w : List ℕ). w ++ q.piece) p.whole ∙ append_assoc x b.rest q.piece ∙ ap (λ (w : List ℕ). x ++ w) q.whole ∙ sym (append_assoc x y c.rest);
}

pub filled_then : (a b c : Held) (before now after : Told) (x y : List ℕ) → Filled a b before now x → Filled b c now after y → Filled a c before after (x ++ y)
filled_then a b c before now after x y p q = record {
  pulled = pulled_then a.left b.left c.left before now after x y p.pulled q.pulled;
  rest = q.rest ∙ ap (λ (w : List ℕ). w ++ y) p.rest ∙ append_assoc a.rest x y;
}

-- what was read stands behind what was held
pub filled_window : (near buffer : List ℕ) (len count left_old left_new : ℕ) (before after : Told) → len ≤ 64 → length near ≡ 64 → count ≤ length buffer → length buffer ≡ 64 - len → Pulled left_old left_new before after (take count buffer)
    → Filled (record { rest = take len near; left = left_old }) (record { rest = take (len + count) (put_mid len (64 - len) near buffer); left = left_new }) before after (take count buffer)
filled_window near buffer len count left_old left_new before after small full fits same pulled = record {
  pulled = pulled;
  rest = take_written (take len near) buffer _ len count (omega (arith, length-take len near, small, full)) fits;
}

-- ---- a line

pub line_found : (near rest : List ℕ) (at : ℕ) → near ≡ rest → length near ≤ 64 → NoneBefore (Passes (is_byte 10) near) 0 (length near) at → Passes (is_byte 10) near at
    → (at < length rest) × HasLine rest (take at rest) (drop (at + 1) rest)
line_found near rest at same short none is =
    let cut = first_cut 10 near at none is in
    subst (λ (w : List ℕ). (at < length w) × HasLine w (take at w) (drop (at + 1) w)) same (
      none.high,
      record {
        whole = cut.whole ∙ sym (append_assoc (take at near) (10 ∷ []) (drop (at + 1) near));
        short = omega (arith, none.high, short, length-take at near);
        one = cut.none;
      },
    )

pub no_line : (near rest : List ℕ) → near ≡ rest → Nowhere (Passes (is_byte 10) near) 0 (length near) → holds_feed rest ≡ false
no_line near rest same nowhere = subst (λ (w : List ℕ). holds_feed w ≡ false) same (nowhere_none 10 near nowhere)

pub nothing_more : (b c : Held) (now after : Told) (y : List ℕ) → Filled b c now after y → length y ≡ 0 → b.rest ≡ c.rest
nothing_more b c now after y f none = sym (f.rest ∙ ap (λ (w : List ℕ). b.rest ++ w) (nil_from_length y none) ∙ append-nil b.rest)

-- ---- bytes that are taken

pub taken_then : (a b c : Held) (before now after : Told) (given y : List ℕ) → Taken a b before now given → Filled b c now after y → Taken a c before after given
taken_then a b c before now after given y t f = record {
  piece = t.piece ++ y;
  pulled = pulled_then a.left b.left c.left before now after t.piece y t.pulled f.pulled;
  whole = sym (append_assoc a.rest t.piece y) ∙ ap (λ (w : List ℕ). w ++ y) t.whole ∙ append_assoc given b.rest y ∙ ap (λ (w : List ℕ). given ++ w) (sym f.rest);
}

pub part_short : (a c : Held) (before after : Told) (given : List ℕ) (len : ℕ) → Taken a c before after given → length given ≡ len → length c.rest ≡ 0 → IsOver c.left after → Wants a c before after len
part_short a c before after given len t is none over = record {
  piece = t.piece;
  pulled = t.pulled;
  less = omega (arith, ap length t.whole, length-append given c.rest, is, none);
  over = over;
}

first_of_rest : (xs : List ℕ) → 0 < length xs → slice_index xs 0 ≡ 10 → xs ≡ 10 ∷ drop 1 xs
first_of_rest [] some is = absurd (omega (arith, some))
first_of_rest (x ∷ xs) some is = ap (λ b. b ∷ xs) is

pub part_ends : (a c d : Held) (before after : Told) (given : List ℕ) → Taken a c before after given → 0 < length c.rest → slice_index c.rest 0 ≡ 10 → d ≡ record c { rest = drop 1 c.rest } → Taken a d before after (with_feed given)
part_ends a c d before after given t some is same =
    subst (λ (h : Held). Taken a h before after (with_feed given)) (sym same)
    (record {
      piece = t.piece;
      pulled = t.pulled;
      whole = t.whole ∙ ap (λ (w : List ℕ). given ++ w) (first_of_rest c.rest some is) ∙ sym (append_assoc given (10 ∷ []) (drop 1 c.rest));
    })

index_past : (xs ys : List ℕ) (n : ℕ) → length xs ≡ n → slice_index (xs ++ ys) n ≡ slice_index ys 0
index_past [] ys zero e = refl
index_past (x ∷ xs) ys (suc n) e = index_past xs ys n (omega (arith, e))
index_past _ ys _ e = absurd (omega (arith, e))

not_equal : (b c : ℕ) → (b ≡ c → ⊥) → (b == c) ≡ false
not_equal b c differ = by_test (b == c) refl
  where
    by_test : (t : Bool) → (b == c) ≡ t → t ≡ false
    by_test false e = refl
    by_test true e = absurd (differ (exact_unsigned_eq b c e))

pub part_misses : (a c : Held) (before after : Told) (given : List ℕ) (len : ℕ) → Taken a c before after given → length given ≡ len → 0 < length c.rest → length c.rest ≤ 64 → (slice_index c.rest 0 ≡ 10 → ⊥) → Misses a c before after len
part_misses a c before after given len t is some short differ = record {
  piece = t.piece;
  pulled = t.pulled;
  more = omega (arith, ap length t.whole, length-append given c.rest, is, some);
  near = omega (arith, ap length t.whole, length-append given c.rest, is, short);
  other = ap (λ (w : List ℕ). slice_index w len == 10) t.whole ∙ ap (λ b. b == 10) (index_past given c.rest len is) ∙ not_equal (slice_index c.rest 0) 10 differ;
}

pub some_there : (near rest : List ℕ) → near ≡ rest → (length near == 0) ≡ false → 0 < length rest
some_there [] rest same some = absurd cc
some_there (x ∷ near) rest same some = omega (arith, ap length (sym same))

pub pulled_to : (a b c : ℕ) (before after : Told) (x : List ℕ) → b ≡ c → Pulled a b before after x → Pulled a c before after x
pulled_to a b c before after x same p = subst (λ (n : ℕ). Pulled a n before after x) same p
