-- Parts of the text of a string: plain bytes, an escape, one part behind another.
use Rattle.std.proofs.Common.{◌≡◌, ℕ, zero, suc, ◌+◌, ◌-◌, ◌<◌, ◌≤◌, Bool, true, false, cond}
use Rattle.std.proofs.Common.{List, [], ◌∷◌, ◌++◌, length, take, drop, get_or, Some, refl}
use Rattle.std.proofs.Common.{sym, ap, ◌∙◌, subst, lt_of_not-le, arith, length-append, length-drop}
use Rattle.std.proofs.lemmas.List.{append_assoc, take-append-drop, drop-drop, get_or-drop}
use Rattle.std.proofs.lemmas.List.{get_or-append-add, get_or_past, take_at, length-take-le}
use Rattle.std.proofs.lemmas.List.{take-take}
use Rattle.std.proofs.lemmas.List.Sums.{prefix_len-le-length}
use Rattle.std.proofs.lemmas.Str.{IsUtf8-append, IsUtf8-take, IsUtf8-drop, IsUtf8-encode}
use Rattle.std.proofs.lemmas.Str.{IsCharBoundary-before_ascii, IsCharBoundary-after_ascii}
use Rattle.std.proofs.lemmas.Str.{encode_ascii}
use Rattle.std.proofs.Math.Seq.{drop-append-add, take-append-add}
use Rattle.std.specs.Char.{IsScalar, encode_utf8}
use Rattle.std.specs.List.{prefix_len}
use Rattle.std.specs.Simd.Lanes.{chunk}
use Rattle.std.specs.Str.{IsUtf8}
use Rattle.json.specs.Text.{plain, short_escape, after_backslash, prepend, content}
use Rattle.json.specs.Run.{is_plain, Escape}
use Rattle.json.specs.Lex.{lex, in_string, in_escape}
use Rattle.lsp_walk.specs.Texts.{IsPart, WritesPart, one_byte}
use Rattle.lsp_walk.proofs.Lexing.{lex_plain}
use Rattle.lsp_walk.proofs.Strings.{prepend-prepend, prepend-nil, content_plain, run_none}
use Rattle.lsp_walk.proofs.Strings.{escaped, some_short, short_writes, short_is, escape_passed}

-- ---- plain bytes

-- the first n bytes stand for themselves
front_step : (p : Bool) (x n m : ℕ) (xs : List ℕ) → p ≡ is_plain x → suc n ≤ cond p (1 + m) 0
    → (is_plain x ≡ true) × (n ≤ m)
front_step true x n m xs is h = (sym is, omega arith)
front_step false x n m xs is h = let no : ⊥ = omega arith in absurd no

plain_front : (n : ℕ) (xs : List ℕ) → n ≤ prefix_len is_plain xs
    → (content plain xs ≡ prepend (take n xs) (content plain (drop n xs)))
    × (lex in_string xs ≡ lex in_string (drop n xs))
plain_front zero xs h = (sym (prepend-nil _), refl)
plain_front (suc n) [] h = let no : ⊥ = omega arith in absurd no
plain_front (suc n) (x ∷ xs) h =
    let first = front_step (is_plain x) x n (prefix_len is_plain xs) xs refl h in
    let more = plain_front n xs first.1 in (
      content_plain x xs first.0 ∙ ap (prepend (x ∷ [])) more.0
          ∙ prepend-prepend (x ∷ []) (take n xs) _,
      lex_plain x xs first.0 ∙ more.1,
    )

pub plain_part : (d : List ℕ) (at n : ℕ) → at ≤ length d → n ≤ prefix_len is_plain (drop at d)
    → IsPart d at (at + n) (take n (drop at d))
plain_part d at n within plainly =
    let xs = drop at d in
    let there : drop n xs ≡ drop (at + n) d = drop-drop n at d in
    let front = plain_front n xs plainly in
    record {
      run = record {
        text = front.0 ∙ ap (λ l. prepend (take n xs) (content plain l)) there;
        passed = front.1 ∙ ap (lex in_string) there;
        forward = omega arith;
        within = omega (arith, plainly, prefix_len-le-length is_plain xs, length-drop at d);
      };
      utf8 = λ before text. subst IsUtf8 (sym (ap (λ l. before ++ take n xs ++ l) (sym there)
          ∙ append_assoc before (take n xs) (drop n xs)
          ∙ ap (λ l. before ++ l) (take-append-drop n xs))) text;
    }

-- the plain bytes up to the first other one
pub run_part : (d : List ℕ) (at stop : ℕ) → at ≤ length d
    → stop ≡ at + prefix_len is_plain (drop at d) → IsPart d at stop (take (stop - at) (drop at d))
run_part d at stop within is =
    let n = stop - at in
    let there : at + n ≡ stop = omega (arith, is) in
    subst (λ k. IsPart d at k (take n (drop at d))) there
    (plain_part d at n within (omega (arith, is)))

-- ---- one part behind another

pub part_on : (d : List ℕ) (from at end : ℕ) (s t : List ℕ) → IsPart d from at s → IsPart d at end t
    → IsPart d from end (s ++ t)
part_on d from at end s t first then =
    let a = first.run in
    let b = then.run in
    record {
      run = record {
        text = a.text ∙ ap (prepend s) b.text ∙ prepend-prepend s t _;
        passed = a.passed ∙ b.passed;
        forward = omega (arith, a.forward, b.forward);
        within = b.within;
      };
      utf8 = λ before text. subst IsUtf8 (ap (λ l. l ++ drop end d) (append_assoc before s t))
          (then.utf8 (before ++ s) (first.utf8 before text));
    }

-- ---- an escape

-- between ASCII bytes, a part of the text is replaced by another text
replaced : (d before e : List ℕ) (at next : ℕ) → at < next → next ≤ length d → get_or d at 0 < 128
    → get_or d (next - 1) 0 < 128 → IsUtf8 e → IsUtf8 (before ++ drop at d)
    → IsUtf8 (before ++ e ++ drop next d)
replaced d before e at next forward within first last text whole =
    let n = length before in
    let w = before ++ drop at d in
    let long : length w ≡ n + (length d - at) =
    length-append before (drop at d) ∙ ap (λ k. n + k) (length-drop at d) in
    let byte : (k : ℕ) → get_or w (n + k) 0 ≡ get_or d (at + k) 0 = λ k.
    get_or-append-add before (drop at d) k 0 ∙ get_or-drop at d k 0 in
    let n0 : n + 0 ≡ n = omega arith in
    let at0 : at + 0 ≡ at = omega arith in
    let begins : get_or w n 0 ≡ get_or d at 0 =
    ap (λ k. get_or w k 0) (sym n0) ∙ byte 0 ∙ ap (λ k. get_or d k 0) at0 in
    let k = next - 1 - at in
    let back : at + k ≡ next - 1 = omega arith in
    let ends : get_or w (n + k) 0 ≡ get_or d (next - 1) 0 =
    byte k ∙ ap (λ j. get_or d j 0) back in
    let front : IsUtf8 before = subst IsUtf8 (take_at before (drop at d) n refl)
    (IsUtf8-take w n whole (IsCharBoundary-before_ascii w n (omega (arith, long))
    (omega (arith, begins, first)))) in
    let cut = IsCharBoundary-after_ascii w (n + k) whole (omega (arith, long, back))
    (omega (arith, ends, last)) in
    let past : n + k + 1 ≡ n + (next - at) = omega arith in
    let there : at + (next - at) ≡ next = omega arith in
    let rest : IsUtf8 (drop next d) = subst IsUtf8
    (ap (λ j. drop j w) past ∙ drop-append-add before (drop at d) (next - at)
    ∙ drop-drop (next - at) at d ∙ ap (λ j. drop j d) there)
    (IsUtf8-drop w (n + k + 1) whole cut) in
    IsUtf8-append (before ++ e) (drop next d) (IsUtf8-append before e front text) rest

pub escape_part : (d : List ℕ) (at c next : ℕ) → at < length d → get_or d at 0 ≡ 92
    → Escape d after_backslash (at + 1) (Some (c, next))
    → lex in_escape (drop (at + 1) d) ≡ lex in_string (drop next d) → IsUtf8 (encode_utf8 c)
    → IsPart d at next (encode_utf8 c)
escape_part d at c next within mark escape passed text = record {
  run = escaped d at at c next [] (run_none d at (omega arith)) mark escape passed;
  utf8 = λ before whole.
      replaced d before (encode_utf8 c) at next (omega (arith, escape.1)) escape.2
      (omega (arith, mark)) escape.4 text whole;
}

-- what was written before the closing quote is UTF-8
pub whole_text : (d : List ℕ) (from stop : ℕ) (s : List ℕ) → IsPart d from stop s
    → IsUtf8 (drop from d) → get_or d stop 0 ≡ 34 → IsUtf8 s
whole_text d from stop s part text mark =
    let w = s ++ drop stop d in
    let n = length s in
    let within : stop < length d =
    lt_of_not-le (λ past. omega (arith, mark, get_or_past d stop 0 past)) in
    let long : length w ≡ n + (length d - stop) =
    length-append s (drop stop d) ∙ ap (λ k. n + k) (length-drop stop d) in
    let n0 : n + 0 ≡ n = omega arith in
    let stop0 : stop + 0 ≡ stop = omega arith in
    let begins : get_or w n 0 ≡ get_or d stop 0 = ap (λ k. get_or w k 0) (sym n0)
    ∙ get_or-append-add s (drop stop d) 0 0 ∙ get_or-drop stop d 0 0
    ∙ ap (λ k. get_or d k 0) stop0 in
    subst IsUtf8 (take_at s (drop stop d) n refl)
    (IsUtf8-take w n (part.utf8 [] text) (IsCharBoundary-before_ascii w n (omega (arith, long))
    (omega (arith, begins, mark))))

-- ---- what is written into a room

pub chunk_plain : (n : ℕ) (xs : List ℕ) → prefix_len is_plain (take n xs) ≤ prefix_len is_plain xs
chunk_plain (suc n) (x ∷ xs) = more (is_plain x) (chunk_plain n xs)
  where
    more : (p : Bool) → prefix_len is_plain (take n xs) ≤ prefix_len is_plain xs
        → cond p (1 + prefix_len is_plain (take n xs)) 0 ≤ cond p (1 + prefix_len is_plain xs) 0
    more true less = omega arith
    more false less = omega arith
chunk_plain _ _ = omega arith

-- of a block that was written whole, its first bytes
pub front_of_block : (room after d : List ℕ) (len at n count : ℕ) → len ≤ length room
    → take (len + n) after ≡ take len room ++ chunk at n d → count ≤ n
    → take (len + count) after ≡ take len room ++ take count (drop at d)
front_of_block room after d len at n count within written few =
    let xs = take len room in
    let long : length xs ≡ len = length-take-le len room within in
    sym (take-take (len + count) (len + n) after (omega arith))
    ∙ ap (take (len + count)) written
    ∙ ap (λ k. take (k + count) (xs ++ chunk at n d)) (sym long)
    ∙ take-append-add xs (chunk at n d) count
    ∙ ap (λ l. xs ++ l) (take-take count n (drop at d) few)

-- an escape that writes one byte
pub short_escape_part : (d : List ℕ) (at c : ℕ) → at < length d → get_or d at 0 ≡ 92
    → c ≡ one_byte (short_escape (get_or d (at + 1) 0)) → (c ≡ 0 → ⊥)
    → IsPart d at (at + 2) (c ∷ [])
short_escape_part d at c inside mark is some =
    let x = get_or d (at + 1) 0 in
    let writes : short_escape x ≡ Some c =
    some_short x (λ none. some (is ∙ none)) ∙ ap Some (sym is) in
    let facts = short_writes x c writes in
    let behind : at + 1 < length d =
    lt_of_not-le (λ past. omega (arith, facts.2, get_or_past d (at + 1) 0 past)) in
    let two : at + 1 + 1 ≡ at + 2 = omega arith in
    let escape : Escape d after_backslash (at + 1) (Some (c, at + 2)) =
    subst (λ k. Escape d after_backslash (at + 1) (Some (c, k))) two
    (short_is d (at + 1) c behind writes) in
    let passed : lex in_escape (drop (at + 1) d) ≡ lex in_string (drop (at + 2) d) =
    escape_passed d (at + 1) behind ∙ ap (λ k. lex in_string (drop k d)) two in
    let text : IsUtf8 (encode_utf8 c) = IsUtf8-encode c (ascii_scalar c facts.1) in
    let one : encode_utf8 c ≡ c ∷ [] = encode_ascii c facts.1 in
    subst (IsPart d at (at + 2)) one (escape_part d at c (at + 2) inside mark escape passed text)
  where
    ascii_scalar : (k : ℕ) → k < 128 → IsScalar k
    ascii_scalar k few = grind arith

pub written_part : (d : List ℕ) (from at end : ℕ) (room : List ℕ) (len : ℕ) (after : List ℕ)
    (count : ℕ) → IsPart d from at (take len room) → WritesPart d at end room len after count
    → IsPart d from end (take count after)
written_part d from at end room len after count part then =
    subst (IsPart d from end) (sym then.written)
    (part_on d from at end (take len room) then.text part then.part)
