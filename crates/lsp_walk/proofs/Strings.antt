-- The content of a string, at a place of the text.
use Rattle.std.proofs.Common.{◌≡◌, ℕ, suc, ◌+◌, ◌-◌, ◌<◌, ◌≤◌, Bool, true, false, ◌||◌, cond}
use Rattle.std.proofs.Common.{◌&&◌, ◌==◌, List, [], ◌∷◌, ◌++◌, length, take, drop, get_or, Option}
use Rattle.std.proofs.Common.{Some, None, option_and_then, lt_of_not-le, refl, sym, ap, ◌∙◌, arith}
use Rattle.std.proofs.lemmas.List.{drop_more, append_assoc, append-nil, drop-drop, get_or_past}
use Rattle.std.proofs.lemmas.List.{length-drop}
use Rattle.std.proofs.lemmas.List.Sums.{prefix_len-le-length}
use Rattle.std.proofs.lemmas.Bool.{or_parts, not-true, ne_eqb}
use Rattle.std.proofs.lemmas.Grind.{common_steps}
use Rattle.std.proofs.lemmas.Str.{IsCharBoundary-after_ascii, encode_ascii, len_utf8_ascii}
use Rattle.std.specs.List.{prefix_len}
use Rattle.std.specs.Str.{IsUtf8, IsCharBoundary}
use Rattle.std.specs.Char.{encode_utf8, len_utf8}
use Rattle.json.specs.Text.{code_unit, short_escape, is_high_surrogate, is_low_surrogate}
use Rattle.json.specs.Text.{surrogate_pair, Within, plain, after_backslash, after_u, after_high}
use Rattle.json.specs.Text.{prepend, content}
use Rattle.json.specs.Run.{is_plain, Escape}
use Rattle.json.specs.Lex.{lex, in_string, in_escape}
use Rattle.lsp_walk.specs.Texts.{one_byte}
use Rattle.lsp_walk.specs.Walk.{IsRun, IsText}
use Rattle.lsp_walk.proofs.Lexing.{lex_close, lex_plain, lex_run}

-- ---- a step of the content

pub content-after_backslash : (d : List ℕ) (i : ℕ) → i < length d
    → content after_backslash (drop i d)
    ≡ cond (get_or d i 0 == 117) (content after_u (drop (i + 1) d))
    (option_and_then (λ c. prepend (c ∷ []) (content plain (drop (i + 1) d)))
    (short_escape (get_or d i 0)))
unfolding content
content-after_backslash d i h = ap (content after_backslash) (drop_more d i 0 h)

four : (d : List ℕ) (i : ℕ) → i + 4 ≤ length d
    → drop i d ≡ get_or d i 0 ∷ get_or d (i + 1) 0 ∷ get_or d (i + 2) 0 ∷ get_or d (i + 3) 0 ∷ drop
    (i + 4) d
four d i h =
    let more : (j k : ℕ) → k ≡ j + 1 → j < length d → drop j d ≡ get_or d j 0 ∷ drop k d =
    λ j k e l. drop_more d j 0 l ∙ ap (λ n. get_or d j 0 ∷ drop n d) (sym e) in
    more i (i + 1) refl (omega arith)
    ∙ ap (λ l. get_or d i 0 ∷ l)
    (more (i + 1) (i + 2) (omega arith) (omega arith) ∙ ap (λ l. get_or d (i + 1) 0 ∷ l)
    (more (i + 2) (i + 3) (omega arith) (omega arith)
    ∙ ap (λ l. get_or d (i + 2) 0 ∷ l) (more (i + 3) (i + 4) (omega arith) (omega arith))))

pub content-after_u : (d : List ℕ) (i : ℕ) → i + 4 ≤ length d → content after_u (drop i d)
    ≡ option_and_then (λ u. cond (is_high_surrogate u) (content (after_high u) (drop (i + 4) d))
    (cond (is_low_surrogate u) None (prepend (encode_utf8 u) (content plain (drop (i + 4) d)))))
    (code_unit (get_or d i 0) (get_or d (i + 1) 0) (get_or d (i + 2) 0) (get_or d (i + 3) 0))
unfolding content
content-after_u d i h = ap (content after_u) (four d i h)

pub content-after_high : (d : List ℕ) (i high : ℕ) → i + 6 ≤ length d
    → content (after_high high) (drop i d)
    ≡ cond ((get_or d i 0 == 92) && (get_or d (i + 1) 0 == 117))
    (option_and_then (λ l. cond (is_low_surrogate l)
    (prepend (encode_utf8 (surrogate_pair high l)) (content plain (drop (i + 6) d))) None)
    (code_unit (get_or d (i + 2) 0) (get_or d (i + 2 + 1) 0) (get_or d (i + 2 + 2) 0)
    (get_or d (i + 2 + 3) 0))) None
unfolding content
content-after_high d i high h =
    let two : i + 1 + 1 ≡ i + 2 = omega arith in
    let six : i + 2 + 4 ≡ i + 6 = omega arith in
    let last = four d (i + 2) (omega arith)
    ∙ ap (λ n. get_or d (i + 2) 0 ∷ get_or d (i + 2 + 1) 0 ∷ get_or d (i + 2 + 2) 0 ∷ get_or d
    (i + 2 + 3) 0 ∷ drop n d) six in
    ap (content (after_high high))
    (drop_more d i 0 (omega arith)
    ∙ ap (λ l. get_or d i 0 ∷ l)
    (drop_more d (i + 1) 0 (omega arith)
    ∙ ap (λ l. get_or d (i + 1) 0 ∷ l) (ap (λ n. drop n d) two ∙ last)))

-- a short escape writes one byte of ASCII, which is not 0; 0 and the u of `\u` are none
pub short_writes : (x c : ℕ) → short_escape x ≡ Some c → (0 < c) × (c < 128) × (0 < x) × (x < 117)
unfolding short_escape
short_writes x c is = (
  grind (arith, common_steps),
  grind (arith, common_steps),
  grind (arith, common_steps),
  grind (arith, common_steps),
)

one_byte_cases : (r : Option ℕ) → ((c : ℕ) → r ≡ Some c → 0 < c)
    → (one_byte r ≡ 0 → r ≡ None) × ((one_byte r ≡ 0 → ⊥) → r ≡ Some (one_byte r))
one_byte_cases None more = (λ _. refl, λ some. absurd (some refl))
one_byte_cases (Some c) more =
    (λ (none : c ≡ 0). let no : ⊥ = omega (arith, none, more c refl) in absurd no, λ _. refl)

pub no_short : (x : ℕ) → one_byte (short_escape x) ≡ 0 → short_escape x ≡ None
no_short x none = (one_byte_cases (short_escape x) (λ c is. (short_writes x c is).0)).0 none

pub some_short : (x : ℕ) → (one_byte (short_escape x) ≡ 0 → ⊥)
    → short_escape x ≡ Some (one_byte (short_escape x))
some_short x some = (one_byte_cases (short_escape x) (λ c is. (short_writes x c is).0)).1 some

-- what follows the backslash of a short escape
pub short_is : (d : List ℕ) (i c : ℕ) → i < length d → short_escape (get_or d i 0) ≡ Some c
    → Escape d after_backslash i (Some (c, i + 1))
short_is d i c within is =
    let x = get_or d i 0 in
    let facts = short_writes x c is in
    let other : (x == 117) ≡ false = ne_eqb x 117 (λ (e : x ≡ 117). omega (arith, facts.3, e)) in
    let ascii : c ∷ [] ≡ encode_utf8 c = sym (encode_ascii c facts.1) in
    let rest = content plain (drop (i + 1) d) in
    let back : i + 1 - 1 ≡ i = omega arith in (
      content-after_backslash d i within
          ∙ ap (λ b. cond b (content after_u (drop (i + 1) d))
          (option_and_then (λ y. prepend (y ∷ []) rest) (short_escape x))) other
          ∙ ap (option_and_then (λ y. prepend (y ∷ []) rest)) is ∙ ap (λ s. prepend s rest) ascii,
      omega arith,
      omega arith,
      omega (arith, len_utf8_ascii c facts.1),
      omega (arith, ap (λ k. get_or d k 0) back, facts.3),
    )

pub content-nil : (w : Within) → content w [] ≡ None
unfolding content
content-nil plain = refl
content-nil _ = refl

pub short_after_u : (xs : List ℕ) → length xs < 4 → content after_u xs ≡ None
unfolding content
short_after_u (a ∷ b ∷ c ∷ d ∷ xs) h = let no : ⊥ = omega arith in absurd no
short_after_u _ h = refl

pub short_after_high : (high : ℕ) (xs : List ℕ) → length xs < 6
    → content (after_high high) xs ≡ None
unfolding content
short_after_high high (s ∷ u ∷ a ∷ b ∷ c ∷ d ∷ xs) h = let no : ⊥ = omega arith in absurd no
short_after_high high _ h = refl

pub len_utf8-le : (c : ℕ) → len_utf8 c ≤ 4
len_utf8-le c = grind arith

-- ---- plain bytes write themselves

pub prepend-prepend : (a b : List ℕ) (r : Option (List ℕ))
    → prepend a (prepend b r) ≡ prepend (a ++ b) r
prepend-prepend a b None = refl
prepend-prepend a b (Some s) = ap Some (sym (append_assoc a b s))

pub prepend-nil : (r : Option (List ℕ)) → prepend [] r ≡ r
prepend-nil None = refl
prepend-nil (Some s) = refl

run_byte : (p : Bool) (x n : ℕ) (xs : List ℕ) → p ≡ is_plain x
    → content plain xs ≡ prepend (take n xs) (content plain (drop n xs))
    → content plain (x ∷ xs)
    ≡ prepend (take (cond p (1 + n) 0) (x ∷ xs)) (content plain (drop (cond p (1 + n) 0) (x ∷ xs)))
unfolding content
run_byte false x n xs e ih = sym (prepend-nil _)
run_byte true x n xs e ih =
    let next : suc n ≡ 1 + n = omega arith in
    let none = or_parts ((x == 34) || (x == 92)) _ (not-true _ (sym e)) in
    let tests = or_parts (x == 34) _ none.0 in
    (λ i. cond (tests.0 i) (Some []) (cond (tests.1 i) (content after_backslash xs)
    (cond (none.1 i) None (prepend (x ∷ []) (ih i)))))
    ∙ prepend-prepend (x ∷ []) (take n xs) _
    ∙ ap (λ k. prepend (take k (x ∷ xs)) (content plain (drop k (x ∷ xs)))) next

pub content_plain : (x : ℕ) (xs : List ℕ) → is_plain x ≡ true
    → content plain (x ∷ xs) ≡ prepend (x ∷ []) (content plain xs)
content_plain x xs is = run_byte true x 0 xs (sym is) (sym (prepend-nil _))

content-run : (xs : List ℕ)
    → content plain xs ≡ prepend (take (prefix_len is_plain xs) xs)
    (content plain (drop (prefix_len is_plain xs) xs))
content-run [] = sym (prepend-nil _)
content-run (x ∷ xs) = run_byte (is_plain x) x (prefix_len is_plain xs) xs refl (content-run xs)

-- ---- runs

pub run_none : (d : List ℕ) (from : ℕ) → from ≤ length d → IsRun d from from []
run_none d from within = record {
  text = sym (prepend-nil _);
  passed = refl;
  forward = omega arith;
  within = within;
}

pub run_on : (d : List ℕ) (from at stop : ℕ) (s : List ℕ) → IsRun d from at s
    → stop ≡ at + prefix_len is_plain (drop at d)
    → IsRun d from stop (s ++ take (stop - at) (drop at d))
run_on d from at stop s run is =
    let n : prefix_len is_plain (drop at d) ≡ stop - at = omega arith in
    let there : drop (prefix_len is_plain (drop at d)) (drop at d) ≡ drop stop d =
    drop-drop _ at d ∙ ap (λ k. drop k d) (sym is) in
    let front = take (stop - at) (drop at d) in
    let plainly : content plain (drop at d) ≡ prepend front (content plain (drop stop d)) =
    content-run (drop at d) ∙ ap (λ l. prepend (take (prefix_len is_plain (drop at d)) (drop at d))
    (content plain l)) there
    ∙ ap (λ k. prepend (take k (drop at d)) (content plain (drop stop d))) n in
    record {
      text = run.text ∙ ap (prepend s) plainly ∙ prepend-prepend s front _;
      passed = run.passed ∙ lex_run (drop at d) ∙ ap (lex in_string) there;
      forward = omega (arith, run.forward);
      within = omega (
        arith,
        prefix_len-le-length is_plain (drop at d),
        length-drop at d,
        run.within,
      );
    }

at_quote : (d : List ℕ) (i : ℕ) → i < length d → get_or d i 0 ≡ 34
    → (content plain (drop i d) ≡ Some [])
    × (lex in_string (drop i d) ≡ lex in_string (34 ∷ drop (i + 1) d))
unfolding content
at_quote d i h e = let is = drop_more d i 0 h
    ∙ ap (λ x. x ∷ drop (i + 1) d) e in (ap (content plain) is, ap (lex in_string) is)

at_backslash : (d : List ℕ) (i : ℕ) → i < length d → get_or d i 0 ≡ 92
    → (content plain (drop i d) ≡ content after_backslash (drop (i + 1) d))
    × (lex in_string (drop i d) ≡ lex in_escape (drop (i + 1) d))
unfolding content lex
at_backslash d i h e = let is = drop_more d i 0 h
    ∙ ap (λ x. x ∷ drop (i + 1) d) e in (ap (content plain) is, ap (lex in_string) is)

pub closed : (d : List ℕ) (from stop : ℕ) (s : List ℕ) → IsRun d from stop s → get_or d stop 0 ≡ 34
    → IsText d from (stop + 1) s
closed d from stop s run is =
    let within : stop < length d =
    lt_of_not-le (λ past. omega (arith, get_or_past d stop 0 past)) in
    let quoted = at_quote d stop within is in
    record {
      text = run.text ∙ ap (prepend s) quoted.0 ∙ ap Some (append-nil s);
      passed = run.passed ∙ quoted.1 ∙ lex_close (drop (stop + 1) d);
      forward = omega (arith, run.forward);
      within = omega arith;
    }

pub escaped : (d : List ℕ) (from stop c next : ℕ) (s : List ℕ) → IsRun d from stop s
    → get_or d stop 0 ≡ 92 → Escape d after_backslash (stop + 1) (Some (c, next))
    → lex in_escape (drop (stop + 1) d) ≡ lex in_string (drop next d)
    → IsRun d from next (s ++ encode_utf8 c)
escaped d from stop c next s run is escape passed =
    let within : stop < length d =
    lt_of_not-le (λ past. omega (arith, get_or_past d stop 0 past)) in
    let slash = at_backslash d stop within is in
    record {
      text = run.text ∙ ap (prepend s) (slash.0 ∙ escape.0) ∙ prepend-prepend s _ _;
      passed = run.passed ∙ slash.1 ∙ passed;
      forward = omega (arith, run.forward, escape.1);
      within = escape.2;
    }

-- a string without an escape
pub plain_text : (d : List ℕ) (from stop : ℕ) → from ≤ length d
    → stop ≡ from + prefix_len is_plain (drop from d) → get_or d stop 0 ≡ 34
    → IsText d from (stop + 1) (take (stop - from) (drop from d))
plain_text d from stop within is mark =
    closed d from stop _ (run_on d from from stop [] (run_none d from within) is) mark

-- a text may be cut after a quote
pub after_quote : (d : List ℕ) (i : ℕ) → IsUtf8 d → get_or d i 0 ≡ 34 → IsCharBoundary d (i + 1)
after_quote d i text mark =
    let within : i < length d = lt_of_not-le (λ past. omega (arith, get_or_past d i 0 past)) in
    IsCharBoundary-after_ascii d i text within (omega (arith, mark))

pub four_plain : (d : List ℕ) (i : ℕ) → i + 4 ≤ length d → is_plain (get_or d i 0) ≡ true
    → is_plain (get_or d (i + 1) 0) ≡ true → is_plain (get_or d (i + 2) 0) ≡ true
    → is_plain (get_or d (i + 3) 0) ≡ true
    → lex in_string (drop i d) ≡ lex in_string (drop (i + 4) d)
four_plain d i h a b c e =
    ap (lex in_string) (four d i h) ∙ lex_plain _ _ a ∙ lex_plain _ _ b ∙ lex_plain _ _ c
    ∙ lex_plain _ _ e

pub escape_passed : (d : List ℕ) (i : ℕ) → i < length d
    → lex in_escape (drop i d) ≡ lex in_string (drop (i + 1) d)
unfolding lex
escape_passed d i h = ap (lex in_escape) (drop_more d i 0 h)

pub slash_passed : (d : List ℕ) (i : ℕ) → i + 1 < length d → get_or d i 0 ≡ 92
    → lex in_string (drop i d) ≡ lex in_string (drop (i + 2) d)
slash_passed d i h e =
    let two : i + 1 + 1 ≡ i + 2 = omega arith in
    (at_backslash d i (omega arith) e).1 ∙ escape_passed d (i + 1) h
    ∙ ap (λ k. lex in_string (drop k d)) two
