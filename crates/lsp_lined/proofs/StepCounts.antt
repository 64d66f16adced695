-- Counts of steps, one after another.
use Rattle.std.proofs.Common.{◌≡◌, ◌<◌, ◌≤◌, ◌+◌, ◌-◌, ◌*◌, ◌^◌, ℕ, List, [], ◌++◌, length, take, drop, sym, ap, ◌∙◌, arith, take-add, Result, Ok, Err, OnErr, Bool, false, ⊎_elim}
use Rattle.std.proofs.lemmas.List.{append-nil, drop-drop, drop_more}
use Rattle.std.proofs.lemmas.Bool.{false≢true, cases_lt}
use Rattle.std.specs.Bool.{IsTrue}
use Rattle.std.specs.Prelude.{min, max}
use Rattle.std.specs.Str.{chars, IsUtf8}
use Rattle.lsp_types.specs.declared.position.Position.{Position}
use Rattle.lsp_types.specs.declared.position.Encoding.TheVariants.{Utf8}
use Rattle.lsp_types.specs.declared.position.Span.{Span}
use Rattle.lsp_text.specs.Lines.{Line, open_line, spelled, text_of, lines_of, line_at}
use Rattle.lsp_text.specs.Places.{units}
use Rattle.lsp_lined.specs.Steps.{raised, RisesWithin, line_bytes, line_number, bytes_about, touched}
use Rattle.lsp_text.proofs.Cuts.{text_of-append, lines_of-HasFirst}
use Rattle.lsp_text.proofs.Counting.{units-append, units-utf8_text}

pub line_number_lt : (t : List ℕ) (p : Position) → line_number t p < length (lines_of t)
line_number_lt t p = let h = lines_of-HasFirst t in let some : 0 < length (lines_of t) = omega (arith, ap length h.are) in omega arith

min-twice : (most count a b : ℕ) → min (min (count + a) most + b) most ≡ min (count + (a + b)) most
min-twice most count a b = omega arith

-- counting twice counts the sum
pub raised-raised : (count a b : ℕ) → raised (raised count a) b ≡ raised count (a + b)
raised-raised count a b = min-twice (2 ^ 64 - 1) count a b

-- the bytes of some lines
lines_bytes : List Line → ℕ → ℕ → ℕ
lines_bytes ls a b = units Utf8 (text_of (take (b - a) (drop a ls)))

-- fewer lines have no more bytes
lines_within : (ls : List Line) (a b c d : ℕ) → a ≤ b → b ≤ c → c ≤ d → lines_bytes ls b c ≤ lines_bytes ls a d
unfolding lines_bytes
lines_within ls a b c d ab bc cd =
    let e1 : (b - a) + (d - b) ≡ d - a = omega arith in
    let e2 : (c - b) + (d - c) ≡ d - b = omega arith in
    let e3 : a + (b - a) ≡ b = omega arith in
    let back : drop (b - a) (drop a ls) ≡ drop b ls = drop-drop (b - a) a ls ∙ ap (λ x. drop x ls) e3 in
    let whole : take (d - a) (drop a ls) ≡ take (b - a) (drop a ls) ++ take (d - b) (drop b ls) =
    ap (λ x. take x (drop a ls)) (sym e1) ∙ take-add (b - a) (d - b) (drop a ls) ∙ ap (λ x. take (b - a) (drop a ls) ++ take (d - b) x) back in
    let inner : take (d - b) (drop b ls) ≡ take (c - b) (drop b ls) ++ take (d - c) (drop (c - b) (drop b ls)) =
    ap (λ x. take x (drop b ls)) (sym e2) ∙ take-add (c - b) (d - c) (drop b ls) in
    omega (
      arith,
      ap (λ x. units Utf8 (text_of x)) whole,
      ap (units Utf8) (text_of-append (take (b - a) (drop a ls)) (take (d - b) (drop b ls))),
      units-append Utf8 (text_of (take (b - a) (drop a ls))) (text_of (take (d - b) (drop b ls))),
      ap (λ x. units Utf8 (text_of x)) inner,
      ap (units Utf8) (text_of-append (take (c - b) (drop b ls)) (take (d - c) (drop (c - b) (drop b ls)))),
      units-append Utf8 (text_of (take (c - b) (drop b ls))) (text_of (take (d - c) (drop (c - b) (drop b ls)))),
    )

one_line : (t : List ℕ) (i : ℕ) → i < length (lines_of t) → line_bytes t i ≡ lines_bytes (lines_of t) i (i + 1)
unfolding lines_bytes
one_line t i lt =
    let ls = lines_of t in
    let n : i + 1 - i ≡ 1 = omega arith in
    sym (ap (λ x. units Utf8 (text_of (take x (drop i ls)))) n ∙ ap (λ (x : List Line). units Utf8 (text_of (take 1 x))) (drop_more ls i (open_line []) lt) ∙ ap (units Utf8) (append-nil (spelled (line_at i t))))

-- what lies about two lines
about_first : (t : List ℕ) (i j : ℕ) → i < length (lines_of t) → line_bytes t i ≤ bytes_about t i j
unfolding lines_bytes
about_first t i j lt = omega (arith, one_line t i lt, lines_within (lines_of t) (min i j - 1) i (i + 1) (max i j + 1) (omega arith) (omega arith) (omega arith))

about_second : (t : List ℕ) (i j : ℕ) → j < length (lines_of t) → line_bytes t j ≤ bytes_about t i j
unfolding lines_bytes
about_second t i j lt = omega (arith, one_line t j lt, lines_within (lines_of t) (min i j - 1) j (j + 1) (max i j + 1) (omega arith) (omega arith) (omega arith))

-- the first place was looked for
pub counted_first : (t x : List ℕ) (span : Span) (s0 s1 : ℕ) → s1 ≡ raised s0 (line_bytes t (line_number t span.first)) → RisesWithin s0 s1 0 (4 * touched t span x)
counted_first t x span s0 s1 e =
    let i = line_number t span.first in
    let j = line_number t span.second in
    let most = about_first t i j (line_number_lt t span.first) in
    record { by = line_bytes t i; least = omega arith; most = omega arith; is = e }

-- then the second one
pub counted_second : (t x : List ℕ) (span : Span) (s0 s1 s2 : ℕ) → s1 ≡ raised s0 (line_bytes t (line_number t span.first)) → RisesWithin s1 s2 0 (line_bytes t (line_number t span.second)) →
    RisesWithin s0 s2 0 (4 * touched t span x)
counted_second t x span s0 s1 s2 e1 e2 =
    let i = line_number t span.first in
    let j = line_number t span.second in
    let first = about_first t i j (line_number_lt t span.first) in
    let second = about_second t i j (line_number_lt t span.second) in
    record {
      by = line_bytes t i + e2.by;
      least = omega arith;
      most = omega (arith, e2.most);
      is = e2.is ∙ ap (λ n. raised n e2.by) e1 ∙ raised-raised s0 (line_bytes t i) e2.by;
    }

-- then the insertion
pub counted_all : (t bs : List ℕ) (span : Span) (s0 s1 s2 s3 : ℕ) → IsUtf8 bs → s1 ≡ raised s0 (line_bytes t (line_number t span.first)) → RisesWithin s1 s2 0 (line_bytes t (line_number t span.second)) → s3 ≡ raised s2 (length bs) →
    RisesWithin s0 s3 (length bs) (4 * touched t span (chars bs))
counted_all t bs span s0 s1 s2 s3 u e1 e2 e3 =
    let i = line_number t span.first in
    let j = line_number t span.second in
    let first = about_first t i j (line_number_lt t span.first) in
    let second = about_second t i j (line_number_lt t span.second) in
    let inserted = units-utf8_text bs u in
    record {
      by = line_bytes t i + e2.by + length bs;
      least = omega arith;
      most = omega (arith, e2.most);
      is =
          e3 ∙ ap (λ k. raised k (length bs)) (e2.is ∙ ap (λ n. raised n e2.by) e1 ∙ raised-raised s0 (line_bytes t i) e2.by)
          ∙ raised-raised s0 (line_bytes t i + e2.by) (length bs);
    }

pub on_err : {A E : Type 0} {P : Type 0} (r : Result A E) → P → OnErr r P
on_err (Ok x) h = tt
on_err (Err e) h = h

-- an edit is not over the limit
pub within_limit : (first second bytes inserted limit : ℕ) (v : Bool) → (IsTrue v → limit < bytes - (second - first) + inserted) × (limit < bytes - (second - first) + inserted → IsTrue v) → v ≡ false →
    bytes - (second - first) + inserted ≤ limit
within_limit first second bytes inserted limit v is none =
    ⊎_elim (λ (over : limit < bytes - (second - first) + inserted). absurd (false≢true (sym none ∙ is.1 over))) (λ (le : bytes - (second - first) + inserted ≤ limit). le)
    (cases_lt limit (bytes - (second - first) + inserted))
