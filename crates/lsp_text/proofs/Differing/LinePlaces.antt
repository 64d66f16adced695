-- The line in which a place lies, from where it begins in the bytes of its text.
use Rattle.std.proofs.Common.{◌≡◌, ◌≤◌, ◌+◌, ◌-◌, ℕ, true, List, [], ◌++◌, length, get_or, take, drop, take-add, refl, sym, ap, subst, ◌∙◌, arith, length-append}
use Rattle.std.proofs.lemmas.List.{append-nil, drop_at, get_or-append-add, length_push, take_at}
use Rattle.std.specs.Str.{chars, IsUtf8, IsCharBoundary}
use Rattle.std.proofs.lemmas.Str.{chars-append, IsUtf8-take, IsCharBoundary-at_seam}
use Rattle.lsp_text.specs.declared.cut.FirstLine.{FirstLine}
use Rattle.lsp_text.specs.Lines.{Line, open_line, text_of, spelled, lines_of, has_no_line_end, line_at}
use Rattle.lsp_text.specs.FirstLine.{IsFirstLine}
use Rattle.lsp_text.specs.Difference.{line_number_at, line_around, line_before_place}
use Rattle.lsp_text.specs.Parting.{IsLineStart}
use Rattle.lsp_text.proofs.Cuts.{lines_of-no_end}
use Rattle.lsp_text.proofs.Positions.{lines_of-first, text_of-lines_of}
use Rattle.lsp_text.proofs.JoinedLines.{text_of-open}
use Rattle.lsp_text.proofs.Splices.{chars-cut}

-- a text, its lines and a place of it, cut where the place's line begins
record IsPlaced (bs : List ℕ) (offset start : ℕ) : Type 0 where
  front : List Line
  count : length (lines_of (chars (take start bs))) ≡ length front + 1
  lines : lines_of (chars bs) ≡ front ++ lines_of (chars (drop start bs))
  text : text_of front ≡ chars (take start bs)
  back : drop (length (chars (take offset bs))) (chars bs) ≡ chars (drop offset bs)
  before : take (length (chars (take offset bs))) (chars bs) ≡ chars (take start bs) ++ chars (take (offset - start) (drop start bs))

take_between : (bs : List ℕ) (i j : ℕ) → i ≤ j → take j bs ≡ take i bs ++ take (j - i) (drop i bs)
take_between bs i j le = ap (λ n. take n bs) (let e : j ≡ i + (j - i) = omega arith in e) ∙ take-add i (j - i) bs

placed : (bs : List ℕ) (offset start : ℕ) → IsUtf8 bs → IsCharBoundary bs offset → IsLineStart bs offset start → IsPlaced bs offset start
placed bs offset start u cut h =
    let f = h.lines.front in
    let t = chars (take start bs) in
    let x = chars (take offset bs) in
    let both = chars-cut bs offset u cut in
    record {
      front = f;
      count = ap length h.lines.first ∙ length_push f (open_line []);
      lines = ap lines_of (chars-cut bs start u h.boundary) ∙ h.lines.both;
      text = sym (append-nil (text_of f)) ∙ sym (text_of-open f []) ∙ ap text_of (sym h.lines.first) ∙ text_of-lines_of t;
      back = ap (drop (length x)) both ∙ drop_at x (chars (drop offset bs)) (length x) refl;
      before =
          ap (take (length x)) both ∙ take_at x (chars (drop offset bs)) (length x) refl
          ∙ ap chars (take_between bs start offset h.within) ∙ chars-append (take start bs) (take (offset - start) (drop start bs)) (IsUtf8-take bs start u h.boundary);
    }

number_placed : (bs : List ℕ) (offset start : ℕ) → IsLineStart bs offset start → (p : IsPlaced bs offset start) → line_number_at (chars bs) (length (chars (take offset bs))) ≡ length p.front
number_placed bs offset start h p =
    omega (
      arith,
      ap length p.lines,
      length-append p.front (lines_of (chars (drop start bs))),
      h.inside,
      ap (λ x. length (lines_of x)) p.back,
    )

-- **The line that begins there is the one in which the place lies.**
pub line_there : (bs : List ℕ) (offset start : ℕ) → IsUtf8 bs → IsCharBoundary bs offset → IsLineStart bs offset start →
    spelled (line_at 0 (chars (drop start bs))) ≡ line_around (chars bs) (length (chars (take offset bs)))
line_there bs offset start u cut h =
    let p = placed bs offset start u cut h in
    let rest = lines_of (chars (drop start bs)) in
    let none = open_line [] in
    sym (
    ap (λ i. spelled (line_at i (chars bs))) (number_placed bs offset start h p)
    ∙ ap (λ ls. spelled (get_or ls (length p.front) none)) p.lines
    ∙ ap (λ i. spelled (get_or (p.front ++ rest) i none)) (let e : length p.front ≡ length p.front + 0 = omega arith in e)
    ∙ ap spelled (get_or-append-add p.front rest 0 none))

-- **Its number is how many lines the text before it has, less the one that is empty.**
pub number_there : (bs : List ℕ) (offset start : ℕ) → IsUtf8 bs → IsCharBoundary bs offset → IsLineStart bs offset start →
    length (lines_of (chars (take start bs))) ≡ line_number_at (chars bs) (length (chars (take offset bs))) + 1
number_there bs offset start u cut h =
    let p = placed bs offset start u cut h in p.count ∙ ap (λ n. n + 1) (sym (number_placed bs offset start h p))

-- **What stands in it before the place.**
pub before_there : (bs : List ℕ) (offset start : ℕ) → IsUtf8 bs → IsCharBoundary bs offset → IsLineStart bs offset start →
    chars (take (offset - start) (drop start bs)) ≡ line_before_place (chars bs) (length (chars (take offset bs)))
before_there bs offset start u cut h =
    let p = placed bs offset start u cut h in
    let t = chars bs in
    let n = length (chars (take offset bs)) in
    let f = p.front in
    let x = chars (take start bs) in
    let y = chars (take (offset - start) (drop start bs)) in
    let first : text_of (take (line_number_at t n) (lines_of t)) ≡ x =
    ap (λ i. text_of (take i (lines_of t))) (number_placed bs offset start h p) ∙ ap (λ ls. text_of (take (length f) ls)) p.lines
    ∙ ap text_of (take_at f (lines_of (chars (drop start bs))) (length f) refl) ∙ p.text in
    sym (ap (λ k. drop (length k) (take n t)) first ∙ ap (drop (length x)) p.before ∙ drop_at x y (length x) refl)

-- ---- the first line of a text

pub line_whole : (bs : List ℕ) → has_no_line_end (chars bs) ≡ true → chars bs ≡ spelled (line_at 0 (chars bs))
line_whole bs h = sym (ap (λ ls. spelled (get_or ls 0 (open_line []))) (lines_of-no_end (chars bs) h) ∙ append-nil (chars bs))

-- a first line and its end, as one part of the text
first_parts : (bs : List ℕ) (f : FirstLine) → IsFirstLine bs f → bs ≡ (f.text.now ++ f.end.now) ++ f.rest.now
first_parts bs f h = h.parts

pub first_boundary : (bs : List ℕ) (f : FirstLine) → IsFirstLine bs f → IsCharBoundary bs (length f.text.now + length f.end.now)
first_boundary bs f h =
    subst (IsCharBoundary bs) (length-append f.text.now f.end.now) (IsCharBoundary-at_seam bs (f.text.now ++ f.end.now) f.rest.now (first_parts bs f h) h.rest_utf8)

pub first_spelled : (bs : List ℕ) (f : FirstLine) → IsFirstLine bs f → chars (take (length f.text.now + length f.end.now) bs) ≡ spelled (line_at 0 (chars bs))
first_spelled bs f h =
    let x = f.text.now ++ f.end.now in
    ap chars (ap (take (length f.text.now + length f.end.now)) (first_parts bs f h) ∙ take_at x f.rest.now (length f.text.now + length f.end.now) (length-append f.text.now f.end.now))
    ∙ chars-append f.text.now f.end.now h.text_utf8
    ∙ sym (ap (λ ls. spelled (get_or ls 0 (open_line []))) (lines_of-first bs f h))
