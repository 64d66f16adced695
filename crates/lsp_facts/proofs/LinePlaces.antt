-- The character at a place of a text, in the line in which the place lies.
use Rattle.std.proofs.Common.{◌≡◌, ◌⊎◌, ◌<◌, ◌≤◌, ◌+◌, ◌-◌, ℕ, zero, suc, Bool, true, false, cond}
use Rattle.std.proofs.Common.{List, [], ◌∷◌, ◌++◌, length, take, drop, get_or, refl, sym, ap, subst}
use Rattle.std.proofs.Common.{◌∙◌, inl, inr, arith, length-append, length-drop}
use Rattle.std.proofs.lemmas.Bool.{cases_lt}
use Rattle.std.proofs.lemmas.List.{append-nil, get_or_at, length-take-le, take_all, take_at}
use Rattle.std.specs.List.{slice_get}
use Rattle.lsp_text.specs.Lines.{Line, before_end, before_line, ended_line, is_feed, is_return}
use Rattle.lsp_text.specs.Lines.{line_at, lines_of, open_line, spelled, starts_with_feed, text_of}
use Rattle.lsp_text.specs.Difference.{line_around, line_before_place, line_number_at}
use Rattle.lsp_text.proofs.Cuts.{text_of-append}
use Rattle.lsp_text.proofs.Positions.{slice_get-past, text_of-lines_of}

-- ---- lists

behind : (b x : List ℕ) (i : ℕ) → slice_get (b ++ x) (length b + i) ≡ slice_get x i
behind [] x i = ap (slice_get x) (let e : 0 + i ≡ i = omega arith in e)
behind (c ∷ b) x i =
    ap (slice_get (c ∷ (b ++ x)))
    (let e : suc (length b) + i ≡ suc (length b + i) = omega arith in e)
    ∙ behind b x i

within : (x r : List ℕ) (i : ℕ) → i < length x → slice_get (x ++ r) i ≡ slice_get x i
within [] r i lt = absurd (omega arith)
within (c ∷ x) r zero lt = refl
within (c ∷ x) r (suc i) lt = within x r i (omega arith)

-- ---- the line of a place

-- the place n stands in one of these lines, or past the last of them, and `left` counts that line
-- and those after it
record StandsAt (ls : List Line) (n left : ℕ) : Type 0 where
  before : List Line
  own : Line
  after : List Line
  lines : ls ≡ before ++ own ∷ after
  offset : ℕ
  place : n ≡ length (text_of before) + offset
  inside : (offset < length (spelled own)) ⊎ (after ≡ [])
  count : left ≡ 1 + length after

-- the lines of a text that begins with c, by what c is and whether a LF follows
abbrev rows : ℕ → Bool → Bool → Bool → List Line → List Line
rows c feed return before_feed ls =
    cond feed (ended_line c ∷ ls)
    (cond return (cond before_feed (before_end c ls) (ended_line c ∷ ls)) (before_line (c ∷ []) ls))

-- a line with one character more, in its end or its text
abbrev longer_end : ℕ → Line → Line
longer_end c l = record { text = l.text; end = c ∷ l.end }

abbrev longer_text : ℕ → Line → Line
longer_text c l = record { text = c ∷ l.text; end = l.end }

end_grows : (c : ℕ) (l : Line) → length (spelled (longer_end c l)) ≡ suc (length (spelled l))
end_grows c l = omega (arith, length-append l.text (c ∷ l.end), length-append l.text l.end)

text_grows : (c : ℕ) (l : Line) → length (spelled (longer_text c l)) ≡ suc (length (spelled l))
text_grows c l = refl

-- the text's first place stands in its first line
at_start : (c : ℕ) (feed return before_feed : Bool) (l : Line) (ls : List Line)
    → StandsAt (rows c feed return before_feed (l ∷ ls)) 0
    (length (rows c feed return before_feed (l ∷ ls)))
at_start c false true true l ls =
    record {
      before = [];
      own = longer_end c l;
      after = ls;
      lines = refl;
      offset = 0;
      place = refl;
      inside = inl (omega (arith, end_grows c l));
      count = (let e : suc (length ls) ≡ 1 + length ls = omega arith in e);
    }
at_start c false false before_feed l ls =
    record {
      before = [];
      own = longer_text c l;
      after = ls;
      lines = refl;
      offset = 0;
      place = refl;
      inside = inl (omega (arith, text_grows c l));
      count = (let e : suc (length ls) ≡ 1 + length ls = omega arith in e);
    }
at_start c _ _ _ l ls =
    record {
      before = [];
      own = ended_line c;
      after = l ∷ ls;
      lines = refl;
      offset = 0;
      place = refl;
      inside = inl (let e : 0 < 1 = omega arith in e);
      count = (let e : suc (length (l ∷ ls)) ≡ 1 + length (l ∷ ls) = omega arith in e);
    }

front_grows : (c : ℕ) (ls : List Line)
    → length (text_of (ended_line c ∷ ls)) ≡ suc (length (text_of ls))
front_grows c ls = refl

-- one more line in front
one_more : (c : ℕ) (ls : List Line) (n left : ℕ) → StandsAt ls n left
    → StandsAt (ended_line c ∷ ls) (suc n) left
one_more c ls n left h =
    record {
      before = ended_line c ∷ h.before;
      own = h.own;
      after = h.after;
      lines = ap (λ (x : List Line). ended_line c ∷ x) h.lines;
      offset = h.offset;
      place = omega (arith, h.place, front_grows c h.before);
      inside = h.inside;
      count = h.count;
    }

-- a longer first line
grown : (grow : List Line → List Line) (longer : Line → Line)
    → ((l : Line) (ls : List Line) → grow (l ∷ ls) ≡ longer l ∷ ls)
    → ((l : Line) → length (spelled (longer l)) ≡ suc (length (spelled l)))
    → (before : List Line) (own : Line) (after : List Line) (offset n left : ℕ)
    → n ≡ length (text_of before) + offset
    → (offset < length (spelled own)) ⊎ (after ≡ []) → left ≡ 1 + length after
    → StandsAt (grow (before ++ own ∷ after)) (suc n) left
grown grow longer is grows [] own after offset n left place inside count =
    record {
      before = [];
      own = longer own;
      after = after;
      lines = is own after;
      offset = suc offset;
      place = omega (arith, place);
      inside = elim inside [ inl lt ↦ inl (omega (arith, lt, grows own)) | inr e ↦ inr e ];
      count = count;
    }
grown grow longer is grows (l ∷ before) own after offset n left place inside count =
    record {
      before = longer l ∷ before;
      own = own;
      after = after;
      lines = is l (before ++ own ∷ after);
      offset = offset;
      place = omega (
        arith,
        place,
        grows l,
        length-append (spelled (longer l)) (text_of before),
        length-append (spelled l) (text_of before),
      );
      inside = inside;
      count = count;
    }

-- one more character in front
one_later : (c : ℕ) (feed return before_feed : Bool) (ls : List Line) (n left : ℕ)
    → StandsAt ls n left → StandsAt (rows c feed return before_feed ls) (suc n) left
one_later c false true true ls n left h =
    subst (λ (x : List Line). StandsAt (before_end c x) (suc n) left) (sym h.lines)
    (grown (before_end c) (longer_end c) (λ l ls. refl) (end_grows c) h.before h.own h.after
    h.offset n left h.place h.inside h.count)
one_later c false false before_feed ls n left h =
    subst (λ (x : List Line). StandsAt (before_line (c ∷ []) x) (suc n) left) (sym h.lines)
    (grown (before_line (c ∷ [])) (longer_text c) (λ l ls. refl) (text_grows c) h.before h.own
    h.after h.offset n left h.place h.inside h.count)
one_later c _ _ _ ls n left h = one_more c ls n left h

-- the first of some lines
first_of : (before : List Line) (own : Line) (after : List Line)
    → (l : Line) × (ls : List Line) × (before ++ own ∷ after ≡ l ∷ ls)
first_of [] own after = (own, after, refl)
first_of (b ∷ before) own after = (b, before ++ own ∷ after, refl)

stands_at : (t : List ℕ) (n : ℕ) → StandsAt (lines_of t) n (length (lines_of (drop n t)))
stands_at [] zero =
    record {
      before = [];
      own = open_line [];
      after = [];
      lines = refl;
      offset = 0;
      place = refl;
      inside = inr refl;
      count = refl;
    }
stands_at [] (suc n) =
    record {
      before = [];
      own = open_line [];
      after = [];
      lines = refl;
      offset = suc n;
      place = (let e : suc n ≡ 0 + suc n = omega arith in e);
      inside = inr refl;
      count = refl;
    }
stands_at (c ∷ cs) zero =
    let s = stands_at cs 0 in
    let f = first_of s.before s.own s.after in
    subst (λ (x : List Line). StandsAt (rows c (is_feed c) (is_return c) (starts_with_feed cs) x) 0
    (length (rows c (is_feed c) (is_return c) (starts_with_feed cs) x)))
    (sym (s.lines ∙ f.2))
    (at_start c (is_feed c) (is_return c) (starts_with_feed cs) f.0 f.1)
stands_at (c ∷ cs) (suc n) =
    one_later c (is_feed c) (is_return c) (starts_with_feed cs) (lines_of cs) n
    (length (lines_of (drop n cs))) (stands_at cs n)

-- ---- the character there

module _ (t : List ℕ) (n : ℕ) (s : StandsAt (lines_of t) n (length (lines_of (drop n t)))) where
  -- what is shown of it
  abbrev Agrees : Type 0
  Agrees = slice_get (line_around t n) (length (line_before_place t n)) ≡ slice_get t n

  number_is : line_number_at t n ≡ length s.before
  number_is = omega (
    arith,
    ap length s.lines,
    length-append s.before (s.own ∷ s.after),
    s.count,
  )

  line_is : line_around t n ≡ spelled s.own
  line_is =
      ap (λ i. spelled (line_at i t)) number_is
      ∙ ap (λ (ls : List Line). spelled (get_or ls (length s.before) (open_line []))) s.lines
      ∙ ap spelled (get_or_at s.before s.own s.after (open_line []) (length s.before) refl)

  front_is : text_of (take (line_number_at t n) (lines_of t)) ≡ text_of s.before
  front_is =
      ap (λ i. text_of (take i (lines_of t))) number_is
      ∙ ap (λ (ls : List Line). text_of (take (length s.before) ls)) s.lines
      ∙ ap text_of (take_at s.before (s.own ∷ s.after) (length s.before) refl)

  -- how many characters of the line come before the place
  count_is : length (line_before_place t n) ≡ length (take n t) - length (text_of s.before)
  count_is =
      ap (λ (x : List ℕ). length (drop (length x) (take n t))) front_is
      ∙ length-drop (length (text_of s.before)) (take n t)

  text_is : t ≡ text_of s.before ++ (spelled s.own ++ text_of s.after)
  text_is =
      sym (text_of-lines_of t) ∙ ap text_of s.lines ∙ text_of-append s.before (s.own ∷ s.after)

  -- where the text goes on at the place, or ends there
  there : n ≤ length t → length (line_before_place t n) ≡ s.offset
  there le = omega (arith, count_is, length-take-le n t le, s.place)

  in_line : s.offset < length (spelled s.own) → Agrees
  in_line lt =
      let front = text_of s.before in
      let own = spelled s.own in
      let rest = text_of s.after in
      let le : n ≤ length t = omega (
        arith,
        lt,
        s.place,
        ap length text_is,
        length-append (text_of s.before) (spelled s.own ++ text_of s.after),
        length-append (spelled s.own) (text_of s.after),
      ) in
      ap (λ (l : List ℕ). slice_get l (length (line_before_place t n))) line_is
      ∙ ap (slice_get own) (there le)
      ∙ sym (within own rest s.offset lt)
      ∙ sym (behind front (own ++ rest) s.offset)
      ∙ sym (ap (slice_get (front ++ (own ++ rest))) s.place)
      ∙ sym (ap (λ (x : List ℕ). slice_get x n) text_is)

  in_last : s.after ≡ [] → Agrees
  in_last last =
      let front = text_of s.before in
      let own = spelled s.own in
      let text : t ≡ front ++ own = text_is
      ∙ ap (λ (ls : List Line). front ++ (own ++ text_of ls)) last
      ∙ ap (λ (x : List ℕ). front ++ x) (append-nil own) in
      let size : length t ≡ length (text_of s.before) + length (spelled s.own) =
      ap length text ∙ length-append front own in
      ap (λ (l : List ℕ). slice_get l (length (line_before_place t n))) line_is
      ∙ elim (cases_lt (length t) n) [
        | inl past ↦
            let all : length (take n t) ≡ length t = ap length (take_all n t (omega (arith, past))) in
            slice_get-past own (length (line_before_place t n))
            (omega (arith, count_is, all, size))
            ∙ sym (slice_get-past t n (omega (arith, past)))
        | inr le ↦
            ap (slice_get own) (there le) ∙ sym (behind front own s.offset)
            ∙ sym (ap (slice_get (front ++ own)) s.place)
            ∙ sym (ap (λ (x : List ℕ). slice_get x n) text)
      ]

-- **The character of the place's line behind its front is that of the text there**, and at the end
-- of the text there is none.
pub char_at_place : (t : List ℕ) (n : ℕ)
    → slice_get (line_around t n) (length (line_before_place t n)) ≡ slice_get t n
char_at_place t n =
    let s = stands_at t n in
    elim s.inside [ inl lt ↦ in_line t n s lt | inr last ↦ in_last t n s last ]
