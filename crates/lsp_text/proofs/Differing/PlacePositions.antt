-- The position of a place denotes it, unless it lies between a CR and a LF.
use Rattle.std.proofs.Common.{◌≡◌, ◌<◌, ◌≤◌, ◌+◌, ◌-◌, ℕ, true, false, List, [], ◌∷◌, ◌++◌, length, take, drop, zero, suc, refl, sym, ap, subst, ◌∙◌, inl, inr, ⊎_elim, arith, length-append, append_assoc}
use Rattle.std.proofs.lemmas.List.{drop-append-le, drop-drop, drop_at, take-append-le, take_at, drop-take}
use Rattle.std.proofs.lemmas.Bool.{cases_lt}
use Rattle.lsp_text.specs.Lines.{Line, open_line, text_of, spelled, lines_of, has_no_line_end, is_feed, is_return, IsEndBefore, AreEnded, IsCut}
use Rattle.lsp_text.specs.Places.{units}
use Rattle.lsp_text.specs.Difference.{line_number_at, line_before_place, LiesInsideEnd, PlacesHavePositions}
use Rattle.lsp_text.proofs.Cuts.{IsCut-lines_of, lines_of-end, lines_of-ended, lines_of-no_end, text_of-append, whole_parts}
use Rattle.lsp_text.proofs.Differing.LineStarts.{count-whole}
use Rattle.lsp_text.proofs.Positions.{text_of-lines_of}

no_end-drop : (x : List ℕ) (n : ℕ) → has_no_line_end x ≡ true → has_no_line_end (drop n x) ≡ true
no_end-drop x zero h = h
no_end-drop [] (suc n) h = refl
no_end-drop (c ∷ cs) (suc n) h =
    let p : (is_feed c ≡ false) × (is_return c ≡ false) × (has_no_line_end cs ≡ true) = whole_parts (is_feed c) (is_return c) (has_no_line_end cs) h in
    no_end-drop cs n p.2

-- the place n of a text of these lines stands in one of them, not behind its text, and with it so
-- many lines follow
record StandsIn (ls : List Line) (t : List ℕ) (n : ℕ) : Type 0 where
  before : List Line
  line : Line
  after : List Line
  lines : ls ≡ before ++ line ∷ after
  offset : ℕ
  place : n ≡ length (text_of before) + offset
  within : offset ≤ length line.text
  count : length (lines_of (drop n t)) ≡ 1 + length after

-- behind a line's text, and before its end is over
inside : (l : Line) (u : List ℕ) (n : ℕ) → IsEndBefore u l.end → length l.text < n → n < length (spelled l) → LiesInsideEnd (spelled l ++ u) n
inside l u n ends low high =
    let sum = length-append l.text l.end in
    elim ends [
      | inl e ↦
          record {
            before = l.text;
            after = u;
            text = ap (λ x. (l.text ++ x) ++ u) e ∙ append_assoc l.text (13 ∷ 10 ∷ []) u;
            place = omega (arith, ap length e);
          }
      | inr k ↦ elim k [ inl e ↦ absurd (omega (arith, ap length e)) | inr p ↦ absurd (omega (arith, ap length p.0)) ]
    ]

-- one more line in front
inside_later : (x t : List ℕ) (n : ℕ) → length x ≤ n → LiesInsideEnd t (n - length x) → LiesInsideEnd (x ++ t) n
inside_later x t n le h =
    record {
      before = x ++ h.before;
      after = h.after;
      text = ap (λ y. x ++ y) h.text ∙ sym (append_assoc x h.before (13 ∷ 10 ∷ h.after));
      place = omega (arith, h.place, length-append x h.before);
    }

-- in the first line
in_first : (l : Line) (front : List Line) (last : List ℕ) (n : ℕ) → has_no_line_end l.text ≡ true → IsEndBefore (text_of front ++ last) l.end → AreEnded last front →
    has_no_line_end last ≡ true → n ≤ length l.text → StandsIn (l ∷ (front ++ open_line last ∷ [])) (spelled l ++ (text_of front ++ last)) n
in_first l front last n whole ends ended last_whole le =
    let u = text_of front ++ last in
    let rest : drop n (spelled l ++ u) ≡ drop n l.text ++ (l.end ++ u) =
    ap (drop n) (append_assoc l.text l.end u) ∙ drop-append-le n l.text (l.end ++ u) le in
    record {
      before = [];
      line = l;
      after = front ++ open_line last ∷ [];
      lines = refl;
      offset = n;
      place = (let e : n ≡ 0 + n = omega arith in e);
      within = le;
      count =
          ap (λ x. length (lines_of x)) rest ∙ count-whole (drop n l.text) (l.end ++ u) (no_end-drop l.text n whole) ∙ ap length (lines_of-end l.end u ends)
          ∙ ap (λ k. suc k) (ap length (lines_of-ended front last ended ∙ ap (λ x. front ++ x) (lines_of-no_end last last_whole)))
          ∙ (let e : suc (length (front ++ open_line last ∷ [])) ≡ 1 + length (front ++ open_line last ∷ []) = omega arith in e);
    }

-- in a line behind the first
in_later : (l : Line) (ls : List Line) (t : List ℕ) (n : ℕ) → length (spelled l) ≤ n → StandsIn ls t (n - length (spelled l)) → StandsIn (l ∷ ls) (spelled l ++ t) n
in_later l ls t n le h =
    let m = n - length (spelled l) in
    let rest : drop n (spelled l ++ t) ≡ drop m t =
    ap (λ k. drop k (spelled l ++ t)) (let e : n ≡ length (spelled l) + m = omega arith in e) ∙ drop_past (spelled l) t m in
    record {
      before = l ∷ h.before;
      line = h.line;
      after = h.after;
      lines = ap (λ (x : List Line). l ∷ x) h.lines;
      offset = h.offset;
      place = omega (arith, h.place, length-append (spelled l) (text_of h.before));
      within = h.within;
      count = ap (λ x. length (lines_of x)) rest ∙ h.count;
    }
  where
    drop_past : (x y : List ℕ) (k : ℕ) → drop (length x + k) (x ++ y) ≡ drop k y
    drop_past x y k = sym (drop-drop k (length x) (x ++ y)) ∙ ap (drop k) (drop_at x y (length x) refl)

stands : (front : List Line) (last : List ℕ) (n : ℕ) → AreEnded last front → has_no_line_end last ≡ true → n ≤ length (text_of front ++ last) →
    (LiesInsideEnd (text_of front ++ last) n → ⊥) → StandsIn (front ++ open_line last ∷ []) (text_of front ++ last) n
stands [] last n ended last_whole le apart =
    record {
      before = [];
      line = open_line last;
      after = [];
      lines = refl;
      offset = n;
      place = (let e : n ≡ 0 + n = omega arith in e);
      within = le;
      count = ap length (lines_of-no_end (drop n last) (no_end-drop last n last_whole));
    }
stands (l ∷ front) last n ended last_whole le apart =
    let u = text_of front ++ last in
    let x = spelled l in
    let whole : text_of (l ∷ front) ++ last ≡ x ++ u = append_assoc x (text_of front) last in
    let most : n ≤ length x + length u = omega (arith, ap length whole, length-append x u) in
    let ends : IsEndBefore u l.end = ended.1 in
    subst (λ t. StandsIn (l ∷ (front ++ open_line last ∷ [])) t n) (sym whole)
    (⊎_elim
    (λ lt. ⊎_elim
    (λ past. absurd (apart (subst (λ t. LiesInsideEnd t n) (sym whole) (inside l u n ends past lt))))
    (λ here. in_first l front last n ended.0 ends ended.2 last_whole here)
    (cases_lt (length l.text) n))
    (λ ge. in_later l (front ++ open_line last ∷ []) u n ge
    (stands front last (n - length x) ended.2 last_whole (omega arith) (λ h. apart (subst (λ t. LiesInsideEnd t n) (sym whole) (inside_later x u n ge h)))))
    (cases_lt n (length x)))

stands_in_text : (t : List ℕ) (n : ℕ) → n ≤ length t → (LiesInsideEnd t n → ⊥) → StandsIn (lines_of t) t n
stands_in_text t n le apart =
    let cut : IsCut t (lines_of t) = IsCut-lines_of t in
    let u = text_of cut.front ++ cut.last in
    subst (λ ls. StandsIn ls t n) (sym cut.lines)
    (subst (λ x. StandsIn (cut.front ++ open_line cut.last ∷ []) x n) cut.text
    (stands cut.front cut.last n cut.ended cut.whole (omega (arith, ap length cut.text)) (λ h. apart (subst (λ x. LiesInsideEnd x n) cut.text h))))

number_of : (t : List ℕ) (n : ℕ) (s : StandsIn (lines_of t) t n) → line_number_at t n ≡ length s.before
number_of t n s = omega (arith, ap length s.lines, length-append s.before (s.line ∷ s.after), s.count)

before_of : (t : List ℕ) (n : ℕ) (s : StandsIn (lines_of t) t n) → line_before_place t n ≡ take s.offset s.line.text
before_of t n s =
    let b = text_of s.before in
    let k = length b in
    let rest = s.line.end ++ text_of s.after in
    let whole : t ≡ b ++ (s.line.text ++ rest) =
    sym (text_of-lines_of t) ∙ ap text_of s.lines ∙ text_of-append s.before (s.line ∷ s.after) ∙ ap (λ x. b ++ x) (append_assoc s.line.text s.line.end (text_of s.after)) in
    let first : text_of (take (line_number_at t n) (lines_of t)) ≡ b =
    ap (λ i. text_of (take i (lines_of t))) (number_of t n s) ∙ ap (λ ls. text_of (take (length s.before) ls)) s.lines ∙ ap text_of (take_at s.before (s.line ∷ s.after) (length s.before) refl) in
    ap (λ x. drop (length x) (take n t)) first ∙ ap (λ m. drop k (take m t)) s.place ∙ drop-take k s.offset t
    ∙ ap (λ x. take s.offset (drop k x)) whole ∙ ap (take s.offset) (drop_at b (s.line.text ++ rest) k refl) ∙ take-append-le s.offset s.line.text rest s.within

-- **A place that lies not between a CR and a LF is the one that its position denotes.**
pub places_have_positions : PlacesHavePositions
places_have_positions enc t n le apart few narrow =
    let s = stands_in_text t n le apart in
    inr (record {
      before = s.before;
      line = s.line;
      after = s.after;
      lines = s.lines;
      number = omega (arith, number_of t n s, few);
      offset = s.offset;
      place = s.place;
      within = s.within;
      column = inr (omega (arith, narrow, ap (units enc) (before_of t n s)));
    })
