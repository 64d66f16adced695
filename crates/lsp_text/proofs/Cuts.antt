-- The lines of a text are its one cut, and what an edit of a part of a text leaves of them.
use Rattle.std.proofs.Common.{◌≡◌, ◌||◌, ℕ, Bool, true, false, cond, List, [], ◌∷◌, ◌++◌, refl, sym, ap, subst, ◌∙◌, inl, inr, append_assoc}
use Rattle.std.proofs.lemmas.List.{append-nil, same_from_push}
use Rattle.std.proofs.lemmas.Bool.{false≢true, cond_both, cond-true, cond-false, eqb-true}
use Rattle.lsp_text.specs.Lines.{Line, open_line, spelled, text_of, is_return, is_feed, starts_with_feed, has_no_line_end, IsEndBefore, AreEnded, IsCut, before_line, before_end, ended_line, put_before, lines_of}

-- a first line, and those after it
pub record HasFirst (ls : List Line) : Type 0 where
  pub first : Line
  pub rest : List Line
  pub are : ls ≡ first ∷ rest

has_first : (l : Line) (ls : List Line) → HasFirst (l ∷ ls)
has_first l ls = record { first = l; rest = ls; are = refl }

before_end-HasFirst : (c : ℕ) (ls : List Line) → HasFirst ls → HasFirst (before_end c ls)
before_end-HasFirst c [] h = absurd (cc h.are)
before_end-HasFirst c (l ∷ ls) h = has_first _ _

before_line-HasFirst : (cs : List ℕ) (ls : List Line) → HasFirst (before_line cs ls)
before_line-HasFirst cs [] = has_first _ _
before_line-HasFirst cs (l ∷ ls) = has_first _ _

put_before-HasFirst : (c : ℕ) (rest : List ℕ) (ls : List Line) → HasFirst ls → HasFirst (put_before c rest ls)
put_before-HasFirst c rest ls h =
    cond_both (is_feed c) _ _ HasFirst (λ _. has_first _ _)
    (λ _. cond_both (is_return c) _ _ HasFirst
    (λ _. cond_both (starts_with_feed rest) _ _ HasFirst (λ _. before_end-HasFirst c ls h) (λ _. has_first _ _))
    (λ _. before_line-HasFirst (c ∷ []) ls))

-- each text has a first line
pub lines_of-HasFirst : (t : List ℕ) → HasFirst (lines_of t)
lines_of-HasFirst [] = has_first _ _
lines_of-HasFirst (c ∷ cs) = put_before-HasFirst c cs (lines_of cs) (lines_of-HasFirst cs)

before_line-nil : (ls : List Line) → HasFirst ls → before_line [] ls ≡ ls
before_line-nil [] h = absurd (cc h.are)
before_line-nil (l ∷ ls) h = refl

before_line-before_line : (cs ds : List ℕ) (ls : List Line) → before_line cs (before_line ds ls) ≡ before_line (cs ++ ds) ls
before_line-before_line cs ds [] = refl
before_line-before_line cs ds (l ∷ ls) = ap (λ x. let m : Line = record { text = x; end = l.end } in m ∷ ls) (sym (append_assoc cs ds l.text))

-- what a text with no line end inside says of its first character
pub whole_parts : (f r n : Bool) → cond (f || r) false n ≡ true → (f ≡ false) × (r ≡ false) × (n ≡ true)
whole_parts false false n h = (refl, refl, h)
whole_parts _ _ n h = absurd (false≢true h)

pub put_before-other : (c : ℕ) (rest : List ℕ) (ls : List Line) → is_feed c ≡ false → is_return c ≡ false → put_before c rest ls ≡ before_line (c ∷ []) ls
put_before-other c rest ls f r = cond-false _ _ _ f ∙ cond-false _ _ _ r

-- a text with no line end, in front of another
pub lines_of-whole : (x u : List ℕ) → has_no_line_end x ≡ true → lines_of (x ++ u) ≡ before_line x (lines_of u)
lines_of-whole [] u h = sym (before_line-nil (lines_of u) (lines_of-HasFirst u))
lines_of-whole (c ∷ cs) u h =
    let p : (is_feed c ≡ false) × (is_return c ≡ false) × (has_no_line_end cs ≡ true) = whole_parts (is_feed c) (is_return c) (has_no_line_end cs) h in
    put_before-other c (cs ++ u) (lines_of (cs ++ u)) p.0 p.1 ∙ ap (before_line (c ∷ [])) (lines_of-whole cs u p.2)
    ∙ before_line-before_line (c ∷ []) cs (lines_of u)

-- a line end, in front of a text
pub lines_of-end : (e u : List ℕ) → IsEndBefore u e → lines_of (e ++ u) ≡ record { text = []; end = e } ∷ lines_of u
lines_of-end e u h = elim h [
  | inl is ↦ rw is refl
  | inr k ↦ elim k [ inl is ↦ rw is refl | inr p ↦ let is = p.0 in let apart = p.1 in rw is (cond-false _ _ _ apart) ]
]

-- a line that is ended, in front of a text
pub lines_of-line : (l : Line) (u : List ℕ) → has_no_line_end l.text ≡ true → IsEndBefore u l.end → lines_of (spelled l ++ u) ≡ l ∷ lines_of u
lines_of-line l u whole ends =
    ap lines_of (append_assoc l.text l.end u) ∙ lines_of-whole l.text (l.end ++ u) whole ∙ ap (before_line l.text) (lines_of-end l.end u ends)
    ∙ ap (λ x. let m : Line = record { text = x; end = l.end } in m ∷ lines_of u) (append-nil l.text)

-- **Ended lines stay as they are, whatever text follows.**
pub lines_of-ended : (ls : List Line) (u : List ℕ) → AreEnded u ls → lines_of (text_of ls ++ u) ≡ ls ++ lines_of u
lines_of-ended [] u h = refl
lines_of-ended (l ∷ ls) u h =
    ap lines_of (append_assoc (spelled l) (text_of ls) u) ∙ lines_of-line l (text_of ls ++ u) h.0 h.1 ∙ ap (λ x. l ∷ x) (lines_of-ended ls u h.2)

pub lines_of-no_end : (x : List ℕ) → has_no_line_end x ≡ true → lines_of x ≡ open_line x ∷ []
lines_of-no_end x h =
    ap lines_of (sym (append-nil x)) ∙ lines_of-whole x [] h ∙ ap (λ (y : List ℕ). open_line y ∷ []) (append-nil x)

-- **A text has no other cut than its lines.**
pub lines_of-IsCut : (t : List ℕ) (ls : List Line) → IsCut t ls → lines_of t ≡ ls
lines_of-IsCut t ls cut =
    ap lines_of (sym cut.text) ∙ lines_of-ended cut.front cut.last cut.ended
    ∙ ap (λ x. cut.front ++ x) (lines_of-no_end cut.last cut.whole) ∙ sym cut.lines

pub text_of-append : (ls ms : List Line) → text_of (ls ++ ms) ≡ text_of ls ++ text_of ms
text_of-append [] ms = refl
text_of-append (l ∷ ls) ms = ap (λ x. spelled l ++ x) (text_of-append ls ms) ∙ sym (append_assoc (spelled l) (text_of ls) (text_of ms))

-- a line that is ended, in front of a cut
cut_more : (l : Line) (u : List ℕ) (ls : List Line) → has_no_line_end l.text ≡ true → IsEndBefore u l.end → IsCut u ls → IsCut (spelled l ++ u) (l ∷ ls)
cut_more l u ls whole ends cut =
    record {
      front = l ∷ cut.front;
      last = cut.last;
      lines = ap (λ x. l ∷ x) cut.lines;
      ended = (whole, subst (λ x. IsEndBefore x l.end) (sym cut.text) ends, cut.ended);
      whole = cut.whole;
      text = append_assoc (spelled l) (text_of cut.front) cut.last ∙ ap (λ x. spelled l ++ x) cut.text;
    }

-- a character that ends no line, in front of a cut
no_end_more : (c : ℕ) (cs : List ℕ) → is_feed c ≡ false → is_return c ≡ false → has_no_line_end cs ≡ true → has_no_line_end (c ∷ cs) ≡ true
no_end_more c cs f r h = rw (f, r) h

cut_char : (c : ℕ) (u : List ℕ) (ls front : List Line) (last : List ℕ) → is_feed c ≡ false → is_return c ≡ false → ls ≡ front ++ open_line last ∷ [] →
    AreEnded last front → has_no_line_end last ≡ true → text_of front ++ last ≡ u → IsCut (c ∷ u) (before_line (c ∷ []) ls)
cut_char c u ls [] last f r lines ended whole text =
    record {
      front = [];
      last = c ∷ last;
      lines = ap (before_line (c ∷ [])) lines;
      ended = tt;
      whole = no_end_more c last f r whole;
      text = ap (λ x. c ∷ x) text;
    }
cut_char c u ls (l ∷ front) last f r lines ended whole text =
    record {
      front = record { text = c ∷ l.text; end = l.end } ∷ front;
      last = last;
      lines = ap (before_line (c ∷ [])) lines;
      ended = (no_end_more c l.text f r ended.0, ended.1, ended.2);
      whole = whole;
      text = ap (λ x. c ∷ x) text;
    }

cut_end : (c : ℕ) (u : List ℕ) (ls : List Line) → IsEndBefore u (c ∷ []) → IsCut u ls → IsCut (c ∷ u) (ended_line c ∷ ls)
cut_end c u ls ends cut = cut_more (ended_line c) u ls refl ends cut

cut_both : (c d : ℕ) (u : List ℕ) (ls : List Line) → c ≡ 13 → d ≡ 10 → IsCut u ls → IsCut (c ∷ d ∷ u) (record { text = []; end = c ∷ d ∷ [] } ∷ ls)
cut_both c d u ls r f cut = cut_more (record { text = []; end = c ∷ d ∷ [] }) u ls refl (inl (rw (r, f) refl)) cut

cut_step : (c : ℕ) (cs : List ℕ) → (starts_with_feed cs ≡ true → is_return c ≡ true → IsCut (c ∷ cs) (before_end c (lines_of cs))) → IsCut cs (lines_of cs) → IsCut (c ∷ cs) (lines_of (c ∷ cs))
cut_step c cs both cut =
    let P : List Line → Type 0 = λ x. IsCut (c ∷ cs) x in
    cond_both (is_feed c) _ _ P
    (λ f. cut_end c cs (lines_of cs) (inr (inl (ap (λ (x : ℕ). x ∷ []) (eqb-true c 10 f)))) cut)
    (λ f. cond_both (is_return c) _ _ P
    (λ r. cond_both (starts_with_feed cs) _ _ P (λ s. both s r)
    (λ s. cut_end c cs (lines_of cs) (inr (inr (ap (λ (x : ℕ). x ∷ []) (eqb-true c 13 r), s))) cut))
    (λ r. cut_char c cs (lines_of cs) cut.front cut.last f r cut.lines cut.ended cut.whole cut.text))

-- **The lines of a text are a cut of it.**
pub IsCut-lines_of : (t : List ℕ) → IsCut t (lines_of t)
IsCut-lines_of [] = record { front = []; last = []; lines = refl; ended = tt; whole = refl; text = refl }
IsCut-lines_of (c ∷ []) = cut_step c [] (λ s _. absurd (false≢true s)) (IsCut-lines_of [])
IsCut-lines_of (c ∷ d ∷ ds) =
    cut_step c (d ∷ ds)
    (λ s r.
    let e : before_end c (lines_of (d ∷ ds)) ≡ record { text = []; end = c ∷ d ∷ [] } ∷ lines_of ds = ap (before_end c) (cond-true _ _ _ s) in
    subst (λ x. IsCut (c ∷ d ∷ ds) x) (sym e) (cut_both c d ds (lines_of ds) (eqb-true c 13 r) (eqb-true d 10 s) (IsCut-lines_of ds)))
    (IsCut-lines_of (d ∷ ds))

-- the last character is a CR, where the one before the text was one by `b`
abbrev pub last_is_return : Bool → List ℕ → Bool
last_is_return b [] = b
last_is_return b (c ∷ cs) = last_is_return (is_return c) cs

pub last_is_return-append : (b : Bool) (x y : List ℕ) → last_is_return b (x ++ y) ≡ last_is_return (last_is_return b x) y
last_is_return-append b [] y = refl
last_is_return-append b (c ∷ cs) y = last_is_return-append (is_return c) cs y

last_is_return-any : (a b : Bool) (y : List ℕ) → last_is_return false y ≡ true → last_is_return a y ≡ true
last_is_return-any a b [] h = absurd (false≢true h)
last_is_return-any a b (c ∷ cs) h = h

ends_more : (x s e : List ℕ) → (e ≡ 13 ∷ [] → x ≡ [] → starts_with_feed s ≡ false) → IsEndBefore (x ++ []) e → IsEndBefore (x ++ s) e
ends_more [] s e none h = elim h [ inl a ↦ inl a | inr k ↦ elim k [ inl a ↦ inr (inl a) | inr p ↦ inr (inr (p.0, none p.0 refl)) ] ]
ends_more (c ∷ cs) s e none h = h

-- ended lines before nothing are ended before a text, unless a CR meets a LF
pub AreEnded-before : (ls : List Line) (s : List ℕ) → AreEnded [] ls → (last_is_return false (text_of ls) ≡ true → starts_with_feed s ≡ false) → AreEnded s ls
AreEnded-before [] s h apart = tt
AreEnded-before (l ∷ ls) s h apart = (
  h.0,
  ends_more (text_of ls) s l.end
      (λ e n. apart (
      last_is_return-append false (spelled l) (text_of ls) ∙ ap (λ x. last_is_return (last_is_return false (spelled l)) x) n
      ∙ last_is_return-append false l.text l.end ∙ ap (λ x. last_is_return (last_is_return false l.text) x) e))
      h.1,
  AreEnded-before ls s h.2
      (λ r. apart (last_is_return-append false (spelled l) (text_of ls) ∙ last_is_return-any (last_is_return false (spelled l)) false (text_of ls) r)),
)

-- **Where the last line of a text is empty, its other lines stay before a text whose first LF joins
-- no CR.**
pub lines_of-joined : (t s : List ℕ) (front : List Line) → lines_of t ≡ front ++ open_line [] ∷ [] → (last_is_return false t ≡ true → starts_with_feed s ≡ false) →
    lines_of (t ++ s) ≡ front ++ lines_of s
lines_of-joined t s front are apart =
    let cut : IsCut t (lines_of t) = IsCut-lines_of t in
    let same : (front ≡ cut.front) × (open_line [] ≡ open_line cut.last) = same_from_push _ _ _ _ (sym are ∙ cut.lines) in
    let last : [] ≡ cut.last = ap (λ (l : Line). l.text) same.1 in
    let whole : text_of front ≡ t =
    sym (append-nil (text_of front)) ∙ ap (λ x. text_of front ++ x) last ∙ ap (λ (x : List Line). text_of x ++ cut.last) same.0 ∙ cut.text in
    let ended : AreEnded [] front = subst (λ (x : List ℕ). AreEnded x front) (sym last) (subst (λ (x : List Line). AreEnded cut.last x) (sym same.0) cut.ended) in
    ap (λ (x : List ℕ). lines_of (x ++ s)) (sym whole)
    ∙ lines_of-ended front s (AreEnded-before front s ended (λ r. apart (ap (last_is_return false) (sym whole) ∙ r)))
