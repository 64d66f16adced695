-- Texts that are the same up to line ends: what a LF for each line end makes of them.
use Rattle.std.proofs.Common.{◌≡◌, ◌⊎◌, ◌≤◌, ◌&&◌, ◌||◌, ◌↔◌, ℕ, Bool, true, false, cond, List}
use Rattle.std.proofs.Common.{[], ◌∷◌, ◌++◌, length, not, ◌==◌, is_some, unwrap_or, Option, Some}
use Rattle.std.proofs.Common.{None, MatchOption, Bor, refl, sym, ap, subst, ◌∙◌, inl, inr}
use Rattle.std.proofs.Common.{arith, length-append}
use Rattle.std.proofs.lemmas.Bool.{false≢true, eqb-true, and_right}
use Rattle.std.proofs.lemmas.List.{append-nil, append_assoc, append_cancel_left, nil_from_length}
use Rattle.std.proofs.lemmas.List.{same_from_push}
use Rattle.std.specs.List.{flat_map}
use Rattle.lsp_text.specs.Lines.{Line, is_feed, is_return, starts_with_feed, has_no_line_end}
use Rattle.lsp_text.specs.Lines.{before_end, before_line, put_before, lines_of, EndsWith}
use Rattle.lsp_text.specs.SameText.{compared, with_feeds, without_last_feed, is_nothing}
use Rattle.lsp_text.specs.SameText.{with_feed, FeedsEndLines, SameTexts, ExactTexts}
use Rattle.lsp_text.specs.SameText.{BeginsOtherwise, EndsOtherwise, StartsOtherwise, IsTaken, due}
use Rattle.lsp_text.specs.declared.same.LinesLeft.{LinesLeft}
use Rattle.lsp_text.specs.declared.same.LinesLeft.TheVariants.{Rest, Nothing}
use Rattle.lsp_text.proofs.Cuts.{whole_parts}

-- ---- one character

is_thirteen : (c : ℕ) → is_return c ≡ true → c ≡ 13
is_thirteen c h = eqb-true c 13 h

is_ten : (c : ℕ) → is_feed c ≡ true → c ≡ 10
is_ten c h = eqb-true c 10 h

or_false : (v w : Bool) → v || w ≡ false → (v ≡ false) × (w ≡ false)
or_false true w h = absurd (false≢true (sym h))
or_false false w h = (refl, h)

-- a character that is no CR
pub with_feeds-other : (c : ℕ) (t : List ℕ) → is_return c ≡ false
    → with_feeds (c ∷ t) ≡ c ∷ with_feeds t
with_feeds-other c t h = rw h refl

pub with_feeds-return : (t : List ℕ) → starts_with_feed t ≡ false
    → with_feeds (13 ∷ t) ≡ 10 ∷ with_feeds t
with_feeds-return t h = rw h refl

-- ---- one text before another

step-append : (v : Bool) (y : ℕ) (w x z : List ℕ) → w ≡ x ++ z
    → cond v w (y ∷ w) ≡ cond v x (y ∷ x) ++ z
step-append true y w x z e = e
step-append false y w x z e = ap (λ (l : List ℕ). y ∷ l) e

last-append : (c : ℕ) (b : List ℕ) → (c ≡ 13 → starts_with_feed b ≡ false)
    → is_return c && starts_with_feed b ≡ false
last-append c b apart = by (is_return c) refl
  where
    by : (v : Bool) → is_return c ≡ v → v && starts_with_feed b ≡ false
    by true h = apart (is_thirteen c h)
    by false h = refl

-- **Two texts where no CR LF is parted have the LFs of both.**
pub with_feeds-append : (a b : List ℕ) → (EndsWith a (13 ∷ []) → starts_with_feed b ≡ false)
    → with_feeds (a ++ b) ≡ with_feeds a ++ with_feeds b
with_feeds-append [] b apart = refl
with_feeds-append (c ∷ []) b apart =
    let h = cond (is_return c) 10 c in
    ap (λ (v : Bool). cond v (with_feeds b) (h ∷ with_feeds b))
    (last-append c b (λ e. apart (record { before = []; text = ap (λ (x : ℕ). x ∷ []) e })))
    ∙ ap (λ (v : Bool). cond v [] (h ∷ []) ++ with_feeds b)
    (sym (and_right (is_return c) false refl))
with_feeds-append (c ∷ d ∷ a) b apart =
    step-append (is_return c && is_feed d) (cond (is_return c) 10 c) (with_feeds ((d ∷ a) ++ b))
    (with_feeds (d ∷ a)) (with_feeds b)
    (with_feeds-append (d ∷ a) b (λ (e : EndsWith (d ∷ a) (13 ∷ [])). apart (record {
      before = c ∷ e.before;
      text = ap (λ (x : List ℕ). c ∷ x) e.text;
    })))

-- a text with no line end, before another
pub with_feeds-front : (t r : List ℕ) → has_no_line_end t ≡ true
    → with_feeds (t ++ r) ≡ t ++ with_feeds r
with_feeds-front [] r h = refl
with_feeds-front (c ∷ t) r h =
    let p : (is_feed c ≡ false) × (is_return c ≡ false) × (has_no_line_end t ≡ true) =
    whole_parts (is_feed c) (is_return c) (has_no_line_end t) h in
    with_feeds-other c (t ++ r) p.1 ∙ ap (λ (x : List ℕ). c ∷ x) (with_feeds-front t r p.2)

pub with_feeds-whole : (t : List ℕ) → has_no_line_end t ≡ true → with_feeds t ≡ t
with_feeds-whole t h = ap with_feeds (sym (append-nil t)) ∙ with_feeds-front t [] h ∙ append-nil t

-- a text that begins with a CR
starts_ten : (t : List ℕ) → (rest : List ℕ) × (with_feeds (13 ∷ t) ≡ 10 ∷ rest)
starts_ten [] = ([], refl)
starts_ten (d ∷ t) = by (is_feed d) refl
  where
    by : (v : Bool) → is_feed d ≡ v → (rest : List ℕ) × (with_feeds (13 ∷ d ∷ t) ≡ 10 ∷ rest)
    by true h = (with_feeds t, rw (is_ten d h) refl)
    by false h = (with_feeds (d ∷ t), with_feeds-return (d ∷ t) h)

starts_return : (c : ℕ) (t : List ℕ) → is_return c ≡ true
    → (rest : List ℕ) × (with_feeds (c ∷ t) ≡ 10 ∷ rest)
starts_return c t h = let p = starts_ten t in
    (p.0, ap (λ (x : ℕ). with_feeds (x ∷ t)) (is_thirteen c h) ∙ p.1)

-- **What begins with a text that has no line end began so before.**
pub front_of : (t w r : List ℕ) → has_no_line_end t ≡ true → with_feeds w ++ 10 ∷ [] ≡ t ++ r
    → (q : List ℕ) × (w ≡ t ++ q)
front_of [] w r h e = (w, refl)
front_of (c ∷ t) [] r h e =
    let p : (is_feed c ≡ false) × (is_return c ≡ false) × (has_no_line_end t ≡ true) =
    whole_parts (is_feed c) (is_return c) (has_no_line_end t) h in
    let same : c ≡ 10 = cc in
    absurd (false≢true (sym p.0 ∙ ap is_feed same))
front_of (c ∷ t) (d ∷ w) r h e = by (front_of t w r p.2) (is_return d) refl
  where
    p : (is_feed c ≡ false) × (is_return c ≡ false) × (has_no_line_end t ≡ true)
    p = whole_parts (is_feed c) (is_return c) (has_no_line_end t) h

    by : (with_feeds w ++ 10 ∷ [] ≡ t ++ r → (q : List ℕ) × (w ≡ t ++ q)) → (v : Bool)
        → is_return d ≡ v → (q : List ℕ) × (d ∷ w ≡ (c ∷ t) ++ q)
    by further true is =
        let s = starts_return d w is in
        let both : 10 ∷ (s.0 ++ 10 ∷ []) ≡ c ∷ (t ++ r) =
        ap (λ (x : List ℕ). x ++ 10 ∷ []) (sym s.1) ∙ e in
        let same : c ≡ 10 = cc in
        absurd (false≢true (sym p.0 ∙ ap is_feed same))
    by further false is =
        let both : d ∷ (with_feeds w ++ 10 ∷ []) ≡ c ∷ (t ++ r) =
        ap (λ (x : List ℕ). x ++ 10 ∷ []) (sym (with_feeds-other d w is)) ∙ e in
        let more : with_feeds w ++ 10 ∷ [] ≡ t ++ r = cc in
        let same : d ≡ c = cc in
        let s = further more in
        (s.0, ap (λ (x : ℕ). x ∷ w) same ∙ ap (λ (x : List ℕ). c ∷ x) s.1)

-- ---- the last LF

nothing_more : (x : List ℕ) (c : ℕ) → is_nothing (x ++ c ∷ []) ≡ false
nothing_more [] c = refl
nothing_more (d ∷ x) c = refl

keep : (v w : Bool) (x : List ℕ) → w ≡ false → cond (v && w) [] x ≡ x
keep v w x h = ap (λ (b : Bool). cond b [] x) (and_right v w h)

pub without_last-end : (x : List ℕ) → without_last_feed (x ++ 10 ∷ []) ≡ x
without_last-end [] = refl
without_last-end (c ∷ x) =
    keep (is_feed c) (is_nothing (x ++ 10 ∷ [])) (c ∷ without_last_feed (x ++ 10 ∷ []))
    (nothing_more x 10)
    ∙ ap (λ (l : List ℕ). c ∷ l) (without_last-end x)

pub without_last-same : (x : List ℕ) → EndsOtherwise x → without_last_feed x ≡ x
without_last-same [] h = refl
without_last-same (c ∷ []) h = by (is_feed c) refl
  where
    by : (v : Bool) → is_feed c ≡ v → without_last_feed (c ∷ []) ≡ c ∷ []
    by true is = absurd (h [] (ap (λ (x : ℕ). x ∷ []) (is_ten c is)))
    by false is = rw is refl
without_last-same (c ∷ d ∷ x) h =
    keep (is_feed c) false (c ∷ without_last_feed (d ∷ x)) refl
    ∙ ap (λ (l : List ℕ). c ∷ l)
    (without_last-same (d ∷ x) (λ front e. h (c ∷ front) (ap (λ (l : List ℕ). c ∷ l) e)))

-- a text, and what is compared of it: the same, or all but a LF at its end
pub record HasEnd (x : List ℕ) : Type 0 where
  pub front : List ℕ
  pub is : x ≡ front ++ 10 ∷ []
  pub without : without_last_feed x ≡ front

pub record HasNoEnd (x : List ℕ) : Type 0 where
  pub otherwise : EndsOtherwise x
  pub without : without_last_feed x ≡ x

pub end_cases : (x : List ℕ) → HasEnd x ⊎ HasNoEnd x
end_cases [] = inr (record { otherwise = λ front e. none front e; without = refl })
  where
    none : (front : List ℕ) → [] ≡ front ++ 10 ∷ [] → ⊥
    none [] e = absurd (cc)
    none (c ∷ front) e = absurd (cc)
end_cases (c ∷ []) = by (is_feed c) refl
  where
    other : (front : List ℕ) → is_feed c ≡ false → c ∷ [] ≡ front ++ 10 ∷ [] → ⊥
    other [] is e = let same : c ≡ 10 = cc in false≢true (sym is ∙ ap is_feed same)
    other (d ∷ []) is e = absurd (cc)
    other (d ∷ f ∷ front) is e = absurd (cc)

    by : (v : Bool) → is_feed c ≡ v → HasEnd (c ∷ []) ⊎ HasNoEnd (c ∷ [])
    by true is = inl (record {
      front = [];
      is = ap (λ (x : ℕ). x ∷ []) (is_ten c is);
      without = rw is refl;
    })
    by false is = inr (record { otherwise = λ front e. other front is e; without = rw is refl })
end_cases (c ∷ d ∷ x) = by (end_cases (d ∷ x))
  where
    more : without_last_feed (c ∷ d ∷ x) ≡ c ∷ without_last_feed (d ∷ x)
    more = keep (is_feed c) false (c ∷ without_last_feed (d ∷ x)) refl

    other : (front : List ℕ) → EndsOtherwise (d ∷ x) → c ∷ d ∷ x ≡ front ++ 10 ∷ [] → ⊥
    other [] h e = absurd (cc)
    other (f ∷ front) h e = h front (let rest : d ∷ x ≡ front ++ 10 ∷ [] = cc in rest)

    by : HasEnd (d ∷ x) ⊎ HasNoEnd (d ∷ x) → HasEnd (c ∷ d ∷ x) ⊎ HasNoEnd (c ∷ d ∷ x)
    by (inl h) = inl (record {
      front = c ∷ h.front;
      is = ap (λ (l : List ℕ). c ∷ l) h.is;
      without = more ∙ ap (λ (l : List ℕ). c ∷ l) h.without;
    })
    by (inr h) = inr (record {
      otherwise = λ front e. other front h.otherwise e;
      without = more ∙ ap (λ (l : List ℕ). c ∷ l) h.without;
    })

-- ---- where a text ends with a line end

-- the text ends with a LF or a CR
abbrev pub EndsWithMark : List ℕ → Type 0
EndsWithMark t = EndsWith t (10 ∷ []) ⊎ EndsWith t (13 ∷ [])

more_before : (c : ℕ) (t : List ℕ) → EndsWithMark t → EndsWithMark (c ∷ t)
more_before c t (inl h) =
    inl (record { before = c ∷ h.before; text = ap (λ (l : List ℕ). c ∷ l) h.text })
more_before c t (inr h) =
    inr (record { before = c ∷ h.before; text = ap (λ (l : List ℕ). c ∷ l) h.text })

-- something is left of some text
some_left : (d : ℕ) (t : List ℕ) → with_feeds (d ∷ t) ≡ [] → ⊥
some_left d [] h = by (is_return d) h
  where
    by : (v : Bool) → cond (v && false) [] (cond v 10 d ∷ []) ≡ [] → ⊥
    by true e = absurd (cc)
    by false e = absurd (cc)
some_left d (c ∷ t) h = by (some_left c t) (is_return d && is_feed c) h
  where
    by : (with_feeds (c ∷ t) ≡ [] → ⊥) → (v : Bool)
        → cond v (with_feeds (c ∷ t)) (cond (is_return d) 10 d ∷ with_feeds (c ∷ t)) ≡ [] → ⊥
    by further true e = further e
    by further false e = absurd (cc)

pub ends_mark : (t front : List ℕ) → with_feeds t ≡ front ++ 10 ∷ [] → EndsWithMark t
ends_mark [] [] e = absurd (cc)
ends_mark [] (f ∷ front) e = absurd (cc)
ends_mark (c ∷ []) front e = by (is_return c) refl
  where
    one : (front : List ℕ) → c ∷ [] ≡ front ++ 10 ∷ [] → c ≡ 10
    one [] h = cc
    one (f ∷ []) h = absurd (cc)
    one (f ∷ g ∷ front) h = absurd (cc)

    by : (v : Bool) → is_return c ≡ v → EndsWithMark (c ∷ [])
    by true is = inr (record { before = []; text = ap (λ (x : ℕ). x ∷ []) (is_thirteen c is) })
    by false is = inl (record {
      before = [];
      text = ap (λ (x : ℕ). x ∷ []) (one front (sym (with_feeds-other c [] is) ∙ e));
    })
ends_mark (c ∷ d ∷ t) front e = by (ends_mark (d ∷ t)) (is_return c && is_feed d) front e
  where
    by : ((front : List ℕ) → with_feeds (d ∷ t) ≡ front ++ 10 ∷ [] → EndsWithMark (d ∷ t))
        → (v : Bool) (front : List ℕ)
        → cond v (with_feeds (d ∷ t)) (cond (is_return c) 10 c ∷ with_feeds (d ∷ t))
        ≡ front ++ 10 ∷ [] → EndsWithMark (c ∷ d ∷ t)
    by further true front e = more_before c (d ∷ t) (further front e)
    by further false [] e = absurd (some_left d t (let rest : with_feeds (d ∷ t) ≡ [] = cc in rest))
    by further false (f ∷ front) e =
        more_before c (d ∷ t) (further front (let rest : with_feeds (d ∷ t) ≡ front ++ 10 ∷ [] =
        cc in rest))

no_return : (front : List ℕ) → ((f : List ℕ) → front ≡ f ++ 13 ∷ [] → ⊥) → EndsWith front (13 ∷ [])
    → ⊥
no_return front h e = h e.before e.text

-- a text with LF, CR LF or CR at its end
pub ends_feed : (front : List ℕ) → ((f : List ℕ) → front ≡ f ++ 13 ∷ [] → ⊥)
    → with_feeds (front ++ 10 ∷ []) ≡ with_feeds front ++ 10 ∷ []
ends_feed front h = with_feeds-append front (10 ∷ []) (λ e. absurd (no_return front h e))

pub ends_return : (front : List ℕ) → with_feeds (front ++ 13 ∷ []) ≡ with_feeds front ++ 10 ∷ []
ends_return front = with_feeds-append front (13 ∷ []) (λ e. refl)

pub ends_both : (front : List ℕ) → with_feeds (front ++ 13 ∷ 10 ∷ []) ≡ with_feeds front ++ 10 ∷ []
ends_both front = with_feeds-append front (13 ∷ 10 ∷ []) (λ e. refl)

-- what comes before a line end at the end, where that is no CR LF and no LF
pub last_end : (text : List ℕ) (r : Option (Bor (List ℕ)))
    → ((front : List ℕ) → text ≡ front ++ 10 ∷ [] → ⊥)
    → MatchOption r ((front : List ℕ) → text ≡ front ++ 13 ∷ [] → ⊥)
    (λ front. text ≡ front.now ++ 13 ∷ [])
    → MatchOption r (EndsOtherwise (with_feeds text))
    (λ front. with_feeds text ≡ with_feeds front.now ++ 10 ∷ [])
last_end text None feed h =
    λ front e. elim (ends_mark text front e)
    [ inl m ↦ feed m.before m.text | inr m ↦ h m.before m.text ]
last_end text (Some f) feed h = ap with_feeds h ∙ ends_return f.now

-- what is compared of a text: what comes before its last line end, or all of it
pub before_last : (text : List ℕ) (whole default : Bor (List ℕ)) (r : Option (Bor (List ℕ)))
    → default.now ≡ text → whole ≡ unwrap_or r default
    → MatchOption r (EndsOtherwise (with_feeds text))
    (λ front. with_feeds text ≡ with_feeds front.now ++ 10 ∷ [])
    → without_last_feed (with_feeds text) ≡ with_feeds whole.now
before_last text whole default None same is h =
    without_last-same (with_feeds text) h ∙ ap with_feeds (sym same)
    ∙ ap (λ (b : Bor (List ℕ)). with_feeds b.now) (sym is)
before_last text whole default (Some f) same is h =
    ap without_last_feed h ∙ without_last-end (with_feeds f.now)
    ∙ ap (λ (b : Bor (List ℕ)). with_feeds b.now) (sym is)

-- ---- what was taken

-- a text that lacks a part
begins_otherwise : (x c rest : List ℕ) → BeginsOtherwise x (c ++ 10 ∷ [])
    → (without_last_feed x ≡ c) → ⊥
begins_otherwise x c rest apart e =
    elim (end_cases x) [
      | inl h ↦ apart [] (ap (λ (l : List ℕ). l ++ 10 ∷ []) (sym e ∙ h.without) ∙ sym h.is
          ∙ sym (append-nil x))
      | inr h ↦ apart (10 ∷ []) (ap (λ (l : List ℕ). l ++ 10 ∷ []) (sym e ∙ h.without))
    ]

pub taken_none : (x c : List ℕ) → BeginsOtherwise x (c ++ 10 ∷ []) → without_last_feed x ≡ c → ⊥
taken_none x c apart e = begins_otherwise x c [] apart e

pub taken_all : (x c : List ℕ) → c ++ 10 ∷ [] ≡ x ++ [] → without_last_feed x ≡ c
taken_all x c e = ap without_last_feed (sym (append-nil x) ∙ sym e) ∙ without_last-end c

-- a part of the text is left
pub left_is : (x c w : List ℕ) → c ++ 10 ∷ [] ≡ x ++ (with_feeds w ++ 10 ∷ [])
    → c ≡ x ++ with_feeds w
left_is x c w e = (same_from_push c (x ++ with_feeds w) 10 10
    (e ∙ sym (append_assoc x (with_feeds w) (10 ∷ [])))).0

shorter : (x : List ℕ) → length (without_last_feed x) ≤ length x
shorter x =
    elim (end_cases x) [
      | inl h ↦ omega (arith, ap length h.is, ap length h.without, length-append h.front (10 ∷ []))
      | inr h ↦ omega (arith, ap length h.without)
    ]

pub left_empty : (x c w : List ℕ) → c ≡ x ++ with_feeds w → without_last_feed x ≡ c
    → (w ≡ []) × EndsOtherwise c
left_empty x c [] e same =
    let is : x ≡ c = sym (e ∙ append-nil x) in (
      refl,
      elim (end_cases x) [
        | inl h ↦ absurd (let n : length h.front ≡ length (h.front ++ 10 ∷ []) =
            ap length (sym h.without ∙ same ∙ sym is ∙ h.is) in omega
            (arith, length-append h.front (10 ∷ [])))
        | inr h ↦ subst EndsOtherwise is h.otherwise
      ],
    )
left_empty x c (d ∷ w) e same =
    absurd (none (with_feeds (d ∷ w)) refl)
  where
    none : (y : List ℕ) → y ≡ with_feeds (d ∷ w) → ⊥
    none [] is = some_left d w (sym is)
    none (f ∷ y) is =
        let n : length (without_last_feed x) ≡ length (x ++ f ∷ y) =
        ap length (same ∙ e) ∙ ap (λ (l : List ℕ). length (x ++ l)) (sym is) in
        absurd (omega (arith, shorter x, length-append x (f ∷ y)))

pub left_nothing : (x c w : List ℕ) → c ≡ x ++ with_feeds w → w ≡ [] → EndsOtherwise c
    → without_last_feed x ≡ c
left_nothing x c w e empty other =
    let is : x ≡ c = sym (e ∙ ap (λ (l : List ℕ). x ++ with_feeds l) empty ∙ append-nil x) in
    ap without_last_feed is ∙ without_last-same c other

-- ---- what was taken, by what is left

pub from_none : (taken whole : List ℕ) (left : Option LinesLeft) → left ≡ None
    → IsTaken taken whole left → without_last_feed (with_feeds taken) ≡ with_feeds whole → ⊥
from_none taken whole left is h e =
    taken_none (with_feeds taken) (with_feeds whole) (subst (IsTaken taken whole) is h) e

pub from_nothing : (taken whole : List ℕ) (left : Option LinesLeft) (l : LinesLeft) → left ≡ Some l
    → l ≡ Nothing → IsTaken taken whole left
    → without_last_feed (with_feeds taken) ≡ with_feeds whole
from_nothing taken whole left l is l_is h =
    taken_all (with_feeds taken) (with_feeds whole)
    (subst (IsTaken taken whole) (is ∙ ap Some l_is) h)

from_rest : (taken whole : List ℕ) (left : Option LinesLeft) (l : LinesLeft) (rest : Bor (List ℕ))
    → left ≡ Some l → l ≡ Rest rest → IsTaken taken whole left
    → with_feeds whole ≡ with_feeds taken ++ with_feeds rest.now
from_rest taken whole left l rest is l_is h =
    left_is (with_feeds taken) (with_feeds whole) rest.now
    (subst (IsTaken taken whole) (is ∙ ap Some l_is) h)

pub from_more : (taken whole : List ℕ) (left : Option LinesLeft) (l : LinesLeft)
    (rest : Bor (List ℕ)) → left ≡ Some l → l ≡ Rest rest → (length rest.now == 0) ≡ false
    → IsTaken taken whole left
    → without_last_feed (with_feeds taken) ≡ with_feeds whole → ⊥
from_more taken whole left l rest is l_is some h e =
    let empty : rest.now ≡ [] =
    (left_empty (with_feeds taken) (with_feeds whole) rest.now
    (from_rest taken whole left l rest is l_is h) e).0 in
    false≢true (sym some ∙ ap (λ (x : List ℕ). length x == 0) empty)

-- a text with no line end at its end
pub is_open : (x : List ℕ) (r : Option (Bor (List ℕ))) (b : Bool) → is_some r ≡ not b
    → MatchOption r (EndsOtherwise x) (λ front. x ≡ with_feeds front.now ++ 10 ∷ [])
    → (b ≡ true) ↔ EndsOtherwise x
is_open x None true is h = (λ t. h, λ o. refl)
is_open x None false is h = absurd (false≢true is)
is_open x (Some f) true is h = absurd (false≢true (sym is))
is_open x (Some f) false is h = (λ t. absurd (false≢true t), λ o. absurd (o (with_feeds f.now) h))

pub from_end : (taken whole : List ℕ) (left : Option LinesLeft) (l : LinesLeft)
    (rest : Bor (List ℕ)) (b : Bool) → left ≡ Some l → l ≡ Rest rest → (length rest.now == 0) ≡ true
    → (b ≡ true) ↔ EndsOtherwise (with_feeds whole) → IsTaken taken whole left
    → (b ≡ true) ↔ (without_last_feed (with_feeds taken) ≡ with_feeds whole)
from_end taken whole left l rest b is l_is empty unended h =
    let cut : with_feeds whole ≡ with_feeds taken ++ with_feeds rest.now =
    from_rest taken whole left l rest is l_is h in
    let none : rest.now ≡ [] = nil_from_length rest.now (eqb-true (length rest.now) 0 empty) in (
      λ t. left_nothing (with_feeds taken) (with_feeds whole) rest.now cut none (unended.0 t),
      λ e. unended.1 (left_empty (with_feeds taken) (with_feeds whole) rest.now cut e).1,
    )

-- ---- taking

-- a text with no line end is taken
pub text_taken : (left : LinesLeft) (whole rest : Bor (List ℕ)) (text : List ℕ) → left ≡ Rest whole
    → has_no_line_end text ≡ true → whole.now ≡ text ++ rest.now
    → due left ≡ text ++ (with_feeds rest.now ++ 10 ∷ [])
text_taken left whole rest text is plain cut =
    ap due is ∙ ap (λ (x : List ℕ). with_feeds x ++ 10 ∷ []) cut
    ∙ ap (λ (x : List ℕ). x ++ 10 ∷ []) (with_feeds-front text rest.now plain)
    ∙ append_assoc text (with_feeds rest.now) (10 ∷ [])

pub text_differs : (left : LinesLeft) (whole : Bor (List ℕ)) (text : List ℕ) → left ≡ Rest whole
    → has_no_line_end text ≡ true → BeginsOtherwise text whole.now → BeginsOtherwise text (due left)
text_differs left whole text is plain apart rest e =
    let p = front_of text whole.now rest plain (ap due (sym is) ∙ e) in apart p.0 p.1

pub text_lacks : (left : LinesLeft) (text : List ℕ) → left ≡ Nothing → (length text == 0) ≡ false
    → BeginsOtherwise text (due left)
text_lacks left [] is some rest e = absurd (false≢true (sym some))
text_lacks left (c ∷ text) is some rest e =
    let none : [] ≡ c ∷ (text ++ rest) = ap due (sym is) ∙ e in absurd (cc)

-- a text that begins with no line end
pub end_differs : (left : LinesLeft) (text : Bor (List ℕ)) → left ≡ Rest text → (text.now ≡ [] → ⊥)
    → StartsOtherwise text.now → BeginsOtherwise (10 ∷ []) (due left)
end_differs left text is some apart rest e = at text.now some apart (ap due (sym is) ∙ e)
  where
    at : (t : List ℕ) → (t ≡ [] → ⊥) → StartsOtherwise t → with_feeds t ++ 10 ∷ [] ≡ 10 ∷ rest → ⊥
    at [] more apart e = more refl
    at (c ∷ t) more apart e =
        let p = or_false (is_feed c) (is_return c) (apart c t refl) in
        let first : c ∷ (with_feeds t ++ 10 ∷ []) ≡ 10 ∷ rest =
        ap (λ (x : List ℕ). x ++ 10 ∷ []) (sym (with_feeds-other c t p.1)) ∙ e in
        let same : c ≡ 10 = cc in
        false≢true (sym p.0 ∙ ap is_feed same)

-- a line and its end
pub line_taken : (d x : List ℕ) (r : Option LinesLeft) (text : List ℕ) → d ≡ text ++ x
    → MatchOption r (BeginsOtherwise (10 ∷ []) x) (λ next. x ≡ 10 ∷ due next)
    → MatchOption r (BeginsOtherwise (text ++ 10 ∷ []) d)
    (λ next. d ≡ (text ++ 10 ∷ []) ++ due next)
line_taken d x None text is h =
    λ rest e. h rest (append_cancel_left text x (10 ∷ rest)
    (sym is ∙ e ∙ append_assoc text (10 ∷ []) rest))
line_taken d x (Some next) text is h =
    is ∙ ap (λ (z : List ℕ). text ++ z) h ∙ sym (append_assoc text (10 ∷ []) (due next))

-- some lines were taken, and these are left of them and of the text
pub record AreTaken (lines rest : List ℕ) (left ahead : LinesLeft) : Type 0 where
  pub front : List ℕ
  pub lines_are : with_feeds lines ≡ front ++ with_feeds rest
  pub left_are : due left ≡ front ++ due ahead

pub one_taken : (lines rest more line : List ℕ) (left ahead next : LinesLeft)
    → AreTaken lines rest left ahead → with_feeds rest ≡ (line ++ 10 ∷ []) ++ with_feeds more
    → due ahead ≡ (line ++ 10 ∷ []) ++ due next
    → AreTaken lines more left next
one_taken lines rest more line left ahead next h is due_is = record {
  front = h.front ++ (line ++ 10 ∷ []);
  lines_are = h.lines_are ∙ ap (λ (x : List ℕ). h.front ++ x) is
      ∙ sym (append_assoc h.front (line ++ 10 ∷ []) (with_feeds more));
  left_are = h.left_are ∙ ap (λ (x : List ℕ). h.front ++ x) due_is
      ∙ sym (append_assoc h.front (line ++ 10 ∷ []) (due next));
}

-- a line that the text does not have
pub lines_differ : (lines rest line more : List ℕ) (left ahead : LinesLeft)
    → AreTaken lines rest left ahead → with_feeds rest ≡ line ++ more
    → BeginsOtherwise line (due ahead) → BeginsOtherwise (with_feeds lines) (due left)
lines_differ lines rest line more left ahead h is apart other e =
    apart (more ++ other) (append_cancel_left h.front (due ahead) (line ++ (more ++ other))
    (sym h.left_are ∙ e ∙ ap (λ (x : List ℕ). x ++ other)
    (h.lines_are ∙ ap (λ (x : List ℕ). h.front ++ x) is)
    ∙ append_assoc h.front (line ++ more) other
    ∙ ap (λ (x : List ℕ). h.front ++ x) (append_assoc line more other)))

-- the last line, which has no end
pub last_taken : (lines rest : List ℕ) (left ahead : LinesLeft) (r : Option LinesLeft)
    → AreTaken lines rest left ahead → has_no_line_end rest ≡ true
    → MatchOption r (BeginsOtherwise rest (due ahead)) (λ next. due ahead ≡ rest ++ due next)
    → MatchOption r (BeginsOtherwise (with_feeds lines) (due left))
    (λ next. due left ≡ with_feeds lines ++ due next)
last_taken lines rest left ahead None h plain apart =
    lines_differ lines rest rest [] left ahead h
    (with_feeds-whole rest plain ∙ sym (append-nil rest)) apart
last_taken lines rest left ahead (Some next) h plain is =
    h.left_are ∙ ap (λ (x : List ℕ). h.front ++ x)
    (is ∙ ap (λ (x : List ℕ). x ++ due next) (sym (with_feeds-whole rest plain)))
    ∙ sym (append_assoc h.front (with_feeds rest) (due next))
    ∙ ap (λ (x : List ℕ). x ++ due next) (sym h.lines_are)

-- lines were taken off a whole text
pub taken_by : (lines : List ℕ) (whole : Bor (List ℕ)) (r : Option LinesLeft)
    → MatchOption r (BeginsOtherwise (with_feeds lines) (with_feeds whole.now ++ 10 ∷ []))
    (λ next. with_feeds whole.now ++ 10 ∷ [] ≡ with_feeds lines ++ due next)
    → IsTaken lines whole.now r
taken_by lines whole None h = h
taken_by lines whole (Some next) h = h

-- ---- lines

before_end-feeds : (c : ℕ) (t : List ℕ) → starts_with_feed t ≡ true
    → flat_map with_feed (before_end c (lines_of t)) ≡ flat_map with_feed (lines_of t)
before_end-feeds c [] h = absurd (false≢true h)
before_end-feeds c (d ∷ t) h = rw (is_ten d h) refl

before_line-feeds : (c : ℕ) (ls : List Line)
    → flat_map with_feed (before_line (c ∷ []) ls) ≡ c ∷ flat_map with_feed ls
before_line-feeds c [] = refl
before_line-feeds c (l ∷ ls) = refl

put-feeds : (c : ℕ) (t : List ℕ)
    → flat_map with_feed (put_before c t (lines_of t))
    ≡ cond (is_return c && starts_with_feed t) (flat_map with_feed (lines_of t))
    (cond (is_return c) 10 c ∷ flat_map with_feed (lines_of t))
put-feeds c t = by (is_feed c) refl
  where
    after : (w : Bool) → starts_with_feed t ≡ w → c ≡ 13
        → flat_map with_feed (put_before c t (lines_of t))
        ≡ cond (is_return c && starts_with_feed t) (flat_map with_feed (lines_of t))
        (cond (is_return c) 10 c ∷ flat_map with_feed (lines_of t))
    after true is e = rw (e, is) (before_end-feeds 13 t is)
    after false is e = rw (e, is) refl

    other : (v : Bool) → is_return c ≡ v → is_feed c ≡ false
        → flat_map with_feed (put_before c t (lines_of t))
        ≡ cond (is_return c && starts_with_feed t) (flat_map with_feed (lines_of t))
        (cond (is_return c) 10 c ∷ flat_map with_feed (lines_of t))
    other true is plain = after (starts_with_feed t) refl (is_thirteen c is)
    other false is plain = rw (plain, is) (before_line-feeds c (lines_of t))

    by : (v : Bool) → is_feed c ≡ v
        → flat_map with_feed (put_before c t (lines_of t))
        ≡ cond (is_return c && starts_with_feed t) (flat_map with_feed (lines_of t))
        (cond (is_return c) 10 c ∷ flat_map with_feed (lines_of t))
    by true is = rw (is_ten c is) refl
    by false is = other (is_return c) refl is

-- **A LF stands for the end of each line.**
pub feeds_end_lines : FeedsEndLines
feeds_end_lines [] = refl
feeds_end_lines (c ∷ t) =
    ap (λ (x : List ℕ). cond (is_return c && starts_with_feed t) x (cond (is_return c) 10 c ∷ x))
    (feeds_end_lines t) ∙ sym (put-feeds c t)

-- **Being the same is an equivalence.**
pub same_texts : SameTexts
same_texts = record {
  equal = λ ends a b e. ap (λ (t : List ℕ). compared ends t) e;
  symmetric = λ ends a b e. sym e;
  transitive = λ ends a b c e f. e ∙ f;
}

pub exact_texts : ExactTexts
exact_texts a b e = e
