-- The line ends of texts, and a text without its last one.
use Rattle.std.proofs.Common.{◌≡◌, ◌⊎◌, ◌≤◌, ◌&&◌, ◌||◌, ℕ, suc, Bool, true, false, List, [], ◌∷◌}
use Rattle.std.proofs.Common.{◌++◌, length, length-append, map, take, refl, sym, ap, subst, ◌∙◌, inl}
use Rattle.std.proofs.Common.{inr, arith, true≢false, Option, Some, None}
use Rattle.std.specs.Prelude.{◌==◌, filter, if◌then◌else◌, is_some, MatchOption, not}
use Rattle.std.specs.Bool.{then_some}
use Rattle.std.specs.List.{list_all}
use Rattle.std.specs.Str.{bytes_eq, chars, is_utf8, IsUtf8}
use lib.Utf8.{encode, encodes}
use Rattle.std.proofs.lemmas.List.{take_at}
use Rattle.std.proofs.lemmas.Str.{chars-append, encodes-append, encodes-chars}
use Rattle.std.proofs.lemmas.Str.{IsCharBoundary-at_seam, IsUtf8-from_is_utf8, IsUtf8-take}
use Rattle.std.proofs.lemmas.Bool.{cases_Bool}
use Rattle.std.proofs.lemmas.Slice.Eq.{bytes_eq-Decides}
use lib.Dec.{eqb-suc-suc, eqb-suc-zero, eqb-zero-suc}
use Rattle.lsp_text.specs.Lines.{Line, IsEndBefore, has_no_line_end, lines_of, open_line}
use Rattle.lsp_text.specs.FirstLine.{IsFirstLine}
use Rattle.lsp_text.specs.SameText.{is_nothing}
use Rattle.lsp_text.specs.declared.cut.FirstLine.{FirstLine}
use Rattle.lsp_text.proofs.Cuts.{lines_of-no_end}
use Rattle.lsp_text.proofs.Positions.{lines_of-first}
use Rattle.lsp_docs.specs.Calls.{Text}
use Rattle.lsp_facts.specs.EndsApart.{are_converted, Conversion, conversion_of, ends_in, is_end}
use Rattle.lsp_facts.specs.EndsApart.{without_last}

-- ---- line by line

-- those of lines
abbrev ends_of : List Line → List Text
ends_of ls = filter (λ e. not (is_nothing e)) (map (λ (l : Line). l.end) ls)

one_kept : (e : Text) (ls : List Line) → is_nothing e ≡ false
    → filter (λ e. not (is_nothing e)) (e ∷ map (λ (l : Line). l.end) ls) ≡ e ∷ ends_of ls
one_kept [] ls some = absurd (true≢false some)
one_kept (c ∷ cs) ls some = refl

some_end : (rest end : Text) → IsEndBefore rest end → is_nothing end ≡ false
some_end rest end h =
    elim h [
      | inl e ↦ ap is_nothing e
      | inr k ↦ elim k [ inl e ↦ ap is_nothing e | inr p ↦ ap is_nothing p.0 ]
    ]

-- the first line end, and then those of what comes after it
pub ends_first : (bs : List ℕ) (f : FirstLine) → IsFirstLine bs f
    → ends_in (chars bs) ≡ chars f.end.now ∷ ends_in (chars f.rest.now)
ends_first bs f h =
    ap ends_of (lines_of-first bs f h)
    ∙ one_kept (chars f.end.now) (lines_of (chars f.rest.now))
    (some_end (chars f.rest.now) (chars f.end.now) h.ended)

pub ends_none : (bs : List ℕ) → has_no_line_end (chars bs) ≡ true → ends_in (chars bs) ≡ []
ends_none bs h = ap ends_of (lines_of-no_end (chars bs) h)

-- ---- of one kind each, as often

and_false : (b : Bool) → b && false ≡ false
and_false true = refl
and_false false = refl

module _ (from to : Text) where
  abbrev all_from : List Text → Bool
  all_from es = list_all (bytes_eq from) es

  abbrev all_to : List Text → Bool
  all_to fs = list_all (bytes_eq to) fs

  pub one_converted : (e f : Text) (es fs : List Text) → bytes_eq from e ≡ true
      → bytes_eq to f ≡ true
      → are_converted from to (e ∷ es) (f ∷ fs) ≡ are_converted from to es fs
  one_converted e f es fs p q =
      ap (λ (b : Bool). b && (all_from (e ∷ es) && all_to (f ∷ fs)))
      (eqb-suc-suc (length es) (length fs))
      ∙ ap (λ (b : Bool). length es == length fs && ((b && all_from es) && all_to (f ∷ fs))) p
      ∙ ap (λ (b : Bool). length es == length fs && (all_from es && (b && all_to fs))) q

  pub other_from : (e f : Text) (es fs : List Text) → bytes_eq from e ≡ false
      → are_converted from to (e ∷ es) (f ∷ fs) ≡ false
  other_from e f es fs p =
      ap (λ (b : Bool). suc (length es) == suc (length fs)
      && ((b && all_from es) && all_to (f ∷ fs))) p
      ∙ and_false (suc (length es) == suc (length fs))

  pub other_to : (e f : Text) (es fs : List Text) → bytes_eq to f ≡ false
      → are_converted from to (e ∷ es) (f ∷ fs) ≡ false
  other_to e f es fs q =
      ap (λ (b : Bool). suc (length es) == suc (length fs)
      && (all_from (e ∷ es) && (b && all_to fs))) q
      ∙ ap (λ (b : Bool). suc (length es) == suc (length fs) && b) (and_false (all_from (e ∷ es)))
      ∙ and_false (suc (length es) == suc (length fs))

  pub fewer_there : (e : Text) (es : List Text) → are_converted from to (e ∷ es) [] ≡ false
  fewer_there e es =
      ap (λ (b : Bool). b && (all_from (e ∷ es) && true)) (eqb-suc-zero (length es))

  pub fewer_here : (f : Text) (fs : List Text) → are_converted from to [] (f ∷ fs) ≡ false
  fewer_here f fs = ap (λ (b : Bool). b && (true && all_to (f ∷ fs))) (eqb-zero-suc (length fs))

  pub none_left : are_converted from to [] [] ≡ true
  none_left = refl

-- whether more line ends are left of the other text
pub left_over : (from to : Text) (bs : List ℕ) (found : Option FirstLine) (b : Bool)
    → is_some found ≡ not b
    → MatchOption found (has_no_line_end (chars bs) ≡ true) (IsFirstLine bs)
    → b ≡ are_converted from to [] (ends_in (chars bs))
left_over from to bs None true is h = sym (ap (are_converted from to []) (ends_none bs h))
left_over from to bs None false is h = absurd (true≢false (sym is))
left_over from to bs (Some f) true is h = absurd (true≢false is)
left_over from to bs (Some f) false is h =
    sym (ap (are_converted from to []) (ends_first bs f h)
    ∙ fewer_here from to (chars f.end.now) (ends_in (chars f.rest.now)))

-- ---- the kinds of two texts

abbrev pub kinds_of : FirstLine → FirstLine → Conversion
kinds_of f g = record { from = chars f.end.now; to = chars g.end.now }

pub none_here : (bs : List ℕ) (fs : List Text) → has_no_line_end (chars bs) ≡ true
    → conversion_of (ends_in (chars bs)) fs ≡ None
none_here bs fs h = ap (λ (es : List Text). conversion_of es fs) (ends_none bs h)

pub none_there : (bs cs : List ℕ) (f : FirstLine) → IsFirstLine bs f
    → has_no_line_end (chars cs) ≡ true → conversion_of (ends_in (chars bs)) (ends_in (chars cs)) ≡ None
none_there bs cs f h k = λ i. conversion_of (ends_first bs f h i) (ends_none cs k i)

pub by_test : (bs cs : List ℕ) (f g : FirstLine) (b : Bool) → IsFirstLine bs f → IsFirstLine cs g
    → b ≡ are_converted (chars f.end.now) (chars g.end.now) (ends_in (chars f.rest.now))
    (ends_in (chars g.rest.now))
    → then_some b (kinds_of f g) ≡ conversion_of (ends_in (chars bs)) (ends_in (chars cs))
by_test bs cs f g b h k is =
    ap (λ (t : Bool). then_some t (kinds_of f g)) is
    ∙ sym (λ i. conversion_of (ends_first bs f h i) (ends_first cs g k i))

-- ---- CR LF, LF and CR, as bytes

pair_chars : chars (13 ∷ 10 ∷ []) ≡ 13 ∷ 10 ∷ []
unfolding chars
pair_chars = refl

feed_chars : chars (10 ∷ []) ≡ 10 ∷ []
unfolding chars
feed_chars = refl

return_chars : chars (13 ∷ []) ≡ 13 ∷ []
unfolding chars
return_chars = refl

pair_bytes : encodes (13 ∷ 10 ∷ []) ≡ 13 ∷ 10 ∷ []
unfolding encode
pair_bytes = refl

feed_bytes : encodes (10 ∷ []) ≡ 10 ∷ []
unfolding encode
feed_bytes = refl

return_bytes : encodes (13 ∷ []) ≡ 13 ∷ []
unfolding encode
return_bytes = refl

pair_utf8 : is_utf8 (13 ∷ 10 ∷ []) ≡ true
unfolding is_utf8 chars encode
pair_utf8 = refl

feed_utf8 : is_utf8 (10 ∷ []) ≡ true
unfolding is_utf8 chars encode
feed_utf8 = refl

return_utf8 : is_utf8 (13 ∷ []) ≡ true
unfolding is_utf8 chars encode
return_utf8 = refl

-- ---- without the last

-- it is one of the three
is_one : (t : Text) → is_end t ≡ true
    → (t ≡ 13 ∷ 10 ∷ []) ⊎ ((t ≡ 10 ∷ []) ⊎ (t ≡ 13 ∷ []))
is_one t h =
    elim (cases_Bool (bytes_eq t (13 ∷ 10 ∷ []))) [
      | inl p ↦ inl ((bytes_eq-Decides t (13 ∷ 10 ∷ [])).0 p)
      | inr p ↦ elim (cases_Bool (bytes_eq t (10 ∷ []))) [
        | inl q ↦ inr (inl ((bytes_eq-Decides t (10 ∷ [])).0 q))
        | inr q ↦ inr (inr ((bytes_eq-Decides t (13 ∷ [])).0
            (sym (λ i. p i || (q i || bytes_eq t (13 ∷ []))) ∙ h)))
      ]
    ]

-- a text that is none of them
no_end : (t : Text) → (t ≡ 13 ∷ 10 ∷ [] → ⊥) → (t ≡ 10 ∷ [] → ⊥) → (t ≡ 13 ∷ [] → ⊥)
    → is_end t ≡ false
no_end t both feed return =
    elim (cases_Bool (is_end t)) [
      | inl h ↦ absurd (elim (is_one t h) [
        | inl e ↦ both e
        | inr k ↦ elim k [ inl e ↦ feed e | inr e ↦ return e ]
      ])
      | inr h ↦ h
    ]

-- a character before more than a line end
abbrev kept_if : Bool → ℕ → Text → Text
kept_if b c cs = if b then [] else c ∷ without_last cs

one_more : (c : ℕ) (cs : Text) → is_end (c ∷ cs) ≡ false
    → without_last (c ∷ cs) ≡ c ∷ without_last cs
one_more c cs h = ap (λ (b : Bool). kept_if b c cs) h

too_long : (t : Text) → 3 ≤ length t → is_end t ≡ false
too_long t le =
    no_end t (λ e. absurd (omega (arith, ap length e))) (λ e. absurd (omega (arith, ap length e)))
    (λ e. absurd (omega (arith, ap length e)))

pub without_both : (x : Text) → without_last (x ++ 13 ∷ 10 ∷ []) ≡ x
without_both [] = refl
without_both (c ∷ []) =
    one_more c (13 ∷ 10 ∷ []) (too_long (c ∷ 13 ∷ 10 ∷ []) (omega arith))
without_both (c ∷ (d ∷ x)) =
    one_more c ((d ∷ x) ++ 13 ∷ 10 ∷ [])
    (too_long (c ∷ ((d ∷ x) ++ 13 ∷ 10 ∷ []))
    (omega (arith, length-append x (13 ∷ 10 ∷ []))))
    ∙ ap (λ (y : Text). c ∷ y) (without_both (d ∷ x))

pub without_feed : (x : Text) → ((y : Text) → x ++ 10 ∷ [] ≡ y ++ 13 ∷ 10 ∷ [] → ⊥)
    → without_last (x ++ 10 ∷ []) ≡ x
without_feed [] alone = refl
without_feed (c ∷ []) alone =
    one_more c (10 ∷ []) (no_end (c ∷ 10 ∷ []) (λ e. alone [] e)
    (λ e. absurd (omega (arith, ap length e))) (λ e. absurd (omega (arith, ap length e))))
without_feed (c ∷ (d ∷ x)) alone =
    one_more c ((d ∷ x) ++ 10 ∷ [])
    (too_long (c ∷ ((d ∷ x) ++ 10 ∷ [])) (omega (arith, length-append x (10 ∷ []))))
    ∙ ap (λ (y : Text). c ∷ y)
    (without_feed (d ∷ x) (λ y e. alone (c ∷ y) (ap (λ (z : Text). c ∷ z) e)))

abbrev second : Text → ℕ
second (c ∷ (d ∷ cs)) = d
second _ = 0

pub without_return : (x : Text) → without_last (x ++ 13 ∷ []) ≡ x
without_return [] = refl
without_return (c ∷ []) =
    one_more c (13 ∷ []) (no_end (c ∷ 13 ∷ []) (λ e. absurd (omega (arith, ap second e)))
    (λ e. absurd (omega (arith, ap length e))) (λ e. absurd (omega (arith, ap length e))))
without_return (c ∷ (d ∷ x)) =
    one_more c ((d ∷ x) ++ 13 ∷ [])
    (too_long (c ∷ ((d ∷ x) ++ 13 ∷ [])) (omega (arith, length-append x (13 ∷ []))))
    ∙ ap (λ (y : Text). c ∷ y) (without_return (d ∷ x))

-- it ends with none
pub without_none : (t : Text) → ((y : Text) → t ≡ y ++ 13 ∷ 10 ∷ [] → ⊥)
    → ((y : Text) → t ≡ y ++ 10 ∷ [] → ⊥) → ((y : Text) → t ≡ y ++ 13 ∷ [] → ⊥)
    → without_last t ≡ t
without_none [] both feed return = refl
without_none (c ∷ cs) both feed return =
    one_more c cs (no_end (c ∷ cs) (λ e. both [] e) (λ e. feed [] e) (λ e. return [] e))
    ∙ ap (λ (y : Text). c ∷ y) (without_none cs
    (λ y e. both (c ∷ y) (ap (λ (z : Text). c ∷ z) e))
    (λ y e. feed (c ∷ y) (ap (λ (z : Text). c ∷ z) e))
    (λ y e. return (c ∷ y) (ap (λ (z : Text). c ∷ z) e)))

-- ---- the line ends as bytes

module _ (t : List ℕ) (u : IsUtf8 t) where
  -- what comes before the end of a text is a text
  front_utf8 : (front end : List ℕ) → is_utf8 end ≡ true → t ≡ front ++ end → IsUtf8 front
  front_utf8 front end ascii e =
      subst IsUtf8 (ap (take (length front)) e ∙ take_at front end (length front) refl)
      (IsUtf8-take t (length front) u
      (IsCharBoundary-at_seam t front end e (IsUtf8-from_is_utf8 end ascii)))

  front_chars : (front end : List ℕ) → is_utf8 end ≡ true → chars end ≡ end → t ≡ front ++ end
      → chars t ≡ chars front ++ end
  front_chars front end ascii same e =
      ap chars e ∙ chars-append front end (front_utf8 front end ascii e)
      ∙ ap (λ (x : List ℕ). chars front ++ x) same

  -- no characters come before an end before which no bytes come
  no_front : (end : List ℕ) → encodes end ≡ end → ((f : List ℕ) → t ≡ f ++ end → ⊥)
      → (y : Text) → chars t ≡ y ++ end → ⊥
  no_front end same none y e =
      none (encodes y)
      (sym (encodes-chars t u) ∙ ap encodes e ∙ encodes-append y end
      ∙ ap (λ (x : List ℕ). encodes y ++ x) same)

  abbrev NoFront : List ℕ → Type 0
  NoFront end = (f : List ℕ) → t ≡ f ++ end → ⊥

  pub both_cut : (front : List ℕ) → t ≡ front ++ 13 ∷ 10 ∷ []
      → chars front ≡ without_last (chars t)
  both_cut front e =
      sym (ap without_last (front_chars front (13 ∷ 10 ∷ []) pair_utf8 pair_chars e)
      ∙ without_both (chars front))

  pub feed_cut : NoFront (13 ∷ 10 ∷ []) → (front : List ℕ) → t ≡ front ++ 10 ∷ []
      → chars front ≡ without_last (chars t)
  feed_cut none front e =
      let at = front_chars front (10 ∷ []) feed_utf8 feed_chars e in
      sym (ap without_last at
      ∙ without_feed (chars front)
      (λ y k. no_front (13 ∷ 10 ∷ []) pair_bytes none y (at ∙ k)))

  pub return_cut : (front : List ℕ) → t ≡ front ++ 13 ∷ [] → chars front ≡ without_last (chars t)
  return_cut front e =
      sym (ap without_last (front_chars front (13 ∷ []) return_utf8 return_chars e)
      ∙ without_return (chars front))

  pub none_cut : NoFront (13 ∷ 10 ∷ []) → NoFront (10 ∷ []) → NoFront (13 ∷ [])
      → chars t ≡ without_last (chars t)
  none_cut both feed return =
      sym (without_none (chars t) (no_front (13 ∷ 10 ∷ []) pair_bytes both)
      (no_front (10 ∷ []) feed_bytes feed) (no_front (13 ∷ []) return_bytes return))
