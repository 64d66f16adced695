-- Line ends in bytes: the first one of a text, and the one before a place.
use Rattle.std.proofs.Common.{◌≡◌, ◌+◌, ◌&&◌, ◌||◌, ℕ, Bool, true, false, not, cond, List, [], ◌∷◌, ◌++◌, length, refl, sym, ap, subst, ◌∙◌, inl, inr, arith, length-append, Option, Some, None, MatchOption, is_some}
use Rattle.std.proofs.lemmas.List.{nil_from_length}
use Rattle.std.proofs.lemmas.Bool.{false≢true, true≢false, and_right}
use Rattle.std.specs.Str.{chars, IsUtf8}
use Rattle.std.specs.Bool.{IsTrue}
use Rattle.std.proofs.lemmas.Str.{encodes-chars}
use lib.Utf8.{encodes, encode}
use Rattle.lsp_text.specs.Lines.{is_feed, is_return, starts_with_feed, has_no_line_end, IsEndBefore}
use Rattle.lsp_text.specs.FirstLine.{IsFirstLine}
use Rattle.lsp_text.specs.declared.cut.FirstLine.{FirstLine}
use Rattle.lsp_text.proofs.Cuts.{whole_parts}
use Rattle.lsp_text.proofs.LineBytes.{starts_with_feed-text}
use Rattle.lsp_lined.specs.Ends.{ends_in, places_behind, ends_with_return, joins}
use Rattle.lsp_lined.proofs.EndCounts.{places_behind-append, length-places_behind, ends_in-chars}
use Rattle.lsp_lined.proofs.Parts.{ends_with_return-append}

-- ---- none

none_of_chars : (cs : List ℕ) → has_no_line_end cs ≡ true → ends_in cs ≡ 0
none_of_chars [] h = refl
none_of_chars (c ∷ cs) h =
    let p : (is_feed c ≡ false) × (is_return c ≡ false) × (has_no_line_end cs ≡ true) = whole_parts (is_feed c) (is_return c) (has_no_line_end cs) h in
    rw (p.0, p.1) (let e : 0 + ends_in cs ≡ 0 = omega (arith, none_of_chars cs p.2) in e)

-- no character of a text ends a line, so no byte does
pub ends_in-none : (bs : List ℕ) → IsUtf8 bs → has_no_line_end (chars bs) ≡ true → ends_in bs ≡ 0
ends_in-none bs u h = sym (ends_in-chars bs u) ∙ none_of_chars (chars bs) h

pub places-none : (n : ℕ) (bs : List ℕ) → ends_in bs ≡ 0 → places_behind n bs ≡ []
places-none n bs h = nil_from_length (places_behind n bs) (length-places_behind n bs ∙ h)

last_of_end : (f r : Bool) → cond (f || (r && true)) 1 0 + 0 ≡ 0 → r ≡ false
last_of_end f false h = refl
last_of_end false true h = absurd (omega arith)
last_of_end true true h = absurd (omega arith)

-- a text without a line end doesn't end with a CR
pub no_return_last : (bs : List ℕ) → ends_in bs ≡ 0 → ends_with_return false bs ≡ false
no_return_last [] h = refl
no_return_last (x ∷ []) h = last_of_end (is_feed x) (is_return x) h
no_return_last (x ∷ y ∷ ys) h = no_return_last (y ∷ ys) (omega arith)

pub apart_from_none : (a b : List ℕ) → ends_in a ≡ 0 → joins a b ≡ false
apart_from_none a b h = ap (λ (v : Bool). v && starts_with_feed b) (no_return_last a h)

-- ---- one

-- the bytes of a line end
bytes_both : encodes (13 ∷ 10 ∷ []) ≡ 13 ∷ 10 ∷ []
unfolding encode
bytes_both = refl

bytes_feed : encodes (10 ∷ []) ≡ 10 ∷ []
unfolding encode
bytes_feed = refl

bytes_return : encodes (13 ∷ []) ≡ 13 ∷ []
unfolding encode
bytes_return = refl

-- a line end, in bytes
pub end_in_bytes : (e rest : List ℕ) → IsUtf8 e → IsUtf8 rest → IsEndBefore (chars rest) (chars e) → IsEndBefore rest e
end_in_bytes e rest u ur h =
    let same = encodes-chars e u in
    elim h [
      | inl is ↦ inl (sym same ∙ ap encodes is ∙ bytes_both)
      | inr k ↦ elim k [
        | inl is ↦ inr (inl (sym same ∙ ap encodes is ∙ bytes_feed))
        | inr p ↦ inr (inr (sym same ∙ ap encodes p.0 ∙ bytes_return, sym (starts_with_feed-text rest ur) ∙ p.1))
      ]
    ]

-- it is one line end, and no LF joins it
pub record IsOneEnd (a e rest : List ℕ) : Type 0 where
  pub apart : joins (a ++ e) rest ≡ false
  pub one : ends_in e ≡ 1
  pub places : (n : ℕ) → places_behind n e ≡ (n + length e) ∷ []

after_feed : (a rest : List ℕ) → joins (a ++ 10 ∷ []) rest ≡ false
after_feed a rest = ap (λ (v : Bool). v && starts_with_feed rest) (ends_with_return-append false a (10 ∷ []))

after_both : (a rest : List ℕ) → joins (a ++ 13 ∷ 10 ∷ []) rest ≡ false
after_both a rest = ap (λ (v : Bool). v && starts_with_feed rest) (ends_with_return-append false a (13 ∷ 10 ∷ []))

two_more : (n : ℕ) → n + 1 + 1 ≡ n + 2
two_more n = omega arith

pub one_end : (a e rest : List ℕ) → IsEndBefore rest e → IsOneEnd a e rest
one_end a e rest h =
    elim h [
      | inl is ↦ subst (λ (x : List ℕ). IsOneEnd a x rest) (sym is) (record { apart = after_both a rest; one = refl; places = λ n. ap (λ (k : ℕ). k ∷ []) (two_more n) })
      | inr k ↦ elim k [
        | inl is ↦ subst (λ (x : List ℕ). IsOneEnd a x rest) (sym is) (record { apart = after_feed a rest; one = refl; places = λ n. refl })
        | inr p ↦ subst (λ (x : List ℕ). IsOneEnd a x rest) (sym p.0)
            (record { apart = ap (λ (v : Bool). ends_with_return false (a ++ 13 ∷ []) && v) p.1 ∙ and_right (ends_with_return false (a ++ 13 ∷ [])) false refl; one = refl; places = λ n. refl })
      ]
    ]

-- **The first line of a text has the first place after a line end.**
pub places-first : (n : ℕ) (bs : List ℕ) (f : FirstLine) → IsFirstLine bs f →
    places_behind n bs ≡ (n + (length f.text.now + length f.end.now)) ∷ places_behind (n + (length f.text.now + length f.end.now)) f.rest.now
places-first n bs f h =
    let t = f.text.now in
    let e = f.end.now in
    let r = f.rest.now in
    let none = ends_in-none t h.text_utf8 h.whole in
    let one = one_end t e r (end_in_bytes e r h.end_utf8 h.rest_utf8 h.ended) in
    let len : n + length (t ++ e) ≡ n + (length t + length e) = omega (arith, length-append t e) in
    let sum : n + length t + length e ≡ n + (length t + length e) = omega arith in
    let front : places_behind n (t ++ e) ≡ (n + (length t + length e)) ∷ [] =
    places_behind-append n t e (apart_from_none t e none) ∙ ap (λ (xs : List ℕ). xs ++ places_behind (n + length t) e) (places-none n t none) ∙ one.places (n + length t)
    ∙ ap (λ (k : ℕ). k ∷ []) sum in
    ap (places_behind n) h.parts ∙ places_behind-append n (t ++ e) r one.apart ∙ ap (λ (k : ℕ). places_behind n (t ++ e) ++ places_behind k r) len
    ∙ ap (λ (xs : List ℕ). xs ++ places_behind (n + (length t + length e)) r) front

pub some_end_first : (bs : List ℕ) (f : FirstLine) → IsFirstLine bs f → ends_in bs ≡ 0 → ⊥
some_end_first bs f h none =
    let m = length f.text.now + length f.end.now in
    let rest = places_behind (0 + m) f.rest.now in
    let e : length (places_behind 0 bs) ≡ length ((0 + m) ∷ rest) = ap length (places-first 0 bs f h) in
    omega (arith, length-places_behind 0 bs)

-- whether a text has a line end, by its first line
pub whole_or_not : (bs : List ℕ) (r : Option FirstLine) (v : Bool) → IsUtf8 bs → MatchOption r (has_no_line_end (chars bs) ≡ true) (IsFirstLine bs) → is_some r ≡ not v → (IsTrue v → ends_in bs ≡ 0) × (ends_in bs ≡ 0 → IsTrue v)
whole_or_not bs None true u h is = (λ _. ends_in-none bs u h, λ _. refl)
whole_or_not bs None false u h is = absurd (false≢true is)
whole_or_not bs (Some f) true u h is = absurd (true≢false is)
whole_or_not bs (Some f) false u h is = (λ t. absurd (false≢true t), λ none. absurd (some_end_first bs f h none))
