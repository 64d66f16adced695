-- Where a line is cut into words.
use Rattle.std.specs.Prelude.{MatchOption, if◌then◌else◌, option_map}
use Rattle.std.specs.Borrow.{Bor}
use Rattle.std.specs.List.{onto_first}
use Rattle.std.specs.Str.{IsCharBoundary}
use Rattle.std.proofs.Common.{◌≡◌, ◌≢◌, ◌⊎◌, ℕ, suc, ◌<◌, ◌≤◌, ◌+◌, Bool, true, false, List, [], ◌∷◌}
use Rattle.std.proofs.Common.{Option, Some, None, length, take, drop, get_or, inl, inr, refl, sym}
use Rattle.std.proofs.Common.{ap, subst, ◌∙◌, arith}
use Rattle.std.proofs.lemmas.Bool.{eqb-true}
use Rattle.std.proofs.lemmas.List.{get_or-drop, length-drop}
use Rattle.std.proofs.lemmas.Str.{IsCharBoundary-before_ascii, IsCharBoundary-end}
use Rattle.lsp_json.specs.Words.{Words, ends_word, place_after, word_len, words_from, words_in, words_left}
use Rattle.lsp_json.specs.declared.words.Place.{Place}
use Rattle.lsp_json.specs.declared.words.Place.TheVariants.{Outside, Inside, Escaped}

-- the first of these words has so many bytes, and behind it there is nothing, or a space
abbrev Cut : Words → ℕ → List ℕ → Type 0
Cut words n bytes =
    ((drop n bytes ≡ []) × (words ≡ take n bytes ∷ []))
    ⊎ ((rest : List ℕ) × (drop n bytes ≡ 32 ∷ rest) × (words ≡ take n bytes ∷ words_in rest))

space : (place : Place) (byte : ℕ) → ends_word place byte ≡ true → byte ≡ 32
space Outside byte is = eqb-true byte 32 is
space _ byte is = absurd (cc is)

abbrev len_if : Bool → ℕ → ℕ
len_if ends n = if ends then 0 else suc n

abbrev words_if : Bool → Words → ℕ → Words → Words
words_if ends behind byte words = if ends then [] ∷ behind else onto_first byte words

-- one more byte
one_more : (place : Place) (byte : ℕ) (bytes : List ℕ) (ends : Bool) (n : ℕ) (words : Words)
    → ends_word place byte ≡ ends → Cut words n bytes
    → Cut (words_if ends (words_in bytes) byte words) (len_if ends n) (byte ∷ bytes)
one_more place byte bytes true n words is cut =
    inr (bytes, ap (λ b. b ∷ bytes) (space place byte is), refl)
one_more place byte bytes false n words is (inl (none, are)) =
    inl (none, ap (onto_first byte) are)
one_more place byte bytes false n words is (inr (rest, next, are)) =
    inr (rest, next, ap (onto_first byte) are)

cut : (place : Place) (bytes : List ℕ) → Cut (words_from place bytes) (word_len place bytes) bytes
cut place [] = inl (refl, refl)
cut place (byte ∷ bytes) =
    one_more place byte bytes (ends_word place byte) (word_len (place_after place byte) bytes)
    (words_from (place_after place byte) bytes) refl (cut (place_after place byte) bytes)

-- what is behind the first word, by where it is stripped of a space
module _ (line word behind : List ℕ) (left : Option (Bor (List ℕ)))
    (front : word ≡ take (word_len Outside line) line)
    (back : behind ≡ drop (word_len Outside line) line)
    (stripped : MatchOption left ((rest : List ℕ) → behind ≢ 32 ∷ rest)
    (λ x. behind ≡ 32 ∷ x.now)) where
  pub words_are : words_in line ≡ word ∷ words_left (option_map (λ x. x.now) left)
  words_are = by_left left stripped (cut Outside line)
    where
      by_left : (o : Option (Bor (List ℕ)))
          → MatchOption o ((rest : List ℕ) → behind ≢ 32 ∷ rest) (λ x. behind ≡ 32 ∷ x.now)
          → Cut (words_in line) (word_len Outside line) line
          → words_in line ≡ word ∷ words_left (option_map (λ x. x.now) o)
      by_left None last (inl (none, are)) = are ∙ ap (λ w. w ∷ []) (sym front)
      by_left None last (inr (rest, next, are)) = absurd (last rest (back ∙ next))
      by_left (Some x) more (inl (none, are)) =
          let no : 32 ∷ x.now ≡ [] = sym more ∙ back ∙ none in absurd (cc no)
      by_left (Some x) more (inr (rest, next, are)) =
          let same : 32 ∷ rest ≡ 32 ∷ x.now = sym next ∙ sym back ∙ more in
          let left_is : rest ≡ x.now = cc same in
          are ∙ ap (λ w. w ∷ words_in rest) (sym front) ∙ ap (λ w. word ∷ words_in w) left_is

  -- it is shorter than the line
  pub less : MatchOption left (Unit {0}) (λ x. length x.now < length line)
  less = by_left left stripped
    where
      by_left : (o : Option (Bor (List ℕ)))
          → MatchOption o ((rest : List ℕ) → behind ≢ 32 ∷ rest) (λ x. behind ≡ 32 ∷ x.now)
          → MatchOption o (Unit {0}) (λ x. length x.now < length line)
      by_left None last = tt
      by_left (Some x) more = omega (
        arith,
        ap length (sym back ∙ more),
        length-drop (word_len Outside line) line,
      )

len_le : (place : Place) (bytes : List ℕ) → word_len place bytes ≤ length bytes
len_le place [] = omega arith
len_le place (byte ∷ bytes) =
    by_end (ends_word place byte) (len_le (place_after place byte) bytes)
  where
    by_end : (ends : Bool) → word_len (place_after place byte) bytes ≤ length bytes
        → len_if ends (word_len (place_after place byte) bytes) ≤ length (byte ∷ bytes)
    by_end true le = omega arith
    by_end false le = omega arith

-- a line may be cut behind its first word
pub boundary : (line : List ℕ) → IsCharBoundary line (word_len Outside line)
boundary line = by_cut (cut Outside line)
  where
    n : ℕ
    n = word_len Outside line

    by_cut : Cut (words_in line) n line → IsCharBoundary line n
    by_cut (inl (none, are)) = subst (IsCharBoundary line) (sym ends) (IsCharBoundary-end line)
      where
        ends : n ≡ length line
        ends = omega (arith, ap length none, length-drop n line, len_le Outside line)
    by_cut (inr (rest, next, are)) = IsCharBoundary-before_ascii line n within small
      where
        within : n < length line
        within = omega (arith, ap length next, length-drop n line)

        none_more : n ≡ n + 0
        none_more = omega arith

        at : get_or line n 0 ≡ 32
        at = ap (λ (k : ℕ). get_or line k 0) none_more ∙ sym (get_or-drop n line 0 0)
            ∙ ap (λ (w : List ℕ). get_or w 0 0) next

        small : get_or line n 0 < 128
        small = omega (arith, at)
