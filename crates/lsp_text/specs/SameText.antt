-- Texts that are the same, character by character or by their lines alone.
use Rattle.std.specs.Prelude.{◌≡◌, ◌&&◌, ◌||◌, ℕ, Bool, true, false, cond, List, [], ◌∷◌, ◌++◌}
use Rattle.std.specs.Prelude.{◌↔◌, map, Option, Some, None}
use Rattle.std.specs.List.{flat_map}
use Rattle.std.specs.Str.{bytes_eq}
use Rattle.lsp_types.specs.declared.line_ends.LineEnds.{LineEnds}
use Rattle.lsp_types.specs.declared.line_ends.LineEnds.TheVariants.{Exact, Ignored}
use Rattle.lsp_text.specs.Lines.{Line, lines_of, is_feed, is_return, starts_with_feed}
use Rattle.lsp_text.specs.declared.same.LinesLeft.{LinesLeft}
use Rattle.lsp_text.specs.declared.same.LinesLeft.TheVariants.{Rest, Nothing}

-- a text with a LF for each of its line ends, which are CR LF, LF and CR
abbrev pub with_feeds : List ℕ → List ℕ
with_feeds [] = []
with_feeds (c ∷ cs) =
    cond (is_return c && starts_with_feed cs) (with_feeds cs)
    (cond (is_return c) 10 c ∷ with_feeds cs)

abbrev pub is_nothing : List ℕ → Bool
is_nothing [] = true
is_nothing (c ∷ cs) = false

-- a text without the LF at its end, where there is one
abbrev pub without_last_feed : List ℕ → List ℕ
without_last_feed [] = []
without_last_feed (c ∷ cs) = cond (is_feed c && is_nothing cs) [] (c ∷ without_last_feed cs)

-- what of a text is compared. Where line ends are ignored, that is its lines, with a LF between
-- them: a line end at the end of the text begins no line
abbrev pub compared : LineEnds → List ℕ → List ℕ
compared Exact t = t
compared Ignored t = without_last_feed (with_feeds t)

-- **two texts are the same**
abbrev pub SameText : LineEnds → List ℕ → List ℕ → Type 0
SameText ends a b = compared ends a ≡ compared ends b

abbrev pub same_text : LineEnds → List ℕ → List ℕ → Bool
same_text ends a b = bytes_eq (compared ends a) (compared ends b)

-- ---- laws

-- **Being the same is an equivalence**, and equal texts are the same
pub record SameTexts : Type 0 where
  pub equal : (ends : LineEnds) (a b : List ℕ) → a ≡ b → SameText ends a b
  pub symmetric : (ends : LineEnds) (a b : List ℕ) → SameText ends a b → SameText ends b a
  pub transitive : (ends : LineEnds) (a b c : List ℕ) → SameText ends a b → SameText ends b c
      → SameText ends a c

-- **Where line ends count, the same texts are equal.**
abbrev pub ExactTexts : Type 0
ExactTexts = (a b : List ℕ) → SameText Exact a b → a ≡ b

abbrev pub feed_for : List ℕ → List ℕ
feed_for [] = []
feed_for (c ∷ cs) = 10 ∷ []

-- a line, with a LF for its end, where it has one
abbrev pub with_feed : Line → List ℕ
with_feed l = l.text ++ feed_for l.end

-- **A LF stands for the end of each line that has one, and nothing else changes.**
abbrev pub FeedsEndLines : Type 0
FeedsEndLines = (t : List ℕ) → with_feeds t ≡ flat_map with_feed (lines_of t)

-- the lines of a text without their ends
abbrev pub line_texts : List ℕ → List (List ℕ)
line_texts t = map (λ (l : Line). l.text) (lines_of t)

abbrev pub no_more : List (List ℕ) → Bool
no_more [] = true
no_more (l ∷ ls) = false

abbrev pub without_empty_last : List (List ℕ) → List (List ℕ)
without_empty_last [] = []
without_empty_last (l ∷ ls) = cond (is_nothing l && no_more ls) [] (l ∷ without_empty_last ls)

-- those that count: all but the last, where that is empty and comes after others
abbrev pub that_count : List (List ℕ) → List (List ℕ)
that_count [] = []
that_count (l ∷ ls) = l ∷ without_empty_last ls

-- **Where line ends are ignored, two texts are the same exactly if their lines are**, without their
-- ends and without an empty last one.
abbrev pub SameByLines : Type 0
SameByLines =
    (a b : List ℕ)
    → SameText Ignored a b ↔ (that_count (line_texts a) ≡ that_count (line_texts b))

-- ---- taking lines off the front of a text

-- what is left, with a LF for each line end, the last line's too
abbrev pub due : LinesLeft → List ℕ
due (Rest text) = with_feeds text.now ++ 10 ∷ []
due Nothing = []

-- it does not begin with these
abbrev pub BeginsOtherwise : List ℕ → List ℕ → Type 0
BeginsOtherwise front whole = (rest : List ℕ) → whole ≡ front ++ rest → ⊥

-- a LF or a CR
abbrev pub is_mark : ℕ → Bool
is_mark c = is_feed c || is_return c

-- it does not begin with a line end
abbrev pub StartsOtherwise : List ℕ → Type 0
StartsOtherwise text = (c : ℕ) (rest : List ℕ) → text ≡ c ∷ rest → is_mark c ≡ false

-- it does not end with a LF
abbrev pub EndsOtherwise : List ℕ → Type 0
EndsOtherwise text = (front : List ℕ) → text ≡ front ++ 10 ∷ [] → ⊥

-- this is left of a text after these lines
abbrev pub IsTaken : List ℕ → List ℕ → Option LinesLeft → Type 0
IsTaken lines whole None = BeginsOtherwise (with_feeds lines) (with_feeds whole ++ 10 ∷ [])
IsTaken lines whole (Some left) = with_feeds whole ++ 10 ∷ [] ≡ with_feeds lines ++ due left
