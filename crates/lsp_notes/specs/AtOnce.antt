-- What edits make of a text, if all their ranges are in it (LSP 3.17, TextEdit[]).
use Rattle.std.specs.Prelude.{◌≡◌, ◌==◌, ◌&&◌, ◌||◌, ◌+◌, ◌-◌, ℕ, nat_lt, not, Bool, false, List}
use Rattle.std.specs.Prelude.{[], ◌∷◌, ◌++◌, drop, length, take, if◌then◌else◌, map, Option, Some}
use Rattle.std.specs.Prelude.{None, option_and_then, option_map}
use Rattle.std.specs.Str.{bytes_eq, chars, IsUtf8}
use Rattle.lsp_trail.specs.Common.{Edit, Encoding, Text}
use Rattle.lsp_notes.specs.TextsSince.{stretch_of}
use Rattle.lsp_notes.specs.declared.at_once.Splice as code
use Rattle.lsp_notes.specs.declared.texts_since.Stretch.{Stretch}

-- ---- edits by their places in a text

-- what an edit replaces in a text, by its places there, and what with
pub record Splice : Type 0 where
  pub at : Stretch
  pub text : List ℕ

abbrev pub splice_with : List ℕ → Stretch → Splice
splice_with text at = record { at = at; text = text }

-- an edit, if both its positions are outside of characters
abbrev pub splice_of : Encoding → Text → Edit → Option Splice
splice_of enc t e = option_map (splice_with e.text) (stretch_of enc t e.span)

abbrev pub and_splices : Option (List Splice) → Splice → Option (List Splice)
and_splices more s = option_map (λ ss. s ∷ ss) more

-- all edits, if each is one
abbrev pub splices_of : Encoding → Text → List Edit → Option (List Splice)
splices_of enc t [] = Some []
splices_of enc t (e ∷ es) =
    option_and_then (and_splices (splices_of enc t es)) (splice_of enc t e)

-- ---- in the order of the text

-- it begins before the other one, or at the same place, and ends before it does
abbrev pub is_first : Stretch → Stretch → Bool
is_first a b =
    nat_lt a.first b.first || (a.first == b.first && nat_lt a.second b.second)

-- one more, behind those that come before it
abbrev pub put_by : {X : Type 0} → (X → X → Bool) → X → List X → List X
put_by before x [] = x ∷ []
put_by before x (y ∷ ys) = if before y x then y ∷ put_by before x ys else x ∷ y ∷ ys

-- in order; where neither of two comes before the other, they stay as they are
abbrev pub sorted_by : {X : Type 0} → (X → X → Bool) → List X → List X
sorted_by before [] = []
sorted_by before (x ∷ xs) = put_by before x (sorted_by before xs)

-- **in the order in which they come in the text**: an insertion comes before what is replaced at
-- its place, and those between the same places come as they were sent
abbrev pub in_order : List Splice → List Splice
in_order ss = sorted_by (λ (a b : Splice). is_first a.at b.at) ss

-- ---- what they make

-- it begins no earlier than the one before it ends, which is here, and does not end before it
-- begins
abbrev pub is_next : ℕ → Stretch → Bool
is_next here s = not (nat_lt s.first here) && not (nat_lt s.second s.first)

-- of the text from here on, what comes before an edit, and what comes behind it
abbrev pub front_of : ℕ → Stretch → Text → Text
front_of here s t = take (s.first - here) t

abbrev pub back_of : ℕ → Stretch → Text → Text
back_of here s t = drop (s.second - s.first) (drop (s.first - here) t)

-- **what they make of the text from here on**; nothing, if one reaches into the one before it, or
-- ends before it begins
abbrev pub made_from : ℕ → Text → List Splice → Option Text
made_from here t [] = Some t
made_from here t (s ∷ ss) =
    if is_next here s.at
    then option_map (λ u. front_of here s.at t ++ s.text ++ u)
    (made_from s.at.second (back_of here s.at t) ss)
    else None

-- **what edits make of a text that has all their ranges**
abbrev pub made_at_once : Encoding → Text → List Edit → Option Text
made_at_once enc t edits =
    option_and_then (λ ss. made_from 0 t (in_order ss)) (splices_of enc t edits)

abbrev pub is_text : Text → Option Text → Bool
is_text now None = false
is_text now (Some t) = bytes_eq now t

-- **they make this text of that one**
abbrev pub makes : Encoding → List Edit → Text → Text → Bool
makes enc edits now t = is_text now (made_at_once enc t edits)

-- ---- as the code has it

-- it comes next, and ends within so many characters
abbrev pub is_within : ℕ → ℕ → Stretch → Bool
is_within here len s = is_next here s && not (nat_lt len s.second)

-- how many characters they make of the text from here on, where the whole one has so many and each
-- of them is within it
abbrev pub length_from : ℕ → ℕ → List Splice → Option ℕ
length_from here len [] = Some (len - here)
length_from here len (s ∷ ss) =
    if is_within here len s.at
    then option_map (λ n. (s.at.first - here) + length s.text + n)
    (length_from s.at.second len ss)
    else None

abbrev pub splice_view : code.Splice → Splice
splice_view s = splice_with (chars s.text.now) s.at

abbrev pub splices_view : List code.Splice → List Splice
splices_view ss = map splice_view ss

-- what comes before an edit, and its text, were written behind other bytes, and what is left
pub record IsPut (here : ℕ) (t : Text) (s : Splice) (old new left : List ℕ) : Type 0 where
  pub utf8 : IsUtf8 new
  pub made : chars new ≡ chars old ++ (front_of here s.at t ++ s.text)
  pub left_is : chars left ≡ back_of here s.at t
  pub left_utf8 : IsUtf8 left

-- a text is cut behind so many characters, or at its end
pub record IsSplit (count : ℕ) (text front back : List ℕ) : Type 0 where
  pub front_is : chars front ≡ take count (chars text)
  pub back_is : chars back ≡ drop count (chars text)
  pub front_utf8 : IsUtf8 front
  pub back_utf8 : IsUtf8 back
