-- How much a text is, by its bytes.
use Rattle.std.specs.Prelude.{◌≡◌, ◌≤◌, ◌+◌, ◌-◌, ℕ, List, length}
use Rattle.std.specs.Str.{chars}
use Rattle.lsp_types.specs.declared.position.Encoding.{Encoding}
use Rattle.lsp_types.specs.declared.position.Encoding.TheVariants.{Utf8, Utf16, Utf32}
use Rattle.lsp_text.specs.Places.{units}
use Rattle.lsp_lined.specs.Ends.{ends_in}
use Rattle.lsp_lined.specs.declared.sums.Sums.{Sums}
use Rattle.lsp_lined.specs.declared.sums.Measure.{Measure}
use Rattle.lsp_lined.specs.declared.sums.Measure.TheVariants.{Ends, Units}

abbrev pub sums_of : List ℕ → Sums
sums_of bs = record { ends = ends_in bs; bytes = length bs; chars = length (chars bs); utf16 = units Utf16 (chars bs) }

-- how much that is by a measure
abbrev pub amount_in : Measure → Sums → ℕ
amount_in Ends s = s.ends
amount_in (Units Utf8) s = s.bytes
amount_in (Units Utf16) s = s.utf16
amount_in (Units Utf32) s = s.chars

-- how much a text is by a measure
abbrev pub amount : Measure → List ℕ → ℕ
amount m bs = amount_in m (sums_of bs)

-- of two texts together
abbrev pub added : Sums → Sums → Sums
added a b = record { ends = a.ends + b.ends; bytes = a.bytes + b.bytes; chars = a.chars + b.chars; utf16 = a.utf16 + b.utf16 }

-- where a part is exchanged for another
abbrev pub exchanged : Sums → Sums → Sums → Sums
exchanged s old new = record {
  ends = s.ends - old.ends + new.ends;
  bytes = s.bytes - old.bytes + new.bytes;
  chars = s.chars - old.chars + new.chars;
  utf16 = s.utf16 - old.utf16 + new.utf16;
}

-- none of them is over a number
pub record AreAtMost (s : Sums) (n : ℕ) : Type 0 where
  pub ends : s.ends ≤ n
  pub bytes : s.bytes ≤ n
  pub chars : s.chars ≤ n
  pub utf16 : s.utf16 ≤ n

-- the units of a text in each encoding, before and after some of its characters were exchanged for
-- others: those of the characters that stayed, and of these
pub record IsExchange (old new : Sums) (removed inserted : List ℕ) : Type 0 where
  pub stayed : List ℕ
  pub old_is : (enc : Encoding) → amount_in (Units enc) old ≡ units enc stayed + units enc removed
  pub new_is : (enc : Encoding) → amount_in (Units enc) new ≡ units enc stayed + units enc inserted
