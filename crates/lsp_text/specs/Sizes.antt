-- How long a text would be with a change, whatever limit there is.
use Rattle.std.specs.Prelude.{◌≡◌, ◌⊎◌, ℕ, List}
use Rattle.std.specs.declared.option.Option.{Option}
use Rattle.std.specs.declared.result.Result.TheVariants.{Err}
use Rattle.lsp_types.specs.declared.position.Encoding.{Encoding}
use Rattle.lsp_types.specs.declared.position.Encoding.TheVariants.{Utf8}
use Rattle.lsp_types.specs.declared.position.Span.{Span}
use Rattle.lsp_text.specs.Places.{units}
use Rattle.lsp_text.specs.Edits.{changed, limited}
use Rattle.lsp_types.specs.declared.rules.TheConstants as rules

-- the change makes a text of n bytes of UTF-8, under every limit that is no less
pub record IsSizeWith (enc : Encoding) (t : List ℕ) (span : Option Span) (s : List ℕ) (n : ℕ) : Type 0 where
  pub made : List ℕ
  pub change : (limit : ℕ) → changed enc t span s limit ≡ limited limit made
  pub size : n ≡ units Utf8 made

-- no limit lets the change be made: 605 or 606 refuses it
abbrev pub IsNeverMade : Encoding → List ℕ → Option Span → List ℕ → Type 0
IsNeverMade enc t span s =
    (limit : ℕ) → (changed enc t span s limit ≡ Err rules.POSITION_INSIDE_CHARACTER)
    ⊎ (changed enc t span s limit ≡ Err rules.RANGE_REVERSED)
