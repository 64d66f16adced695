-- What always holds of a block.
use Rattle.std.specs.Prelude.{◌≡◌, ◌≤◌, length}
use Rattle.std.specs.Str.{IsUtf8}
use Rattle.std.specs.String.{string_bytes}
use Rattle.lsp_lined.specs.Ends.{places_behind}
use Rattle.lsp_lined.specs.Sums.{sums_of}
use Rattle.lsp_lined.specs.declared.block.Block.TheInside.{Inside}

-- its text is UTF-8 and short, and its sums and the places after its line ends are known
pub record IsBlock (a : Inside) : Type 0 where
  pub sums : a.text.value.sums ≡ sums_of (string_bytes a.text.value.text)
  pub utf8 : IsUtf8 (string_bytes a.text.value.text)
  pub places : a.text.value.places.items ≡ places_behind 0 (string_bytes a.text.value.text)
  pub short : length (string_bytes a.text.value.text) ≤ 4096
