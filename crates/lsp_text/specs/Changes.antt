-- The changes of a notification, as edits of a text.
use Rattle.std.specs.Prelude.{List, map}
use Rattle.std.specs.Str.{chars}
use Rattle.std.specs.String.{string_bytes}
use Rattle.lsp_types.specs.declared.change.Change.{Change}
use Rattle.lsp_text.specs.Edits.{Edit}

-- a change, its text as characters
abbrev pub edit_of : Change → Edit
edit_of c = record {
  span = c.span;
  range_length = c.range_length;
  text = chars (string_bytes c.text);
}

abbrev pub edits_of : List Change → List Edit
edits_of cs = map edit_of cs
