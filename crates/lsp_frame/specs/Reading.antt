-- How the code reads a header part, in the words of `Header`.
use Rattle.std.specs.Prelude.{◌≡◌, ℕ, ◌≤◌, List, [], ◌∷◌, ◌++◌, length, codes}
use Rattle.lsp_frame.specs.Header.{Field, IsField, line}
use Rattle.lsp_frame.specs.declared.field.Field.{Field as CodeField}
use Rattle.lsp_frame.specs.declared.header.Lengths.{Lengths}
use Rattle.lsp_frame.specs.declared.header.Lengths.TheVariants.{Missing, One, Several}

abbrev pub field_view : CodeField → Field
field_view f = record { name = f.name.now; value = f.value.now }

-- the bytes begin with no field's line
abbrev pub NoFieldBegins : List ℕ → Type 0
NoFieldBegins bytes = (f : Field) (rest : List ℕ) → IsField f → bytes ≡ line f ++ rest → ⊥

-- the default content type
abbrev pub usual_type : Field
usual_type = record {
  name = codes "Content-Type";
  value = codes " application/vscode-jsonrpc; charset=utf-8";
}

-- the code's count of values
abbrev pub Holds : Lengths → List (List ℕ) → Type 0
Holds Missing values = values ≡ []
Holds (One v) values = values ≡ v.now ∷ []
Holds Several values = 2 ≤ length values
