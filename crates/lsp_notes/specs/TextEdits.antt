-- Edits of texts as servers send them (LSP 3.17, TextEdit and WorkspaceEdit).
use Rattle.std.specs.Prelude.{◌+◌, ℕ, ℤ, List, Bool, false, if◌then◌else◌, nat_lt}
use Rattle.std.specs.Prelude.{Option, Some, None, option_and_then, option_map, codes}
use Rattle.std.specs.Str.{bytes_eq, chars}
use Rattle.serde_json.specs.Data.{Data, Items, no_items, item}
use Rattle.serde_json.specs.Find.{as_array, as_str}
use Rattle.lsp_rpc.specs.Params.{both, given, required, span_at, uri_at, version_at}
use Rattle.lsp_trail.specs.Common.{all_of, Edit, edits_of, member, Span}
use Rattle.lsp_notes.specs.declared.text_edits.DocumentEdits as code

-- ---- edits of a text

abbrev pub edit_with : Span → List ℕ → Edit
edit_with span text = record { span = Some span; range_length = None; text = chars text }

abbrev pub text_edit_at : Data → Option Edit
text_edit_at d =
    both edit_with (required (codes "range") span_at d) (required (codes "newText") as_str d)

-- how many edits of a text are looked at
abbrev pub most_edits : ℕ
most_edits = 1024

abbrev pub count_of : Items → ℕ
count_of no_items = 0
count_of (item d ds) = count_of ds + 1

abbrev pub few_edits : Items → Option (List Edit)
few_edits ds = if nat_lt most_edits (count_of ds) then None else all_of text_edit_at ds

-- **the edits that an array lists**, where each has this form and there are not too many
abbrev pub text_edits_at : Data → Option (List Edit)
text_edits_at d = option_and_then few_edits (as_array d)

-- ---- edits of documents

-- what a workspace edit has for a document: the version that it is for, if it names one, and the
-- edits, if they are looked at
pub record DocumentEdits : Type 0 where
  pub version : Option ℤ
  pub edits : Option (List Edit)

abbrev pub document_edits : Option ℤ → Option (List Edit) → DocumentEdits
document_edits version edits = record { version = version; edits = edits }

-- those of an item of `documentChanges`
abbrev pub item_edits : Data → DocumentEdits
item_edits d =
    document_edits (required (codes "textDocument") version_at d)
    (required (codes "edits") text_edits_at d)

abbrev pub is_uri : List ℕ → Option (List ℕ) → Bool
is_uri uri None = false
is_uri uri (Some own) = bytes_eq own uri

-- such an item is for the document of this URI
abbrev pub is_for : List ℕ → Data → Bool
is_for uri d = is_uri uri (required (codes "textDocument") uri_at d)

abbrev pub first_for : List ℕ → Items → Option Data
first_for uri no_items = None
first_for uri (item d ds) = if is_for uri d then Some d else first_for uri ds

-- the ranges of a second item would be those of the text that the first one makes
abbrev pub in_document_changes : List ℕ → Data → Option DocumentEdits
in_document_changes uri d = option_map item_edits (option_and_then (first_for uri) (as_array d))

abbrev pub in_changes : List ℕ → Data → Option DocumentEdits
in_changes uri d =
    option_map (λ own. document_edits None (text_edits_at own))
    (required (codes "changes") (member uri) d)

-- `changes` count where there are no `documentChanges`
abbrev pub edits_by : List ℕ → Data → Option Data → Option DocumentEdits
edits_by uri d (Some changes) = in_document_changes uri changes
edits_by uri d None = in_changes uri d

-- **what a workspace edit has for the document of this URI**
abbrev pub edits_for : List ℕ → Data → Option DocumentEdits
edits_for uri d = edits_by uri d (given (codes "documentChanges") d)

-- ---- as they are read

abbrev pub document_edits_view : code.DocumentEdits → DocumentEdits
document_edits_view e =
    document_edits e.version (option_map (λ v. edits_of v.items) e.edits)
