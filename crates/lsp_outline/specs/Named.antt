-- Which document a content names in its params.
use Rattle.std.specs.Prelude.{◌≡◌, ℕ, List, Option, None, if◌then◌else◌, option_map}
use Rattle.std.specs.Prelude.{option_and_then, string_bytes, codes}
use Rattle.std.specs.Str.{is_utf8}
use Rattle.serde_json.specs.Data.{Data}
use Rattle.serde_json.specs.Read.{read}
use Rattle.lsp_rpc.specs.Act.{Text}
use Rattle.lsp_rpc.specs.Params.{required, uri_at}
use Rattle.lsp_types.specs.declared.side.Side.{Side}
use Rattle.lsp_types.specs.declared.side.Side.TheVariants.{Editor, Server}
use Rattle.lsp_outline.specs.declared.document.IdentifierParts.{IdentifierParts}
use Rattle.lsp_outline.specs.declared.document.NamingParts.{NamingParts}
use Rattle.lsp_outline.specs.declared.document.ContentParts.{ContentParts}

-- the document that params name, of a message of this side (LSP 3.17, TextDocumentIdentifier,
-- PublishDiagnosticsParams)
abbrev pub document_in : Side → Data → Option Text
document_in Editor params = required (codes "textDocument") uri_at params
document_in Server params = uri_at params

-- the one that a message of this value names
abbrev pub named_in_value : Side → Data → Option Text
named_in_value side value = required (codes "params") (document_in side) value

-- **the one that a content names**
abbrev pub named_in : Side → List ℕ → Option Text
named_in side content =
    if is_utf8 content then option_and_then (named_in_value side) (read content) else None

-- ---- as it is read, member by member

abbrev pub uri_view : IdentifierParts → Option Text
uri_view parts = option_map (λ s. string_bytes s) parts.uri

abbrev pub naming_view : Side → NamingParts → Option Text
naming_view Editor parts = option_and_then uri_view parts.document
naming_view Server parts = option_map (λ s. string_bytes s) parts.uri

abbrev pub content_view : Side → ContentParts → Option Text
content_view side parts = option_and_then (naming_view side) parts.params
