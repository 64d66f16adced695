-- Which document the params of a content name, and which version of it.
use Rattle.std.specs.Prelude.{◌≡◌, ℕ, ℤ, List, Option, None, if◌then◌else◌, option_and_then}
use Rattle.std.specs.Prelude.{option_map, string_bytes, codes}
use Rattle.std.specs.Str.{is_utf8}
use Rattle.serde_json.specs.Data.{Data}
use Rattle.serde_json.specs.Read.{read}
use Rattle.lsp_rpc.specs.Act.{Text}
use Rattle.lsp_rpc.specs.Params.{required, uri_at, version_at}
use Rattle.lsp_types.specs.declared.side.Side.{Side}
use Rattle.lsp_types.specs.declared.side.Side.TheVariants.{Editor, Server}
use Rattle.lsp_outline.specs.Named.{content_view, document_in, named_in, named_in_value}
use Rattle.lsp_outline.specs.Named.{naming_view}
use Rattle.lsp_outline.specs.declared.document.ContentParts.{ContentParts}
use Rattle.lsp_outline.specs.declared.document.DocumentVersion.{DocumentVersion}
use Rattle.lsp_outline.specs.declared.document.NamingParts.{NamingParts}

-- a document, and the version of it, where one is named
pub record Versioned : Type 0 where
  pub uri : Text
  pub number : Option ℤ

abbrev pub versioned : Option ℤ → Text → Versioned
versioned number uri = record { uri = uri; number = number }

-- those that params name (LSP 3.17, PublishDiagnosticsParams)
abbrev pub versioned_at : Data → Option Versioned
versioned_at params = option_map (versioned (version_at params)) (uri_at params)

abbrev pub versioned_in_value : Data → Option Versioned
versioned_in_value value = required (codes "params") versioned_at value

-- **those that a content names**
abbrev pub versioned_in : List ℕ → Option Versioned
versioned_in content =
    if is_utf8 content then option_and_then versioned_in_value (read content) else None

-- ---- as they are read, member by member

abbrev pub parts_view : NamingParts → Option Versioned
parts_view parts =
    option_map (versioned parts.version) (option_map (λ s. string_bytes s) parts.uri)

abbrev pub message_view : ContentParts → Option Versioned
message_view parts = option_and_then parts_view parts.params

abbrev pub version_view : DocumentVersion → Versioned
version_view v = versioned v.version (string_bytes v.uri)

-- the params have this for both sides
abbrev pub AreOfParams : Data → NamingParts → Type 0
AreOfParams params parts =
    (document_in Editor params ≡ naming_view Editor parts)
    × (document_in Server params ≡ naming_view Server parts)
    × (version_at params ≡ parts.version)

-- the value of a message has
abbrev pub AreNamed : Data → ContentParts → Type 0
AreNamed value parts =
    (named_in_value Editor value ≡ content_view Editor parts)
    × (named_in_value Server value ≡ content_view Server parts)
    × (versioned_in_value value ≡ message_view parts)

-- a content has
pub record Names (content : List ℕ) (parts : ContentParts) : Type 0 where
  pub document : (side : Side) → content_view side parts ≡ named_in side content
  pub version : message_view parts ≡ versioned_in content
