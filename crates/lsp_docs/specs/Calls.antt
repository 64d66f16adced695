-- Texts as characters, and what is said about documents: one call after another.
use Rattle.std.specs.Prelude.{ℕ, List, ℤ, Bool, false, Option}
use Rattle.std.specs.Str.{bytes_eq}
use Rattle.lsp_types.specs.declared.position.Encoding.TheVariants.{Utf8}
use Rattle.lsp_types.specs.declared.position.Encoding.{Encoding}
use Rattle.lsp_types.specs.declared.change.SyncKind.{SyncKind}
use Rattle.lsp_text.specs.Places.{units}
use Rattle.lsp_text.specs.Edits.{Edit}

-- ---- texts as characters

-- the characters of a text
abbrev pub Text : Type 0
Text = List ℕ

-- the bytes of UTF-8 that a text has
abbrev pub byte_len : Text → ℕ
byte_len t = units Utf8 t

-- ---- calls: a URI, and then what the message or the snapshot says about it

-- a URI, as the bytes of its UTF-8
abbrev pub Bytes : Type 0
Bytes = List ℕ

-- `didOpen`, `didChange` under an encoding and a kind, `didClose`, `didSave`, and a snapshot that
-- shows a text at a version
pub data Call : Type 0 where
  opens : Bytes → ℤ → Text → Call
  changes : Encoding → SyncKind → Bytes → ℤ → List Edit → Call
  closes : Bytes → Call
  saves : Bytes → Option Text → Call
  shows : Bytes → ℤ → Text → Call

abbrev pub uri_of : Call → Bytes
uri_of (opens uri n t) = uri
uri_of (changes enc kind uri n cs) = uri
uri_of (closes uri) = uri
uri_of (saves uri t) = uri
uri_of (shows uri n t) = uri

-- a `didClose` of this URI
abbrev pub is_close : Bytes → Call → Bool
is_close uri (closes u) = bytes_eq uri u
is_close uri _ = false

-- a `didChange` of this URI
abbrev pub is_change : Bytes → Call → Bool
is_change uri (changes enc kind u n cs) = bytes_eq uri u
is_change uri _ = false
