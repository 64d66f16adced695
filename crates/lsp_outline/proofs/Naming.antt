-- Which documents a content names, as it is read.
use Rattle.std.specs.Prelude.{if◌then◌else◌, option_and_then}
use Rattle.std.specs.Str.{is_utf8, IsUtf8}
use Rattle.std.proofs.Common.{◌≡◌, ℕ, Bool, true, false, List, Option, Some, None, refl, sym, ap}
use Rattle.std.proofs.Common.{◌∙◌}
use Rattle.std.proofs.lemmas.Str.{IsUtf8-from_is_utf8, is_utf8-from_IsUtf8}
use Rattle.serde_json.specs.Data.{Data}
use Rattle.serde_json.specs.Read.{read}
use Rattle.lsp_types.specs.declared.side.Side.{Side}
use Rattle.lsp_types.specs.declared.side.Side.TheVariants.{Editor, Server}
use Rattle.lsp_outline.specs.Named.{content_view, named_in_value, naming_view}
use Rattle.lsp_outline.specs.Versions.{AreNamed, Names, parts_view, versioned_in_value}
use Rattle.lsp_outline.specs.declared.document.ContentParts.{ContentParts}

-- what is read off the value of a content
abbrev pub of_value : {X : Type 0} → (Data → Option X) → List ℕ → Option X
of_value shape bytes = if is_utf8 bytes then option_and_then shape (read bytes) else None

-- nothing, if it is no JSON text
no_text_gives : {X : Type 0} (shape : Data → Option X) (bytes : List ℕ)
    → (IsUtf8 bytes → read bytes ≡ None) → None ≡ of_value shape bytes
no_text_gives shape bytes none = by_test (is_utf8 bytes) refl
  where
    by_test : (b : Bool) → is_utf8 bytes ≡ b
        → None ≡ (if b then option_and_then shape (read bytes) else None)
    by_test false is = refl
    by_test true is = sym (ap (option_and_then shape) (none (IsUtf8-from_is_utf8 bytes is)))

-- the shape of its value, if it is one
pub text_gives : {X : Type 0} (shape : Data → Option X) (bytes : List ℕ) (d : Data) → IsUtf8 bytes
    → read bytes ≡ Some d → shape d ≡ of_value shape bytes
text_gives shape bytes d utf8 is =
    sym (ap (λ (b : Bool). if b then option_and_then shape (read bytes) else None)
    (is_utf8-from_IsUtf8 bytes utf8)
    ∙ ap (option_and_then shape) is)

pub no_text_names : (bytes : List ℕ) (parts : ContentParts) → (IsUtf8 bytes → read bytes ≡ None)
    → parts.params ≡ None → Names bytes parts
no_text_names bytes parts none empty = record {
  document = λ side. ap (option_and_then (naming_view side)) empty
      ∙ no_text_gives (named_in_value side) bytes none;
  version = ap (option_and_then parts_view) empty ∙ no_text_gives versioned_in_value bytes none;
}

pub text_names : (bytes : List ℕ) (d : Data) (parts : ContentParts) → IsUtf8 bytes
    → read bytes ≡ Some d → AreNamed d parts → Names bytes parts
text_names bytes d parts utf8 is named = record {
  document = λ side. by_side side ∙ text_gives (named_in_value side) bytes d utf8 is;
  version = sym named.2 ∙ text_gives versioned_in_value bytes d utf8 is;
}
  where
    by_side : (side : Side) → content_view side parts ≡ named_in_value side d
    by_side Editor = sym named.0
    by_side Server = sym named.1
