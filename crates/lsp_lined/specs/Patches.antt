-- What has the same effect as putting a text in the place of some bytes.
use Rattle.std.specs.Prelude.{◌≡◌, ◌+◌, ◌-◌, ◌≤◌, ◌++◌, ℕ, List, length, take, drop}
use Rattle.std.specs.Str.{IsUtf8, IsCharBoundary}
use Rattle.std.specs.List.{replace_range}
use Rattle.lsp_text.specs.Spans.{CanReplace}
use Rattle.lsp_text.specs.SameText.{BeginsOtherwise}
use Rattle.lsp_lined.specs.declared.lined.patch.Patch.{Patch}

-- a patch with the same effect as putting this text in the place of these bytes
pub record IsPatch (bs : List ℕ) (from to : ℕ) (text : List ℕ) (p : Patch) : Type 0 where
  pub can : CanReplace bs p.from p.to
  pub same : replace_range bs p.from p.to p.text.now ≡ replace_range bs from to text

-- the first bytes of a text, and so many of its last ones, are those of some bytes
pub record AreSameEndsOf (held text : List ℕ) (front back : ℕ) : Type 0 where
  pub within : front + back ≤ length text
  pub there : front + back ≤ length held
  pub first : IsCharBoundary text front
  pub last : IsCharBoundary text (length text - back)
  pub same_front : take front text ≡ take front held
  pub same_back : drop (length text - back) text ≡ drop (length held - back) held

-- a text is the first of some bytes, and then the rest
pub record BeginsAs (bs text rest : List ℕ) : Type 0 where
  pub count : ℕ
  pub within : count ≤ length bs
  pub begins : text ≡ take count bs ++ rest
  pub utf8 : IsUtf8 rest

-- and it does not begin with all of them
pub record PartsIn (bs text rest : List ℕ) : Type 0 where
  pub first : BeginsAs bs text rest
  pub otherwise : BeginsOtherwise bs text
