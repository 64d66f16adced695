use Rattle.std.proofs.Common.{◌≡◌, IsUtf8, drop, length}
use Rattle.std.specs.Prelude.{chars}
use Rattle.std.specs.Str.Iter.{chars_rest}
use Rattle.lsp_redact.specs.Characters.{first_other}
use Rattle.lsp_redact.proofs.apart.first_other.Given as goal

abbrev pub invariant-loop-character : goal.invariant-loop-character
invariant-loop-character l = record {
  same : first_other (chars l.text) (chars l.other)
      ≡ first_other (chars (chars_rest l.characters)) (drop (length l.yielded) (chars l.other));
  utf8 : IsUtf8 (chars_rest l.characters);
}
