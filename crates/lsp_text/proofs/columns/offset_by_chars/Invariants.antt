use Rattle.std.proofs.Common.{◌≡◌, ◌+◌, length, drop, take}
use Rattle.std.specs.Str.{chars}
use Rattle.std.specs.Option.{option_map}
use lib.Utf8.{encodes}
use Rattle.lsp_text.specs.Places.{place_in_line}
use Rattle.lsp_text.proofs.columns.offset_by_chars.Given as goal

abbrev pub invariant-loop-c : goal.invariant-loop-c
invariant-loop-c l =
    record {
      place : place_in_line l.encoding (chars l.text) l.column ≡ option_map (λ k. length l.yielded + k) (place_in_line l.encoding (drop (length l.yielded) (chars l.text)) l.left);
      offset : l.offset ≡ length (encodes (take (length l.yielded) (chars l.text)));
    }
