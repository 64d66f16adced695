use Rattle.std.proofs.Common.{◌≡◌, ◌≤◌, ◌+◌, ◌-◌, length, take}
use Rattle.std.specs.List.{sum_by}
use Rattle.lsp_types.specs.declared.position.Encoding.TheVariants.{Utf16, Utf32}
use Rattle.lsp_text.specs.Offsets.{byte_units}
use Rattle.lsp_text.proofs.lanes.count.Given as goal

abbrev pub invariant-loop-at : goal.invariant-loop-at
invariant-loop-at l =
    record {
      chars : l.chars ≡ sum_by (byte_units Utf32) (take l.at l.bytes);
      utf16 : l.utf16 ≡ sum_by (byte_units Utf16) (take l.at l.bytes);
      within : l.at ≤ length l.bytes;
    }

abbrev pub decreases-loop-at : goal.decreases-loop-at
decreases-loop-at l = length l.bytes + 1 - l.at

abbrev pub invariant-loop-byte : goal.invariant-loop-byte
invariant-loop-byte l =
    record {
      chars : l.chars ≡ sum_by (byte_units Utf32) (take (l.at + l.byte-index) l.bytes);
      utf16 : l.utf16 ≡ sum_by (byte_units Utf16) (take (l.at + l.byte-index) l.bytes);
      within : l.at ≤ length l.bytes;
    }
