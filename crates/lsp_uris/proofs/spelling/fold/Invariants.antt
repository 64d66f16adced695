use Rattle.std.proofs.Common.{◌≡◌, take}
use Rattle.std.specs.List.{flat_map}
use Rattle.lsp_verdict.specs.Spelling.{folded_byte}
use Rattle.lsp_uris.proofs.spelling.fold.Given as goal

abbrev pub invariant-loop-byte : goal.invariant-loop-byte
invariant-loop-byte l = l.folded.items ≡ flat_map folded_byte (take l.byte-index l.bytes)
