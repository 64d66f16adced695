use Rattle.std.proofs.Common.{◌≡◌, ◌++◌, IsUtf8, length, map, max, string_bytes}
use Rattle.std.specs.List.{flat_map}
use Rattle.lsp_log.specs.Log.{chunk, spelling}
use Rattle.lsp_redact.specs.Records.{pieces}
use Rattle.lsp_redact.proofs.records.push_pieces.Given as goal

abbrev pub invariant-loop-rest : goal.invariant-loop-rest
invariant-loop-rest l = record {
  utf8 : IsUtf8 l.rest;
  spelled : string_bytes l.text
      ++ flat_map spelling (map (chunk l.side) (pieces (max l.most 1) l.rest))
      ≡ string_bytes l.fn.text
      ++ flat_map spelling (map (chunk l.side) (pieces (max l.most 1) l.whole));
}

abbrev pub decreases-loop-rest : goal.decreases-loop-rest
decreases-loop-rest l = length l.rest
