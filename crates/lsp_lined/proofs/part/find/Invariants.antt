use Rattle.std.proofs.Common.{◌≡◌, ◌<◌, ◌+◌, ◌-◌, length, take, map}
use Rattle.std.specs.List.{sum_by}
use Rattle.lsp_lined.specs.Sums.{amount}
use Rattle.lsp_lined.specs.Parts.{joined}
use Rattle.lsp_lined.proofs.part.find.Given as goal

abbrev pub invariant-loop-index : goal.invariant-loop-index
invariant-loop-index g l =
    record {
      index : l.index < length l.parts;
      bytes_are : l.bytes ≡ length (joined (take l.index (map g.T.Part.text l.parts)));
      left_is : sum_by (amount l.by) (take l.index (map g.T.Part.text l.parts)) + l.left ≡ l.at;
    }

abbrev pub decreases-loop-index : goal.decreases-loop-index
decreases-loop-index g l = length l.parts - l.index
