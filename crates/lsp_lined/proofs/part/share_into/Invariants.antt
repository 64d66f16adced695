use Rattle.std.proofs.Common.{◌≡◌, ◌≤◌, ◌+◌, ◌-◌, ◌++◌, length, take}
use Rattle.std.specs.Vec.{vec_len, vec_capacity}
use Rattle.lsp_lined.proofs.part.share_into.Given as goal

abbrev pub invariant-loop-part : goal.invariant-loop-part
invariant-loop-part g l =
    record {
      items : l.to.items ≡ l.fn.to.items ++ take l.part-index l.parts;
      room : vec_len l.to + (length l.parts - l.part-index) ≤ vec_capacity l.to;
    }
