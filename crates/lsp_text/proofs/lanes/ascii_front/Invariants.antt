use Rattle.std.proofs.Common.{◌≡◌, ◌≤◌, ◌-◌, length, take, ltb}
use Rattle.std.specs.List.{count_by}
use Rattle.lsp_text.proofs.lanes.ascii_front.Given as goal

abbrev pub invariant-loop-at : goal.invariant-loop-at
invariant-loop-at l =
    record {
      within : l.at ≤ length l.bytes;
      ascii : count_by (λ x. ltb x 0x80) (take l.at l.bytes) ≡ l.at;
    }

abbrev pub decreases-loop-at : goal.decreases-loop-at
decreases-loop-at l = length l.bytes - l.at
