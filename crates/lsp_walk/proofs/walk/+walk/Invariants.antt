use Rattle.std.proofs.Common.{◌+◌, ◌-◌, ◌*◌, length}
use Rattle.serde_json.specs.Data.{Members}
use Rattle.lsp_walk.specs.Walk.{SomeItems}
use Rattle.lsp_walk.proofs.Walking.{SomeMembers}
use Rattle.lsp_walk.proofs.walk.+walk.Given as goal

abbrev pub decreases-value_end : goal.decreases-value_end
decreases-value_end l = 2 * l.depth

abbrev pub decreases-items_end : goal.decreases-items_end
decreases-items_end l = 2 * l.depth + 1

abbrev pub decreases-members_end : goal.decreases-members_end
decreases-members_end l = 2 * l.depth + 1

abbrev pub invariant-items_end-items : goal.invariant-items_end-items
invariant-items_end-items l = SomeItems l.depth l.bytes l.from l.at

abbrev pub decreases-items_end-items : goal.decreases-items_end-items
decreases-items_end-items l = length l.bytes - l.at

abbrev pub invariant-members_end-members : goal.invariant-members_end-members
invariant-members_end-members l = (found : Members) × SomeMembers l.depth l.bytes l.from l.at found

abbrev pub decreases-members_end-members : goal.decreases-members_end-members
decreases-members_end-members l = length l.bytes - l.at
