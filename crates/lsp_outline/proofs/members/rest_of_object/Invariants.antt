use Rattle.std.proofs.Common.{◌-◌, length}
use Rattle.serde_json.specs.Data.{Members}
use Rattle.lsp_walk.proofs.Walking.{SomeMembers}
use Rattle.lsp_outline.proofs.members.rest_of_object.Given as goal

abbrev pub invariant-members : goal.invariant-members
invariant-members g l = (found : Members) × SomeMembers l.depth l.text l.from l.at found
    × g.T.Gathered.gathers found l.gathered

abbrev pub decreases-members : goal.decreases-members
decreases-members g l = length l.text - l.at
