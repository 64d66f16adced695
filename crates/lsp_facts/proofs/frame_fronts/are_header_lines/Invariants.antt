use Rattle.std.proofs.Common.{◌≡◌, length}
use Rattle.lsp_facts.specs.FrameFronts.{are_header_lines}
use Rattle.lsp_facts.proofs.frame_fronts.are_header_lines.Given as goal

abbrev pub invariant-loop-size : goal.invariant-loop-size
invariant-loop-size l = are_header_lines l.rest ≡ are_header_lines l.left

abbrev pub decreases-loop-size : goal.decreases-loop-size
decreases-loop-size l = length l.left
