use Rattle.std.proofs.Common.{List, ℕ, subst}
use Rattle.lsp_text.specs.Difference.{IsFirstDifference}
use Rattle.lsp_text.proofs.Differing.Differences.{parts_before}
use Rattle.lsp_text.proofs.difference.parting.Goals as goal

pub returns : goal.returns
returns c =
    let cut = c.floor_char_boundary.ensures in
    let at = c.in_ok-at.at in
    let left = subst (λ (x : List ℕ). IsFirstDifference x c.as_bytes-2.result.now at) c.as_bytes.ensures.value c.in_ok-at.ensures in
    let both = subst (λ (x : List ℕ). IsFirstDifference c.args.held.now x at) c.as_bytes-2.ensures.value left in
    parts_before c.args.held.now c.args.other.now at c.floor_char_boundary.result c.utf8.held c.utf8.other both cut.bound cut.boundary cut.nearest
