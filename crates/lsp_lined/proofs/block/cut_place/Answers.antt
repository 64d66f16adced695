use Rattle.std.proofs.Common.{◌-◌, ◌≤◌, ◌<◌, List, ℕ, length, get_or, sym, ap, ◌∙◌, arith}
use Rattle.lsp_lined.proofs.CutPlaces.{floor_at_least, cut_back, cut_behind_other, cut_before_other}
use Rattle.lsp_lined.proofs.block.cut_place.Goals as goal
use Rattle.lsp_lined.proofs.block.cut_place.Goals.{After-as_bytes-bytes, else-bytes-at-eq13-via-then-bytes-at-eq13+else-bytes-at-eq10, else-bytes-at-eq13-via-else-bytes-at-eq13}

least : (c : After-as_bytes-bytes) → 2 ≤ c.floor_char_boundary-at.result
least c =
    let long : 8 < length c.args.text.now = omega arith in
    let wide : 8 ≤ 2048 = omega arith in
    floor_at_least c.args.text.now c.floor_char_boundary-at.result 2048 c.utf8.text long wide c.floor_char_boundary-at.ensures.nearest

pub overflow_sub-at : goal.overflow_sub-at
overflow_sub-at c = omega (arith, least (goal.at.overflow_sub-at c).After-as_bytes-bytes)

pub returns-then-bytes-at-eq10-clause-place : goal.returns-then-bytes-at-eq10-clause-place
returns-then-bytes-at-eq10-clause-place c =
    let at = c.floor_char_boundary-at.result in
    cut_back c.args.text.now at (least (goal.at.returns-then-bytes-at-eq10-clause-place c).After-as_bytes-bytes) c.floor_char_boundary-at.ensures.boundary.0
    (ap (λ (x : List ℕ). get_or x (at - 1) 0) (sym c.as_bytes-bytes.ensures.value) ∙ c.if-bytes-at-eq13.true)

pub returns-else-bytes-at-eq13-clause-place : goal.returns-else-bytes-at-eq13-clause-place
returns-else-bytes-at-eq13-clause-place c =
    let at = c.floor_char_boundary-at.result in
    let same = c.as_bytes-bytes.ensures.value in
    let two = least (goal.at.returns-else-bytes-at-eq13-clause-place c).After-as_bytes-bytes in
    let bound = c.floor_char_boundary-at.ensures.bound in
    elim c.else-bytes-at-eq13.branch [
      | else-bytes-at-eq13-via-then-bytes-at-eq13+else-bytes-at-eq10 w ↦
          cut_before_other c.args.text.now at two c.floor_char_boundary-at.ensures.boundary (omega arith) (λ is. w.if-bytes-at-eq10.false (ap (λ (x : List ℕ). get_or x at 0) same ∙ is))
      | else-bytes-at-eq13-via-else-bytes-at-eq13 w ↦
          cut_behind_other c.args.text.now at two c.floor_char_boundary-at.ensures.boundary (λ is. w.if-bytes-at-eq13.false (ap (λ (x : List ℕ). get_or x (at - 1) 0) same ∙ is))
    ]
