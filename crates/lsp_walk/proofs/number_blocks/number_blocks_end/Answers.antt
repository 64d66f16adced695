use Rattle.std.proofs.Common.{◌≡◌, ◌+◌, ◌-◌, ◌≤◌, ℕ, length, get_or, subst, ap, ◌∙◌, arith}
use Rattle.std.proofs.lemmas.Bool.{eqb-true}
use Rattle.std.specs.Int.Count.{count_leading_zeros}
use Rattle.std.specs.Simd.Lanes.{mask_l, chunk}
use Rattle.lsp_walk.specs.Walk.{SomeItems, NumberMayBegin, fault_lanes}
use Rattle.lsp_walk.proofs.NumberBlocks.{free, last_comma, block_passed, begins_again}
use Rattle.lsp_walk.proofs.number_blocks.number_blocks_end.Goals as goal

pub lanes-preserved : goal.lanes-preserved
lanes-preserved c =
    let d = c.args.bytes.now in
    let at = c.lanes.at in
    let old = c.lanes.invariant in
    let room : at + 18 ≤ length d = grind arith in
    let sound : mask_l (fault_lanes (chunk at 16 d) (chunk (at + 1) 16 d) (chunk (at + 2) 16 d)) ≡ 0 =
    grind arith in
    let none = free d at room sound in
    let commas = c.commas-commas.ensures in
    let last = last_comma d at (omega (arith, room)) (λ h. c.if-commas-eq0.false (commas ∙ h)) in
    let comma = eqb-true (get_or d (at + last.0) 0) 44 last.3 in
    let step : 64 - count_leading_zeros 64 c.commas-commas.result ≡ last.0 + 1 =
    ap (λ m. 64 - count_leading_zeros 64 m) commas ∙ last.1 in
    let next : at + last.0 + 1 ≡ at + (64 - count_leading_zeros 64 c.commas-commas.result) =
    omega (arith, step) in
    subst (λ n. ((depth begin : ℕ) → SomeItems depth d begin c.args.from
    → SomeItems depth d begin n) × NumberMayBegin d n × (c.args.from ≤ n) × (n ≤ length d)) next (
      λ depth begin items. block_passed depth d begin at none room last.0 last.2 comma old.1
          (old.0 depth begin items),
      begins_again d at last.0 none last.2 comma,
      omega (arith, old.2),
      omega (arith, room, last.2),
    )
