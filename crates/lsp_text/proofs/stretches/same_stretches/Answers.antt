use Rattle.std.proofs.Common.{◌++◌, take, drop, take-add, arith, refl, ap, sym, ◌∙◌}
use Rattle.lsp_text.proofs.stretches.same_stretches.Goals as goal

pub loop-at-preserved : goal.loop-at-preserved
loop-at-preserved c =
    let h = c.loop-at.invariant in
    let a = c.args.a.now in
    let b = c.args.b.now in
    let at = c.loop-at.at in
    record {
      left = omega arith;
      right = omega arith;
      same = take-add at 256 a ∙ ap (λ x. x ++ take 256 (drop at a)) h.same ∙ ap (λ x. take at b ++ x) (c.if-is_same_stretch.ensures.0 refl) ∙ sym (take-add at 256 b);
    }
