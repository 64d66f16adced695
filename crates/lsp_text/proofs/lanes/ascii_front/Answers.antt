use Rattle.std.proofs.Common.{refl, sym, ltb, cond}
use Rattle.std.proofs.lemmas.Simd.{length-chunk}
use Rattle.lsp_text.proofs.ByteUnits.{sum_next_block}
use Rattle.lsp_text.proofs.lanes.ascii_front.Goals as goal

pub is_ascii-requires : goal.is_ascii-requires
is_ascii-requires c = length-chunk c.loop-at.at 64 c.args.bytes.now c.loop-at-test.true

pub loop-at-preserved : goal.loop-at-preserved
loop-at-preserved c =
    let at = c.loop-at.at in
    record {
      within = c.loop-at-test.true;
      ascii = sym (sum_next_block (λ x. cond (ltb x 0x80) 1 0) c.args.bytes.now at 64 at 64
          (sym c.loop-at.invariant.ascii) (sym (c.if-is_ascii.ensures.0 refl)));
    }
