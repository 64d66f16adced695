use Rattle.std.proofs.lemmas.List.{take_rest}
use Rattle.lsp_frame.proofs.Writing.{put_more}
use Rattle.lsp_frame.proofs.write.put_all.Goals as goal

pub loop-rest-preserved : goal.loop-rest-preserved
loop-rest-preserved g c =
    let more = put_more _ _ _ c.args.bytes.now c.loop-rest.rest.now c.in_ok-count.count c.loop-rest.invariant c.in_ok-count.ensures.took c.in_ok-count.ensures.failures in
    rw (take_rest c.loop-rest.rest.now c.in_ok-count.count) more
