use Rattle.std.proofs.Common.{◌-◌, ◌+◌}
use Rattle.lsp_extract.specs.Stream.{SoFar}
use Rattle.lsp_extract.proofs.frames.write_parts.Given as goal

abbrev pub invariant-loop-decoder : goal.invariant-loop-decoder
invariant-loop-decoder g l =
    SoFar l.fn.limits l.fn.mode
    (g.R.Source.told l.fn.reader)
    (g.R.Source.told l.reader)
    (g.W.Sink.told l.fn.writer)
    (g.W.Sink.told l.writer)
    l.decoder l.given l.read

abbrev pub decreases-loop-decoder : goal.decreases-loop-decoder
decreases-loop-decoder g l = l.log + 1 - l.read
