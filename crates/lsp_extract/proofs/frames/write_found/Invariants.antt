use Rattle.std.proofs.Common.{◌≡◌, ℕ, List, ◌+◌, ◌≤◌, length}
use Rattle.lsp_frame.specs.Decoder.{StandsFor}
use Rattle.lsp_extract.specs.Stream.{AreParts}
use Rattle.lsp_extract.proofs.Framing.Found.{FoundSoFar}
use Rattle.lsp_extract.proofs.frames.write_found.Given as goal

abbrev pub invariant-loop-fault : goal.invariant-loop-fault
invariant-loop-fault g l = record {
  room : l.given + length l.decoder.rest ≤ l.fn.given + length l.fn.decoder.rest;
  limits : l.decoder.limits ≡ l.fn.decoder.limits;
  told : (bytes : List ℕ) (contents : List (List ℕ)) (parts : List ℕ)
      → StandsFor l.fn.decoder bytes contents → l.fn.given ≡ length contents
      → AreParts l.fn.mode 1 contents parts
      → FoundSoFar l.decoder l.fn.mode (g.W.Sink.told l.fn.writer) (g.W.Sink.told l.writer) l.given
      bytes parts;
}

abbrev pub decreases-loop-fault : goal.decreases-loop-fault
decreases-loop-fault g l = length l.decoder.rest
