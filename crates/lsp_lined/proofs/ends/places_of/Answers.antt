use Rattle.std.proofs.lemmas.Simd.{length-chunk}
use Rattle.lsp_lined.proofs.ends.places_of.Goals as goal

pub marks_in-marks-requires : goal.marks_in-marks-requires
marks_in-marks-requires c = length-chunk c.loop-at.at 64 c.as_bytes-bytes.result.now c.loop-at-test.true
