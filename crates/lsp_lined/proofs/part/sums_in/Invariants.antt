use Rattle.std.proofs.Common.{◌≡◌, take, map}
use Rattle.lsp_lined.specs.Sums.{sums_of}
use Rattle.lsp_lined.specs.Parts.{joined}
use Rattle.lsp_lined.proofs.part.sums_in.Given as goal

abbrev pub invariant-loop-part : goal.invariant-loop-part
invariant-loop-part g l = l.sums ≡ sums_of (joined (take l.part-index (map g.T.Part.text l.parts)))
