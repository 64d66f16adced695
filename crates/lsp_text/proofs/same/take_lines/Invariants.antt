use Rattle.std.proofs.Common.{length}
use Rattle.std.specs.Str.{IsUtf8}
use Rattle.lsp_text.proofs.SameTexts.{AreTaken}
use Rattle.lsp_text.proofs.same.take_lines.Given as goal

abbrev pub invariant-loop-line : goal.invariant-loop-line
invariant-loop-line l =
    record {
      utf8 : IsUtf8 l.rest;
      taken : AreTaken l.lines l.rest l.left l.ahead;
    }

abbrev pub decreases-loop-line : goal.decreases-loop-line
decreases-loop-line l = length l.rest
