use Rattle.std.proofs.Common.{◌≡◌, length}
use Rattle.std.specs.Str.{chars, IsUtf8}
use Rattle.lsp_facts.specs.EndsApart.{are_converted, ends_in}
use Rattle.lsp_facts.proofs.ends.are_converted.Given as goal

abbrev pub invariant-loop-line : goal.invariant-loop-line
invariant-loop-line l =
    record {
      rest_utf8 : IsUtf8 l.rest;
      ahead_utf8 : IsUtf8 l.ahead;
      same : are_converted (chars l.from) (chars l.to) (ends_in (chars l.held))
          (ends_in (chars l.other))
          ≡ are_converted (chars l.from) (chars l.to) (ends_in (chars l.rest))
          (ends_in (chars l.ahead));
    }

abbrev pub decreases-loop-line : goal.decreases-loop-line
decreases-loop-line l = length l.rest
