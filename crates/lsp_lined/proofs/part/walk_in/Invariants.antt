use Rattle.std.proofs.Common.{◌-◌, length, map}
use Rattle.lsp_lined.specs.Parts.{joined}
use Rattle.lsp_text.specs.Spans.{bytes_between}
use Rattle.lsp_lined.proofs.Walks.{IsAt}
use Rattle.lsp_lined.proofs.part.walk_in.Given as goal

abbrev pub invariant-loop-at : goal.invariant-loop-at
invariant-loop-at g l =
    record {
      place : IsAt (map g.T.Part.text l.parts) l.from l.to l.index l.start l.at;
      seen : g.V.Visitor.sees l.fn.visitor
          (bytes_between (joined (map g.T.Part.text l.parts)) l.from l.at) l.visitor;
    }

abbrev pub decreases-loop-at : goal.decreases-loop-at
decreases-loop-at g l = length l.parts - l.index
