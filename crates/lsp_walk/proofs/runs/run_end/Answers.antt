use Rattle.std.proofs.Common.{ap, arith}
use Rattle.std.specs.Int.Count.{count_trailing_zeros}
use Rattle.lsp_walk.proofs.Blocks.{run_through, run_ends}
use Rattle.lsp_walk.proofs.runs.run_end.Goals as goal

pub lanes-preserved : goal.lanes-preserved
lanes-preserved g c =
    let run = run_through g.R.Run.is_stop c.args.bytes.now c.lanes.at (omega arith)
    (omega (arith, c.stops-stops.ensures)) in
    (omega (arith, run, c.lanes.invariant.0), omega arith)

pub returns-then-stops-ne0-clause-value : goal.returns-then-stops-ne0-clause-value
returns-then-stops-ne0-clause-value g c =
    let run = run_ends g.R.Run.is_stop c.args.bytes.now c.lanes.at (omega arith)
    (λ none. omega (arith, c.stops-stops.ensures, none)) in
    omega (arith, run.0, ap (count_trailing_zeros 64) c.stops-stops.ensures, c.lanes.invariant.0)

pub returns-then-stops-ne0-clause-within : goal.returns-then-stops-ne0-clause-within
returns-then-stops-ne0-clause-within g c =
    let run = run_ends g.R.Run.is_stop c.args.bytes.now c.lanes.at (omega arith)
    (λ none. omega (arith, c.stops-stops.ensures, none)) in
    omega (arith, run.1, ap (count_trailing_zeros 64) c.stops-stops.ensures)
