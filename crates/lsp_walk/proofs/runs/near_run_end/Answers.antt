use Rattle.std.proofs.Common.{ap, arith}
use Rattle.std.specs.Int.Count.{count_trailing_zeros}
use Rattle.lsp_walk.proofs.Blocks.{run_ends}
use Rattle.lsp_walk.proofs.runs.near_run_end.Goals as goal

pub returns-clause-value : goal.returns-clause-value
returns-clause-value g c =
    let run = run_ends g.R.Run.is_stop c.args.bytes.now c.args.from (omega arith)
    (λ none. omega (arith, c.stops-stops.ensures, none)) in
    omega (arith, run.0, ap (count_trailing_zeros 64) c.stops-stops.ensures)

pub returns-clause-within : goal.returns-clause-within
returns-clause-within g c =
    let run = run_ends g.R.Run.is_stop c.args.bytes.now c.args.from (omega arith)
    (λ none. omega (arith, c.stops-stops.ensures, none)) in
    omega (arith, run.1, ap (count_trailing_zeros 64) c.stops-stops.ensures)
