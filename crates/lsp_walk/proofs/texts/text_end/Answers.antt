use Rattle.std.proofs.Common.{[], arith}
use Rattle.lsp_walk.proofs.Strings.{run_none, run_on, closed, escaped}
use Rattle.lsp_walk.proofs.texts.text_end.Goals as goal

pub runs-init : goal.runs-init
runs-init c = ([], run_none c.args.bytes.now c.args.from c.requires)

pub runs-preserved : goal.runs-preserved
runs-preserved c =
    let d = c.args.bytes.now in
    let l = c.runs in
    let stop = c.plain_end-stop.result in
    let run = run_on d c.args.from l.at stop l.invariant.0 l.invariant.1
    c.plain_end-stop.ensures.value in
    let read = c.in_ok-next in (
      _,
      escaped d c.args.from stop read.field-0-0 read.next _ run (grind arith) read.ensures.value
          read.ensures.passed,
    )

pub returns-then-mark-eq34 : goal.returns-then-mark-eq34
returns-then-mark-eq34 c =
    let d = c.args.bytes.now in
    let l = c.runs in
    let stop = c.plain_end-stop.result in
    let run = run_on d c.args.from l.at stop l.invariant.0 l.invariant.1
    c.plain_end-stop.ensures.value in
    (_, closed d c.args.from stop _ run (grind arith))
