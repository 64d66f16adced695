use Rattle.std.specs.Str.Lines.{lines}
use Rattle.std.proofs.Common.{arith, length, map}
use Rattle.std.proofs.lemmas.Iterator.Consumers.{YieldsList-end, YieldsList-turn}
use Rattle.std.proofs.lemmas.Iterator.Splits.{YieldsList-from_lines}
use Rattle.std.proofs.lemmas.List.{length_push}
use Rattle.lsp_json.specs.Lines.{row_view}
use Rattle.lsp_json.proofs.Objects.{line_added, lines_ended}
use Rattle.lsp_json.proofs.lines.push_json_by.Goals as goal

pub loop-line-preserved : goal.loop-line-preserved
loop-line-preserved c =
    let t = YieldsList-turn (YieldsList-from_lines c.args.report.now (cc))
    c.loop-line.yielded _ c.loop-line.yielded_by _ _ c.in-Some.line c.in-Some.is
    c.next.ensures.steps in
    rw (length_push c.loop-line.yielded c.in-Some.line) (line_added (map row_view c.args.rows.now) (lines c.args.report.now)
    (length c.loop-line.yielded) c.in-Some.line.now c.loop-line.awaits_text _ _ _ _ t.0 t.1
    c.loop-line.invariant c.in_ok-awaits_text.ensures.added c.in_ok-awaits_text.ensures.awaits)

pub returns : goal.returns
returns c =
    let t = YieldsList-end (YieldsList-from_lines c.args.report.now (cc))
    c.loop-line.yielded _ c.loop-line.yielded_by _ _ c.in-None.is c.next.ensures.steps in
    lines_ended (map row_view c.args.rows.now) (lines c.args.report.now) (length c.loop-line.yielded) c.loop-line.awaits_text _ _ _
    (omega (arith, t.1)) c.loop-line.invariant c.in_ok-push_end_unless.ensures
