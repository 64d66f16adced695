use Rattle.std.proofs.Common.{◌++◌, [], ◌∷◌}
use Rattle.lsp_text.specs.SameText.{with_feeds}
use Rattle.lsp_text.proofs.SameBytes.{first_text, first_feeds, no_end-bytes}
use Rattle.lsp_text.proofs.SameTexts.{one_taken, lines_differ, last_taken}
use Rattle.lsp_text.proofs.same.take_lines.Goals as goal

pub take_line-requires : goal.take_line-requires
take_line-requires c = first_text c.loop-line.rest.now c.in-Some.line c.in-Some.ensures

pub returns-in_err-ahead : goal.returns-in_err-ahead
returns-in_err-ahead c =
    let line = c.in-Some.line in
    rw c.from_residual.ensures
    (lines_differ c.args.lines.now c.loop-line.rest.now (line.text.now ++ 10 ∷ [])
    (with_feeds line.rest.now) c.args.left c.loop-line.ahead c.loop-line.invariant.taken
    (first_feeds c.loop-line.rest.now line c.in-Some.ensures) c.in_err-ahead.ensures)

pub loop-line-preserved : goal.loop-line-preserved
loop-line-preserved c =
    let line = c.in-Some.line in
    record {
      utf8 = c.in-Some.ensures.rest_utf8;
      taken = one_taken c.args.lines.now c.loop-line.rest.now line.rest.now line.text.now
          c.args.left c.loop-line.ahead c.in_ok-ahead.ahead c.loop-line.invariant.taken
          (first_feeds c.loop-line.rest.now line c.in-Some.ensures) c.in_ok-ahead.ensures;
    }

pub take_text-requires : goal.take_text-requires
take_text-requires c = no_end-bytes c.loop-line.rest.now c.loop-line.invariant.utf8
    c.in_default.ensures

pub returns : goal.returns
returns c =
    last_taken c.args.lines.now c.loop-line.rest.now c.args.left c.loop-line.ahead
    c.take_text.result c.loop-line.invariant.taken
    (no_end-bytes c.loop-line.rest.now c.loop-line.invariant.utf8 c.in_default.ensures)
    c.take_text.ensures
