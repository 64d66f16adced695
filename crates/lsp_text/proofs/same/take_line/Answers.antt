use Rattle.lsp_text.specs.SameText.{due}
use Rattle.lsp_text.proofs.SameTexts.{line_taken}
use Rattle.lsp_text.proofs.same.take_line.Goals as goal

pub returns : goal.returns
returns c = line_taken (due c.args.left) (due c.in_ok-take_text.field-0) c.take_end.result
    c.args.line.now c.in_ok-take_text.ensures c.take_end.ensures
