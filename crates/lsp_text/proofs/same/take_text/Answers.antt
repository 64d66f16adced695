use Rattle.std.proofs.Common.{sym, ◌∙◌}
use Rattle.lsp_text.proofs.SameTexts.{text_taken, text_differs, text_lacks}
use Rattle.lsp_text.proofs.same.take_text.Goals as goal

pub returns-in_err-after-in-Rest : goal.returns-in_err-after-in-Rest
returns-in_err-after-in-Rest c =
    rw c.from_residual.ensures
    (text_differs c.args.left c.in-Rest.whole c.args.text.now c.in-Rest.is c.requires
    c.in_err-after-in-Rest.ensures)

pub returns-in_ok-after-in-Rest : goal.returns-in_ok-after-in-Rest
returns-in_ok-after-in-Rest c =
    text_taken c.args.left c.in-Rest.whole c.in_ok-after-in-Rest.field-0 c.args.text.now
    c.in-Rest.is c.requires c.in_ok-after-in-Rest.ensures

pub returns-in-Nothing-2 : goal.returns-in-Nothing-2
returns-in-Nothing-2 c =
    text_lacks c.args.left c.args.text.now c.in-Nothing.is
    (sym c.is_empty.ensures ∙ c.if-is_empty.false)
