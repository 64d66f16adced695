use Rattle.std.proofs.lemmas.Result.{IfOk-weaker}
use Rattle.lsp_outline.proofs.Naming.{no_text_names, text_names}
use Rattle.lsp_outline.proofs.document.parts_whole.Goals as goal

pub returns-in-Ok : goal.returns-in-Ok
returns-in-Ok c = IfOk-weaker c.parts_in_value.result _ _
    (λ parts named. text_names c.args.content.now _ parts
    c.in-Ok.ensures.ok.0 c.in-Ok.ensures.ok.1 named) c.parts_in_value.ensures

-- it is no JSON text
pub returns-in-Err : goal.returns-in-Err
returns-in-Err c = IfOk-weaker c.unread.result _ _
    (λ parts is. no_text_names c.args.content.now parts (c.in-Err.ensures.err is.0) is.1)
    c.unread.ensures
