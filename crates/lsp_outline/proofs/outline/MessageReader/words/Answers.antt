use Rattle.std.proofs.Common.{◌∙◌}
use Rattle.lsp_outline.proofs.Outlining.{same_words}
use Rattle.lsp_walk.proofs.Walking.{some_content}
use Rattle.lsp_outline.proofs.outline.MessageReader.words.Goals as goal

pub returns-clause-ok : goal.returns-clause-ok
returns-clause-ok c =
    let whole = c.in_ok-message.ensures.ok in
    (whole.0, whole.1, c.in_ok-words_of.ensures ∙ same_words _ whole.0 whole.2)

pub returns-in_err-words_of-clause-memory : goal.returns-in_err-words_of-clause-memory
returns-in_err-words_of-clause-memory c = λ refused.
    let whole = c.in_ok-message.ensures.ok in
    some_content c.args.content.now whole.1.0 whole.1.1.1
