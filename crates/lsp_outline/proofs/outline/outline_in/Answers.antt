use Rattle.lsp_outline.proofs.outline.outline_in.Goals as goal

pub returns : goal.returns
returns c =
    let found = c.in_ok-text_into.ensures in
    let left = c.in_ok-put_message.ensures.left found.0 found.2 in
    (found.0, found.1, (left.whole, left.is, left.rest))
