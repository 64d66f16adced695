use Rattle.std.proofs.Common.{◌≡◌, take, ap, ◌∙◌}
use Rattle.std.proofs.lemmas.List.{take_min}
use Rattle.lsp_facts.specs.EventFacts.{text_front}
use Rattle.lsp_facts.proofs.messages.shown.Goals as goal

pub returns : goal.returns
returns c =
    let bytes = c.args.bytes.now in
    let len : take c.min-len.result bytes ≡ take c.args.most bytes =
    ap (λ n. take n bytes) c.min-len.ensures ∙ take_min c.args.most bytes in
    c.text_front.ensures ∙ ap text_front len
