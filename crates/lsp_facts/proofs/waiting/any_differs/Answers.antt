use Rattle.std.proofs.Common.{sym, ap, ◌∙◌}
use Rattle.std.specs.Prelude.{not}
use Rattle.lsp_replay.specs.Common.{are_mixed, same_text, text_of, texts_of}
use Rattle.lsp_docs.proofs.Words.{any-map}
use Rattle.lsp_facts.proofs.waiting.any_differs.Goals as goal

pub returns-in-Some : goal.returns-in-Some
returns-in-Some c =
    let ends = c.args.line_ends in
    let first = text_of c.in-Some.first.now in
    c.any_other.ensures
    ∙ sym (any-map (λ t. not (same_text ends t first)) text_of c.in-Some.rest.now)
    ∙ sym (ap (λ l. are_mixed ends (texts_of l)) c.in-Some.ensures.cases.0)
