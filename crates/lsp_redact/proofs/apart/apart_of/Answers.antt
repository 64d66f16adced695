use Rattle.std.proofs.Common.{ap, ◌∙◌}
use Rattle.std.specs.Prelude.{option_and_then, option_map}
use Rattle.lsp_types.specs.declared.line_ends.LineEnds.{LineEnds}
use Rattle.lsp_facts.specs.TwoTexts.{seen_texts}
use Rattle.lsp_redact.specs.Characters.{apart_in}
use Rattle.lsp_redact.proofs.apart.apart_of.Goals as goal

pub returns : goal.returns
returns c = λ kept event stands says offends tries.
    c.in_ok-apart.ensures
    ∙ ap (λ (ends : LineEnds). option_and_then (apart_in ends)
    (option_map seen_texts c.texts_at-texts.result)) c.line_ends.ensures
    ∙ ap (option_and_then (apart_in c.args.held.now.docs.terms.line_ends))
    (c.texts_at-texts.ensures kept event stands says offends tries)
