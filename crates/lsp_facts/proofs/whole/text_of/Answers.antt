use Rattle.std.specs.Prelude.{option_map}
use Rattle.std.specs.Str.{IsValidUpTo, valid_up_to}
use Rattle.std.proofs.Common.{◌∙◌, ap}
use Rattle.lsp_facts.proofs.TextEnds.{utf8_text}
use Rattle.lsp_facts.proofs.whole.text_of.Goals as goal

pub returns : goal.returns
returns c =
    ap (option_map (λ t. t.now)) c.ok.ensures.value
    ∙ utf8_text (λ e. IsValidUpTo c.args.bytes.now (valid_up_to e)) c.from_utf8.result
    c.args.bytes.now c.from_utf8.ensures.cases
