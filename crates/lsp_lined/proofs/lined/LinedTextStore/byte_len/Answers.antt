use Rattle.std.proofs.Common.{ap, sym, ◌∙◌}
use Rattle.lsp_types.specs.declared.position.Encoding.TheVariants.{Utf8}
use Rattle.lsp_text.specs.Places.{units}
use Rattle.lsp_text.proofs.Counting.{units-utf8_text}
use Rattle.lsp_lined.specs.Counted.{Counted}
use Rattle.lsp_lined.proofs.lined.LinedTextStore.byte_len.Goals as goal

pub returns : goal.returns
returns c =
    c.byte_len.ensures.value ∙ sym (units-utf8_text c.self.inside.lines c.byte_len.ensures.utf8) ∙ ap (λ (x : Counted). units Utf8 x.content) c.self.view_is
