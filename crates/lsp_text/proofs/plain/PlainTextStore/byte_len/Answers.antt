use Rattle.std.proofs.Common.{List, ℕ, sym, ap, ◌∙◌}
use Rattle.std.specs.Str.{chars}
use Rattle.lsp_types.specs.declared.position.Encoding.TheVariants.{Utf8}
use Rattle.lsp_text.specs.Places.{units}
use Rattle.lsp_text.proofs.Counting.{units-utf8_text}
use Rattle.lsp_text.proofs.plain.PlainTextStore.byte_len.Goals as goal

pub returns : goal.returns
returns c = sym (units-utf8_text _ c.as_str.utf8) ∙ ap (λ (x : List ℕ). units Utf8 (chars x)) c.as_str.ensures.value ∙ ap (units Utf8) c.self.view_is
