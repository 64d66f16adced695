-- A text in one block or in chunks, as its bytes.
use Rattle.std.specs.Prelude.{ℕ, List}
use Rattle.lsp_lined.specs.declared.lined.tree.Kept.{Kept}
use Rattle.lsp_lined.specs.declared.lined.tree.Kept.TheVariants.{Short, Middle, Long}

abbrev pub text_kept : Kept → List ℕ
text_kept (Short block) = block
text_kept (Middle chunk) = chunk
text_kept (Long chunks) = chunks
