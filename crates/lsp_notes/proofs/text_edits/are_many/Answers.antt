use Rattle.std.specs.Prelude.{nat_lt}
use Rattle.std.proofs.Common.{ap, sym}
use Rattle.lsp_notes.specs.TextEdits.{most_edits}
use Rattle.lsp_notes.proofs.EditedTexts.{count_is}
use Rattle.lsp_notes.proofs.text_edits.are_many.Goals as goal

pub returns : goal.returns
returns c = ap (nat_lt most_edits) (sym (count_is c.args.items.now))
