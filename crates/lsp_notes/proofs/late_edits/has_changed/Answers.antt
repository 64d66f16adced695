use Rattle.std.specs.Prelude.{nat_lt}
use Rattle.std.proofs.Common.{ap, sym}
use Rattle.std.proofs.lemmas.List.{length-map}
use Rattle.lsp_lined.specs.Counted.{Counted}
use Rattle.lsp_notes.proofs.late_edits.has_changed.Goals as goal

pub returns : goal.returns
returns c = ap (nat_lt 1) (sym (length-map c.args.texts.now (λ (t : Counted). t.content)))
