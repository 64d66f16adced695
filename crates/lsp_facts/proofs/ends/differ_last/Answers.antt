use Rattle.std.proofs.Common.{◌∙◌}
use Rattle.std.specs.Str.{bytes_eq}
use Rattle.lsp_facts.proofs.ends.differ_last.Goals as goal

pub returns : goal.returns
returns c =
    c.is_same.ensures ∙ λ i. bytes_eq (c.without_last-2.ensures i) (c.without_last.ensures i)
