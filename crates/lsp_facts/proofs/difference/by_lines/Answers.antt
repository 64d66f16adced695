use Rattle.std.proofs.Common.{ap, ◌∙◌}
use Rattle.std.specs.Str.{chars}
use Rattle.lsp_facts.proofs.TextsDiffer.{found_moved}
use Rattle.lsp_facts.proofs.difference.by_lines.Goals as goal

pub returns : goal.returns
returns c = found_moved c.args.encoding c.args.key.now c.in_ok-found.found _ _ _ _
    (ap chars c.as_str.ensures.value ∙ c.in_ok-held.ensures)
    (ap chars c.as_str-2.ensures.value ∙ c.in_ok-other.ensures) c.in_ok-found.ensures
