use Rattle.std.proofs.Common.{◌∙◌}
use Rattle.lsp_trail.specs.StandardMethods.{table}
use Rattle.lsp_trail.proofs.Methods.{use_is}
use Rattle.lsp_trail.proofs.standard_methods.use_of.Goals as goal

pub returns : goal.returns
unfolding table
returns c = c.use_among.ensures ∙ use_is c.args.name.now
