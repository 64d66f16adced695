use Rattle.std.proofs.Common.{sym, ◌∙◌}
use Rattle.lsp_redact.specs.Names.{known_methods}
use Rattle.lsp_redact.proofs.NamesShown.{nowhere, there}
use Rattle.lsp_redact.proofs.broken.known_method.Goals as goal

pub returns-then-is_known : goal.returns-then-is_known
returns-then-is_known c =
    sym (there known_methods c.args.method.now (sym c.is_known.ensures ∙ c.if-is_known.true))

pub returns-else-is_known : goal.returns-else-is_known
returns-else-is_known c =
    sym (nowhere known_methods c.args.method.now (sym c.is_known.ensures ∙ c.if-is_known.false))
