use Rattle.std.proofs.Common.{◌∙◌, ap}
use Rattle.lsp_trail.specs.Openings.{last_on}
use Rattle.lsp_trail.proofs.saves.Saves.last.Goals as goal

pub returns : goal.returns
returns c = λ terms events are. c.last_on.ensures ∙ ap (last_on c.args.uri.now) are
