use Rattle.std.proofs.Common.{length}
use Rattle.lsp_json.proofs.field.+fit.Given as goal

abbrev pub decreases-fit : goal.decreases-fit
decreases-fit l = length l.pattern.now
